use Rattle.std.proofs.Common.{Ok, [], sym, refl, subst, arith}
use Rattle.timebase.specs.Spans.{Enterable}
use Rattle.board_law.specs.Boards.{There}
use Rattle.planboard.specs.declared.call.Answer.{Answer}
use Rattle.planboard.specs.Answers.{AnswerThere}
use Rattle.planboard.specs.Lists.{PutsOne}
use Rattle.planboard.specs.View.{sources}
use Rattle.span_text.specs.Canonical.{span_text}
use Rattle.span_text.proofs.Lengths.{span_short}
use Rattle.writing.proofs.Puttings.{puts_none, puts_more}
use Rattle.script.specs.Scripts.{on_line, AnswerTold}
use Rattle.script.proofs.Rooms.{line_short}
use Rattle.script.proofs.answers.put_accepted.Goals as goal

pub returns-in-Mark : goal.returns-in-Mark
returns-in-Mark g c =
    let src = sources g.Z.ZoneSource.zones g.C.CalendarSource.calendars c.args.board.now in
    let there : There src c.in-Mark.mark = subst (AnswerThere src) c.in-Mark.is c.requires in
    let x = c.put_mark.ensures.there there in
    subst (λ (a : Answer). PutsOne (AnswerTold src (Ok a)) 100 c.args.writer.now c.put_byte.new.self) (sym c.in-Mark.is)
    (record {
      text = on_line x.text;
      is = (x.text, x.of_mark, refl);
      short = line_short x.text (omega (arith, x.of_mark.short));
      put = puts_more x.puts c.put_byte.ensures;
    })

pub returns-in-Span : goal.returns-in-Span
returns-in-Span g c =
    let src = sources g.Z.ZoneSource.zones g.C.CalendarSource.calendars c.args.board.now in
    let s = c.in-Span.span in
    let e : Enterable s = subst (AnswerThere src) c.in-Span.is c.requires in
    subst (λ (a : Answer). PutsOne (AnswerTold src (Ok a)) 100 c.args.writer.now c.put_byte-in-Span.new.self) (sym c.in-Span.is)
    (record {
      text = on_line (span_text s);
      is = refl;
      short = line_short (span_text s) (omega (arith, span_short s e.limits));
      put = puts_more c.put_span.ensures c.put_byte-in-Span.ensures;
    })

pub returns-in-Written : goal.returns-in-Written
returns-in-Written g c =
    let src = sources g.Z.ZoneSource.zones g.C.CalendarSource.calendars c.args.board.now in
    subst (λ (a : Answer). PutsOne (AnswerTold src (Ok a)) 100 c.args.writer.now c.args.writer.now) (sym c.in-Written.is)
    (record { text = []; is = refl; short = omega arith; put = puts_none c.args.writer.now })
