-- A script line by line.
use Rattle.std.proofs.Common.{◌≡◌, ℕ, ◌+◌, ◌<◌, ◌≤◌, Bool, false, cond, ltb, List, [], ◌∷◌, ◌++◌, length, Ok, Err, Result, sym, refl, ap, ◌∙◌, subst, append_assoc, append-nil, arith, length-append}
use Rattle.std.proofs.lemmas.Bool.{le-ltb, lt-ltb}
use Rattle.reading.specs.declared.Misread.{Misread}
use Rattle.writing.specs.declared.Writer.{Writer}
use Rattle.writing.specs.Placing.{Placed}
use Rattle.writing.proofs.Placings.{placed_more, placed_none, placed_start}
use Rattle.line_form.specs.declared.line.Line.{Line}
use Rattle.line_form.specs.Scanning.{read_line}
use Rattle.board_law.specs.Boards.{Sources, State, mark_slots, made, run}
use Rattle.board_law.specs.Runs.{Lawful}
use Rattle.board_law.proofs.Keeps.{run_slots, run_first, run_none}
use Rattle.planboard.specs.Lists.{PutsOne}
use Rattle.script.specs.Scripts.{form_call, calls_of, Answer, line_after, Output, line_room, room_of, script_lines, script_calls, Ran}
use Rattle.script.specs.Scripts.Output.{none, one_more}

module _ (src : Sources) where
  -- a line's call, and then those of the lines after it
  line_first : (st : State) (line : List ℕ) (rest : List (List ℕ)) → run src (line_after src st line) (calls_of rest) ≡ run src st (calls_of (line ∷ rest))
  unfolding run calls_of
  line_first st line rest = by (read_line line)
    where
      by : (r : Result Line Misread) → run src (elim r [ Ok form ↦ made src st (form_call line form) | Err m ↦ st ]) (calls_of rest)
          ≡ run src st (elim r [ Ok form ↦ form_call line form ∷ calls_of rest | Err m ↦ calls_of rest ])
      by (Ok form) = refl
      by (Err m) = refl

  -- what a line does
  pub record LineDone (st : State) (line : List ℕ) (before after : Writer) (next : State) : Type 0 where
    pub put : PutsOne (Answer src st line) (line_room (mark_slots st) line) before after
    pub state : next ≡ line_after src st line

  line_slots : Lawful src → (st : State) (line : List ℕ) → mark_slots (line_after src st line) ≡ mark_slots st
  line_slots law st line = by (read_line line)
    where
      by : (r : Result Line Misread) → mark_slots (elim r [ Ok form ↦ made src st (form_call line form) | Err m ↦ st ]) ≡ mark_slots st
      by (Ok form) =
          let call = form_call line form in
          let one : made src st call ≡ run src st (call ∷ []) = sym (run_none src (made src st call)) ∙ run_first src st call [] in
          ap mark_slots one ∙ (run_slots src law st (call ∷ [])).marks
      by (Err m) = refl

  -- so many answers are put, and the lines that are left give the rest
  pub record Going (start : State) (room : List ℕ) (script : List (List ℕ)) (st : State) (out : List ℕ) (at : ℕ) (left : List (List ℕ)) : Type 0 where
    pub done : List ℕ
    pub placed : Placed room 0 done out at
    pub text : (rest : List ℕ) → Output src st left rest → Output src start script (done ++ rest)
    pub state : run src st (calls_of left) ≡ run src start (calls_of script)
    pub slots : mark_slots st ≡ mark_slots start
    pub few : length done + room_of (mark_slots start) left ≤ room_of (mark_slots start) script

  pub going_first : (start : State) (room : List ℕ) (script : List (List ℕ)) → Going start room script start room 0 script
  going_first start room script = record { done = []; placed = placed_none room 0; text = λ rest o. o; state = refl; slots = refl; few = omega arith }

  pub going_on : Lawful src → {start : State} {room : List ℕ} {script : List (List ℕ)} {st : State} {now : Writer} {left : List (List ℕ)} (line : List ℕ) (rest : List (List ℕ)) {after : Writer} {next : State}
      → Going start room script st now.out.now now.at left → left ≡ line ∷ rest → LineDone st line now after next → Going start room script next after.out.now after.at rest
  unfolding room_of
  going_on law {start} {room} {script} {st} {now} {left} line rest {after} {next} g is d =
      let t = d.put.text in
      let n = ap (room_of (mark_slots start)) is in
      let short = subst (λ (k : ℕ). length t ≤ line_room k line) g.slots d.put.short in
      record {
        done = g.done ++ t;
        placed = placed_more g.placed d.put.put.placed;
        text = λ r o.
            subst (λ (v : List ℕ). Output src start script v) (sym (append_assoc g.done t r))
            (g.text (t ++ r) (subst (λ (ls : List (List ℕ)). Output src st ls (t ++ r)) (sym is)
            (one_more st line rest t r d.put.is (subst (λ (s : State). Output src s rest r) d.state o))));
        state = ap (λ (s : State). run src s (calls_of rest)) d.state ∙ line_first st line rest ∙ ap (λ (ls : List (List ℕ)). run src st (calls_of ls)) (sym is) ∙ g.state;
        slots = ap mark_slots d.state ∙ line_slots law st line ∙ g.slots;
        few = omega (arith, g.few, n, short, length-append g.done t);
      }

  pub record Ended (start : State) (input before : List ℕ) (st : State) (out : List ℕ) (at : ℕ) : Type 0 where
    pub answers : (buffer : List ℕ) → buffer ≡ out → Ran src start (mark_slots start) input before (Ok at) buffer
    pub state : st ≡ run src start (script_calls (mark_slots start) input before)

  pub going_end : {start : State} {room : List ℕ} {script : List (List ℕ)} {st : State} {out : List ℕ} {at : ℕ} {left : List (List ℕ)} (input : List ℕ)
      → Going start room script st out at left → left ≡ [] → script ≡ script_lines input → room_of (mark_slots start) (script_lines input) ≤ length room → Ended start input room st out at
  unfolding run calls_of room_of
  going_end {start} {room} {script} {st} {out} {at} {left} input g end is enough =
      let slots = mark_slots start in
      let same = ap (room_of slots) is in
      let all = placed_start g.placed (omega (arith, g.few, same, enough)) in
      let told : Output src start (script_lines input) g.done = subst (λ (ls : List (List ℕ)). Output src start ls g.done) is
      (subst (λ (v : List ℕ). Output src start script v) (append-nil g.done) (g.text [] (subst (λ (ls : List (List ℕ)). Output src st ls []) (sym end) (none st)))) in
      let b : ltb (length room) (room_of slots (script_lines input)) ≡ false = le-ltb (length room) (room_of slots (script_lines input)) enough in
      record {
        answers = λ buffer e. record { small = λ h. absurd (omega (arith, h, enough)); roomy = λ h. (g.done, told, ap Ok all.0, e ∙ all.1) };
        state =
            sym (ap (λ (ls : List (List ℕ)). run src st (calls_of ls)) end) ∙ g.state ∙ ap (λ (ls : List (List ℕ)). run src start (calls_of ls)) is
            ∙ sym (ap (λ (t : Bool). run src start (cond t [] (calls_of (script_lines input)))) b);
      }

  -- a script without room
  pub no_calls : (slots : ℕ) (input before : List ℕ) → length before < room_of slots (script_lines input) → script_calls slots input before ≡ []
  no_calls slots input before h = ap (λ (t : Bool). cond t [] (calls_of (script_lines input))) (lt-ltb (length before) (room_of slots (script_lines input)) h)

-- over sources that stay
pub done_over : {src src' : Sources} {st : State} {line : List ℕ} {before after : Writer} {next : State} → src' ≡ src → LineDone src' st line before after next → LineDone src st line before after next
done_over {src} {src'} {st} {line} {before} {after} {next} same d = subst (λ (s : Sources). LineDone s st line before after next) same d
