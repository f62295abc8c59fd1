-- What reading a line answers, by its form.
use Rattle.std.proofs.Common.{◌≡◌, ◌∙◌, ℕ, List, Ok, Result, sym, subst}
use Rattle.reading.specs.declared.Misread.{Misread}
use Rattle.reading.specs.Reading.{read_on}
use Rattle.reading.specs.Places.{AnswersWithin}
use Rattle.reading.proofs.Machines.{answers, answers_within}
use Rattle.line_form.specs.declared.line.Line.{Line}
use Rattle.line_form.specs.declared.progress.Progress.TheVariants.{Start}
use Rattle.line_form.specs.Lines.{IsLine}
use Rattle.line_form.specs.Scanning.{stepped, ended, read_line}
use Rattle.line_form.proofs.LineLive.{live}
use Rattle.line_form.proofs.LineSound.{sound}
use Rattle.line_form.proofs.LineComplete.{complete}

pub line_answers : (line : List ℕ) → AnswersWithin IsLine 160 line (read_line line)
line_answers line =
    answers_within IsLine 160 line (read_on stepped ended Start 0 line) (answers stepped ended IsLine live Start sound complete line)

-- a line says one thing
pub one : (line : List ℕ) (f g : Line) → IsLine line f → IsLine line g → f ≡ g
one line f g a b = let e : Ok f ≡ Ok g = sym (complete line f a) ∙ complete line g b in cc

-- what `read_line` ensures, of the answer that equals its definition
pub lawful : (line : List ℕ) (r : Result Line Misread) → r ≡ read_line line
    → record { value : r ≡ read_line line; grammar : AnswersWithin IsLine 160 line r; one : (f g : Line) → IsLine line f → IsLine line g → f ≡ g }
lawful line r e = record { value = e; grammar = subst (AnswersWithin IsLine 160 line) (sym e) (line_answers line); one = one line }
