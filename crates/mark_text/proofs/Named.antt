-- The names that sources give are in form.
use Rattle.std.proofs.Common.{◌≡◌, ℕ, ◌≤◌, true, List, length, is_ok, Ok, Err, Result, refl, sym, arith}
use Rattle.names.specs.declared.InForm.{InForm}
use Rattle.names.specs.Names.{Runs}
use Rattle.names.specs.Scanning.{read_calendar_name}
use Rattle.names.specs.ZoneScanning.{read_zone_name}
use Rattle.names.proofs.NameAnswers.{lawful as calendar_lawful}
use Rattle.names.proofs.ZoneAnswers.{lawful as zone_lawful}
use Rattle.reading.specs.declared.Misread.{Misread}
use Rattle.mark_form.specs.Grammar.{ZoneText}

clash : {X : Type 0} (m : Misread) → is_ok {T = InForm} (Err m) ≡ true → X
clash m e = let z : ◌≡◌ {A = ℕ} 0 1 = cc in absurd (omega arith)

pub zone_form : (n : List ℕ) → is_ok (read_zone_name n) ≡ true → ZoneText n × (length n ≤ 32)
zone_form n h = by (read_zone_name n) refl h
  where
    by : (r : Result InForm Misread) → read_zone_name n ≡ r → is_ok r ≡ true → ZoneText n × (length n ≤ 32)
    by (Ok v) e k = (zone_lawful n (Ok v) (sym e)).grammar
    by (Err m) e k = clash m k

pub calendar_form : (n : List ℕ) → is_ok (read_calendar_name n) ≡ true → Runs n × (length n ≤ 16)
calendar_form n h = by (read_calendar_name n) refl h
  where
    by : (r : Result InForm Misread) → read_calendar_name n ≡ r → is_ok r ≡ true → Runs n × (length n ≤ 16)
    by (Ok v) e k = (calendar_lawful n (Ok v) (sym e)).grammar
    by (Err m) e k = clash m k
