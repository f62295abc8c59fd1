-- Where a file is refused: at its first wrong field, of those that it has in file order.
use Rattle.std.specs.Prelude.{◌≡◌, ℕ, ◌+◌, ◌<◌, ◌≤◌, min, true, false, ◌⊎◌, List, ◌∷◌, ◌++◌, length, take, Ok, Err, Result}
use Rattle.std.specs.List.{AllByRecursion}
use Rattle.timebase.specs.declared.fault.Fault.{Fault}
use Rattle.timebase.specs.declared.fault.Fault.TheVariants.{BadFile}
use Rattle.tzif.specs.declared.layout.Layout.{Layout}
use Rattle.tzif.specs.Fields.{Field}
use Rattle.tzif.specs.File.{fields_of, checked}

-- a field lies within its file
abbrev pub Whole : List ℕ → Field → Type 0
Whole f x = (x.place + x.size) ≤ length f

abbrev pub Sound : List ℕ → Field → Type 0
Sound f x = Whole f x × (x.right ≡ true)

-- a field is wrong, and place p tells it: the file's length where the field is not whole, its own place where it is
abbrev pub Wrong : List ℕ → Field → ℕ → Type 0
Wrong f x p = ((Whole f x → ⊥) × (p ≡ length f)) ⊎ (Whole f x × (x.right ≡ false) × (p ≡ x.place))

-- the first wrong one of some fields, and the place that tells it
pub record FirstWrong (f : List ℕ) (fields : List Field) (p : ℕ) : Type 0 where
  pub before : List Field
  pub field : Field
  pub after : List Field
  pub in_order : fields ≡ before ++ field ∷ after
  pub sound : AllByRecursion (Sound f) before
  pub wrong : Wrong f field p

abbrev pub AllSound : List ℕ → Type 0
AllSound f = AllByRecursion (Sound f) (fields_of f)

-- place p of a refusal: that of the first wrong field, and 65,536 where that is less; or no field is wrong, and the file is longer
abbrev pub RefusedAt : List ℕ → ℕ → Type 0
RefusedAt f p = ((q : ℕ) × FirstWrong f (fields_of f) q × (p ≡ min q 65536)) ⊎ (AllSound f × (65536 < length f) × (p ≡ 65536))

abbrev pub Placed : List ℕ → Result Layout Fault → Type 0
Placed f (Ok _) = AllSound f × (length f ≤ 65536)
Placed f (Err fault) = (p : ℕ) × (fault ≡ BadFile p) × RefusedAt f p

-- A file that is cut before the place of its refusal, or anywhere if it is good, is refused at its own length.
abbrev pub CutsAreTold : Type 0
CutsAreTold = (f : List ℕ) (k : ℕ) → k < length f → ((p : ℕ) → checked f ≡ Err (BadFile p) → k < p) → checked (take k f) ≡ Err (BadFile k)
