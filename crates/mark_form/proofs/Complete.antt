-- The steps take every mark text.
use Rattle.std.proofs.Common.{◌≡◌, ℕ, suc, ◌+◌, ◌-◌, ◌<◌, ◌≤◌, Bool, true, false, ◌||◌, eqb, ltb, leb, List, [], ◌∷◌, ◌++◌, length, get_or, drop, Some, Ok, codes, Option, sym, refl, ap, ◌∙◌, subst, inl, inr, append_assoc, arith, length-append, length-drop}
use Rattle.std.proofs.lemmas.Bool.{cases_Bool, both_ways, or_cases, or_right, eqb-true, lt-ltb, lt-leb}
use Rattle.std.proofs.lemmas.List.{drop_more}
use Rattle.reading.specs.Digits.{is_digit, AllDigits}
use Rattle.reading.proofs.Machines.{go as goes}
use Rattle.names.specs.Names.{LetterOrDigit, Runs}
use Rattle.names.specs.Scanning.{is_letter_or_digit}
use Rattle.names.specs.ZoneNames.{AllInZoneName}
use Rattle.names.specs.ZoneScanning.{is_first_of_zone_name, is_in_zone_name}
use Rattle.names.proofs.NameAnswers.{is_between, one_is}
use Rattle.names.proofs.ZoneAnswers.{is_first_of, is_inside}
use Rattle.std.specs.Str.{bytes_eq}
use Rattle.mark_form.specs.declared.draft.Draft.{Draft}
use Rattle.mark_form.specs.declared.draft.Said.{Said}
use Rattle.mark_form.specs.declared.layout.Layout.{Layout}
use Rattle.mark_form.specs.declared.layout.Part.{Part}
use Rattle.mark_form.specs.declared.layout.Tag.{Tag}
use Rattle.mark_form.specs.declared.layout.Tags.{Tags}
use Rattle.mark_form.specs.declared.stage.Form.{Form}
use Rattle.mark_form.specs.declared.stage.Form.TheVariants.{Clock, Offset, Seconds}
use Rattle.mark_form.specs.declared.stage.Progress.{Progress}
use Rattle.mark_form.specs.declared.stage.Stage.TheVariants.{Fixed, Fraction, Utc, Zone, Name, Between, Open, Key, Equals, Joined, Run}
use Rattle.mark_form.specs.Bytes.{is_first_of_key, is_in_key, stands, matched}
use Rattle.mark_form.specs.Grammar.{FractionText, OffsetText, ZoneText, DraftText, layout_of, MarkText}
use Rattle.mark_form.specs.TagLaws.{Bang, AllInKey, KeyText, TagAt, TagList}
use Rattle.mark_form.specs.Tags.{no_tags}
use Rattle.mark_form.proofs.Forms.{Fits, fits_length, alone, pair_fits, clock_fits, sign_is}
use Rattle.mark_form.proofs.Tagging.{noted_all, noted_is}
use Rattle.mark_form.specs.Scanning.{form_text, progress, with_sign, with_name, with_tag, keyed, signed, stepped, ended, begun}
use Rattle.mark_form.proofs.Sound.{read, matched_on, key_is}

-- one byte
go : (s t : Progress) (a b : ℕ) (bs : List ℕ) → stepped s a b ≡ Some t → read s a (b ∷ bs) ≡ read t (a + 1) bs
go = goes stepped ended

-- a byte that passes a test which another fails is not that one
not_byte : (test : ℕ → Bool) (b c : ℕ) → test c ≡ false → test b ≡ true → eqb b c ≡ false
not_byte test b c f h = elim (cases_Bool (eqb b c)) [
  | inl e ↦ absurd (both_ways (test c) f (ap test (sym (eqb-true b c e)) ∙ h))
  | inr e ↦ e
]

-- a name, up to its `]`
name_goes : (x xs : List ℕ) (l : Layout) (from a to : ℕ) → AllInZoneName x → to ≡ a + length x → read (progress (Name from) l) a (x ++ (93 ∷ xs)) ≡ read (progress Between (with_name l from to)) (to + 1) xs
name_goes [] xs l from a to h e = let n : a ≡ to = omega arith in ap (λ z. read (progress Between (with_name l from z)) (z + 1) xs) n
name_goes (b ∷ bs) xs l from a to h e =
    let i = is_inside b h.0 in
    let n = not_byte is_in_zone_name b 93 refl i in
    go (progress (Name from) l) (progress (Name from) l) a b (bs ++ (93 ∷ xs)) (rw (n, i) refl) ∙ name_goes bs xs l from (a + 1) to h.1 (omega arith)

-- the first byte of a name
first_goes : (x xs : List ℕ) (c : Bool) (l : Layout) (a to : ℕ) → ZoneText x → to ≡ a + length x → read (progress (Zone c) l) a (x ++ (93 ∷ xs)) ≡ read (progress Between (with_name l a to)) (to + 1) xs
first_goes [] xs c l a to h e = absurd h
first_goes (b ∷ bs) xs c l a to h e =
    let i = is_first_of b h.0 in
    let n = not_byte is_first_of_zone_name b 33 refl i in
    go (progress (Zone c) l) (progress (Name a) l) a b (bs ++ (93 ∷ xs)) (rw (n, i) refl) ∙ name_goes bs xs l a (a + 1) to h.1 (omega arith)

-- from after the zone's `[` up to the `]`
zone_goes : {e : List ℕ} {c : Bool} (x xs : List ℕ) (l : Layout) (a from to : ℕ) → Bang e c → ZoneText x → from ≡ a + length e → to ≡ from + length x
    → read (progress (Zone false) l) a (e ++ (x ++ (93 ∷ xs))) ≡ read (progress Between (with_name l from to)) (to + 1) xs
zone_goes x xs l a from to Bang.plain h p q =
    let n : a ≡ from = omega arith in
    first_goes x xs false l a to h (omega arith) ∙ ap (λ z. read (progress Between (with_name l z to)) (to + 1) xs) n
zone_goes x xs l a from to Bang.critical h p q =
    let n : a + 1 ≡ from = omega arith in
    go (progress (Zone false) l) (progress (Zone true) l) a 33 (x ++ (93 ∷ xs)) refl ∙ (first_goes x xs true l (a + 1) to h (omega arith) ∙ ap (λ z. read (progress Between (with_name l z to)) (to + 1) xs) n)

-- ── a value ──

-- the first byte of a value
equals_byte : (t : Tag) (l : Layout) (a b : ℕ) (bs : List ℕ) → LetterOrDigit b → read (progress (Equals t) l) a (b ∷ bs) ≡ read (progress (Run t a) l) (a + 1) bs
equals_byte t l a b bs h = let i = one_is b h in go (progress (Equals t) l) (progress (Run t a) l) a b bs (rw i refl)

-- the first byte of a later run
joined_byte : (t : Tag) (start : ℕ) (l : Layout) (a b : ℕ) (bs : List ℕ) → LetterOrDigit b → read (progress (Joined t start) l) a (b ∷ bs) ≡ read (progress (Run t start) l) (a + 1) bs
joined_byte t start l a b bs h = let i = one_is b h in go (progress (Joined t start) l) (progress (Run t start) l) a b bs (rw i refl)

-- a byte inside a run
run_byte : (t : Tag) (start : ℕ) (l : Layout) (a b : ℕ) (bs : List ℕ) → LetterOrDigit b → read (progress (Run t start) l) a (b ∷ bs) ≡ read (progress (Run t start) l) (a + 1) bs
run_byte t start l a b bs h =
    let i = one_is b h in
    let m = not_byte is_letter_or_digit b 93 refl i in
    let n = not_byte is_letter_or_digit b 45 refl i in
    go (progress (Run t start) l) (progress (Run t start) l) a b bs (rw (m, n, i) refl)

-- the end of a run, at its `]`
run_ends : (t : Tag) (start : ℕ) (l : Layout) (a to : ℕ) (xs : List ℕ) → to ≡ a → read (progress (Run t start) l) a (93 ∷ xs) ≡ read (progress Between (with_tag l t start to)) (to + 1) xs
run_ends t start l a to xs e = ap (λ z. read (progress Between (with_tag l t start z)) (z + 1) xs) (sym e)

mutual
  -- from a `-` on
  joined_goes : (t : Tag) (start : ℕ) (l : Layout) (a to : ℕ) {v : List ℕ} (xs : List ℕ) → Runs v → to ≡ a + length v → read (progress (Joined t start) l) a (v ++ (93 ∷ xs)) ≡ read (progress Between (with_tag l t start to)) (to + 1) xs
  joined_goes t start l a to xs (Runs.last {b} h) e = joined_byte t start l a b (93 ∷ xs) h ∙ run_ends t start l (a + 1) to xs (omega arith)
  joined_goes t start l a to xs (Runs.more {b} {bs} h r) e = joined_byte t start l a b (bs ++ (93 ∷ xs)) h ∙ run_goes t start l (a + 1) to xs r (omega arith)
  joined_goes t start l a to xs (Runs.join {b} {bs} h r) e = joined_byte t start l a b (45 ∷ (bs ++ (93 ∷ xs))) h ∙ joined_goes t start l ((a + 1) + 1) to xs r (omega arith)

  -- inside a run
  run_goes : (t : Tag) (start : ℕ) (l : Layout) (a to : ℕ) {v : List ℕ} (xs : List ℕ) → Runs v → to ≡ a + length v → read (progress (Run t start) l) a (v ++ (93 ∷ xs)) ≡ read (progress Between (with_tag l t start to)) (to + 1) xs
  run_goes t start l a to xs (Runs.last {b} h) e = run_byte t start l a b (93 ∷ xs) h ∙ run_ends t start l (a + 1) to xs (omega arith)
  run_goes t start l a to xs (Runs.more {b} {bs} h r) e = run_byte t start l a b (bs ++ (93 ∷ xs)) h ∙ run_goes t start l (a + 1) to xs r (omega arith)
  run_goes t start l a to xs (Runs.join {b} {bs} h r) e = run_byte t start l a b (45 ∷ (bs ++ (93 ∷ xs))) h ∙ joined_goes t start l ((a + 1) + 1) to xs r (omega arith)

-- from its first byte on
value_goes : (t : Tag) (l : Layout) (a to : ℕ) {v : List ℕ} (xs : List ℕ) → Runs v → to ≡ a + length v → read (progress (Equals t) l) a (v ++ (93 ∷ xs)) ≡ read (progress Between (with_tag l t a to)) (to + 1) xs
value_goes t l a to xs (Runs.last {b} h) e = equals_byte t l a b (93 ∷ xs) h ∙ run_ends t a l (a + 1) to xs (omega arith)
value_goes t l a to xs (Runs.more {b} {bs} h r) e = equals_byte t l a b (bs ++ (93 ∷ xs)) h ∙ run_goes t a l (a + 1) to xs r (omega arith)
value_goes t l a to xs (Runs.join {b} {bs} h r) e = equals_byte t l a b (45 ∷ (bs ++ (93 ∷ xs))) h ∙ joined_goes t a l ((a + 1) + 1) to xs r (omega arith)

-- ── tags ──

-- a key after its first byte, up to its `=`
key_goes : (x xs : List ℕ) (o : ℕ) (c : Bool) (k : Option ℕ) (l : Layout) (a from : ℕ) → AllInKey x → from ≡ a + (length x + 1) → read (progress (Key o c k) l) a (x ++ (61 ∷ xs)) ≡ read (progress (Equals (keyed o c (matched_on k x))) l) from xs
key_goes [] xs o c k l a from h e = let n : a + 1 ≡ from = omega arith in ap (λ z. read (progress (Equals (keyed o c k)) l) z xs) n
key_goes (b ∷ bs) xs o c k l a from h e =
    let n = not_byte is_in_key b 61 refl h.0 in
    go (progress (Key o c k) l) (progress (Key o c (matched k b)) l) a b (bs ++ (61 ∷ xs)) (rw (n, h.0) refl) ∙ key_goes bs xs o c (matched k b) l (a + 1) from h.1 (omega arith)

-- a tag by its `[`, whether it is critical, and its key, as the steps see it
abbrev tagged : ℕ → Bool → List ℕ → Tag
tagged bracket c key = record { bracket = bracket; critical = c; is_calendar = bytes_eq key (codes "u-ca") }

-- a whole key
word_goes : (x xs : List ℕ) (o : ℕ) (c : Bool) (l : Layout) (a from : ℕ) → KeyText x → from ≡ a + (length x + 1) → read (progress (Open o c) l) a (x ++ (61 ∷ xs)) ≡ read (progress (Equals (tagged o c x)) l) from xs
word_goes [] xs o c l a from h e = absurd h
word_goes (b ∷ bs) xs o c l a from h e =
    let n = not_byte is_first_of_key b 33 refl h.0 in
    go (progress (Open o c) l) (progress (Key o c (matched (Some 0) b)) l) a b (bs ++ (61 ∷ xs)) (rw (n, h.0) refl)
    ∙ (key_goes bs xs o c (matched (Some 0) b) l (a + 1) from h.1 (omega arith) ∙ ap (λ (z : Bool). read (progress (Equals (record { bracket = o; critical = c; is_calendar = z })) l) from xs) (key_is (b ∷ bs)))

-- from a tag's `[` up to its `=`
open_goes : {e : List ℕ} {c : Bool} (x xs : List ℕ) (l : Layout) (a from : ℕ) → Bang e c → KeyText x → from ≡ a + (length e + (length x + 2)) → read (progress Between l) a (91 ∷ (e ++ (x ++ (61 ∷ xs)))) ≡ read (progress (Equals (tagged a c x)) l) from xs
open_goes x xs l a from Bang.plain h e = word_goes x xs a false l (a + 1) from h (omega arith)
open_goes x xs l a from Bang.critical h e = word_goes x xs a true l ((a + 1) + 1) from h (omega arith)

-- where the parts stand
abbrev laid : ℕ → Part → Tags → Layout
laid s n g = record { sign = s; name = n; tags = g }

-- all the tags, up to the end of the text
tags_goes : {a : ℕ} {xs : List ℕ} {ts : List TagAt} (s : ℕ) (n : Part) (g : Tags) → TagList a xs ts → read (progress Between (laid s n g)) a xs ≡ Ok (laid s n (noted_all g ts))
tags_goes s n g TagList.none = refl
tags_goes s n g (TagList.tag {at} {from} {to} {c} {e} k {v} {xs} {ts} b w r p q more) =
    open_goes k (v ++ (93 ∷ xs)) (laid s n g) at from b w p ∙ (value_goes (tagged at c k) (laid s n g) from to xs r q ∙ tags_goes s n _ more)

-- a form
form_goes : (ks x xs : List ℕ) (f : Form) (k : ℕ) (l : Layout) (a : ℕ) → drop k (form_text f) ≡ ks → k ≤ length (form_text f) → Fits ks x → read (progress (Fixed f k) l) a (x ++ xs) ≡ read (progress (Fixed f (length (form_text f))) l) (a + length x) xs
form_goes [] [] xs f k l a e g h =
    let n : length (form_text f) - k ≡ 0 = sym (length-drop k (form_text f)) ∙ ap length e in
    let m : k ≡ length (form_text f) = omega arith in
    let z : a ≡ a + 0 = omega arith in
    ap (λ i. read (progress (Fixed f i) l) a xs) m ∙ ap (λ i. read (progress (Fixed f (length (form_text f))) l) i xs) z
form_goes [] (b ∷ bs) xs f k l a e g h = absurd h
form_goes (c ∷ ks) [] xs f k l a e g h = absurd h
form_goes (c ∷ ks) (b ∷ bs) xs f k l a e g h =
    let n : length (form_text f) - k ≡ suc (length ks) = sym (length-drop k (form_text f)) ∙ ap length e in
    let lt : k < length (form_text f) = omega arith in
    let d = drop_more (form_text f) k 0 lt in
    let c_is : get_or (form_text f) k 0 ≡ c = cc in
    let ks_is : drop (k + 1) (form_text f) ≡ ks = cc in
    let t : leb (length (form_text f)) k ≡ false = lt-leb (length (form_text f)) k lt in
    let p : stands (get_or (form_text f) k 0) b ≡ true = ap (λ z. stands z b) c_is ∙ h.0 in
    let z : (a + 1) + length bs ≡ a + suc (length bs) = omega arith in
    go (progress (Fixed f k) l) (progress (Fixed f (k + 1)) l) a b (bs ++ xs) (rw (t, p) refl)
    ∙ (form_goes ks bs xs f (k + 1) l (a + 1) ks_is (omega arith) h.1 ∙ ap (λ i. read (progress (Fixed f (length (form_text f))) l) i xs) z)

-- a byte with which an offset begins
abbrev signs : ℕ → Bool
signs b = eqb b 90 || (eqb b 43 || eqb b 45)

-- in this state a byte with which an offset begins is read as that
abbrev MaySign : Progress → Layout → ℕ → Type 0
MaySign s l a = (b : ℕ) → signs b ≡ true → stepped s a b ≡ signed l a b

-- a `+` or a `-`
sign_byte : (s : Progress) (l : Layout) (a : ℕ) (c : ℕ) (xs : List ℕ) → MaySign s l a → (eqb c 43 || eqb c 45) ≡ true → read s a (c ∷ xs) ≡ read (progress (Fixed Offset 0) (with_sign l a)) (a + 1) xs
sign_byte s l a c xs m h =
    let n = not_byte (λ z. eqb z 43 || eqb z 45) c 90 refl h in
    go s (progress (Fixed Offset 0) (with_sign l a)) a c xs (m c (or_right (eqb c 90) _ h) ∙ rw (n, h) refl)

-- a sign, hours and minutes, up to the zone's `[`
minutes_go : (s : Progress) (c : ℕ) (x xs : List ℕ) (l : Layout) (a at : ℕ) → MaySign s l a → (eqb c 43 || eqb c 45) ≡ true → Fits (codes "00:00") x → at ≡ a + (length (c ∷ x) + 1)
    → read s a (c ∷ (x ++ (91 ∷ xs))) ≡ read (progress (Zone false) (with_sign l a)) at xs
minutes_go s c x xs l a at m g h e =
    let n : ((a + 1) + length x) + 1 ≡ at = omega arith in
    sign_byte s l a c (x ++ (91 ∷ xs)) m g ∙ (form_goes (codes "00:00") x (91 ∷ xs) Offset 0 (with_sign l a) (a + 1) refl (omega arith) h ∙ ap (λ z. read (progress (Zone false) (with_sign l a)) z xs) n)

-- and with seconds
seconds_go : (s : Progress) (c : ℕ) (x y xs : List ℕ) (l : Layout) (a at : ℕ) → MaySign s l a → (eqb c 43 || eqb c 45) ≡ true → Fits (codes "00:00") x → Fits (codes "00") y
    → at ≡ a + (length (c ∷ (x ++ (58 ∷ y))) + 1) → read s a (c ∷ ((x ++ (58 ∷ y)) ++ (91 ∷ xs))) ≡ read (progress (Zone false) (with_sign l a)) at xs
seconds_go s c x y xs l a at m g h i e =
    let k : length (x ++ (58 ∷ y)) ≡ length x + (length y + 1) = simp length-append (omega arith) in
    let n : ((((a + 1) + length x) + 1) + length y) + 1 ≡ at = omega arith in
    let t : c ∷ ((x ++ (58 ∷ y)) ++ (91 ∷ xs)) ≡ c ∷ (x ++ (58 ∷ (y ++ (91 ∷ xs)))) = ap (λ z. c ∷ z) (append_assoc x (58 ∷ y) (91 ∷ xs)) in
    ap (read s a) t ∙ (sign_byte s l a c (x ++ (58 ∷ (y ++ (91 ∷ xs)))) m g ∙ (form_goes (codes "00:00") x (58 ∷ (y ++ (91 ∷ xs))) Offset 0 (with_sign l a) (a + 1) refl (omega arith) h
    ∙ (form_goes (codes "00") y (91 ∷ xs) Seconds 0 (with_sign l a) (((a + 1) + length x) + 1) refl (omega arith) i ∙ ap (λ z. read (progress (Zone false) (with_sign l a)) z xs) n)))

-- the offset, up to the zone's `[`
offset_goes : {x : List ℕ} {o : Option Said} (s : Progress) (xs : List ℕ) (l : Layout) (a at : ℕ) → MaySign s l a → OffsetText a x o → at ≡ a + (length x + 1) → read s a (x ++ (91 ∷ xs)) ≡ read (progress (Zone false) (with_sign l a)) at xs
offset_goes s xs l a at m OffsetText.utc e =
    let n : (a + 1) + 1 ≡ at = omega arith in
    go s (progress Utc (with_sign l a)) a 90 (91 ∷ xs) (m 90 refl) ∙ ap (λ z. read (progress (Zone false) (with_sign l a)) z xs) n
offset_goes s xs l a at m OffsetText.unknown e = minutes_go s 45 (codes "00:00") xs l a at m refl (refl, (refl, (refl, (refl, (refl, tt))))) e
offset_goes s xs l a at m (OffsetText.minutes {c} {hh} {mm} g h i n) e = minutes_go s c (hh ++ (58 ∷ mm)) xs l a at m (sign_is g) (pair_fits h i) e
offset_goes s xs l a at m (OffsetText.seconds {c} {hh} {mm} {ss} g h i j) e =
    let t : c ∷ ((hh ++ (58 ∷ mm)) ++ (58 ∷ ss)) ≡ c ∷ (hh ++ (58 ∷ (mm ++ (58 ∷ ss)))) = ap (λ z. c ∷ z) (append_assoc hh (58 ∷ mm) (58 ∷ ss)) in
    ap (λ (z : List ℕ). read s a (z ++ (91 ∷ xs))) (sym t) ∙ seconds_go s c (hh ++ (58 ∷ mm)) ss xs l a at m (sign_is g) (pair_fits h i) (alone j) (e ∙ ap (λ (z : List ℕ). a + (length z + 1)) (sym t))

-- the digits of a fraction
digits_go : (ds xs : List ℕ) (k : ℕ) (l : Layout) (a : ℕ) → AllDigits ds → k + length ds ≤ 6 → read (progress (Fraction k) l) a (ds ++ xs) ≡ read (progress (Fraction (k + length ds)) l) (a + length ds) xs
digits_go [] xs k l a h g =
    let y : k ≡ k + 0 = omega arith in
    let z : a ≡ a + 0 = omega arith in
    ap (λ i. read (progress (Fraction i) l) a xs) y ∙ ap (λ i. read (progress (Fraction (k + 0)) l) i xs) z
digits_go (b ∷ bs) xs k l a h g =
    let d = is_between 48 57 b (h.0, h.1) in
    let t : ltb k 6 ≡ true = lt-ltb k 6 (omega arith) in
    let y : (k + 1) + length bs ≡ k + suc (length bs) = omega arith in
    let z : (a + 1) + length bs ≡ a + suc (length bs) = omega arith in
    go (progress (Fraction k) l) (progress (Fraction (k + 1)) l) a b (bs ++ xs) (rw (d, t) refl)
    ∙ (digits_go bs xs (k + 1) l (a + 1) h.2 (omega arith) ∙ (ap (λ i. read (progress (Fraction i) l) ((a + 1) + length bs) xs) y ∙ ap (λ i. read (progress (Fraction (k + suc (length bs))) l) i xs) z))

-- an offset may begin after the clock time
clock_may : (l : Layout) (a : ℕ) → MaySign (progress (Fixed Clock 19) l) l a
clock_may l a b h = let n = not_byte signs b 46 refl h in rw n refl

-- a byte with which an offset begins is no digit
digit_not : (b : ℕ) → signs b ≡ true → is_digit b ≡ false
digit_not b h = elim (or_cases (eqb b 90) _ h) [
  | inl e ↦ ap is_digit (eqb-true b 90 e)
  | inr e ↦ elim (or_cases (eqb b 43) (eqb b 45) e) [ inl g ↦ ap is_digit (eqb-true b 43 g) | inr g ↦ ap is_digit (eqb-true b 45 g) ]
]

-- an offset may begin after a digit of the fraction
fraction_may : (k : ℕ) (l : Layout) (a : ℕ) → 0 < k → MaySign (progress (Fraction k) l) l a
fraction_may k l a g b h = let n = digit_not b h in let t : ltb 0 k ≡ true = lt-ltb 0 k g in rw (n, t) refl

-- from the fraction up to the zone
fraction_goes : {f x : List ℕ} {u : ℕ} {w : Option Said} (xs : List ℕ) (l : Layout) (a sign at : ℕ) → FractionText f u → OffsetText sign x w → sign ≡ a + length f → at ≡ sign + (length x + 1)
    → read (progress (Fixed Clock 19) l) a (f ++ (x ++ (91 ∷ xs))) ≡ read (progress (Zone false) (with_sign l sign)) at xs
fraction_goes {x} {w} xs l a sign at FractionText.none o p q =
    let n : a ≡ sign = omega arith in
    offset_goes (progress (Fixed Clock 19) l) xs l a at (clock_may l a) (subst (λ z. OffsetText z x w) (sym n) o) (omega arith) ∙ ap (λ z. read (progress (Zone false) (with_sign l z)) at xs) n
fraction_goes {f} {x} xs l a sign at (FractionText.some {ds} h) o p q =
    let n : (a + 1) + length ds ≡ sign = omega arith in
    digits_go ds (x ++ (91 ∷ xs)) 0 l (a + 1) h.all (omega (arith, h.few))
    ∙ (ap (λ i. read (progress (Fraction (0 + length ds)) l) i (x ++ (91 ∷ xs))) n ∙ offset_goes (progress (Fraction (0 + length ds)) l) xs l sign at (fraction_may (0 + length ds) l sign (omega (arith, h.some))) o q)

-- a mark text is read to its end, and its parts stand where they are read
draft_goes : (t : List ℕ) (d : Draft) (m : DraftText t d) → read begun 0 t ≡ Ok (layout_of m)
draft_goes t d m =
    let fits = clock_fits m.clock d m.clock_text in
    let n = fits_length (form_text Clock) m.clock fits in
    let l = begun.seen in
    let sign = 19 + length m.fraction in
    let nineteen : 0 + length m.clock ≡ 19 = omega arith in
    let zoned = m.bang ++ (m.name ++ (93 ∷ m.tags)) in
    ap (read begun 0) m.is
    ∙ (form_goes (form_text Clock) m.clock (m.fraction ++ (m.offset ++ (91 ∷ zoned))) Clock 0 l 0 refl (omega arith) fits
    ∙ (ap (λ i. read (progress (Fixed Clock 19) l) i (m.fraction ++ (m.offset ++ (91 ∷ zoned)))) nineteen
    ∙ (fraction_goes zoned l 19 sign (sign + (length m.offset + 1)) m.fraction_text m.offset_text refl refl
    ∙ (zone_goes m.name m.tags (with_sign l sign) (sign + (length m.offset + 1)) d.name.from d.name.to m.bang_text m.name_text (m.name_from ∙ omega arith) m.name_to
    ∙ (tags_goes sign d.name no_tags m.tags_text ∙ ap (λ g. Ok (laid sign d.name g)) (noted_is m.each ∙ sym m.tags_told))))))

pub complete : (t : List ℕ) (v : Layout) → MarkText t v → read begun 0 t ≡ Ok v
complete t v m = draft_goes t m.draft m.text ∙ ap Ok (sym m.places)
