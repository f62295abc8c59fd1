-- What the steps take is a mark text, and its parts stand where they say.
use Rattle.std.proofs.Common.{◌≡◌, ℕ, zero, suc, ◌+◌, ◌<◌, ◌≤◌, Bool, true, false, cond, ◌&&◌, ◌||◌, eqb, ltb, leb, ◌⊎◌, List, [], ◌∷◌, ◌++◌, length, get_or, drop, Some, None, Ok, Err, codes, Option, Result, sym, refl, ap, ◌∙◌, subst, inl, inr, append_assoc, arith, length-append}
use Rattle.std.proofs.lemmas.Bool.{cases_lt, both_ways, and_parts, eqb-true, ltb-true, le-leb, lt-leb}
use Rattle.std.proofs.lemmas.List.{drop_more, drop_all}
use Rattle.std.specs.Str.{bytes_eq}
use Rattle.reading.specs.declared.Misread.{Misread}
use Rattle.reading.specs.Digits.{is_digit, AllDigits}
use Rattle.reading.specs.Reading.{misread, read_on}
use Rattle.reading.proofs.Machines.{err_ok}
use Rattle.names.specs.Names.{LetterOrDigit, Runs}
use Rattle.names.specs.Scanning.{is_letter_or_digit}
use Rattle.names.specs.ZoneNames.{AllInZoneName}
use Rattle.names.specs.ZoneScanning.{is_first_of_zone_name, is_in_zone_name}
use Rattle.names.proofs.NameAnswers.{between, is_one}
use Rattle.names.proofs.ZoneAnswers.{first_of, inside}
use Rattle.span_text.specs.Grammar.{micros_of}
use Rattle.mark_form.specs.declared.draft.Said.{Said}
use Rattle.mark_form.specs.declared.layout.Layout.{Layout}
use Rattle.mark_form.specs.declared.layout.Part.{Part}
use Rattle.mark_form.specs.declared.layout.Tag.{Tag}
use Rattle.mark_form.specs.declared.stage.Form.{Form}
use Rattle.mark_form.specs.declared.stage.Form.TheVariants.{Clock, Offset, Seconds}
use Rattle.mark_form.specs.declared.stage.Progress.{Progress}
use Rattle.mark_form.specs.declared.stage.Stage.TheVariants.{Fixed, Fraction, Utc, Zone, Name, Between, Open, Key, Equals, Joined, Run}
use Rattle.mark_form.specs.Bytes.{is_first_of_key, is_in_key, stands, matched, is_matched}
use Rattle.mark_form.specs.Grammar.{FractionText, OffsetText, ZoneText, MarkText}
use Rattle.mark_form.specs.TagLaws.{Bang, AllInKey, KeyText, TagAt, TagList}
use Rattle.mark_form.specs.Scanning.{form_text, progress, with_sign, with_name, with_tag, keyed, signed, opened, after_form, stepped, ended, begun}
use Rattle.mark_form.specs.Tags.{noted}
use Rattle.mark_form.proofs.Forms.{Fits, fits_length, clock_of, clocked, clocked_text, minutes_of, seconds_of}
use Rattle.mark_form.proofs.Tagging.{noted_all, noted_is}

-- what is read from a state on
abbrev pub read : Progress → ℕ → List ℕ → Result Layout Misread
read = read_on stepped ended

-- what is found after a byte at a place
abbrev read_next : ℕ → List ℕ → Option Progress → Result Layout Misread
read_next a bs o = elim o [ Some s ↦ read s (a + 1) bs | None ↦ Err (misread a) ]

-- the reader went one of two ways
way_taken : (a : ℕ) (bs : List ℕ) (v : Layout) (c : Bool) (x y : Option Progress) → read_next a bs (cond c x y) ≡ Ok v → ((c ≡ true) × (read_next a bs x ≡ Ok v)) ⊎ ((c ≡ false) × (read_next a bs y ≡ Ok v))
way_taken a bs v true x y h = inl (refl, h)
way_taken a bs v false x y h = inr (refl, h)

-- ── the matching of `u-ca` ──

-- what a whole key has matched
abbrev pub matched_on : Option ℕ → List ℕ → Option ℕ
matched_on so_far [] = so_far
matched_on so_far (b ∷ bs) = matched_on (matched so_far b) bs

-- another key stays another one
other_key : (bs : List ℕ) → is_matched (matched_on None bs) ≡ false
other_key [] = refl
other_key (b ∷ bs) = other_key bs

-- one byte of the key, which matches or does not
key_byte : (c : Bool) (k : ℕ) (bs ks : List ℕ) → is_matched (matched_on (Some k) bs) ≡ bytes_eq bs ks → is_matched (matched_on (cond c (Some k) None) bs) ≡ (c && bytes_eq bs ks)
key_byte true k bs ks h = h
key_byte false k bs ks h = other_key bs

-- what is left of `u-ca` is nothing
key_after_4 : (ks : List ℕ) → is_matched (matched_on (Some 4) ks) ≡ bytes_eq ks []
key_after_4 [] = refl
key_after_4 (b ∷ bs) = other_key bs

-- `a` is left
key_after_3 : (ks : List ℕ) → is_matched (matched_on (Some 3) ks) ≡ bytes_eq ks (97 ∷ [])
key_after_3 [] = refl
key_after_3 (b ∷ bs) = key_byte (eqb b 97) 4 bs [] (key_after_4 bs)

-- `ca` is left
key_after_2 : (ks : List ℕ) → is_matched (matched_on (Some 2) ks) ≡ bytes_eq ks (99 ∷ (97 ∷ []))
key_after_2 [] = refl
key_after_2 (b ∷ bs) = key_byte (eqb b 99) 3 bs (97 ∷ []) (key_after_3 bs)

-- `-ca` is left
key_after_1 : (ks : List ℕ) → is_matched (matched_on (Some 1) ks) ≡ bytes_eq ks (45 ∷ (99 ∷ (97 ∷ [])))
key_after_1 [] = refl
key_after_1 (b ∷ bs) = key_byte (eqb b 45) 2 bs (99 ∷ (97 ∷ [])) (key_after_2 bs)

-- a key has matched the whole of `u-ca` if it is `u-ca`
pub key_is : (ks : List ℕ) → is_matched (matched_on (Some 0) ks) ≡ bytes_eq ks (codes "u-ca")
key_is [] = refl
key_is (b ∷ bs) = key_byte (eqb b 117) 1 bs (45 ∷ (99 ∷ (97 ∷ []))) (key_after_1 bs)

-- what follows where a tag may begin
pub record TagsRest (l : Layout) (a : ℕ) (xs : List ℕ) (v : Layout) : Type 0 where
  pub each : List TagAt
  pub tags : TagList a xs each
  pub come : v.tags ≡ noted_all l.tags each
  pub sign : v.sign ≡ l.sign
  pub name : v.name ≡ l.name

-- what follows in a value
pub record ValueRest (P : List ℕ → Type 0) (l : Layout) (t : Tag) (from a : ℕ) (xs : List ℕ) (v : Layout) : Type 0 where
  pub value : List ℕ
  pub rest : List ℕ
  pub is : xs ≡ value ++ (93 ∷ rest)
  pub good : P value
  pub to : ℕ
  pub to_is : to ≡ a + length value
  pub after : TagsRest (with_tag l t from to) (to + 1) rest v

-- what may follow a letter or digit of a value
abbrev Tail : List ℕ → Type 0
Tail y = (b : ℕ) → LetterOrDigit b → Runs (b ∷ y)

-- one byte more in front of a value
value_more : {P Q : List ℕ → Type 0} {l : Layout} {t : Tag} {from a : ℕ} (b : ℕ) {bs : List ℕ} {v : Layout} → ((y : List ℕ) → P y → Q (b ∷ y)) → ValueRest P l t from (a + 1) bs v → ValueRest Q l t from a (b ∷ bs) v
value_more b f r = record { value = b ∷ r.value; rest = r.rest; is = ap (λ z. b ∷ z) r.is; good = f r.value r.good; to = r.to; to_is = omega (arith, r.to_is); after = r.after }

-- what follows in a key
pub record KeyRest (W : List ℕ → Type 0) (l : Layout) (o : ℕ) (c : Bool) (k : Option ℕ) (a : ℕ) (xs : List ℕ) (v : Layout) : Type 0 where
  pub key : List ℕ
  pub value : List ℕ
  pub rest : List ℕ
  pub is : xs ≡ key ++ (61 ∷ (value ++ (93 ∷ rest)))
  pub word : W key
  pub good : Runs value
  pub from : ℕ
  pub to : ℕ
  pub from_is : from ≡ a + (length key + 1)
  pub to_is : to ≡ from + length value
  pub after : TagsRest (with_tag l (keyed o c (matched_on k key)) from to) (to + 1) rest v

-- one byte more in front of a key
key_more : {W X : List ℕ → Type 0} {l : Layout} {o : ℕ} {c : Bool} (k : Option ℕ) {a : ℕ} (b : ℕ) {bs : List ℕ} {v : Layout} → ((y : List ℕ) → W y → X (b ∷ y)) → KeyRest W l o c (matched k b) (a + 1) bs v → KeyRest X l o c k a (b ∷ bs) v
key_more k b f r = record {
  key = b ∷ r.key;
  value = r.value;
  rest = r.rest;
  is = ap (λ z. b ∷ z) r.is;
  word = f r.key r.word;
  good = r.good;
  from = r.from;
  to = r.to;
  from_is = omega (arith, r.from_is);
  to_is = r.to_is;
  after = r.after;
}

-- a tag, from its `[` on
one_tag : {l : Layout} {o a : ℕ} {c : Bool} {e xs : List ℕ} {v : Layout} → Bang e c → a ≡ o + (length e + 1) → KeyRest KeyText l o c (Some 0) a xs v → TagsRest l o (91 ∷ (e ++ xs)) v
one_tag {l} {o} {a} {c} {e} {xs} {v} g n r =
    let p : Part = record { from = r.from; to = r.to } in
    let each : List TagAt = record { bracket = o; critical = c; key = r.key; value = p } ∷ r.after.each in
    record {
      each = each;
      tags = subst (λ z. TagList o (91 ∷ (e ++ z)) each) (sym r.is) (TagList.tag r.key g r.word r.good (omega (arith, r.from_is)) r.to_is r.after.tags);
      come = r.after.come ∙ ap (λ (z : Bool). noted_all (noted l.tags (record { bracket = o; critical = c; is_calendar = z }) p) r.after.each) (key_is r.key);
      sign = r.after.sign;
      name = r.after.name;
    }

mutual
  -- where a tag may begin
  tags_sound : (xs : List ℕ) (l : Layout) (a : ℕ) (v : Layout) → read (progress Between l) a xs ≡ Ok v → TagsRest l a xs v
  tags_sound [] l a v h = let e : l ≡ v = cc in subst (λ z. TagsRest l a [] z) e (record { each = []; tags = TagList.none; come = refl; sign = refl; name = refl })
  tags_sound (b ∷ bs) l a v h = elim (way_taken a bs v (eqb b 91) (Some (progress (Open a false) l)) None h) [
    | inl w ↦ subst (λ z. TagsRest l a (z ∷ bs) v) (sym (eqb-true b 91 w.0)) (open_sound bs l a (a + 1) v refl w.1)
    | inr w ↦ err_ok v a w.1
  ]

  -- after a tag's `[`
  open_sound : (xs : List ℕ) (l : Layout) (o a : ℕ) (v : Layout) → a ≡ o + 1 → read (progress (Open o false) l) a xs ≡ Ok v → TagsRest l o (91 ∷ xs) v
  open_sound [] l o a v n h = err_ok v a h
  open_sound (b ∷ bs) l o a v n h = elim (way_taken a bs v (eqb b 33 && true) (Some (progress (Open o true) l)) _ h) [
    | inl w ↦ subst (λ z. TagsRest l o (91 ∷ (z ∷ bs)) v) (sym (eqb-true b 33 (and_parts (eqb b 33) true w.0).0)) (one_tag Bang.critical (omega arith) (critical_sound bs l o (a + 1) v w.1))
    | inr w ↦ elim (way_taken a bs v (is_first_of_key b) (Some (progress (Key o false (matched (Some 0) b)) l)) None w.1) [
      | inl u ↦ one_tag Bang.plain (omega arith) (key_more (Some 0) b (λ y p. (u.0, p)) (key_sound bs l o false (matched (Some 0) b) (a + 1) v u.1))
      | inr u ↦ err_ok v a u.1
    ]
  ]

  -- after a tag's `[!`
  critical_sound : (xs : List ℕ) (l : Layout) (o a : ℕ) (v : Layout) → read (progress (Open o true) l) a xs ≡ Ok v → KeyRest KeyText l o true (Some 0) a xs v
  critical_sound [] l o a v h = err_ok v a h
  critical_sound (b ∷ bs) l o a v h = elim (way_taken a bs v (eqb b 33 && false) (Some (progress (Open o true) l)) _ h) [
    | inl w ↦ absurd (both_ways false refl (and_parts (eqb b 33) false w.0).1)
    | inr w ↦ elim (way_taken a bs v (is_first_of_key b) (Some (progress (Key o true (matched (Some 0) b)) l)) None w.1) [
      | inl u ↦ key_more (Some 0) b (λ y p. (u.0, p)) (key_sound bs l o true (matched (Some 0) b) (a + 1) v u.1)
      | inr u ↦ err_ok v a u.1
    ]
  ]

  -- in a key
  key_sound : (xs : List ℕ) (l : Layout) (o : ℕ) (c : Bool) (k : Option ℕ) (a : ℕ) (v : Layout) → read (progress (Key o c k) l) a xs ≡ Ok v → KeyRest AllInKey l o c k a xs v
  key_sound [] l o c k a v h = err_ok v a h
  key_sound (b ∷ bs) l o c k a v h = elim (way_taken a bs v (eqb b 61) (Some (progress (Equals (keyed o c k)) l)) _ h) [
    | inl w ↦
        let r = equals_sound bs l (keyed o c k) (a + 1) v w.1 in
        record {
          key = [];
          value = r.value;
          rest = r.rest;
          is = ap (λ z. z ∷ bs) (eqb-true b 61 w.0) ∙ ap (λ z. 61 ∷ z) r.is;
          word = tt;
          good = r.good;
          from = a + 1;
          to = r.to;
          from_is = omega arith;
          to_is = r.to_is;
          after = r.after;
        }
    | inr w ↦ elim (way_taken a bs v (is_in_key b) (Some (progress (Key o c (matched k b)) l)) None w.1) [
      | inl u ↦ key_more k b (λ y p. (u.0, p)) (key_sound bs l o c (matched k b) (a + 1) v u.1)
      | inr u ↦ err_ok v a u.1
    ]
  ]

  -- where a value has to begin
  equals_sound : (xs : List ℕ) (l : Layout) (t : Tag) (a : ℕ) (v : Layout) → read (progress (Equals t) l) a xs ≡ Ok v → ValueRest Runs l t a a xs v
  equals_sound [] l t a v h = err_ok v a h
  equals_sound (b ∷ bs) l t a v h = elim (way_taken a bs v (is_letter_or_digit b) (Some (progress (Run t a) l)) None h) [
    | inl w ↦ value_more b (λ y p. p b (is_one b w.0)) (run_sound bs l t a (a + 1) v w.1)
    | inr w ↦ err_ok v a w.1
  ]

  -- where a later run has to begin
  joined_sound : (xs : List ℕ) (l : Layout) (t : Tag) (start a : ℕ) (v : Layout) → read (progress (Joined t start) l) a xs ≡ Ok v → ValueRest Runs l t start a xs v
  joined_sound [] l t start a v h = err_ok v a h
  joined_sound (b ∷ bs) l t start a v h = elim (way_taken a bs v (is_letter_or_digit b) (Some (progress (Run t start) l)) None h) [
    | inl w ↦ value_more b (λ y p. p b (is_one b w.0)) (run_sound bs l t start (a + 1) v w.1)
    | inr w ↦ err_ok v a w.1
  ]

  -- in a run
  run_sound : (xs : List ℕ) (l : Layout) (t : Tag) (start a : ℕ) (v : Layout) → read (progress (Run t start) l) a xs ≡ Ok v → ValueRest Tail l t start a xs v
  run_sound [] l t start a v h = err_ok v a h
  run_sound (b ∷ bs) l t start a v h = elim (way_taken a bs v (eqb b 93) (Some (progress Between (with_tag l t start a))) _ h) [
    | inl w ↦ record {
      value = [];
      rest = bs;
      is = ap (λ z. z ∷ bs) (eqb-true b 93 w.0);
      good = λ c k. Runs.last k;
      to = a;
      to_is = omega arith;
      after = tags_sound bs (with_tag l t start a) (a + 1) v w.1;
    }
    | inr w ↦ elim (way_taken a bs v (eqb b 45) (Some (progress (Joined t start) l)) _ w.1) [
      | inl u ↦ value_more b (λ y p c k. subst (λ z. Runs (c ∷ (z ∷ y))) (sym (eqb-true b 45 u.0)) (Runs.join k p)) (joined_sound bs l t start (a + 1) v u.1)
      | inr u ↦ elim (way_taken a bs v (is_letter_or_digit b) (Some (progress (Run t start) l)) None u.1) [
        | inl x ↦ value_more b (λ y p c k. Runs.more k (p b (is_one b x.0))) (run_sound bs l t start (a + 1) v x.1)
        | inr x ↦ err_ok v a x.1
      ]
    ]
  ]

-- what follows in a zone's name
pub record NameRest (W : List ℕ → Type 0) (l : Layout) (from a : ℕ) (xs : List ℕ) (v : Layout) : Type 0 where
  pub name : List ℕ
  pub rest : List ℕ
  pub is : xs ≡ name ++ (93 ∷ rest)
  pub word : W name
  pub to : ℕ
  pub to_is : to ≡ a + length name
  pub after : TagsRest (with_name l from to) (to + 1) rest v

-- one byte more in front of a name
name_more : {W X : List ℕ → Type 0} {l : Layout} {from a : ℕ} (b : ℕ) {bs : List ℕ} {v : Layout} → ((y : List ℕ) → W y → X (b ∷ y)) → NameRest W l from (a + 1) bs v → NameRest X l from a (b ∷ bs) v
name_more b f r = record { name = b ∷ r.name; rest = r.rest; is = ap (λ z. b ∷ z) r.is; word = f r.name r.word; to = r.to; to_is = omega (arith, r.to_is); after = r.after }

-- in a name
name_sound : (xs : List ℕ) (l : Layout) (from a : ℕ) (v : Layout) → read (progress (Name from) l) a xs ≡ Ok v → NameRest AllInZoneName l from a xs v
name_sound [] l from a v h = err_ok v a h
name_sound (b ∷ bs) l from a v h = elim (way_taken a bs v (eqb b 93) (Some (progress Between (with_name l from a))) _ h) [
  | inl w ↦ record { name = []; rest = bs; is = ap (λ z. z ∷ bs) (eqb-true b 93 w.0); word = tt; to = a; to_is = omega arith; after = tags_sound bs (with_name l from a) (a + 1) v w.1 }
  | inr w ↦ elim (way_taken a bs v (is_in_zone_name b) (Some (progress (Name from) l)) None w.1) [
    | inl u ↦ name_more b (λ y p. (inside b u.0, p)) (name_sound bs l from (a + 1) v u.1)
    | inr u ↦ err_ok v a u.1
  ]
]

-- what follows a zone's `[`
pub record ZoneRest (l : Layout) (a : ℕ) (xs : List ℕ) (v : Layout) : Type 0 where
  pub bang : List ℕ
  pub critical : Bool
  pub banged : Bang bang critical
  pub tail : List ℕ
  pub is : xs ≡ bang ++ tail
  pub from : ℕ
  pub from_is : from ≡ a + length bang
  pub named : NameRest ZoneText l from from tail v

-- at the first byte of a name
first_sound : (b : ℕ) (bs : List ℕ) (l : Layout) (a : ℕ) (v : Layout) → read_next a bs (cond (is_first_of_zone_name b) (Some (progress (Name a) l)) None) ≡ Ok v → NameRest ZoneText l a a (b ∷ bs) v
first_sound b bs l a v h = elim (way_taken a bs v (is_first_of_zone_name b) (Some (progress (Name a) l)) None h) [
  | inl u ↦ name_more b (λ y p. (first_of b u.0, p)) (name_sound bs l a (a + 1) v u.1)
  | inr u ↦ err_ok v a u.1
]

-- after the zone's `[!`
critical_zone : (xs : List ℕ) (l : Layout) (a : ℕ) (v : Layout) → read (progress (Zone true) l) a xs ≡ Ok v → NameRest ZoneText l a a xs v
critical_zone [] l a v h = err_ok v a h
critical_zone (b ∷ bs) l a v h = elim (way_taken a bs v (eqb b 33 && false) (Some (progress (Zone true) l)) _ h) [
  | inl w ↦ absurd (both_ways false refl (and_parts (eqb b 33) false w.0).1)
  | inr w ↦ first_sound b bs l a v w.1
]

-- after the zone's `[`
zone_sound : (xs : List ℕ) (l : Layout) (a : ℕ) (v : Layout) → read (progress (Zone false) l) a xs ≡ Ok v → ZoneRest l a xs v
zone_sound [] l a v h = err_ok v a h
zone_sound (b ∷ bs) l a v h = elim (way_taken a bs v (eqb b 33 && true) (Some (progress (Zone true) l)) _ h) [
  | inl w ↦ record {
    bang = 33 ∷ [];
    critical = true;
    banged = Bang.critical;
    tail = bs;
    is = ap (λ z. z ∷ bs) (eqb-true b 33 (and_parts (eqb b 33) true w.0).0);
    from = a + 1;
    from_is = omega arith;
    named = critical_zone bs l (a + 1) v w.1;
  }
  | inr w ↦ record { bang = []; critical = false; banged = Bang.plain; tail = b ∷ bs; is = refl; from = a; from_is = omega arith; named = first_sound b bs l a v w.1 }
]

-- at the byte that opens the zone
opened_sound : (b : ℕ) (bs : List ℕ) (l : Layout) (a : ℕ) (v : Layout) → read_next a bs (opened l b) ≡ Ok v → (b ≡ 91) × ZoneRest l (a + 1) bs v
opened_sound b bs l a v h = elim (way_taken a bs v (eqb b 91) (Some (progress (Zone false) l)) None h) [
  | inl w ↦ (eqb-true b 91 w.0, zone_sound bs l (a + 1) v w.1)
  | inr w ↦ err_ok v a w.1
]

-- what follows in a form, up to its end
pub record FormRest (f : Form) (k : ℕ) (l : Layout) (a : ℕ) (xs : List ℕ) (v : Layout) : Type 0 where
  pub text : List ℕ
  pub next : ℕ
  pub rest : List ℕ
  pub is : xs ≡ text ++ (next ∷ rest)
  pub fits : Fits (drop k (form_text f)) text
  pub at : ℕ
  pub at_is : at ≡ a + length text
  pub after : read_next at rest (after_form l f at next) ≡ Ok v

-- where the form is whole
form_end : (f : Form) (k : ℕ) (l : Layout) (a : ℕ) (xs : List ℕ) (v : Layout) → length (form_text f) ≤ k → read (progress (Fixed f k) l) a xs ≡ Ok v → FormRest f k l a xs v
form_end f k l a [] v g h = err_ok v a h
form_end f k l a (b ∷ bs) v g h =
    let e : leb (length (form_text f)) k ≡ true = le-leb (length (form_text f)) k g in
    record {
      text = [];
      next = b;
      rest = bs;
      is = refl;
      fits = rw (drop_all k (form_text f) g) tt;
      at = a;
      at_is = omega arith;
      after = subst (λ z. read_next a bs (cond z (after_form l f a b) (cond (stands (get_or (form_text f) k 0) b) (Some (progress (Fixed f (k + 1)) l)) None)) ≡ Ok v) e h;
    }

-- in a form, of which at most so many bytes are left
form_sound : (n : ℕ) (f : Form) (k : ℕ) (l : Layout) (a : ℕ) (xs : List ℕ) (v : Layout) → length (form_text f) ≤ k + n → read (progress (Fixed f k) l) a xs ≡ Ok v → FormRest f k l a xs v
form_sound zero f k l a xs v g h = form_end f k l a xs v (omega arith) h
form_sound (suc n) f k l a [] v g h = err_ok v a h
form_sound (suc n) f k l a (b ∷ bs) v g h = elim (cases_lt k (length (form_text f))) [
  | inr x ↦ form_end f k l a (b ∷ bs) v x h
  | inl x ↦
      let e : leb (length (form_text f)) k ≡ false = lt-leb (length (form_text f)) k x in
      let h : read_next a bs (cond (stands (get_or (form_text f) k 0) b) (Some (progress (Fixed f (k + 1)) l)) None) ≡ Ok v =
      subst (λ z. read_next a bs (cond z (after_form l f a b) (cond (stands (get_or (form_text f) k 0) b) (Some (progress (Fixed f (k + 1)) l)) None)) ≡ Ok v) e h in
      elim (way_taken a bs v (stands (get_or (form_text f) k 0) b) (Some (progress (Fixed f (k + 1)) l)) None h) [
        | inl w ↦
            let r = form_sound n f (k + 1) l (a + 1) bs v (omega arith) w.1 in
            record {
              text = b ∷ r.text;
              next = r.next;
              rest = r.rest;
              is = ap (λ z. b ∷ z) r.is;
              fits = subst (λ z. Fits z (b ∷ r.text)) (sym (drop_more (form_text f) k 0 x)) (w.0, r.fits);
              at = r.at;
              at_is = omega (arith, r.at_is);
              after = r.after;
            }
        | inr w ↦ err_ok v a w.1
      ]
]

-- what follows from the offset on
pub record OffsetRest (l : Layout) (a : ℕ) (xs : List ℕ) (v : Layout) : Type 0 where
  pub offset : List ℕ
  pub rest : List ℕ
  pub is : xs ≡ offset ++ (91 ∷ rest)
  pub said : Option Said
  pub text : OffsetText a offset said
  pub at : ℕ
  pub at_is : at ≡ a + (length offset + 1)
  pub zoned : ZoneRest (with_sign l a) at rest v

-- after `Z`
utc_sound : (xs : List ℕ) (l : Layout) (a : ℕ) (v : Layout) → read (progress Utc (with_sign l a)) (a + 1) xs ≡ Ok v → OffsetRest l a (90 ∷ xs) v
utc_sound [] l a v h = err_ok v (a + 1) h
utc_sound (b ∷ bs) l a v h =
    let z = opened_sound b bs (with_sign l a) (a + 1) v h in
    record { offset = 90 ∷ []; rest = bs; is = ap (λ c. 90 ∷ (c ∷ bs)) z.0; said = None; text = OffsetText.utc; at = (a + 1) + 1; at_is = omega arith; zoned = z.1 }

-- the pieces of an offset with seconds, put together
with_seconds : (x xs y ys rest : List ℕ) (b c : ℕ) → xs ≡ x ++ (b ∷ ys) → b ≡ 58 → ys ≡ y ++ (c ∷ rest) → c ≡ 91 → xs ≡ (x ++ (58 ∷ y)) ++ (91 ∷ rest)
with_seconds x xs y ys rest b c p q r s =
    p ∙ (ap (λ z. x ++ (z ∷ ys)) q ∙ (ap (λ (z : List ℕ). x ++ (58 ∷ z)) (r ∙ ap (λ z. y ++ (z ∷ rest)) s) ∙ sym (append_assoc x (58 ∷ y) (91 ∷ rest))))

-- after a sign
offset_sound : (c : ℕ) (xs : List ℕ) (l : Layout) (a : ℕ) (v : Layout) → (eqb c 43 || eqb c 45) ≡ true → read (progress (Fixed Offset 0) (with_sign l a)) (a + 1) xs ≡ Ok v → OffsetRest l a (c ∷ xs) v
offset_sound c xs l a v g h =
    let r = form_sound 5 Offset 0 (with_sign l a) (a + 1) xs v (omega arith) h in
    elim (way_taken r.at r.rest v (eqb r.next 58) (Some (progress (Fixed Seconds 0) (with_sign l a))) _ r.after) [
      | inl w ↦
          let s = form_sound 2 Seconds 0 (with_sign l a) (r.at + 1) r.rest v (omega arith) w.1 in
          let z = opened_sound s.next s.rest (with_sign l a) s.at v s.after in
          let o = seconds_of a c r.text s.text g r.fits s.fits in
          record {
            offset = c ∷ (r.text ++ (58 ∷ s.text));
            rest = s.rest;
            is = ap (λ z. c ∷ z) (with_seconds r.text xs s.text r.rest s.rest r.next s.next r.is (eqb-true r.next 58 w.0) s.is z.0);
            said = o.0;
            text = o.1;
            at = s.at + 1;
            at_is = let n : length (r.text ++ (58 ∷ s.text)) ≡ length r.text + (length s.text + 1) = simp length-append (omega arith) in omega (arith, n, r.at_is, s.at_is);
            zoned = z.1;
          }
      | inr w ↦
          let z = opened_sound r.next r.rest (with_sign l a) r.at v w.1 in
          let o = minutes_of a c r.text g r.fits in
          record {
            offset = c ∷ r.text;
            rest = r.rest;
            is = ap (λ z. c ∷ z) (r.is ∙ ap (λ z. r.text ++ (z ∷ r.rest)) z.0);
            said = o.0;
            text = o.1;
            at = r.at + 1;
            at_is = omega (arith, r.at_is);
            zoned = z.1;
          }
    ]

-- at the first byte of the offset
signed_sound : (b : ℕ) (bs : List ℕ) (l : Layout) (a : ℕ) (v : Layout) → read_next a bs (signed l a b) ≡ Ok v → OffsetRest l a (b ∷ bs) v
signed_sound b bs l a v h = elim (way_taken a bs v (eqb b 90) (Some (progress Utc (with_sign l a))) _ h) [
  | inl w ↦ subst (λ z. OffsetRest l a (z ∷ bs) v) (sym (eqb-true b 90 w.0)) (utc_sound bs l a v w.1)
  | inr w ↦ elim (way_taken a bs v (eqb b 43 || eqb b 45) (Some (progress (Fixed Offset 0) (with_sign l a))) None w.1) [
    | inl u ↦ offset_sound b bs l a v u.0 u.1
    | inr u ↦ err_ok v a u.1
  ]
]

-- what follows after a point and k digits
pub record FractionRest (k : ℕ) (l : Layout) (a : ℕ) (xs : List ℕ) (v : Layout) : Type 0 where
  pub digits : List ℕ
  pub rest : List ℕ
  pub is : xs ≡ digits ++ rest
  pub each : AllDigits digits
  pub some : 0 < k + length digits
  pub few : k + length digits ≤ 6
  pub at : ℕ
  pub at_is : at ≡ a + length digits
  pub signs : OffsetRest l at rest v

-- in a fraction
fraction_sound : (xs : List ℕ) (k : ℕ) (l : Layout) (a : ℕ) (v : Layout) → k ≤ 6 → read (progress (Fraction k) l) a xs ≡ Ok v → FractionRest k l a xs v
fraction_sound [] k l a v g h = err_ok v a h
fraction_sound (b ∷ bs) k l a v g h = elim (way_taken a bs v (is_digit b) _ _ h) [
  | inl w ↦ elim (way_taken a bs v (ltb k 6) (Some (progress (Fraction (k + 1)) l)) None w.1) [
    | inl u ↦
        let n = ltb-true k 6 u.0 in
        let r = fraction_sound bs (k + 1) l (a + 1) v (omega arith) u.1 in
        record {
          digits = b ∷ r.digits;
          rest = r.rest;
          is = ap (λ z. b ∷ z) r.is;
          each = let d = between 48 57 b w.0 in (d.0, d.1, r.each);
          some = omega arith;
          few = omega (arith, r.few);
          at = r.at;
          at_is = omega (arith, r.at_is);
          signs = r.signs;
        }
    | inr u ↦ err_ok v a u.1
  ]
  | inr w ↦ elim (way_taken a bs v (ltb 0 k) (signed l a b) None w.1) [
    | inl u ↦ record {
      digits = [];
      rest = b ∷ bs;
      is = refl;
      each = tt;
      some = omega (arith, ltb-true 0 k u.0);
      few = omega arith;
      at = a;
      at_is = omega arith;
      signs = signed_sound b bs l a v u.1;
    }
    | inr u ↦ err_ok v a u.1
  ]
]

-- all the pieces of a text, put together
from_offset : (t clock fraction xs : List ℕ) (micros at : ℕ) (v : Layout) → t ≡ clock ++ (fraction ++ xs) → Fits (codes "0000-00-00T00:00:00") clock → FractionText fraction micros → at ≡ 19 + length fraction
    → OffsetRest begun.seen at xs v → MarkText t v
from_offset t clock fraction xs micros at v e c f n o =
    let z = o.zoned in
    let m = z.named in
    let there : v.name ≡ record { from = z.from; to = m.to } = m.after.name in
    let sign : v.sign ≡ 19 + length fraction = m.after.sign ∙ n in
    let k = clock_of clock c in
    record {
      draft = clocked k micros o.said v.name v.tags;
      text = record {
        clock = clock;
        fraction = fraction;
        offset = o.offset;
        bang = z.bang;
        critical = z.critical;
        name = m.name;
        tags = m.rest;
        is = e ∙ (ap (λ (y : List ℕ). clock ++ (fraction ++ y)) (o.is ∙ (ap (λ (y : List ℕ). o.offset ++ (91 ∷ y)) (z.is ∙ ap (λ (y : List ℕ). z.bang ++ y) m.is))));
        clock_text = clocked_text k micros o.said v.name v.tags;
        fraction_text = f;
        offset_text = subst (λ p. OffsetText p o.offset o.said) n o.text;
        bang_text = z.banged;
        name_text = m.word;
        name_from = ap (λ (p : Part). p.from) there ∙ omega (arith, z.from_is, o.at_is, n);
        name_to = let p : v.name.to ≡ m.to = ap (λ (p : Part). p.to) there in let q : v.name.from ≡ z.from = ap (λ (p : Part). p.from) there in omega (arith, p, q, m.to_is);
        each = m.after.each;
        tags_text = subst (λ (p : Part). TagList (p.to + 1) m.rest m.after.each) (sym there) m.after.tags;
        tags_told = m.after.come ∙ noted_is m.after.each;
      };
      places = ap (λ (p : ℕ). with_sign v p) sign;
    }

-- what is read from the beginning is a mark text
pub sound : (t : List ℕ) (v : Layout) → read begun 0 t ≡ Ok v → MarkText t v
sound t v h =
    let r = form_sound 19 Clock 0 begun.seen 0 t v (omega arith) h in
    let n : length r.text ≡ 19 = fits_length (form_text Clock) r.text r.fits in
    elim (way_taken r.at r.rest v (eqb r.next 46) (Some (progress (Fraction 0) begun.seen)) _ r.after) [
      | inl w ↦
          let f = fraction_sound r.rest 0 begun.seen (r.at + 1) v (omega arith) w.1 in
          from_offset t r.text (46 ∷ f.digits) f.rest (micros_of f.digits) f.at v (r.is ∙ (ap (λ z. r.text ++ (z ∷ r.rest)) (eqb-true r.next 46 w.0) ∙ ap (λ (z : List ℕ). r.text ++ (46 ∷ z)) f.is)) r.fits
          (FractionText.some (record { all = f.each; some = omega (arith, f.some); few = omega (arith, f.few) })) (omega (arith, f.at_is, r.at_is, n)) f.signs
      | inr w ↦ from_offset t r.text [] (r.next ∷ r.rest) 0 r.at v r.is r.fits FractionText.none (omega (arith, r.at_is, n)) (signed_sound r.next r.rest begun.seen r.at v w.1)
    ]
