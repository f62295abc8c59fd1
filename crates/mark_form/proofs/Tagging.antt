-- What tags come to that are noted one after another.
use Rattle.std.proofs.Common.{◌≡◌, ℕ, Bool, true, false, cond, ◌||◌, List, [], ◌∷◌, ◌++◌, Some, None, Option, sym, refl, ap, ◌∙◌, append_assoc, append-nil}
use Rattle.std.specs.Option.{option_or}
use Rattle.mark_form.specs.declared.layout.Part.{Part}
use Rattle.mark_form.specs.declared.layout.Tag.{Tag}
use Rattle.mark_form.specs.declared.layout.Tags.{Tags}
use Rattle.mark_form.specs.TagLaws.{TagAt, is_calendar, first_calendar, first_offending, bracket_of, value_of, is_critical, tags_of}
use Rattle.mark_form.specs.Tags.{no_tags, noted}

-- a listed tag as the steps see it
abbrev pub plain : TagAt → Tag
plain t = record { bracket = t.bracket; critical = t.critical; is_calendar = is_calendar t }

-- what tags come to with more of them, noted one after another
abbrev pub noted_all : Tags → List TagAt → Tags
noted_all g [] = g
noted_all g (t ∷ ts) = noted_all (noted g (plain t) t.value) ts

-- what tags come to, by the parts of it
abbrev sums : Option ℕ → Option Part → Bool → Tags
sums r c m = record { refused = r; calendar = c; critical = m }

-- a tag, by its `[`, whether it is critical and whether it names a calendar
abbrev tag_of : ℕ → Bool → Bool → Tag
tag_of b c u = record { bracket = b; critical = c; is_calendar = u }

-- the first `u-ca` with one tag more
abbrev pushed : Option TagAt → TagAt → Option TagAt
pushed None t = cond (is_calendar t) (Some t) None
pushed (Some f) t = Some f

-- the first `u-ca` of a list with one tag more at its end
first_push : (before : List TagAt) (t : TagAt) → first_calendar (before ++ (t ∷ [])) ≡ pushed (first_calendar before) t
first_push [] t = refl
first_push (x ∷ xs) t = by (is_calendar x) (first_push xs t)
  where
    by : (c : Bool) → first_calendar (xs ++ (t ∷ [])) ≡ pushed (first_calendar xs) t → cond c (Some x) (first_calendar (xs ++ (t ∷ []))) ≡ pushed (cond c (Some x) (first_calendar xs)) t
    by true h = refl
    by false h = h

-- ── what one tag more alters ──

-- the value of the first `u-ca`
calendar_noted : (r : Option ℕ) (o : Option TagAt) (m : Bool) (b : ℕ) (c u : Bool) (p : Part)
    → (noted (sums r (value_of o) m) (tag_of b c u) p).calendar ≡ elim o [ None ↦ cond u (Some p) None | Some f ↦ Some f.value ]
calendar_noted r None m b c true p = refl
calendar_noted r None m b true false p = refl
calendar_noted r None m b false false p = refl
calendar_noted r (Some f) m b true u p = refl
calendar_noted r (Some f) true b false true p = refl
calendar_noted r (Some f) false b false true p = refl
calendar_noted r (Some f) m b false false p = refl

-- whether the first `u-ca` is critical
critical_noted : (r : Option ℕ) (o : Option TagAt) (m : Bool) (b : ℕ) (c u : Bool) (p : Part)
    → (noted (sums r (value_of o) m) (tag_of b c u) p).critical ≡ elim o [ None ↦ cond u c m | Some f ↦ m ]
critical_noted r None m b c true p = refl
critical_noted r None m b true false p = refl
critical_noted r None m b false false p = refl
critical_noted r (Some f) m b true u p = refl
critical_noted r (Some f) true b false true p = refl
critical_noted r (Some f) false b false true p = refl
critical_noted r (Some f) m b false false p = refl

-- whether a tag offends, after the first `u-ca`
abbrev bad : Option TagAt → Bool → Bool → Bool
bad o c u = cond u (elim o [ None ↦ false | Some f ↦ c || f.critical ]) c

-- the first refused tag
refused_noted : (r : Option ℕ) (o : Option TagAt) (b : ℕ) (c u : Bool) (p : Part)
    → (noted (sums r (value_of o) (is_critical o)) (tag_of b c u) p).refused ≡ option_or r (cond (bad o c u) (Some b) None)
refused_noted None None b c true p = refl
refused_noted (Some n) None b c true p = refl
refused_noted None None b true false p = refl
refused_noted (Some n) None b true false p = refl
refused_noted None None b false false p = refl
refused_noted (Some n) None b false false p = refl
refused_noted None (Some f) b true true p = refl
refused_noted (Some n) (Some f) b true true p = refl
refused_noted None (Some f) b true false p = refl
refused_noted (Some n) (Some f) b true false p = refl
refused_noted None (Some f) b false true p = by f.critical
  where
    by : (m : Bool) → (noted (sums None (Some f.value) m) (tag_of b false true) p).refused ≡ cond m (Some b) None
    by true = refl
    by false = refl
refused_noted (Some n) (Some f) b false true p = by f.critical
  where
    by : (m : Bool) → (noted (sums (Some n) (Some f.value) m) (tag_of b false true) p).refused ≡ Some n
    by true = refl
    by false = refl
refused_noted None (Some f) b false false p = refl
refused_noted (Some n) (Some f) b false false p = refl

-- what tags come to tells the first `u-ca` of a list of them
record Tracks (before : List TagAt) (g : Tags) : Type 0 where
  pub cal : g.calendar ≡ value_of (first_calendar before)
  pub crit : g.critical ≡ is_critical (first_calendar before)

-- so they are what the list says, but for the refused one
as_tracked : (before : List TagAt) (g : Tags) → Tracks before g → g ≡ sums g.refused (value_of (first_calendar before)) (is_critical (first_calendar before))
as_tracked before g h = ap (λ c. sums g.refused c g.critical) h.cal ∙ ap (λ m. sums g.refused (value_of (first_calendar before)) m) h.crit

-- the value of the first `u-ca`, with one tag more
value_pushed : (o : Option TagAt) (t : TagAt) → elim o as (λ _. Option Part) [ None ↦ cond (is_calendar t) (Some t.value) None | Some f ↦ Some f.value ] ≡ value_of (pushed o t)
value_pushed None t = by (is_calendar t)
  where
    by : (u : Bool) → cond u (Some t.value) None ≡ value_of (cond u (Some t) None)
    by true = refl
    by false = refl
value_pushed (Some f) t = refl

-- whether it is critical, with one tag more
crit_pushed : (o : Option TagAt) (t : TagAt) → elim o as (λ _. Bool) [ None ↦ cond (is_calendar t) t.critical (is_critical o) | Some f ↦ is_critical o ] ≡ is_critical (pushed o t)
crit_pushed None t = by (is_calendar t)
  where
    by : (u : Bool) → cond u t.critical false ≡ is_critical (cond u (Some t) None)
    by true = refl
    by false = refl
crit_pushed (Some f) t = refl

-- one tag more keeps it so
tracks_more : (before : List TagAt) (g : Tags) (t : TagAt) → Tracks before g → Tracks (before ++ (t ∷ [])) (noted g (plain t) t.value)
tracks_more before g t h =
    let o = first_calendar before in
    let e = as_tracked before g h in
    record {
      cal = ap (λ z. (noted z (plain t) t.value).calendar) e ∙ (calendar_noted g.refused o (is_critical o) t.bracket t.critical (is_calendar t) t.value ∙ (value_pushed o t ∙ ap value_of (sym (first_push before t))));
      crit = ap (λ z. (noted z (plain t) t.value).critical) e ∙ (critical_noted g.refused o (is_critical o) t.bracket t.critical (is_calendar t) t.value ∙ (crit_pushed o t ∙ ap is_critical (sym (first_push before t))));
    }

-- what tags come to that follow others
record Summed (before : List TagAt) (g : Tags) (ts : List TagAt) : Type 0 where
  pub cal : (noted_all g ts).calendar ≡ value_of (first_calendar (before ++ ts))
  pub crit : (noted_all g ts).critical ≡ is_critical (first_calendar (before ++ ts))
  pub ref : (noted_all g ts).refused ≡ option_or g.refused (bracket_of (first_offending before ts))

-- nothing more is refused
or_none : (r : Option ℕ) → r ≡ option_or r None
or_none None = refl
or_none (Some n) = refl

-- the first refused tag, with one tag more in front
or_tag : (r : Option ℕ) (c : Bool) (t : TagAt) (z : Option TagAt) → option_or (option_or r (cond c (Some t.bracket) None)) (bracket_of z) ≡ option_or r (bracket_of (cond c (Some t) z))
or_tag None true t z = refl
or_tag None false t z = refl
or_tag (Some n) c t z = refl

-- tag by tag
summed : (before : List TagAt) (g : Tags) (ts : List TagAt) → Tracks before g → Summed before g ts
summed before g [] k = record { cal = k.cal ∙ ap (λ z. value_of (first_calendar z)) (sym (append-nil before)); crit = k.crit ∙ ap (λ z. is_critical (first_calendar z)) (sym (append-nil before)); ref = or_none g.refused }
summed before g (t ∷ ts) s =
    let o = first_calendar before in
    let n = summed (before ++ (t ∷ [])) (noted g (plain t) t.value) ts (tracks_more before g t s) in
    let refused : (noted g (plain t) t.value).refused ≡ option_or g.refused (cond (bad o t.critical (is_calendar t)) (Some t.bracket) None) =
    ap (λ z. (noted z (plain t) t.value).refused) (as_tracked before g s) ∙ refused_noted g.refused o t.bracket t.critical (is_calendar t) t.value in
    record {
      cal = n.cal ∙ ap (λ z. value_of (first_calendar z)) (append_assoc before (t ∷ []) ts);
      crit = n.crit ∙ ap (λ z. is_critical (first_calendar z)) (append_assoc before (t ∷ []) ts);
      ref = n.ref ∙ (ap (λ z. option_or z (bracket_of (first_offending (before ++ (t ∷ [])) ts))) refused ∙ or_tag g.refused (bad o t.critical (is_calendar t)) t (first_offending (before ++ (t ∷ [])) ts));
    }

-- noting all of them gives what they come to
pub noted_is : (ts : List TagAt) → noted_all no_tags ts ≡ tags_of ts
noted_is ts =
    let g = noted_all no_tags ts in
    let n = summed [] no_tags ts (record { cal = refl; crit = refl }) in
    ap (λ r. sums r g.calendar g.critical) n.ref ∙ (ap (λ c. sums (tags_of ts).refused c g.critical) n.cal ∙ ap (λ m. sums (tags_of ts).refused (tags_of ts).calendar m) n.crit)
