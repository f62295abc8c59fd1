-- Calls, one after another.
use Rattle.std.proofs.Common.{◌≡◌, ℕ, ◌+◌, ◌≤◌, Bool, true, false, cond, List, [], ◌∷◌, length, drop, is_ok, Ok, Err, Result, sym, refl, ap, ◌∙◌, subst, arith}
use Rattle.std.proofs.lemmas.List.{drop_all}
use Rattle.timebase.specs.declared.fault.Fault.{Fault}
use Rattle.local_times.specs.Chains.{◌>>=◌}
use Rattle.board_law.specs.Boards.{Sources, State, Call, after, or_same, made, run, accepted}
use Rattle.board_law.specs.Texts.{Overwrote, AllWrote}
use Rattle.board_law.specs.Texts.AllWrote.{none, one_more}
use Rattle.planboard.specs.declared.call.Call.{Call as Given}
use Rattle.planboard.specs.Coded.{call_of, calls_of}

-- what alters nothing leaves the state
pub same_left : {A : Type 0} (r : Result A Fault) (st : State) → st ≡ or_same st (r >>= λ _. Ok st)
same_left (Ok a) st = refl
same_left (Err e) st = refl

module _ (src : Sources) where
  -- so many calls of a list are made, and what is left leads from here to where all lead from the start
  pub record Going (start : State) (first : List ℕ) (calls : List Given) (st : State) (out : List ℕ) (index n : ℕ) : Type 0 where
    pub count : n + accepted src st (calls_of (length first) (drop index calls)) ≡ accepted src start (calls_of (length first) calls)
    pub state : run src st (calls_of (length first) (drop index calls)) ≡ run src start (calls_of (length first) calls)
    pub buffer : (end : List ℕ) → AllWrote src st (calls_of (length first) (drop index calls)) out end → AllWrote src start (calls_of (length first) calls) first end
    pub size : length out ≡ length first
    pub few : n ≤ index

  pub going_first : (start : State) (first : List ℕ) (calls : List Given) → Going start first calls start first 0 0
  going_first start first calls = record { count = omega arith; state = refl; buffer = λ end w. w; size = refl; few = omega arith }

  -- what one call does
  pub record Turn (st : State) (call : Given) (out out' : List ℕ) (ok : Bool) (next : State) : Type 0 where
    pub answer : ok ≡ is_ok (after src st (call_of (length out) call))
    pub state : next ≡ made src st (call_of (length out) call)
    pub buffer : Overwrote src st (call_of (length out) call) out out'

  pub going_on : {start st : State} {first out : List ℕ} {calls : List Given} {index n : ℕ} {call : Given} {next : State} {out' : List ℕ} {ok : Bool} (m : ℕ)
      → Going start first calls st out index n → drop index calls ≡ call ∷ drop (index + 1) calls
      → Turn st call out out' ok next → length out' ≡ length out → m ≡ n + cond ok 1 0 → Going start first calls next out' (index + 1) m
  unfolding run accepted
  going_on {start} {st} {first} {out} {calls} {index} {n} {call} {next} {out'} {ok} m g left turn size more =
      let f = call_of (length first) call in
      let rest = calls_of (length first) (drop (index + 1) calls) in
      let all : calls_of (length first) (drop index calls) ≡ f ∷ rest = ap (calls_of (length first)) left in
      let told : ok ≡ is_ok (after src st f) = subst (λ (k : ℕ). ok ≡ is_ok (after src st (call_of k call))) g.size turn.answer in
      let to : next ≡ made src st f = subst (λ (k : ℕ). next ≡ made src st (call_of k call)) g.size turn.state in
      let wrote : Overwrote src st f out out' = subst (λ (k : ℕ). Overwrote src st (call_of k call) out out') g.size turn.buffer in
      let one : ◌≡◌ {A = ℕ} (cond ok 1 0) (cond (is_ok (after src st f)) 1 0) = ap (λ (b : Bool). cond b 1 0) told in
      let step : accepted src st (calls_of (length first) (drop index calls)) ≡ cond (is_ok (after src st f)) 1 0 + accepted src next rest =
      ap (accepted src st) all ∙ ap (λ (s : State). cond (is_ok (after src st f)) 1 0 + accepted src s rest) (sym to) in
      record {
        count = omega (arith, g.count, step, one, more);
        state = ap (λ (s : State). run src s rest) to ∙ sym (ap (run src st) all) ∙ g.state;
        buffer = λ end v. g.buffer end
            (subst (λ (cs : List Call). AllWrote src st cs out end) (sym all) (one_more st f rest out out' end wrote (subst (λ (s : State). AllWrote src s rest out' end) to v)));
        size = size ∙ g.size;
        few = let c : cond ok 1 0 ≤ 1 = at_most ok in omega (arith, g.few, more, c);
      }
    where
      at_most : (b : Bool) → cond b 1 0 ≤ 1
      at_most true = omega arith
      at_most false = omega arith

  pub record Done (start : State) (first : List ℕ) (calls : List Given) (st : State) (out : List ℕ) (n : ℕ) : Type 0 where
    pub count : n ≡ accepted src start (calls_of (length first) calls)
    pub state : st ≡ run src start (calls_of (length first) calls)
    pub buffer : AllWrote src start (calls_of (length first) calls) first out

  pub going_end : {start st : State} {first out : List ℕ} {calls : List Given} {index n : ℕ} → Going start first calls st out index n → length calls ≤ index → Done start first calls st out n
  unfolding run accepted
  going_end {start} {st} {first} {out} {calls} {index} {n} g end =
      let nothing : drop index calls ≡ [] = drop_all index calls end in
      record {
        count = let z : accepted src st (calls_of (length first) (drop index calls)) ≡ 0 = ap (λ (cs : List Given). accepted src st (calls_of (length first) cs)) nothing in omega (arith, g.count, z);
        state = sym (ap (λ (cs : List Given). run src st (calls_of (length first) cs)) nothing) ∙ g.state;
        buffer = g.buffer out (subst (λ (cs : List Given). AllWrote src st (calls_of (length first) cs) out out) (sym nothing) (none st out));
      }

-- over sources that stay
pub turn_over : {src src' : Sources} {st : State} {call : Given} {out out' : List ℕ} {ok : Bool} {next : State} → src' ≡ src → Turn src' st call out out' ok next → Turn src st call out out' ok next
turn_over {src} {src'} {st} {call} {out} {out'} {ok} {next} same turn = subst (λ (s : Sources). Turn s st call out out' ok next) same turn
