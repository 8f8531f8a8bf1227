-- A component record that is read is sound. What carries it: the state count is read before any probability, so that each later bit is
-- judged against the count that stays.
use Prim.Native.Nat.{ℕ, ◌+◌, ◌^◌, ◌<◌}
use mathlib.Core.Path.{◌≡◌, refl}
use mathlib.Core.Bool.{Bool, true, false, cond}
use native.Mathlib.Omega.{arith}
use lib.Dec.{eqb}
use borrow.Author.Tests.{eqb-true}
use Rattle.rules.specs.Breach.{unless_absent, refuse, outside}
use Rattle.rules.specs.Limits.{component_maps}
use Rattle.rules.specs.Table.{states_fault, no_state_fault, sum_fault}
use Rattle.rules.proofs.Kept.{absent_none, unless-none}
use Rattle.reading.specs.Reader.{byte, word}
use Rattle.reading.proofs.Held.{Gives, gives-any, gives_then, gives-judge, gives-judged, gives-return, gives-cond, gives-fields}
use Rattle.component_record.specs.Component.{with_states, state_count, probability, component_field, component}
use Rattle.study.specs.declared.Component.{Component}
use Rattle.study.specs.Absent.{absent_component}
use Rattle.soundness.specs.Sound.{SoundComponent}

-- the rules but that of the sum
record RulesKept (c : Component) : Type 0 where
  states : states_fault c.states ≡ 0
  state1 : unless_absent 0 c.p1 (no_state_fault c.states 1) ≡ 0
  state2 : unless_absent 0 c.p2 (no_state_fault c.states 2) ≡ 0
  state3 : unless_absent 0 c.p3 (no_state_fault c.states 3) ≡ 0

record NoneGiven (c : Component) : Type 0 where
  p1 : c.p1 ≡ 0
  p2 : c.p2 ≡ 0
  p3 : c.p3 ≡ 0

-- The fields below bit k are read: the rules are kept, and before bit 0 no probability is given.
record SoFar (k : ℕ) (c : Component) : Type 0 where
  rules : RulesKept c
  none : k ≡ 0 → NoneGiven c

start : SoFar 0 absent_component
unfolding unless_absent refuse outside
start =
    record {
      rules = record { states = refl; state1 = refl; state2 = refl; state3 = refl };
      none = λ e. record { p1 = refl; p2 = refl; p3 = refl };
    }

-- behind bit 0 the rules are enough
behind : (k : ℕ) {c : Component} → RulesKept c → SoFar (k + 1) c
behind k r = record { rules = r; none = λ e. absurd (omega arith) }

-- the rule of a state whose probability is 0
unread : (p breach : ℕ) → p ≡ 0 → unless_absent 0 p breach ≡ 0
unread p breach e = rw e (absent_none 0 breach)

states-sound : (c : Component) → SoFar 0 c → Gives (state_count c) (SoFar 1)
unfolding state_count
states-sound c s =
    let none = s.none refl in
    gives-judged byte states_fault (λ n. with_states n c)
    (λ n kept.
    behind 0
    (record {
      states = kept;
      state1 = unread c.p1 _ none.p1;
      state2 = unread c.p2 _ none.p2;
      state3 = unread c.p3 _ none.p3;
    }))

-- the probability of state n is the one just read, or stays
chosen : (states k n p old : ℕ) → no_state_fault states k ≡ 0 → unless_absent 0 old (no_state_fault states n) ≡ 0
    → unless_absent 0 (cond (eqb k n) p old) (no_state_fault states n) ≡ 0
chosen states k n p old judged was = go (eqb k n) refl
  where
    go : (b : Bool) → eqb k n ≡ b → unless_absent 0 (cond b p old) (no_state_fault states n) ≡ 0
    go true e = unless-none 0 p (no_state_fault states n) (rw (eqb-true k n e) at judged)
    go false e = was

probability-sound : (k : ℕ) (c : Component) → SoFar k c → Gives (probability k c) (SoFar (k + 1))
unfolding probability
probability-sound k c s =
    let was = s.rules in
    gives-judge (no_state_fault c.states k)
    (λ judged.
    gives_then (gives-any word)
    (λ p u.
    gives-return
    (behind k
    (record {
      states = was.states;
      state1 = chosen c.states k 1 p c.p1 judged was.state1;
      state2 = chosen c.states k 2 p c.p2 judged was.state2;
      state3 = chosen c.states k 3 p c.p3 judged was.state3;
    }))))

field-sound : (k : ℕ) (c : Component) → 2 ^ k < component_maps → SoFar k c → Gives (component_field k c) (SoFar (k + 1))
unfolding component_field
field-sound k c meant s =
    gives-cond (eqb k 0) (λ e. rw (eqb-true k 0 e) (states-sound c (rw (eqb-true k 0 e) at s))) (λ e. probability-sound k c s)

pub component-sound : Gives component SoundComponent
unfolding component
component-sound =
    gives_then (gives-fields SoFar component_maps component_field absent_component start field-sound (λ k c s. behind k s.rules))
    (λ c s.
    let kept = s.rules in
    gives-judge (sum_fault c.p1 c.p2 c.p3)
    (λ sum.
    gives-return (record { states = kept.states; state1 = kept.state1; state2 = kept.state2; state3 = kept.state3; sum = sum })))
