-- What each row of the refusal table tells where it is kept, in terms of the numbers that it judges.
use Prim.Native.Nat.{ℕ, suc, ◌+◌, ◌/◌, ◌^◌, ◌<◌, ◌≤◌}
use mathlib.Core.Path.{◌≡◌, refl}
use mathlib.Core.Bool.{Bool, true, false, not, ◌||◌, true≢false}
use mathlib.Core.Logic.{⊎_elim}
use native.Mathlib.Nat.{pos_of_ne-zero}
use native.Mathlib.Omega.{arith}
use lib.Dec.{leb, ltb, eqb}
use borrow.Author.Tests.{leb-false, ltb-false, le-leb, lt-leb, le-ltb, eqb-false, not-false}
use Rattle.units.specs.One.{one}
use Rattle.rules.specs.Breach.{refuse}
use Rattle.rules.specs.Limits.{fewest_states, most_states, most_joint_states, farthest}
use Rattle.rules.specs.Table.{count_fault, states_fault, lacked_state_fault, sum_fault, width_fault, no_state_fault, inputs_fault, input_count_fault}
use Rattle.rules.specs.Table.{no_component_fault, ahead_fault, unsound_fault, unused_fault, item_fault, size_fault, room_fault, customers_fault}
use Rattle.rules.specs.Table.{node_fault, leaf_fault, far_fault}
use Rattle.rules.proofs.Kept.{Within, refuse-kept, range-kept, unless-kept}

-- a row that judges by `<`, and one that judges by `≤`
below-kept : (row a b : ℕ) → refuse (suc row) (ltb a b) ≡ 0 → b ≤ a
below-kept row a b e = ltb-false a b (refuse-kept row (ltb a b) e)

above_kept : (row a b : ℕ) → refuse (suc row) (leb a b) ≡ 0 → b < a
above_kept row a b e = leb-false a b (refuse-kept row (leb a b) e)

pub count_kept : (most n : ℕ) → count_fault most n ≡ 0 → Within 1 most n
count_kept = range-kept 1 1

pub states-kept : (states : ℕ) → states_fault states ≡ 0 → Within fewest_states most_states states
states-kept = range-kept 3 fewest_states most_states

-- a state that the component lacks has probability 0
pub lacked-kept : (states state p : ℕ) → lacked_state_fault states state p ≡ 0 → states ≤ state → p ≡ 0
lacked-kept states state p e lacks =
    ⊎_elim (λ (none : p ≡ 0). none) (λ (kept : no_state_fault states state ≡ 0). absurd (omega (arith, above_kept 4 states state kept)))
    (unless-kept 0 p (no_state_fault states state) e)

pub sum_kept : (p1 p2 p3 : ℕ) → sum_fault p1 p2 p3 ≡ 0 → p1 + p2 + p3 ≤ one
sum_kept p1 p2 p3 = below-kept 5 one (p1 + p2 + p3)

pub width-kept : (joint_states : ℕ) → width_fault joint_states ≡ 0 → joint_states ≤ most_joint_states
width-kept = below-kept 6 most_joint_states

pub width-none : (joint_states : ℕ) → joint_states ≤ most_joint_states → width_fault joint_states ≡ 0
unfolding refuse
width-none joint_states h = rw (le-ltb most_joint_states joint_states h)

-- a gate has no more inputs of a kind than there are places
pub input-count-kept : (most n : ℕ) → input_count_fault most n ≡ 0 → n ≤ most
input-count-kept most n e =
    ⊎_elim (λ (none : n ≡ 0). omega arith) (λ (kept : inputs_fault most n ≡ 0). (range-kept 7 1 most n kept).most)
    (unless-kept 0 n (inputs_fault most n) e)

pub component-kept : (components component : ℕ) → no_component_fault components component ≡ 0 → component < components
component-kept = above_kept 8

pub ahead-kept : (gate input : ℕ) → ahead_fault gate input ≡ 0 → input < gate
ahead-kept = above_kept 10

pub sound-kept : (sound : Bool) → unsound_fault sound ≡ 0 → sound ≡ true
sound-kept sound e = not-false sound (refuse-kept 15 (not sound) e)

-- a place that no record uses holds 0
pub record Unused (a b c d : ℕ) : Type 0 where
  pub field1 : a ≡ 0
  pub field2 : b ≡ 0
  pub field3 : c ≡ 0
  pub field4 : d ≡ 0

pub unused-fields : (a b c d : ℕ) → unused_fault a b c d ≡ 0 → Unused a b c d
unused-fields a b c d e =
    let sum = below-kept 15 0 (a + b + c + d) e in
    record { field1 = omega arith; field2 = omega arith; field3 = omega arith; field4 = omega arith }

pub unused-none : (a b c d : ℕ) → a ≡ 0 → b ≡ 0 → c ≡ 0 → d ≡ 0 → unused_fault a b c d ≡ 0
unfolding refuse
unused-none a b c d e1 e2 e3 e4 = rw (e1, e2, e3, e4)

pub item-kept : (count item : ℕ) → item_fault count item ≡ 0 → item < count
item-kept = above_kept 16

pub item-none : (count item : ℕ) → item < count → item_fault count item ≡ 0
unfolding refuse
item-none count item h = rw (lt-leb count item h)

pub item-missing : (count item : ℕ) → count ≤ item → item_fault count item ≡ 17
unfolding refuse
item-missing count item h = rw (le-leb count item h)

pub size-kept : (most n : ℕ) → size_fault most n ≡ 0 → n ≤ most
size-kept = below-kept 13

pub room-kept : (need room : ℕ) → room_fault need room ≡ 0 → need ≤ room
room-kept need room = below-kept 17 room need

pub room-none : (need room : ℕ) → need ≤ room → room_fault need room ≡ 0
unfolding refuse
room-none need room h = rw (le-ltb room need h)

pub customers-kept : (sum : ℕ) → customers_fault sum ≡ 0 → 0 < sum
customers-kept sum e = pos_of_ne-zero (eqb-false sum 0 (refuse-kept 18 (eqb sum 0) e))

-- a node asks a component of the study that is not asked above
pub record NodeKept (components component : ℕ) (asked : Bool) : Type 0 where
  pub inside : component < components
  pub not_above : asked ≡ false

pub node_kept : (components component : ℕ) (asked : Bool) → node_fault components component asked ≡ 0 → NodeKept components component asked
node_kept components component asked e = go (leb components component) refl (refuse-kept 19 (leb components component || asked) e)
  where
    go : (b : Bool) → leb components component ≡ b → b || asked ≡ false → NodeKept components component asked
    go true outside neither = absurd (true≢false neither)
    go false outside neither = record { inside = leb-false components component outside; not_above = neither }

pub leaf-kept : (loads class : ℕ) → leaf_fault loads class ≡ 0 → class / 2 ^ loads ≡ 0
leaf-kept loads class e = let none = below-kept 21 0 (class / 2 ^ loads) e in omega arith

pub far-kept : (exponent : ℕ) → far_fault exponent ≡ 0 → exponent ≤ farthest
far-kept = below-kept 22 farthest
