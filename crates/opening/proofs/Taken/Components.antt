-- The components of a study take at most 84 bytes. What carries it: each takes no more than its state count allows, and that weighs against the joint
-- states (`Weighs`).
use Prim.Native.Nat.{ℕ, ◌+◌, ◌*◌, ◌<◌, ◌≤◌}
use mathlib.Core.Path.{◌≡◌, refl, ◌∙◌}
use mathlib.Core.List.{List}
use native.Mathlib.Omega.{arith}
use lib.ListN.{length, take, length-set}
use Rattle.lists.specs.Product.{product}
use Rattle.rules.specs.Limits.{most_components, most_joint_states}
use Rattle.rules.specs.Table.{width_fault}
use Rattle.rules.proofs.Rows.{width-kept}
use Rattle.rules.proofs.Weights.{Weighs, weighs-none, weighs-more, weighs-few}
use Rattle.reading.specs.Reader.{repeat}
use Rattle.reading.proofs.Ends.{Ends, ends-then, ends_return, ends-weaker, ends-repeat}
use Rattle.reading.proofs.Takes.{Refusal, judges, ends-row}
use Rattle.study.specs.declared.Component.{Component}
use Rattle.study.specs.Joint.{states}
use Rattle.study.specs.Zero.{no_components}
use Rattle.opening.specs.Opening.{component_after, component_record, placing}
use Rattle.opening.proofs.Places.{joint-placed}
use Rattle.opening.proofs.Taken.Component.{Taken, component-taken}

-- i of the components are read and placed
record Placed (n i : ℕ) (cs : List Component) (left : ℕ) : Type 0 where
  long : length cs ≡ most_components
  few : product (take i (states cs)) ≤ most_joint_states
  weighs : Weighs n (product (take i (states cs))) left

-- a component is read behind others that have so many joint states
record Read (left joint : ℕ) (c : Component) (rest : ℕ) : Type 0 where
  taken : Taken left c rest
  few : joint * c.states ≤ most_joint_states

module _ {Short : Type 0} where
  after-taken : (left joint : ℕ) → (left < 14 → Short) → Ends (Refusal Short) left (component_after joint) (Read left joint)
  unfolding component_after
  after-taken left joint short =
      ends-then (component-taken short)
      (λ c rest taken.
      ends-row (width_fault (joint * c.states)) (judges _ _ tt) (λ kept. ends_return (record { taken = taken; few = width-kept _ kept })))

  component-placed : (n i : ℕ) (cs : List Component) (left : ℕ) → i < most_components → Placed n i cs left → (n < 84 + 14 → Short)
      → Ends (Refusal Short) left (placing component_record i cs) (Placed n (i + 1))
  unfolding component_record
  component-placed n i cs left below p short =
      let joint = product (take i (states cs)) in
      let bound = weighs-few p.weighs p.few in
      ends-then (after-taken left joint (λ less. short (omega arith)))
      (λ c rest read.
      let placed = joint-placed cs i c (rw p.long below) in
      ends_return
      (record {
        long = length-set cs i c ∙ p.long;
        few = rw placed read.few;
        weighs = rw placed (weighs-more c.states rest p.weighs read.taken.states read.taken.bytes);
      }))

  pub components-taken : (components n : ℕ) → components ≤ most_components → (n < 84 + 14 → Short)
      → Ends (Refusal Short) n (repeat (placing component_record) components no_components) (λ cs left. n ≤ 84 + left)
  unfolding no_components product
  components-taken components n room short =
      ends-weaker (λ cs left p. weighs-few p.weighs p.few)
      (ends-repeat (Placed n) (placing component_record) components no_components
      (λ i cs left less p. component-placed n i cs left (omega arith) p short)
      (record { long = refl; few = omega arith; weighs = weighs-none n }))
