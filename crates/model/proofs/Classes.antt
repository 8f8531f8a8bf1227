-- The classes of a good model are a block, which has the class of each joint state at its number.
use Prim.Native.Nat.{ℕ, ◌<◌}
use mathlib.Core.Path.{◌≡◌, ap, ◌∙◌}
use mathlib.Core.List.{List, []}
use native.Mathlib.Omega.{arith}
use lib.ListN.{length, length-map}
use Rattle.lists.specs.Product.{product}
use Rattle.lists.proofs.Maps.{get_or-map-inside}
use Rattle.joint_states.specs.JointStates.{JointState, joint_states, number_of}
use Rattle.joint_states.proofs.Numbered.{number-below, length-joint_states, numbered}
use Rattle.paths.specs.Blocks.{Block, Listable, class_at}
use Rattle.model.specs.Good.{Good}
use Rattle.model.specs.Model.{Model, classes_of}

module _ (m : Model) where
  pub classes-long : length (classes_of m) ≡ product m.counts
  unfolding classes_of
  classes-long = length-map (joint_states m.counts) m.class ∙ length-joint_states m.counts

  pub class-at : (x : List ℕ) → JointState m.counts x → class_at m.counts (classes_of m) x ≡ m.class x
  unfolding classes_of
  class-at x j =
      let k = number_of m.counts x in
      let inside : k < length (joint_states m.counts) = omega (arith, number-below m.counts x j, length-joint_states m.counts) in
      get_or-map-inside m.class (joint_states m.counts) k [] 0 inside ∙ ap m.class (numbered m.counts x j)

  pub good-block : Good m → Block m.counts (classes_of m)
  good-block good =
      record {
        long = classes-long;
        some = λ k h. omega (arith, good.counts.least k h);
        most = λ k h. omega (arith, good.counts.most k h);
      }

  pub good-listable : Good m → Listable m.counts (classes_of m)
  good-listable good =
      record { whole = good-block good; components = good.counts.few; small = omega (arith, classes-long, good.counts.joint) }
