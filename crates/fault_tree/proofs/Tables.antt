-- What carries the filling of the class table: the classes of the joint states below k are set, and x is the joint state numbered k.
use Prim.Native.Nat.{ℕ, ◌+◌, ◌%◌, ◌<◌, ◌≤◌}
use mathlib.Core.Path.{◌≡◌, sym, ap, ◌∙◌}
use mathlib.Core.List.{List, []}
use native.Mathlib.Nat.{mod-eq_of_lt, zero-mod}
use native.Mathlib.Omega.{arith}
use lib.ListN.{length, get_or, set, length-map}
use Rattle.lists.specs.Product.{product}
use Rattle.lists.specs.Rows.{put}
use Rattle.lists.proofs.Maps.{get_or-map-inside}
use Rattle.lists.proofs.Writing.{Writing, writing_start, writing_more, writing-room, writing-done}
use Rattle.rules.specs.Limits.{most_joint_states}
use Rattle.joint_states.specs.JointStates.{JointState, joint_states, number_of}
use Rattle.joint_states.proofs.Numbered.{number-below, length-joint_states, numbered}
use Rattle.study.specs.declared.Study.{Study}
use Rattle.study.specs.Joint.{state_counts}
use Rattle.soundness.specs.Sound.{Sound}
use Rattle.soundness.proofs.Ranges.{joint-most}
use Rattle.fault_tree.specs.Readable.{TableBegins}
use Rattle.fault_tree.specs.Classes.{class_of, classes}

pub classes-long : (t : Study) → length (classes t) ≡ product (state_counts t)
unfolding classes
classes-long t = length-map (joint_states (state_counts t)) (class_of t) ∙ length-joint_states (state_counts t)

-- the class of the joint state numbered k
pub class-at : (t : Study) (counts x : List ℕ) → counts ≡ state_counts t → JointState counts x → (k : ℕ) → number_of counts x ≡ k
    → get_or (classes t) k 0 ≡ class_of t x
unfolding classes
class-at t counts x same j k e =
    let inside : k < length (joint_states counts) = omega (arith, e, number-below counts x j, length-joint_states counts) in
    rw (sym same) (get_or-map-inside (class_of t) (joint_states counts) k [] 0 inside ∙ ap (class_of t) (rw e at (numbered counts x j)))

pub record Tabled (t : Study) (counts table₀ : List ℕ) (all k : ℕ) (x table : List ℕ) : Type 0 where
  pub sound : Sound t
  pub same : counts ≡ state_counts t
  pub joint : JointState counts x
  pub number : number_of counts x ≡ k % product counts
  pub whole : all ≡ product counts
  pub writing : Writing (classes t) table₀ 0 k table k

module _ {t : Study} {counts table₀ : List ℕ} {all : ℕ} where
  pub tabled_start : {x : List ℕ} → TableBegins t counts x → most_joint_states ≤ length table₀ → all ≡ product counts → Tabled t counts table₀ all 0 x table₀
  tabled_start b room whole =
      record {
        sound = b.sound;
        same = b.same;
        joint = b.joint;
        number = b.first ∙ sym (zero-mod (product counts));
        whole = whole;
        writing = writing_start (omega (arith, classes-long t, joint-most t b.sound, room));
      }

  -- the class of x is set, and x moves on
  pub tabled-more : {k class : ℕ} {x y table table' : List ℕ} → Tabled t counts table₀ all k x table → k < all → class ≡ class_of t x
      → table' ≡ set table k class → JointState counts y → number_of counts y ≡ (number_of counts x + 1) % product counts
      → Tabled t counts table₀ all (k + 1) y table'
  tabled-more {k} {class} {x} {y} {table} w h e put j moved =
      let at : number_of counts x ≡ k = w.number ∙ mod-eq_of_lt (rw w.whole at h) in
      let here : get_or (classes t) k 0 ≡ class = class-at t counts x w.same w.joint k at ∙ sym e in
      let inside : k < length (classes t) = omega (arith, h, w.whole, classes-long t, ap product w.same) in
      record {
        sound = w.sound;
        same = w.same;
        joint = j;
        number = moved ∙ ap (λ (n : ℕ). (n + 1) % product counts) at;
        whole = w.whole;
        writing = rw put (writing_more w.writing inside (sym here));
      }

  -- the place of the next class is one of the table's
  pub tabled-inside : {k : ℕ} {x table : List ℕ} → Tabled t counts table₀ all k x table → k < all → k < length table
  tabled-inside {k} w h = writing-room w.writing (omega (arith, h, w.whole, classes-long t, ap product w.same))

  pub tabled-long : {k : ℕ} {x table : List ℕ} → Tabled t counts table₀ all k x table → length table ≡ length table₀
  tabled-long w = w.writing.due.size

  pub tabled-done : {k : ℕ} {x table : List ℕ} → Tabled t counts table₀ all k x table → all ≤ k → table ≡ put table₀ 0 (classes t)
  tabled-done {k} {x} {table} w h = writing-done w.writing (omega (arith, classes-long t, h, w.whole, ap product w.same))
