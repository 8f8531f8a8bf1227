-- The front of a class table as a drawn tree fills it: a block with a place for each joint state of a sound study.
use Prim.Native.Nat.{ℕ, ◌≤◌}
use mathlib.Core.Path.{◌≡◌, sym, ap, ◌∙◌}
use mathlib.Core.List.{List, ◌++◌}
use native.Mathlib.Omega.{arith}
use lib.ListN.{length, take, drop}
use lib.Seq.{length-take-le}
use Rattle.lists.specs.Product.{product}
use Rattle.lists.specs.Rows.{put}
use Rattle.lists.proofs.Fronts.{put_front}
use Rattle.rules.specs.Limits.{most_components, most_joint_states}
use Rattle.study.specs.declared.Study.{Study}
use Rattle.study.specs.Joint.{state_counts}
use Rattle.soundness.specs.Sound.{Sound}
use Rattle.soundness.proofs.Ranges.{joint-most}
use Rattle.paths.specs.Blocks.{Block}
use Rattle.drawn_tree.specs.Drawn.{drawn_classes}
use Rattle.model.specs.Model.{classes_of}
use Rattle.model.proofs.Classes.{classes-long}
use Rattle.study_model.proofs.Good.{with-good}
use Rattle.meaning.specs.Meaning.{by_tree, model_of}

-- what the code cuts off a table for the joint states of a sound study
pub record Front (t : Study) (classes counts : List ℕ) (joint : ℕ) : Type 0 where
  pub sound : Sound t
  pub room : most_joint_states ≤ length classes
  pub is_counts : counts ≡ state_counts t
  pub is_joint : joint ≡ product counts

module _ {t : Study} {classes counts : List ℕ} {joint : ℕ} (front : Front t classes counts joint) where
  pub front-inside : joint ≤ length classes
  front-inside = omega (arith, front.is_joint, ap product front.is_counts, joint-most t front.sound, front.room)

  pub front-block : Block counts (take joint classes)
  front-block =
      let counted = (with-good t front.sound (λ x. 0)).counts in
      record {
        long = length-take-le joint classes front-inside ∙ front.is_joint;
        some = rw front.is_counts (λ k h. omega (arith, counted.least k h));
        most = rw front.is_counts (λ k h. omega (arith, counted.most k h));
      }

  pub front-few : length counts ≤ most_components
  front-few = rw front.is_counts (with-good t front.sound (λ x. 0)).counts.few

  -- the table holds the classes of the tree in front
  pub front-put : (tree : List ℕ) {block : List ℕ} → block ≡ drawn_classes counts t.loads tree
      → block ++ drop joint classes ≡ put classes 0 (classes_of (model_of (by_tree tree) t))
  unfolding model_of classes_of drawn_classes
  front-put tree {block} e =
      let all = classes_of (model_of (by_tree tree) t) in
      let is : block ≡ all = rw front.is_counts at e in
      let places : length all ≡ joint = classes-long (model_of (by_tree tree) t) ∙ ap product (sym front.is_counts) ∙ sym front.is_joint in
      ap (λ (l : List ℕ). l ++ drop joint classes) is ∙ put_front classes all places
