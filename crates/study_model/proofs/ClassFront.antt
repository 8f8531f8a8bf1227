-- The front of a class table holds the classes of the model that it makes; where these are those of another model of the study, so are the paths.
use Prim.Native.Nat.{ℕ, ◌<◌, ◌≤◌}
use mathlib.Core.Path.{◌≡◌, refl, sym, ap, ◌∙◌}
use mathlib.Core.List.{List}
use native.Mathlib.Omega.{arith}
use lib.ListN.{length, get_or, take}
use lib.Seq.{length-take-le, get_or-take, ext_get_or}
use Rattle.lists.specs.Product.{product}
use Rattle.rules.specs.Limits.{most_components, most_states, most_joint_states}
use Rattle.joint_states.proofs.Numbered.{with_number}
use Rattle.study.specs.declared.Study.{Study}
use Rattle.study.specs.Joint.{state_counts}
use Rattle.soundness.specs.Sound.{Sound}
use Rattle.soundness.proofs.Ranges.{joint-most}
use Rattle.paths.specs.Blocks.{class_at}
use Rattle.paths.specs.Paths.{paths}
use Rattle.model.specs.declared.HeldModel.{HeldModel}
use Rattle.model.specs.InHand.{held_counts, model_held, InHand}
use Rattle.model.specs.Model.{Model, components, classes_of, paths_of, probability_table}
use Rattle.model.proofs.Classes.{classes-long, class-at}
use Rattle.study_model.specs.Model.{model_with, model_by}

-- ---- any model whose classes are those of a table

block-is : (m : Model) (table : List ℕ) → product m.counts ≤ length table → m.class ≡ class_at m.counts table
    → take (product m.counts) table ≡ classes_of m
block-is m table inside by-table =
    ext_get_or 0 (take (product m.counts) table) (classes_of m) (long ∙ sym (classes-long m))
    (λ k h.
    let below : k < product m.counts = rw long at h in
    let w = with_number m.counts k below in
    get_or-take (product m.counts) table k 0 below
    ∙ ap (λ (n : ℕ). get_or table n 0) (sym w.number)
    ∙ ap (λ (class : List ℕ → ℕ). class w.joint) (sym by-table)
    ∙ sym (class-at m w.joint w.is_joint)
    ∙ ap (λ (n : ℕ). get_or (classes_of m) n 0) w.number)
  where
    long : length (take (product m.counts) table) ≡ product m.counts
    long = length-take-le (product m.counts) table inside

-- ---- a study

module _ {t : Study} (table : List ℕ) (sound : Sound t) (room : most_joint_states ≤ length table) where
  -- a table that holds the classes of a model of the study in front has its paths
  pub front-paths : (class : List ℕ → ℕ) → take (product (state_counts t)) table ≡ classes_of (model_with t class)
      → paths_of (model_by t table) ≡ paths_of (model_with t class)
  unfolding paths_of model_by
  front-paths class e =
      ap (paths (state_counts t)) (sym (block-is (model_by t table) table (omega (arith, joint-most t sound, room)) refl) ∙ e)

  -- and with them all that is worked out of paths
  pub front-values : {A : Type 0} (class : List ℕ → ℕ) → take (product (state_counts t)) table ≡ classes_of (model_with t class)
      → (f : List ℕ → ℕ → List (List ℕ) → A)
      → f (probability_table (model_by t table)) (components (model_by t table)) (paths_of (model_by t table))
      ≡ f (probability_table (model_with t class)) (components (model_with t class)) (paths_of (model_with t class))
  unfolding model_by probability_table
  front-values class e f = ap (f (probability_table (model_with t class)) (components (model_with t class))) (front-paths class e)

-- ---- a model in hand, as the code cuts it

-- the state counts of its components: the table may be cut behind their joint states
pub cut_inside : {h : HeldModel} {table : List ℕ} (counts : List ℕ) → InHand h table → counts ≡ held_counts h
    → (length counts ≤ most_components) × (((k : ℕ) → k < length counts → get_or counts k 0 ≤ most_states) × (product counts ≤ length table))
unfolding model_held
cut_inside {h} {table} counts hand e =
    let good = hand.good.counts in
    rw e (good.few, (good.most, omega (arith, good.joint, hand.room)))

-- the front of the table for them has the model's classes
pub cut-classes : {h : HeldModel} {table counts block : List ℕ} → InHand h table → counts ≡ held_counts h → block ≡ take (product counts) table
    → (counts ≡ (model_held h table).counts) × (block ≡ classes_of (model_held h table))
unfolding model_held
cut-classes {h} {table} {counts} {block} hand is_counts is_block =
    let inside : product (held_counts h) ≤ length table = omega (arith, hand.good.counts.joint, hand.room) in
    (is_counts, is_block ∙ ap (λ (l : List ℕ). take (product l) table) is_counts ∙ block-is (model_held h table) table inside refl)
