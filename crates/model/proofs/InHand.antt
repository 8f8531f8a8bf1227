-- What the code cuts off a model in hand is the model's own: its components are as many as it says, and the front of its table has their probabilities.
-- With the list of its paths they are what the bounds of paths are worked out of.
use Prim.Native.Nat.{ℕ, ◌*◌, ◌≤◌}
use mathlib.Core.Path.{◌≡◌, sym, ap, subst, ◌∙◌}
use mathlib.Core.List.{List}
use native.Mathlib.Nat.{mul-le-mul_right}
use native.Mathlib.Omega.{arith}
use lib.ListN.{length}
use lib.Seq.{length-take-le}
use Rattle.lists.proofs.Rows.{rows-joined}
use Rattle.rules.specs.Limits.{most_states}
use Rattle.entries.specs.Entries.{entries_of}
use Rattle.entries.specs.Lists.{PathList}
use Rattle.model.specs.declared.HeldModel.{HeldModel}
use Rattle.model.specs.InHand.{held_table, model_held, HeldPlaces, InHand}
use Rattle.model.specs.Listed.{Listed}
use Rattle.model.specs.Model.{components, paths_of, probability_table}

module _ {h : HeldModel} (places : HeldPlaces h) where
  pub held_number : (classes : List ℕ) → h.components ≡ components (model_held h classes)
  unfolding model_held
  held_number classes = sym (length-take-le h.components h.counts (omega (arith, places.counts, places.components)))

  -- the front of the table may be cut off
  pub held-inside : h.components * most_states ≤ length h.probabilities
  held-inside = omega (arith, places.probabilities, mul-le-mul_right most_states places.components)

pub held-table : (h : HeldModel) (classes : List ℕ) → held_table h ≡ probability_table (model_held h classes)
unfolding model_held probability_table
held-table h classes = sym (rows-joined most_states h.probabilities h.components)

-- ---- beside the list of its paths

module _ {h : HeldModel} {classes list : List ℕ} {paths : ℕ} (hand : InHand h classes) (listed : Listed (model_held h classes) paths list) where
  pub listed-room : PathList h.components paths list
  listed-room = subst (λ (n : ℕ). PathList n paths list) (sym (held_number hand.places classes)) listed.room

  -- what is worked out of the slices is worked out of the model
  pub listed-values : {A : Type 0} (f : List ℕ → ℕ → List (List ℕ) → A)
      → let m = model_held h classes in
      f (held_table h) h.components (entries_of h.components paths list) ≡ f (probability_table m) (components m) (paths_of m)
  listed-values f =
      let m = model_held h classes in
      ap (λ (p : List ℕ). f p h.components (entries_of h.components paths list)) (held-table h classes)
      ∙ ap (λ (n : ℕ). f (probability_table m) n (entries_of n paths list)) (held_number hand.places classes)
      ∙ ap (f (probability_table m) (components m)) listed.entries
