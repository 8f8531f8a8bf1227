-- A drawn tree replaces the gates. What carries it: all that the calls by a tree work out, they work out of whether the study is sound, of its state
-- counts, its probabilities and its number of loads (`values`), and for the figures of its loads without their loss gates.
use Prim.Native.Nat.{ℕ}
use mathlib.Core.Path.{◌≡◌, refl, sym, ap, ◌∙◌}
use mathlib.Core.Bool.{Bool}
use mathlib.Core.List.{List, [], ◌∷◌, map}
use lib.ListN.{length}
use Rattle.lists.specs.Rows.{joined}
use Rattle.lists.proofs.Maps.{take-map}
use Rattle.rules.specs.Breach.{first_breach}
use Rattle.rules.specs.Table.{unsound_fault, room_fault, item_fault, customers_fault}
use Rattle.study.specs.declared.Component.{Component}
use Rattle.study.specs.declared.Load.{Load}
use Rattle.study.specs.declared.Study.{Study}
use Rattle.study.specs.Joint.{state_counts}
use Rattle.answers.specs.Answered.{answered, filled}
use Rattle.answers.specs.Told.{listing_told, count_told, outcome_told, bounds_told, figures_told}
use Rattle.soundness.specs.Check.{sound}
use Rattle.soundness.specs.Sound.{Sound}
use Rattle.soundness.proofs.Checked.{check-accepts}
use Rattle.entries.specs.Entries.{class_places}
use Rattle.drawn_tree.specs.Drawn.{drawn_fault, drawn_tree}
use Rattle.drawn_tree.specs.Tree.{drawn_class}
use Rattle.model.specs.Model.{Model, paths_of, probability_table}
use Rattle.study_model.specs.Model.{state_probabilities}
use Rattle.meaning.specs.Meaning.{by_tree, model_of}
use Rattle.probability.specs.Totals.{lower_bounds, upper_bounds, lower_classes, upper_classes, lower_loss, upper_loss, lower_loads, upper_loads}
use Rattle.indices.specs.Figures.{customers_sum, figures_of}
use Rattle.indices.proofs.Bare.{bare, bare-same, customers-bare, figures-bare}
use Rattle.evaluation.specs.Rooms.{pair_fault}
use Rattle.path_calls.specs.Bounds.{pair_breach, paths_bounded, classes_bounded}
use Rattle.path_calls.specs.Listing.{list_fault, paths_listed, buffer_listed}
use Rattle.loss_calls.specs.Bounds.{loss_fault, load_bounded}
use Rattle.loss_calls.specs.Figures.{figures_fault, figures_given}
use Rattle.demands.specs.Calls.{Question, paths, bounds_of_paths, bounds_of_classes, bounds_of_load, all_figures, ask, call_told}
use Rattle.demands.specs.DrawnTrees.{loads_of, AlikeButGates, left_of, TreeReplacesGates}
use Rattle.std.specs.Prelude.{Ok, Err}
use Rattle.answers.specs.Answers.{FiguresAnswer, finished}

module _ (t u : Study) (first : Sound t) (second : Sound u) (alike : AlikeButGates t u) (tree : List ℕ) where
  same-sound : sound t ≡ sound u
  same-sound = check-accepts t first ∙ sym (check-accepts u second)

  same-counts : state_counts t ≡ state_counts u
  same-counts =
      take-map (λ (c : Component). c.states) t.components t.component
      ∙ ap (map (λ (c : Component). c.states)) alike.components
      ∙ sym (take-map (λ (c : Component). c.states) u.components u.component)

  -- the model without its loads
  abbrev drawn : List ℕ → List (List ℕ) → ℕ → Model
  drawn counts probabilities loads =
      record { counts = counts; probabilities = probabilities; class = drawn_class (drawn_tree counts loads tree); loads = [] }

  -- whatever is worked out of these is the same
  values : {A : Type 0} (f : Bool → List ℕ → ℕ → List ℕ → List (List ℕ) → A)
      → f (sound t) (state_counts t) t.loads (probability_table (model_of (by_tree tree) t)) (paths_of (model_of (by_tree tree) t))
      ≡ f (sound u) (state_counts u) u.loads (probability_table (model_of (by_tree tree) u)) (paths_of (model_of (by_tree tree) u))
  unfolding model_of paths_of probability_table
  values f =
      let probabilities = ap (map state_probabilities) alike.components in
      λ i.
      f (same-sound i) (same-counts i) (alike.loads i) (probability_table (drawn (same-counts i) (probabilities i) (alike.loads i)))
      (paths_of (drawn (same-counts i) (probabilities i) (alike.loads i)))

  -- the first breach of a call by the tree, whose last row is this
  abbrev breach : Bool → List ℕ → ℕ → ℕ → ℕ
  breach s counts loads last = first_breach (unsound_fault s ∷ drawn_fault counts loads tree ∷ last ∷ [])

  -- the figures, from loads of which the loss gates are taken
  same-figures : figures_given (by_tree tree) t ≡ figures_given (by_tree tree) u
  unfolding figures_given figures_fault model_of
  same-figures =
      sym (bare-figures t)
      ∙ ap (λ (loads : List Load). given t loads) (bare-same (loads_of t) (loads_of u) alike.customers alike.minutes)
      ∙ values
      (λ s c l p q.
      answered Err (breach s c l (customers_fault (customers_sum (map bare (loads_of u)))))
      (Ok (figures_of (customers_sum (map bare (loads_of u))) (lower_loads p (length c) q) (upper_loads p (length c) q) (map bare (loads_of u)))))
      ∙ bare-figures u
    where
      given : Study → List Load → FiguresAnswer
      given w loads =
          let p = probability_table (model_of (by_tree tree) w) in
          let q = paths_of (model_of (by_tree tree) w) in
          let n = length (state_counts w) in
          answered Err (breach (sound w) (state_counts w) w.loads (customers_fault (customers_sum loads)))
          (Ok (figures_of (customers_sum loads) (lower_loads p n q) (upper_loads p n q) loads))

      bare-figures : (w : Study) → given w (map bare (loads_of w)) ≡ given w (loads_of w)
      bare-figures w = rw (customers-bare (loads_of w), figures-bare _ _ _ (loads_of w)) refl

  same-told : (q : Question) → call_told (ask (by_tree tree) q) t ≡ call_told (ask (by_tree tree) q) u
  unfolding paths_listed list_fault paths_bounded classes_bounded pair_breach load_bounded loss_fault model_of
  same-told (paths d) =
      values
      (λ s c l p q.
      listing_told (answered Err (breach s c l (room_fault (length (joined q)) (length d))) (Ok (record { paths = length q }))))
  same-told (bounds_of_paths lower upper) =
      values
      (λ s c l p q. count_told (answered Err (breach s c l (pair_fault (length q) (length lower) (length upper))) (Ok (length q))))
  same-told (bounds_of_classes lower upper) =
      values (λ s c l p q. outcome_told (answered Err (breach s c l (pair_fault class_places (length lower) (length upper))) finished))
  same-told (bounds_of_load j) =
      values
      (λ s c l p q.
      bounds_told
      (answered Err (first_breach (unsound_fault s ∷ item_fault l j ∷ drawn_fault c l tree ∷ []))
      (Ok (record { lower = lower_loss p (length c) q j; upper = upper_loss p (length c) q j }))))
  same-told all_figures = ap figures_told same-figures

  same_left : (q : Question) → left_of (ask (by_tree tree) q) t ≡ left_of (ask (by_tree tree) q) u
  unfolding buffer_listed list_fault pair_breach model_of
  same_left (paths d) = values (λ s c l p q. filled (breach s c l (room_fault (length (joined q)) (length d))) (joined q) d ∷ [])
  same_left (bounds_of_paths lower upper) =
      values
      (λ s c l p q.
      let b = breach s c l (pair_fault (length q) (length lower) (length upper)) in
      filled b (lower_bounds p (length c) q) lower ∷ filled b (upper_bounds p (length c) q) upper ∷ [])
  same_left (bounds_of_classes lower upper) =
      values
      (λ s c l p q.
      let b = breach s c l (pair_fault class_places (length lower) (length upper)) in
      filled b (lower_classes p (length c) q) lower ∷ filled b (upper_classes p (length c) q) upper ∷ [])
  same_left (bounds_of_load j) = refl
  same_left all_figures = refl

pub tree-replaces-gates : TreeReplacesGates
tree-replaces-gates t u first second alike tree =
    record { told = same-told t u first second alike tree; left = same_left t u first second alike tree }
