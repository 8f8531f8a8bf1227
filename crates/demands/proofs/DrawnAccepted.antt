-- A drawn tree is let through exactly when it is well drawn. What carries it: `drawn_tree` shows it of the reader; a call that tells values had no breach of
-- its meaning; and one without such a breach is refused by other numbers.
use Prim.Native.Nat.{ℕ, ◌<◌, ◌≤◌}
use mathlib.Core.Path.{◌≡◌, refl, sym, subst, ◌∙◌}
use mathlib.Core.Bool.{Bool, true, false, false≢true}
use mathlib.Core.List.{List, [], ◌∷◌}
use mathlib.Core.Logic.{inl, inr}
use native.Mathlib.Decide.{dec_lt}
use native.Mathlib.Omega.{arith}
use lib.ListN.{length, get_or, get_or-eq_default}
use Rattle.lists.specs.OneOf.{OneOf}
use Rattle.rules.specs.Breach.{refuse, first_breach}
use Rattle.rules.proofs.Kept.{list-kept}
use Rattle.study.specs.declared.Study.{Study}
use Rattle.study.specs.Joint.{state_counts}
use Rattle.answers.specs.Told.{refusal}
use Rattle.answers.proofs.Answered.{breach-told}
use Rattle.soundness.specs.Check.{sound}
use Rattle.soundness.specs.Sound.{Sound}
use Rattle.soundness.proofs.Checked.{check-accepts, check-refuses}
use Rattle.soundness.proofs.Ranges.{counts-inside, counts-small}
use Rattle.entries.specs.Entries.{blank_mark}
use Rattle.drawn_tree.specs.Laws.{tree_bytes}
use Rattle.drawn_tree.specs.Tree.{Tree}
use Rattle.drawn_tree.specs.WellDrawn.{WholeDrawn, Acceptance}
use Rattle.drawn_tree.proofs.WellDrawn.{accepts}
use Rattle.meaning.specs.Meaning.{Meaning, by_tree, meaning_fault}
use Rattle.demands.specs.Calls.{Question, paths, bounds_of_paths, bounds_of_classes, bounds_of_load, all_figures, ask, call_told, call_breaches, call_values}
use Rattle.demands.specs.DrawnTrees.{DrawnAccepted}
use Rattle.demands.proofs.Finished.{behind, finished}
use Rattle.demands.proofs.OneOf.{NoneOr, of-refuse, of_none, of-more}
use Rattle.demands.proofs.Refusals.{calls-refuse}
use Rattle.demands.proofs.Unsound.{of_pair, unsound-refused}

-- ---- beside a sound study

state-small : (t : Study) → Sound t → (k : ℕ) → get_or (state_counts t) k 0 ≤ blank_mark
state-small t s k = go (dec_lt k (length (state_counts t)))
  where
    go : Dec (k < length (state_counts t)) → get_or (state_counts t) k 0 ≤ blank_mark
    go (yes h) = omega (arith, counts-small t s (state_counts t) refl k h)
    go (no h) = rw (get_or-eq_default (state_counts t) 0 {n = k} (omega arith)) (omega arith)

study-accepts : (t : Study) → Sound t → Acceptance (state_counts t) t.loads
study-accepts t s = accepts (state_counts t) t.loads (counts-inside t s (state_counts t) refl) (state-small t s)

-- ---- the calls

-- a call whose breaches behind 16 are none has none of its meaning
meaning-kept : (m : Meaning) (q : Question) (t : Study) → first_breach (behind (ask m q) t) ≡ 0 → meaning_fault m t ≡ 0
meaning-kept m (paths buffer) t none = (list-kept (meaning_fault m t) _ none).left
meaning-kept m (bounds_of_paths lower upper) t none = (list-kept (meaning_fault m t) _ none).left
meaning-kept m (bounds_of_classes lower upper) t none = (list-kept (meaning_fault m t) _ none).left
meaning-kept m (bounds_of_load j) t none = (list-kept (meaning_fault m t) [] (list-kept _ _ none).right).left
meaning-kept m all_figures t none = (list-kept (meaning_fault m t) _ none).left

-- the numbers of the calls but for those of a drawn tree
abbrev others : List ℕ
others = 16 ∷ 17 ∷ 18 ∷ 19 ∷ []

-- a number that is one of them is none of a drawn tree
not-both : (n : ℕ) → OneOf (20 ∷ 21 ∷ 22 ∷ []) n → NoneOr others n → ⊥
not-both n drawn other = omega (arith, least n drawn, most n other)
  where
    least : (n : ℕ) → OneOf (20 ∷ 21 ∷ 22 ∷ []) n → 20 ≤ n
    least n (inl e) = omega (arith, e)
    least n (inr (inl e)) = omega (arith, e)
    least n (inr (inr (inl e))) = omega (arith, e)
    least n (inr (inr (inr other))) = elim other [ ]

    most : (n : ℕ) → NoneOr others n → n ≤ 19
    most n (inl e) = omega (arith, e)
    most n (inr (inl e)) = omega (arith, e)
    most n (inr (inr (inl e))) = omega (arith, e)
    most n (inr (inr (inr (inl e)))) = omega (arith, e)
    most n (inr (inr (inr (inr (inl e))))) = omega (arith, e)
    most n (inr (inr (inr (inr (inr other))))) = elim other [ ]

-- without a breach of its meaning a call is refused by one of them, or by none
module _ (m : Meaning) (t : Study) (kept : meaning_fault m t ≡ 0) where
  none-meant : NoneOr others (meaning_fault m t)
  none-meant = inl kept

  unsound-first : (rest : List ℕ) (broken : Bool) → NoneOr others (first_breach rest) → NoneOr others (first_breach (refuse 16 broken ∷ rest))
  unsound-first rest broken more = of-more others _ rest (of-refuse others 16 broken (inl refl)) more

  meant-last : {breach : ℕ} → NoneOr others breach → NoneOr others (first_breach (meaning_fault m t ∷ breach ∷ []))
  meant-last last = of-more others _ _ none-meant (of-more others _ [] last (of_none others))

  other-numbers : (q : Question) → NoneOr others (first_breach (call_breaches (ask m q) t))
  other-numbers (paths buffer) = unsound-first _ _ (meant-last (of-refuse others 18 _ (inr (inr (inl refl)))))
  other-numbers (bounds_of_paths lower upper) = unsound-first _ _ (meant-last (of_pair others _ _ _ (inr (inr (inl refl)))))
  other-numbers (bounds_of_classes lower upper) = unsound-first _ _ (meant-last (of_pair others _ _ _ (inr (inr (inl refl)))))
  other-numbers (bounds_of_load j) =
      unsound-first _ _ (of-more others _ _ (of-refuse others 17 _ (inr (inl refl))) (of-more others _ [] none-meant (of_none others)))
  other-numbers all_figures = unsound-first _ _ (meant-last (of-refuse others 19 _ (inr (inr (inr (inl refl))))))

-- so the bytes of a well-drawn tree are refused by none of its numbers, beside a sound study and beside one that is 16
not_refused : (q : Question) (t : Study) (tree : Tree) (n : ℕ) → WholeDrawn (state_counts t) t.loads tree
    → call_told (ask (by_tree (tree_bytes tree)) q) t ≡ refusal n → OneOf (20 ∷ 21 ∷ 22 ∷ []) n → ⊥
not_refused q t tree n well told drawn = go (sound t) refl
  where
    go : (b : Bool) → sound t ≡ b → ⊥
    go true e =
        let c = ask (by_tree (tree_bytes tree)) q in
        let kept = ((study-accepts t (check-refuses t e)).every tree well).kept in
        let number = breach-told _ (call_values c t) n (calls-refuse.refuses c t).answer told in
        not-both n drawn (subst (NoneOr others) number (other-numbers (by_tree (tree_bytes tree)) t kept q))
    go false e =
        let sixteen = unsound-refused.sixteen (ask (by_tree (tree_bytes tree)) q) t (λ s. false≢true (sym e ∙ check-accepts t s)) in
        let same : n ≡ 16 = cc in
        not-both n drawn (inr (inl same))

pub drawn-accepted : DrawnAccepted
drawn-accepted =
    record {
      acceptance = study-accepts;
      told =
          λ q t tree values told.
          let done = finished (ask (by_tree tree) q) t values told in
          (study-accepts t done.is_sound).only tree (meaning-kept (by_tree tree) q t done.none_behind);
      not_refused = not_refused;
    }
