-- A bound that goes on along a path comes to the bound of its entry. What carries it: the factor of the last component may as well be taken last.
use Prim.Native.Nat.{ℕ, zero, suc, ◌+◌}
use mathlib.Core.Path.{◌≡◌, refl, sym, ap, ◌∙◌}
use mathlib.Core.Bool.{Bool}
use mathlib.Core.List.{List, [], ◌∷◌, ◌++◌}
use native.Mathlib.Nat.{add-zero, zero-add}
use native.Mathlib.Omega.{arith}
use lib.ListN.{length, get_or, drop}
use lib.Seq.{get_or-drop}
use Rattle.lists.specs.Counting.{counted, sum_over}
use Rattle.lists.proofs.SumOver.{sum-over-append, sum-over-map}
use Rattle.units.specs.One.{one}
use Rattle.entries.specs.Entries.{blank_mark, class_borne, entry}
use Rattle.entries.proofs.Entries.{own-class, class-behind}
use Rattle.paths.specs.Paths.{paths}
use Rattle.paths.proofs.Ways.{headed}
use Rattle.probability.specs.Bounds.{factored, path_bound, total}
use Rattle.probability.proofs.TotalTerms.{total-terms}
use Rattle.totals.specs.Places.{counts_at}
use Rattle.totals.specs.Walk.{onward, brought_by, brings, brings_all}
use Rattle.totals.specs.Laws.{WalkAddsUp}

module _ (rounding : ℕ) (probabilities : List ℕ) where
  -- the factor of the last component taken last
  onward-last : (i n : ℕ) (marks : List ℕ) (bound : ℕ)
      → onward rounding probabilities i (suc n) marks bound
      ≡ factored rounding probabilities (i + n) (get_or marks n blank_mark) (onward rounding probabilities i n marks bound)
  unfolding onward
  onward-last i zero marks bound = rw (add-zero i) refl
  onward-last i (suc n) marks bound =
      onward-last (i + 1) n (drop 1 marks) (factored rounding probabilities i (get_or marks 0 blank_mark) bound)
      ∙ ap (λ (k : ℕ). factored rounding probabilities k (get_or (drop 1 marks) n blank_mark) (onward rounding probabilities i (suc n) marks bound)) next
      ∙ ap (λ (m : ℕ). factored rounding probabilities (i + suc n) m (onward rounding probabilities i (suc n) marks bound)) (get_or-drop 1 marks n blank_mark ∙ own)
    where
      next : i + 1 + n ≡ i + suc n
      next = omega arith

      own : get_or marks (1 + n) blank_mark ≡ get_or marks (suc n) blank_mark
      own = ap (λ (k : ℕ). get_or marks k blank_mark) (omega arith)

  -- begun at component 0 with a bound of one
  onward-all : (n : ℕ) (entry : List ℕ) → onward rounding probabilities 0 n entry one ≡ path_bound rounding probabilities n entry
  unfolding onward path_bound
  onward-all zero entry = refl
  onward-all (suc n) entry =
      onward-last 0 n entry one
      ∙ ap (λ (k : ℕ). factored rounding probabilities k (get_or entry n blank_mark) (onward rounding probabilities 0 n entry one)) (zero-add n)
      ∙ ap (factored rounding probabilities n (get_or entry n blank_mark)) (onward-all n entry)

  module _ (keep : ℕ → Bool) where
    pub brought-none : (i n bound : ℕ) → brought_by rounding probabilities i n bound keep [] ≡ 0
    unfolding brought_by sum_over
    brought-none i n bound = refl

    pub brought-append : (i n bound : ℕ) (xs ys : List (List ℕ))
        → brought_by rounding probabilities i n bound keep (xs ++ ys)
        ≡ brought_by rounding probabilities i n bound keep xs + brought_by rounding probabilities i n bound keep ys
    unfolding brought_by
    brought-append i n bound xs ys =
        sum-over-append (λ (entry : List ℕ). counted (keep (class_borne n entry)) (onward rounding probabilities i n entry bound)) xs ys

    -- a mark in front of each entry is a factor in each bound
    pub brought-headed : (i n bound mark : ℕ) (rows : List (List ℕ))
        → brought_by rounding probabilities i (suc n) bound keep (headed mark rows)
        ≡ brought_by rounding probabilities (i + 1) n (factored rounding probabilities i mark bound) keep rows
    unfolding brought_by onward
    brought-headed i n bound mark rows =
        sum-over-map (λ (entry : List ℕ). counted (keep (class_borne (suc n) entry)) (onward rounding probabilities i (suc n) entry bound))
        (λ (row : List ℕ). mark ∷ row) rows
        ∙ (λ k. sum_over (λ (row : List ℕ). counted (keep (class-behind mark n row k)) (onward rounding probabilities i (suc n) (mark ∷ row) bound)) rows)

    -- no component is left: the one entry bears its class alone
    pub brought-leaf : (i bound class : ℕ) → brought_by rounding probabilities i 0 bound keep (entry [] class ∷ []) ≡ counted (keep class) bound
    unfolding brought_by sum_over onward
    brought-leaf i bound class = rw (own-class [] class) (add-zero (counted (keep class) bound))

    brought-all : (n : ℕ) (entries : List (List ℕ)) → brought_by rounding probabilities 0 n one keep entries ≡ total rounding probabilities n keep entries
    unfolding brought_by
    brought-all n entries =
        (λ k. sum_over (λ (entry : List ℕ). counted (keep (class_borne n entry)) (onward-all n entry k)) entries)
        ∙ sym (total-terms rounding probabilities n keep entries)

pub walk-adds-up : WalkAddsUp
unfolding brings brings_all
walk-adds-up loadwise rounding probabilities counts block place =
    brought-all rounding probabilities (counts_at loadwise place) (length counts) (paths counts block)
