-- The bounds of a path enclose the product of its factors: by induction over the components. The first settled factor is exact, since one times
-- a probability is that probability; each further one rounds by less than a unit, and a blank one leaves the bounds as they are.
use Prim.Native.Nat.{ℕ, zero, suc, ◌+◌, ◌-◌, ◌*◌, ◌^◌, ◌<◌, ◌≤◌}
use mathlib.Core.Path.{◌≡◌, refl, subst}
use mathlib.Core.Bool.{Bool, true, false, not, cond}
use mathlib.Core.Logic.{⊎_elim}
use mathlib.Core.List.{List, []}
use native.Mathlib.Nat.{eq-zero-or-pos, add-zero, pow-suc}
use native.Mathlib.Omega.{arith}
use lib.Dec.{eqb}
use lib.ListN.{length, get_or}
use borrow.Author.Tests.{eqb-false}
use Rattle.lists.specs.Counting.{truth, sum, count_true}
use Rattle.units.specs.One.{one}
use Rattle.units.specs.Rounding.{down, up, scale}
use Rattle.units.specs.Within.{Within}
use Rattle.units.proofs.Rounding.{up-most, down-exact, up-exact}
use Rattle.units.proofs.Within.{within-one, within_first, within-expanded, within-product}
use Rattle.entries.specs.Entries.{blank_mark}
use Rattle.lists.specs.Rows.{joined}
use Rattle.model.specs.Good.{Counted, StateProbabilities}
use Rattle.model.specs.Model.{classes_of, paths_of, probability_table}
use Rattle.model.proofs.Classes.{good-block}
use Rattle.model.proofs.Table.{whole-most, table-place}
use Rattle.probability.specs.Bounds.{factored, path_bound}
use Rattle.probability.specs.Probabilities.{probability_at}
use Rattle.accuracy.specs.Accuracy.{settled_count, PathWithin}
use Rattle.accuracy.proofs.Factors.{factor, factors, exact-fitting}
use Rattle.accuracy.proofs.Marks.{Marked, paths-marked}

-- the bounds of a path's first components, so many of them settled: they enclose x / w, are at most one, and are one while none is settled
record Bounded (lower upper settled x w : ℕ) : Type 0 where
  within : Within lower upper (settled - 1) x w
  most : upper ≤ one
  first_lower : settled ≡ 0 → lower ≡ one
  first_upper : settled ≡ 0 → upper ≡ one

bounded-start : Bounded one one 0 1 1
bounded-start = record { within = within-one; most = omega arith; first_lower = λ none. refl; first_upper = λ none. refl }

module _ {lower upper settled x w : ℕ} (bounded : Bounded lower upper settled x w) where
  within-settled : (p : ℕ) → p ≤ one → Within (scale down lower p) (scale up upper p) (settled + 1 - 1) (x * p) (w * one)
  within-settled p h = ⊎_elim first further (eq-zero-or-pos settled)
    where
      first : settled ≡ 0 → Within (scale down lower p) (scale up upper p) (settled + 1 - 1) (x * p) (w * one)
      first none =
          let within = rw (bounded.first_lower none, bounded.first_upper none, none) at bounded.within in
          rw (bounded.first_lower none, bounded.first_upper none, none, down-exact p, up-exact p) (within_first within p)

      further : 0 < settled → Within (scale down lower p) (scale up upper p) (settled + 1 - 1) (x * p) (w * one)
      further some =
          let far : settled - 1 + 1 ≡ settled + 1 - 1 = omega arith in
          subst (λ (n : ℕ). Within (scale down lower p) (scale up upper p) n (x * p) (w * one)) far (within-product bounded.within p h)

  bounded-settled : (p : ℕ) → p ≤ one → Bounded (scale down lower p) (scale up upper p) (settled + 1) (x * p) (w * one)
  bounded-settled p h =
      record {
        within = within-settled p h;
        most = up-most upper p bounded.most h;
        first_lower = λ none. absurd (omega arith);
        first_upper = λ none. absurd (omega arith);
      }

  bounded-blank : Bounded lower upper (settled + 0) (x * one) (w * one)
  bounded-blank =
      rw (add-zero settled)
      (record {
        within = within-expanded bounded.within one;
        most = bounded.most;
        first_lower = bounded.first_lower;
        first_upper = bounded.first_upper;
      })

  -- one more component: blank, or settled in a state of probability p, which the table holds
  bounded-more : (blank : Bool) (held p : ℕ) → (blank ≡ false → held ≡ p) → (blank ≡ false → p ≤ one)
      → Bounded (cond blank lower (scale down lower held)) (cond blank upper (scale up upper held)) (settled + truth (not blank)) (x * cond blank one p) (w * one)
  bounded-more true held p same h = bounded-blank
  bounded-more false held p same h = rw (same refl) (bounded-settled p (h refl))

module _ (counts : List ℕ) (rows : List (List ℕ)) (entry : List ℕ) (few : Counted counts) (known : StateProbabilities counts rows)
    (marked : Marked counts entry) where
  path-bounded : (i : ℕ) → i ≤ length counts
      → Bounded (path_bound down (joined rows) i entry) (path_bound up (joined rows) i entry) (settled_count i entry)
      (factors (factor rows entry) i) (one ^ i)
  unfolding path_bound factored settled_count count_true sum factors
  path-bounded zero h = bounded-start
  path-bounded (suc i) h =
      rw (pow-suc one i)
      (bounded-more (path-bounded i (omega arith)) (eqb (get_or entry i blank_mark) blank_mark) (probability_at (joined rows) i (get_or entry i blank_mark))
      (get_or (get_or rows i []) (get_or entry i blank_mark) 0)
      (λ settled. table-place known i (get_or entry i blank_mark) h (omega (arith, state settled, few.most i h)))
      (λ settled. whole-most (known.whole i h) (get_or entry i blank_mark)))
    where
      state : eqb (get_or entry i blank_mark) blank_mark ≡ false → get_or entry i blank_mark < get_or counts i 0
      state settled = marked.below i h (eqb-false (get_or entry i blank_mark) blank_mark settled)

pub path-within : PathWithin
unfolding paths_of probability_table
path-within m good i h =
    let entry = get_or (paths_of m) i [] in
    let marked = paths-marked m.counts (classes_of m) (good-block m good) i h in
    rw (exact-fitting m.counts m.probabilities entry good.probabilities marked)
    (path-bounded m.counts m.probabilities entry good.counts good.probabilities marked (length m.counts) (omega arith)).within
