-- What carries the total of one class: the entries below k are in it. The next one brings its bounds where it bears the class, and else nothing.
use Prim.Native.Nat.{ℕ, ◌+◌, ◌*◌, ◌≤◌, min}
use mathlib.Core.Path.{◌≡◌, sym, ◌∙◌}
use mathlib.Core.Bool.{Bool, true, false}
use mathlib.Core.List.{List}
use native.Mathlib.Omega.{arith}
use lib.Dec.{eqb}
use borrow.Author.Tests.{eq-eqb, ne_eqb}
use Rattle.lists.specs.Counting.{truth, counted, those, sum_over}
use Rattle.lists.specs.Tabulate.{tabulate}
use Rattle.lists.proofs.Adding.{add-value}
use Rattle.lists.proofs.SumOver.{sum-over-most}
use Rattle.lists.proofs.Sums.{truth-most}
use Rattle.units.specs.One.{one}
use Rattle.units.specs.Rounding.{down, up}
use Rattle.entries.specs.Entries.{class_borne, entry_at, entries_of}
use Rattle.entries.proofs.Entries.{entries-long}
use Rattle.probability.specs.declared.classes.ClassTotal.{ClassTotal}
use Rattle.probability.specs.Bounded.{Bounded}
use Rattle.probability.specs.Bounds.{path_bound, total}
use Rattle.probability.specs.ClassTotal.{TotalOf}
use Rattle.probability.specs.Probabilities.{AtMostOne}
use Rattle.probability.proofs.Most.{total-most}
use Rattle.probability.proofs.TotalTerms.{term, total-terms}

module _ (probabilities : List ℕ) (n class : ℕ) (list : List ℕ) (k : ℕ) where
  -- whether an entry bears the class
  abbrev bears : List ℕ → Bool
  bears entry = eqb (class_borne n entry) class

  abbrev next : List ℕ
  next = entry_at n list k

  -- ---- one entry more

  sum-next : (f : List ℕ → ℕ) → sum_over f (entries_of n (k + 1) list) ≡ sum_over f (entries_of n k list) + f next
  unfolding entries_of
  sum-next f = add-value f (entry_at n list) k

  total-next : (rounding : ℕ)
      → total rounding probabilities n (λ (c : ℕ). eqb c class) (entries_of n (k + 1) list)
      ≡ total rounding probabilities n (λ (c : ℕ). eqb c class) (entries_of n k list) + counted (bears next) (path_bound rounding probabilities n next)
  total-next rounding =
      let keep : ℕ → Bool = λ (c : ℕ). eqb c class in
      omega (
        arith,
        total-terms rounding probabilities n keep (entries_of n (k + 1) list),
        total-terms rounding probabilities n keep (entries_of n k list),
        sum-next (term rounding probabilities n keep),
      )

  with-next : {t r : ClassTotal} (b : Bool) → bears next ≡ b → TotalOf probabilities n class (entries_of n k list) t → r.paths ≡ t.paths + truth b
      → r.lower ≡ t.lower + counted b (path_bound down probabilities n next)
      → r.upper ≡ min one (t.upper + counted b (path_bound up probabilities n next)) → TotalOf probabilities n class (entries_of n (k + 1) list) r
  with-next b e before paths lower upper =
      record {
        paths = omega (arith, before.paths, paths, rw e at (sum-next (λ (entry : List ℕ). truth (bears entry))));
        lower = omega (arith, before.lower, lower, rw e at (total-next down));
        upper = omega (arith, before.upper, upper, rw e at (total-next up));
      }

module _ {probabilities : List ℕ} {n class : ℕ} (list : List ℕ) (k : ℕ) {t : ClassTotal} (before : TotalOf probabilities n class (entries_of n k list) t) where
  -- it bears another class
  pub other-borne : {borne : ℕ} → borne ≡ class_borne n (entry_at n list k) → (borne ≡ class → ⊥) → TotalOf probabilities n class (entries_of n (k + 1) list) t
  other-borne is other =
      let none = ne_eqb (class_borne n (entry_at n list k)) class (λ same. other (is ∙ same)) in
      with-next probabilities n class list k false none before (omega arith) (omega arith) (omega (arith, before.upper))

  -- it bears the class
  pub own-borne : {borne low high : ℕ} {r : ClassTotal} → borne ≡ class_borne n (entry_at n list k) → borne ≡ class
      → Bounded down probabilities n (entry_at n list k) low → Bounded up probabilities n (entry_at n list k) high
      → r.paths ≡ t.paths + 1 → r.lower ≡ t.lower + low → r.upper ≡ min one (t.upper + high) → TotalOf probabilities n class (entries_of n (k + 1) list) r
  own-borne is own low high paths lower upper =
      let one_more = eq-eqb (class_borne n (entry_at n list k)) class (sym is ∙ own) in
      with-next probabilities n class list k true one_more before paths (omega (arith, lower, low.is)) (omega (arith, upper, high.is))

  -- ---- it fits

  pub paths-few : t.paths ≤ k
  paths-few =
      let borne : List ℕ → ℕ = λ (entry : List ℕ). truth (eqb (class_borne n entry) class) in
      let most = sum-over-most borne 1 (λ entry. truth-most (eqb (class_borne n entry) class)) (entries_of n k list) in
      omega (arith, before.paths, most, entries-long n k list)

  pub lower-most : AtMostOne probabilities → t.lower ≤ k * one
  lower-most table =
      let most = total-most down (omega arith) probabilities table n (λ (c : ℕ). eqb c class) (entries_of n k list) in
      omega (arith, before.lower, most, entries-long n k list)

-- ---- before the first entry

pub class-start : {probabilities : List ℕ} {n class : ℕ} (list : List ℕ) {t : ClassTotal} → t.paths ≡ 0 → t.lower ≡ 0 → t.upper ≡ 0
    → TotalOf probabilities n class (entries_of n 0 list) t
unfolding entries_of tabulate total those sum_over
class-start list paths lower upper = record { paths = paths; lower = lower; upper = upper }
