-- Laws of those numbers below n that take part.
use Prim.Native.Nat.{ℕ, zero, suc, ◌+◌, ◌<◌}
use mathlib.Core.Path.{◌≡◌, refl, sym, ap, ap₂, ◌∙◌}
use mathlib.Core.Bool.{Bool, true, false, cond}
use mathlib.Core.List.{List, [], ◌∷◌, ◌++◌, map, append-nil, append_assoc}
use native.Mathlib.Nat.{le_of_suc-le-suc}
use native.Mathlib.Omega.{arith}
use lib.ListN.{length, length-append}
use Rattle.lists.specs.Counting.{truth, count_true, sum, those}
use Rattle.lists.specs.Rows.{joined}
use Rattle.lists.specs.Tabulate.{tabulate}
use Rattle.lists.proofs.Elements.{Every}
use Rattle.lists.proofs.Joined.{joined-last}
use Rattle.lists.proofs.Tabulated.{length-tabulate, get_or-tabulate}
use Rattle.lists.proofs.Those.{those-alike}

module _ {A : Type 0} (takes_part : A → Bool) where
  -- one element more
  those-last : (l : List A) (x : A) → those takes_part (l ++ (x ∷ [])) ≡ those takes_part l ++ cond (takes_part x) (x ∷ []) []
  unfolding those
  those-last [] x = refl
  those-last (y ∷ l) x = rw (those-last l x) (go (takes_part y))
    where
      go : (b : Bool)
          → cond b (y ∷ (those takes_part l ++ cond (takes_part x) (x ∷ []) [])) (those takes_part l ++ cond (takes_part x) (x ∷ []) [])
          ≡ cond b (y ∷ those takes_part l) (those takes_part l) ++ cond (takes_part x) (x ∷ []) []
      go true = refl
      go false = refl

  -- what holds of each element holds of each that takes part
  those-every : (P : A → Type 0) (d : A) (l : List A) → Every P d l → Every P d (those takes_part l)
  unfolding those
  those-every P d [] each = each
  those-every P d (x ∷ l) each = go (takes_part x) (those-every P d l (λ k h. each (suc k) (omega arith)))
    where
      go : (b : Bool) → Every P d (those takes_part l) → Every P d (cond b (x ∷ those takes_part l) (those takes_part l))
      go true rest zero h = each zero (omega arith)
      go true rest (suc i) h = rest i (le_of_suc-le-suc h)
      go false rest i h = rest i h

abbrev below : ℕ → List ℕ
below n = tabulate (λ (c : ℕ). c) n

-- each of them is below n
pub below-every : (takes_part : ℕ → Bool) (n : ℕ) → Every (λ (c : ℕ). c < n) 0 (those takes_part (below n))
below-every takes_part n = those-every takes_part (λ (c : ℕ). c < n) 0 (below n) all
  where
    all : Every (λ (c : ℕ). c < n) 0 (below n)
    all i h = let inside : i < n = rw (length-tabulate (λ (c : ℕ). c) n) at h in rw (get_or-tabulate (λ (c : ℕ). c) n i 0 inside) inside

row_last : (f : ℕ → List ℕ) (l : List ℕ) (n : ℕ) (b : Bool) → joined (map f (l ++ cond b (n ∷ []) [])) ≡ joined (map f l) ++ cond b (f n) []
unfolding joined
row_last f [] n true = append-nil (f n)
row_last f [] n false = refl
row_last f (x ∷ l) n b = ap (λ (r : List ℕ). f x ++ r) (row_last f l n b) ∙ sym (append_assoc (f x) (joined (map f l)) (cond b (f n) []))

-- a row for each of them, and none for the others
pub below-joined : (takes_part : ℕ → Bool) (f : ℕ → List ℕ) (n : ℕ)
    → joined (map f (those takes_part (below n))) ≡ joined (tabulate (λ (c : ℕ). cond (takes_part c) (f c) []) n)
unfolding those tabulate joined
below-joined takes_part f zero = refl
below-joined takes_part f (suc n) =
    ap (λ (l : List ℕ). joined (map f l)) (those-last takes_part (below n) n)
    ∙ row_last f (those takes_part (below n)) n (takes_part n)
    ∙ ap (λ (l : List ℕ). l ++ cond (takes_part n) (f n) []) (below-joined takes_part f n)
    ∙ sym (joined-last (tabulate (λ (c : ℕ). cond (takes_part c) (f c) []) n) (cond (takes_part n) (f n) []))

singles : (l : List ℕ) → l ≡ joined (map (λ (c : ℕ). c ∷ []) l)
unfolding joined
singles [] = refl
singles (c ∷ l) = ap (λ (r : List ℕ). c ∷ r) (singles l)

-- each as a row of its own
pub below_rows : (takes_part : ℕ → Bool) (n : ℕ)
    → those takes_part (below n) ≡ joined (tabulate (λ (c : ℕ). cond (takes_part c) (c ∷ []) []) n)
below_rows takes_part n = singles (those takes_part (below n)) ∙ below-joined takes_part (λ (c : ℕ). c ∷ []) n

-- how many they are
pub below-count : (takes_part : ℕ → Bool) (n : ℕ) → length (those takes_part (below n)) ≡ count_true takes_part n
unfolding those tabulate count_true sum
below-count takes_part zero = refl
below-count takes_part (suc n) =
    ap length (those-last takes_part (below n) n)
    ∙ length-append (those takes_part (below n)) (cond (takes_part n) (n ∷ []) [])
    ∙ ap₂ (λ (a b : ℕ). a + b) (below-count takes_part n) (own (takes_part n))
  where
    own : (b : Bool) → length (cond b (n ∷ []) []) ≡ truth b
    own true = refl
    own false = refl

-- two tests that agree below n
pub below_alike : (f g : ℕ → Bool) (n : ℕ) → ((c : ℕ) → c < n → f c ≡ g c) → those f (below n) ≡ those g (below n)
below_alike f g n agree = those-alike f g 0 (below n) all
  where
    all : Every (λ (c : ℕ). f c ≡ g c) 0 (below n)
    all i h = let inside : i < n = rw (length-tabulate (λ (c : ℕ). c) n) at h in rw (get_or-tabulate (λ (c : ℕ). c) n i 0 inside) (agree i inside)
