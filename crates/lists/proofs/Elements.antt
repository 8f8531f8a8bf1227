-- What holds of each element of a list, or of each two in their order, over lists one behind the other and lists that a function maps.
use Prim.Native.Nat.{ℕ, zero, suc, ◌<◌}
use mathlib.Core.List.{List, [], ◌∷◌, ◌++◌, map}
use native.Mathlib.Nat.{not-suc-le-zero, le_of_suc-le-suc}
use native.Mathlib.Omega.{arith}
use lib.ListN.{length, get_or}

module _ {A : Type 0} where
  -- P holds of each element; d stands past the end
  abbrev pub Every : (A → Type 0) → A → List A → Type 0
  Every P d l = (i : ℕ) → i < length l → P (get_or l i d)

  -- R holds of each two elements, the earlier one first
  abbrev pub Pairs : (A → A → Type 0) → A → List A → Type 0
  Pairs R d l = (i j : ℕ) → i < j → j < length l → R (get_or l i d) (get_or l j d)

  pub every_append : (P : A → Type 0) (d : A) (l m : List A) → Every P d l → Every P d m → Every P d (l ++ m)
  every_append P d [] m first second i h = second i h
  every_append P d (x ∷ l) m first second zero h = first zero (omega arith)
  every_append P d (x ∷ l) m first second (suc i) h = every_append P d l m (λ k less. first (suc k) (omega arith)) second i (le_of_suc-le-suc h)

  pub pairs-append : (R : A → A → Type 0) (d : A) (l m : List A) → Pairs R d l → Pairs R d m → Every (λ (x : A). Every (R x) d m) d l → Pairs R d (l ++ m)
  pairs-append R d [] m first second across i j less h = second i j less h
  pairs-append R d (x ∷ l) m first second across zero zero less h = absurd (not-suc-le-zero less)
  pairs-append R d (x ∷ l) m first second across zero (suc j) less h =
      every_append (R x) d l m (λ k inside. first zero (suc k) (omega arith) (omega arith)) (across zero (omega arith)) j (le_of_suc-le-suc h)
  pairs-append R d (x ∷ l) m first second across (suc i) zero less h = absurd (not-suc-le-zero less)
  pairs-append R d (x ∷ l) m first second across (suc i) (suc j) less h =
      pairs-append R d l m (λ p q lower inside. first (suc p) (suc q) (omega arith) (omega arith)) second (λ k inside. across (suc k) (omega arith)) i j
      (le_of_suc-le-suc less) (le_of_suc-le-suc h)

module _ {A B : Type 0} (f : A → B) (a : A) (b : B) where
  pub every_map : (P : B → Type 0) (l : List A) → Every (λ (x : A). P (f x)) a l → Every P b (map f l)
  every_map P [] each i h = absurd (not-suc-le-zero h)
  every_map P (x ∷ l) each zero h = each zero (omega arith)
  every_map P (x ∷ l) each (suc i) h = every_map P l (λ k less. each (suc k) (omega arith)) i (le_of_suc-le-suc h)

  pub pairs-map : (R : B → B → Type 0) (l : List A) → Pairs (λ (x y : A). R (f x) (f y)) a l → Pairs R b (map f l)
  pairs-map R [] each i j less h = absurd (not-suc-le-zero h)
  pairs-map R (x ∷ l) each i zero less h = absurd (not-suc-le-zero less)
  pairs-map R (x ∷ l) each zero (suc j) less h =
      every_map (R (f x)) l (λ k inside. each zero (suc k) (omega arith) (omega arith)) j (le_of_suc-le-suc h)
  pairs-map R (x ∷ l) each (suc i) (suc j) less h =
      pairs-map R l (λ p q lower inside. each (suc p) (suc q) (omega arith) (omega arith)) i j (le_of_suc-le-suc less) (le_of_suc-le-suc h)
