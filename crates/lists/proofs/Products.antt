-- Laws of the product of a list.
use Prim.Native.Nat.{ℕ, zero, suc, ◌*◌, ◌≤◌}
use mathlib.Core.Path.{◌≡◌, sym, ap, ◌∙◌}
use mathlib.Core.List.{List, [], ◌∷◌, ◌++◌}
use native.Mathlib.Nat.{le_refl, mul-one, one-mul, mul_assoc, mul-le-mul, mul-le-mul_left}
use native.Mathlib.Omega.{arith}
use lib.ListN.{take}
use Rattle.lists.specs.Product.{product}
use Rattle.lists.proofs.Elements.{Every}

pub product-snoc : (ns : List ℕ) (n : ℕ) → product (ns ++ (n ∷ [])) ≡ product ns * n
unfolding product
product-snoc [] n = mul-one n ∙ sym (one-mul n)
product-snoc (m ∷ ns) n = ap (λ (x : ℕ). m * x) (product-snoc ns n) ∙ sym (mul_assoc m (product ns) n)

-- no first few of some numbers, each at least 1, have a larger product than all
pub front-product : (i : ℕ) (ns : List ℕ) → Every (λ (n : ℕ). 1 ≤ n) 0 ns → product (take i ns) ≤ product ns
unfolding product
front-product zero [] some = le_refl 1
front-product zero (n ∷ ns) some = mul-le-mul (some 0 (omega arith)) (front-product zero ns (λ k h. some (suc k) (omega arith)))
front-product (suc i) [] some = le_refl 1
front-product (suc i) (n ∷ ns) some = mul-le-mul_left n (front-product i ns (λ k h. some (suc k) (omega arith)))
