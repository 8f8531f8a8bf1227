-- Laws of a table that is painted: each row that is kept has its new value written over what stood at its place.
use Prim.Native.Nat.{ℕ, suc}
use mathlib.Core.Path.{◌≡◌, refl, ap}
use mathlib.Core.Bool.{Bool, true, false, cond}
use mathlib.Core.List.{List, [], ◌∷◌, ◌++◌, map}
use native.Mathlib.Omega.{arith}
use lib.ListN.{length}
use Rattle.lists.proofs.Elements.{Every}
use Rattle.drawn_tree.specs.Filling.{painted}

pub length-painted : (keep : List ℕ → Bool) (f : List ℕ → ℕ) (xs : List (List ℕ)) (table : List ℕ) → length (painted keep f xs table) ≡ length table
unfolding painted
length-painted keep f [] table = refl
length-painted keep f (x ∷ xs) [] = refl
length-painted keep f (x ∷ xs) (class ∷ table) = ap suc (length-painted keep f xs table)

pub painted-append : (keep : List ℕ → Bool) (f : List ℕ → ℕ) (xs ys : List (List ℕ)) (a b : List ℕ) → length xs ≡ length a
    → painted keep f (xs ++ ys) (a ++ b) ≡ painted keep f xs a ++ painted keep f ys b
unfolding painted
painted-append keep f [] ys [] b e = refl
painted-append keep f [] ys (class ∷ a) b e = absurd (omega arith)
painted-append keep f (x ∷ xs) ys [] b e = absurd (omega arith)
painted-append keep f (x ∷ xs) ys (class ∷ a) b e =
    ap (λ (l : List ℕ). cond (keep x) (f x) class ∷ l) (painted-append keep f xs ys a b (omega arith))

-- the rows of one painting through a function are those of another
pub painted-map : (keep : List ℕ → Bool) (f : List ℕ → ℕ) (g : List ℕ → List ℕ) (xs : List (List ℕ)) (table : List ℕ)
    → painted keep f (map g xs) table ≡ painted (λ (x : List ℕ). keep (g x)) (λ (x : List ℕ). f (g x)) xs table
unfolding painted
painted-map keep f g [] table = refl
painted-map keep f g (x ∷ xs) [] = refl
painted-map keep f g (x ∷ xs) (class ∷ table) = ap (λ (l : List ℕ). cond (keep (g x)) (f (g x)) class ∷ l) (painted-map keep f g xs table)

-- two paintings, the second over the first, are one that says the same of each row, whatever stood there
pub painted-twice : (keep first both : List ℕ → Bool) (f g h : List ℕ → ℕ) (xs : List (List ℕ)) (table : List ℕ)
    → Every (λ (x : List ℕ). (class : ℕ) → cond (keep x) (f x) (cond (first x) (g x) class) ≡ cond (both x) (h x) class) [] xs
    → painted keep f xs (painted first g xs table) ≡ painted both h xs table
unfolding painted
painted-twice keep first both f g h [] table each = refl
painted-twice keep first both f g h (x ∷ xs) [] each = refl
painted-twice keep first both f g h (x ∷ xs) (class ∷ table) each =
    let here = each 0 (omega arith) class in
    let more = painted-twice keep first both f g h xs table (λ k less. each (suc k) (omega arith)) in
    λ i. here i ∷ more i

-- no row is kept
pub painted-none : (keep : List ℕ → Bool) (f : List ℕ → ℕ) (xs : List (List ℕ)) (table : List ℕ) → Every (λ (x : List ℕ). keep x ≡ false) [] xs
    → painted keep f xs table ≡ table
unfolding painted
painted-none keep f [] table each = refl
painted-none keep f (x ∷ xs) [] each = refl
painted-none keep f (x ∷ xs) (class ∷ table) each =
    let more = painted-none keep f xs table (λ k less. each (suc k) (omega arith)) in
    rw (each 0 (omega arith)) (ap (λ (l : List ℕ). class ∷ l) more)

-- every row is kept
pub painted-all : (keep : List ℕ → Bool) (f : List ℕ → ℕ) (xs : List (List ℕ)) (table : List ℕ) → ((x : List ℕ) → keep x ≡ true)
    → length xs ≡ length table → painted keep f xs table ≡ map f xs
unfolding painted
painted-all keep f [] [] all e = refl
painted-all keep f [] (class ∷ table) all e = absurd (omega arith)
painted-all keep f (x ∷ xs) [] all e = absurd (omega arith)
painted-all keep f (x ∷ xs) (class ∷ table) all e =
    let more = painted-all keep f xs table all (omega arith) in
    rw (all x) (ap (λ (l : List ℕ). f x ∷ l) more)
