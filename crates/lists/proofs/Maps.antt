-- Laws of a list with a function applied to each element.
use Prim.Native.Nat.{ℕ, zero, suc, ◌<◌}
use mathlib.Core.Path.{◌≡◌, refl, sym, ap, ◌∙◌}
use mathlib.Core.List.{List, [], ◌∷◌, map}
use native.Mathlib.Nat.{not-suc-le-zero, le_of_suc-le-suc}
use lib.ListN.{length, get_or, take, length-map}

-- an element inside, whatever would stand past the end
pub get_or-map-inside : {A B : Type 0} (f : A → B) (l : List A) (k : ℕ) (a : A) (b : B) → k < length l → get_or (map f l) k b ≡ f (get_or l k a)
get_or-map-inside f [] k a b h = absurd (not-suc-le-zero h)
get_or-map-inside f (x ∷ l) zero a b h = refl
get_or-map-inside f (x ∷ l) (suc k) a b h = get_or-map-inside f l k a b (le_of_suc-le-suc h)

-- the first elements
pub take-map : {A B : Type 0} (f : A → B) (n : ℕ) (l : List A) → take n (map f l) ≡ map f (take n l)
take-map f zero l = refl
take-map f (suc n) [] = refl
take-map f (suc n) (x ∷ l) = ap (λ (r : List _). f x ∷ r) (take-map f n l)

-- as many elements as before; the length of an array in a struct's field is told over what stands in memory for its elements
pub mapped : {A B : Type 0} (f : A → B) (l : List A) (n : ℕ) → length (map f l) ≡ n → length l ≡ n
mapped f l n e = sym (length-map l f) ∙ e
