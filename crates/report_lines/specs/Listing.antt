-- What only the code needs: a class on its way into the list of those that occur.
use Rattle.std.specs.Prelude.{ℕ, cond, List, [], ◌∷◌, ltb}

-- class c if it has a path, else none
unfoldable pub class_with : ℕ → ℕ → List ℕ
class_with paths c = cond (ltb 0 paths) (c ∷ []) []
