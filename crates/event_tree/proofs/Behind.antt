-- Laws of entries behind the same marks.
use Prim.Native.Nat.{ℕ}
use mathlib.Core.Path.{◌≡◌, refl, sym, ap, ◌∙◌}
use mathlib.Core.List.{List, [], ◌∷◌, ◌++◌, append-nil, append_assoc}
use native.Mathlib.Omega.{arith}
use lib.ListN.{length, length-append}
use Rattle.lists.specs.Rows.{joined}
use Rattle.entries.specs.Entries.{entry}
use Rattle.paths.proofs.Ways.{headed}
use Rattle.event_tree.specs.Entries.{entries_behind}

-- no entries but one, of a class alone
pub behind-one : (front : List ℕ) (class : ℕ) → entries_behind front (entry [] class ∷ []) ≡ entry front class
unfolding entries_behind joined entry
behind-one front class = append-nil (entry front class)

pub behind-append : (front : List ℕ) (xs ys : List (List ℕ)) → entries_behind front (xs ++ ys)
    ≡ entries_behind front xs ++ entries_behind front ys
unfolding entries_behind joined
behind-append front [] ys = refl
behind-append front (x ∷ xs) ys =
    ap (λ (l : List ℕ). front ++ x ++ l) (behind-append front xs ys)
    ∙ sym (append_assoc (front ++ x) (entries_behind front xs) (entries_behind front ys))

-- a mark in front of each entry is one mark more in front of all
pub behind-headed : (front : List ℕ) (mark : ℕ) (rows : List (List ℕ))
    → entries_behind front (headed mark rows) ≡ entries_behind (front ++ (mark ∷ [])) rows
unfolding entries_behind joined
behind-headed front mark [] = refl
behind-headed front mark (row ∷ rows) =
    ap (λ (l : List ℕ). l ++ entries_behind front (headed mark rows)) (sym (append_assoc front (mark ∷ []) row))
    ∙ ap (λ (l : List ℕ). front ++ (mark ∷ []) ++ row ++ l) (behind-headed front mark rows)

-- as long behind other marks, if these are as many
pub behind-length : (a b : List ℕ) (rows : List (List ℕ)) → length a ≡ length b
    → length (entries_behind a rows) ≡ length (entries_behind b rows)
unfolding entries_behind joined
behind-length a b [] e = refl
behind-length a b (row ∷ rows) e = simp length-append (omega (arith, e, behind-length a b rows e))

-- before any component is passed
pub unmarked : (rows : List (List ℕ)) → entries_behind [] rows ≡ joined rows
unfolding entries_behind joined
unmarked [] = refl
unmarked (row ∷ rows) = ap (λ (l : List ℕ). row ++ l) (unmarked rows)
