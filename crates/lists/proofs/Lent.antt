-- A list of which the part from n on, of m elements, was lent and is back as p: what stands in front of the part's end, and behind it.
use Prim.Native.Nat.{ℕ, ◌+◌, ◌-◌, ◌≤◌}
use mathlib.Core.Path.{◌≡◌, sym, ap, ◌∙◌}
use mathlib.Core.List.{List, ◌++◌, append_assoc}
use native.Mathlib.Nat.{add-sub_cancel_left}
use native.Mathlib.Omega.{arith}
use lib.ListN.{length, take, drop, length-append, length-drop}
use lib.Seq.{take_at, drop_at, length-take-le, drop-drop}

module _ {A : Type 0} (l p : List A) (n m : ℕ) where
  -- the list as the code has it
  abbrev pub lent_back : List A
  lent_back = take n l ++ (p ++ drop (n + m - n) (drop n l))

  in_three : lent_back ≡ take n l ++ p ++ drop (n + m) l
  in_three = rw (add-sub_cancel_left, drop-drop m n l) (sym (append_assoc (take n l) p (drop (n + m) l)))

  module _ (inside : n + m ≤ length l) (long : length p ≡ m) where
    length_front : length (take n l ++ p) ≡ n + m
    length_front = length-append (take n l) p ∙ rw (length-take-le n l (omega arith), long)

    pub back-front : take (n + m) lent_back ≡ take n l ++ p
    back-front = ap (take (n + m)) in_three ∙ take_at (take n l ++ p) (drop (n + m) l) (n + m) length_front

    pub back-behind : drop (n + m) lent_back ≡ drop (n + m) l
    back-behind = ap (drop (n + m)) in_three ∙ drop_at (take n l ++ p) (drop (n + m) l) (n + m) length_front

    pub back_long : length lent_back ≡ length l
    back_long = ap length in_three ∙ length-append (take n l ++ p) (drop (n + m) l) ∙ rw (length_front, length-drop (n + m) l) (omega arith)
