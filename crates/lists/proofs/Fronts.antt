-- Laws of a list that is put at the front of another.
use Prim.Native.Nat.{ℕ, ◌+◌, ◌-◌, ◌<◌, ◌≤◌}
use mathlib.Core.Path.{◌≡◌, ap, ◌∙◌}
use mathlib.Core.List.{List, ◌++◌}
use native.Mathlib.Nat.{zero-add}
use native.Mathlib.Omega.{arith}
use lib.ListN.{length, get_or, take, drop, get_or-append}
use lib.Seq.{get_or-append-add, get_or-drop, take_at}
use Rattle.lists.specs.Rows.{put}

-- what stands behind it is as it was
pub put-behind : (d x : List ℕ) (k : ℕ) → length x ≤ k → get_or (put d 0 x) k 0 ≡ get_or d k 0
unfolding put
put-behind d x k h =
    let place : k ≡ length x + (k - length x) = omega arith in
    let same : 0 + length x + (k - length x) ≡ k = omega arith in
    ap (λ (n : ℕ). get_or (x ++ drop (0 + length x) d) n 0) place
    ∙ get_or-append-add x (drop (0 + length x) d) (k - length x) 0
    ∙ get_or-drop (0 + length x) d (k - length x) 0
    ∙ ap (λ (n : ℕ). get_or d n 0) same

pub get_or-put : (d x : List ℕ) (i n : ℕ) → i < length x → get_or (put d 0 x) i n ≡ get_or x i n
unfolding put
get_or-put d x i n h = get_or-append x (drop (0 + length x) d) n i h

-- a front that is cut off, written over and put back
pub put_front : (d x : List ℕ) {n : ℕ} → length x ≡ n → x ++ drop n d ≡ put d 0 x
unfolding put
put_front d x e = rw (zero-add (length x), e)

-- what was put is what stands in front
pub put-taken : (d x : List ℕ) {n : ℕ} → length x ≡ n → take n (put d 0 x) ≡ x
unfolding put
put-taken d x {n} e = take_at x (drop (0 + length x) d) n e
