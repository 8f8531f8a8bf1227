-- What carries every loop that writes a list into a buffer, piece by piece: putting the rest from where it stands gives what is due.
use Prim.Native.Nat.{ℕ, suc, ◌+◌, ◌<◌, ◌≤◌}
use mathlib.Core.Path.{◌≡◌, refl, sym, ap, ◌∙◌}
use mathlib.Core.List.{List, [], ◌∷◌, ◌++◌, append-nil, append_assoc}
use native.Mathlib.Nat.{add-zero, add_assoc}
use native.Mathlib.Numerals.{add-one}
use native.Mathlib.Omega.{arith}
use lib.ListN.{length, get_or, take, drop, set, get_or-append, length-append, length-drop, take-append-drop, drop_of_length-le}
use lib.Seq.{set_split, get_or-take, get_or-append-add, take_at, drop-append-add, drop-drop, length-take-le, append_snoc}
use Rattle.lists.specs.Rows.{put}

-- what is put, with what stands in front of it
length_front : (d : List ℕ) (at : ℕ) (x : List ℕ) → at + length x ≤ length d → length (take at d ++ x) ≡ at + length x
length_front d at x h = length-append (take at d) x ∙ ap (λ (n : ℕ). n + length x) (length-take-le at d (omega arith))

length-put : (d : List ℕ) (at : ℕ) (x : List ℕ) → at + length x ≤ length d → length (put d at x) ≡ length d
unfolding put
length-put d at x h =
    length-append (take at d ++ x) (drop (at + length x) d) ∙ rw (length_front d at x h, length-drop (at + length x) d) (omega arith)

pub put-size : (d d' : List ℕ) (at : ℕ) (x : List ℕ) → at + length x ≤ length d → d' ≡ put d at x → length d' ≡ length d
put-size d d' at x h e = ap length e ∙ length-put d at x h

-- what stands in front of it is as it was
pub get_or-put-before : (d : List ℕ) (at : ℕ) (x : List ℕ) (k : ℕ) → at + length x ≤ length d → k < at → get_or (put d at x) k 0 ≡ get_or d k 0
unfolding put
get_or-put-before d at x k h less =
    let front = length-take-le at d (omega (arith, h)) in
    get_or-append (take at d ++ x) (drop (at + length x) d) 0 k (omega (arith, length_front d at x h, less))
    ∙ get_or-append (take at d) x 0 k (omega (arith, front, less))
    ∙ get_or-take at d k 0 less

-- and it stands there
pub get_or-put-at : (d : List ℕ) (at : ℕ) (x : List ℕ) (j : ℕ) → at + length x ≤ length d → j < length x → get_or (put d at x) (at + j) 0 ≡ get_or x j 0
unfolding put
get_or-put-at d at x j h less =
    let front = length-take-le at d (omega (arith, h)) in
    get_or-append (take at d ++ x) (drop (at + length x) d) 0 (at + j) (omega (arith, length_front d at x h, less))
    ∙ ap (λ (n : ℕ). get_or (take at d ++ x) (n + j) 0) (sym front)
    ∙ get_or-append-add (take at d) x j 0

-- nothing changes where nothing is put
put-none : (d : List ℕ) (at : ℕ) → put d at [] ≡ d
unfolding put
put-none d at = rw (add-zero, append-nil) (take-append-drop at d)

-- a piece, and another behind it
pub put-put : (d : List ℕ) (at : ℕ) (x y : List ℕ) → at + length x ≤ length d → put (put d at x) (at + length x) y ≡ put d at (x ++ y)
unfolding put
put-put d at x y h =
    let long = length_front d at x h in
    let front = take at d ++ x in
    let rest = drop (at + length x) d in
    let begin : take (at + length x) (front ++ rest) ≡ front = take_at front rest (at + length x) long in
    let behind : drop (at + length x + length y) (front ++ rest) ≡ drop (at + length (x ++ y)) d =
    ap (λ (n : ℕ). drop (n + length y) (front ++ rest)) (sym long)
    ∙ drop-append-add front rest (length y)
    ∙ drop-drop (length y) (at + length x) d
    ∙ ap (λ (n : ℕ). drop n d) (add_assoc at (length x) (length y) ∙ ap (λ (n : ℕ). at + n) (sym (length-append x y))) in
    ap (λ (l : List ℕ). l ++ y ++ drop (at + length x + length y) (front ++ rest)) begin
    ∙ ap (λ (l : List ℕ). front ++ y ++ l) behind
    ∙ ap (λ (l : List ℕ). l ++ drop (at + length (x ++ y)) d) (append_assoc (take at d) x y)

-- one element
put_one : (d : List ℕ) (at n : ℕ) → at < length d → set d at n ≡ put d at (n ∷ [])
unfolding put
put_one d at n h = set_split d at n h ∙ sym (append_snoc (take at d) n (drop (suc at) d)) ∙ ap (λ (k : ℕ). take at d ++ (n ∷ []) ++ drop k d) (sym (add-one at))

-- all is written over
pub put_whole : (d x : List ℕ) → length x ≡ length d → put d 0 x ≡ x
unfolding put
put_whole d x e = ap (λ (l : List ℕ). x ++ l) (drop_of_length-le d {i = 0 + length x} (omega (arith, e))) ∙ append-nil x

-- x is due at a place of d₀; so far that has made d of it, and y is still to be put from p on.
pub record Due (d₀ : List ℕ) (at : ℕ) (x d : List ℕ) (p : ℕ) (y : List ℕ) : Type 0 where
  pub same : put d p y ≡ put d₀ at x
  pub place : p + length y ≡ at + length x
  pub room : p + length y ≤ length d
  pub size : length d ≡ length d₀

module _ {d₀ x : List ℕ} {at : ℕ} where
  pub due-start : at + length x ≤ length d₀ → Due d₀ at x d₀ at x
  due-start h = record { same = refl; place = refl; room = h; size = refl }

  -- room for the next piece
  pub due-room : {d : List ℕ} {p : ℕ} (y z : List ℕ) → Due d₀ at x d p (y ++ z) → p + length y ≤ length d
  due-room {d} {p} y z w = omega (arith, w.room, length-append y z)

  pub due-more : {d d' : List ℕ} {p q : ℕ} (y z : List ℕ) → Due d₀ at x d p (y ++ z) → d' ≡ put d p y → q ≡ p + length y → Due d₀ at x d' q z
  due-more {d} {d'} {p} {q} y z w e place =
      let room = due-room y z w in
      let long = put-size d d' p y room e in
      record {
        same = ap (λ (n : ℕ). put d' n z) place ∙ ap (λ (l : List ℕ). put l (p + length y) z) e ∙ put-put d p y z room ∙ w.same;
        place = omega (arith, place, length-append y z, w.place);
        room = omega (arith, place, length-append y z, w.room, long);
        size = long ∙ w.size;
      }

  -- the next piece is one element
  pub due-set : {d y : List ℕ} {p n : ℕ} → Due d₀ at x d p (n ∷ y) → Due d₀ at x (set d p n) (p + 1) y
  due-set {d} {y} {p} {n} w = due-more (n ∷ []) y w (put_one d p n (omega (arith, w.room))) refl

  pub due-done : {d : List ℕ} {p : ℕ} → Due d₀ at x d p [] → d ≡ put d₀ at x
  due-done {d} {p} w = sym (put-none d p) ∙ w.same

  -- where the pieces end
  pub due-end : {d : List ℕ} {p : ℕ} → Due d₀ at x d p [] → p ≡ at + length x
  due-end {d} {p} w = omega (arith, w.place)
