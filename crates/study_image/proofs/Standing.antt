-- Fields that stand in an image one behind the other, and what is read of them.
use Prim.Native.Nat.{ℕ, zero, suc, ◌+◌, ◌*◌, ◌/◌, ◌%◌, ◌<◌}
use mathlib.Core.Path.{◌≡◌, refl, sym, ap, ◌∙◌}
use mathlib.Core.List.{List, [], ◌∷◌, ◌++◌, append_assoc}
use native.Mathlib.Nat.{add-zero, div-add-mod', div-div-eq-div-mul, div-lt_iff_lt-mul, mod-eq_of_lt}
use native.Mathlib.Omega.{arith}
use lib.Dec.{lit<}
use lib.ListN.{length, get_or, take, drop, length-append, get_or-append}
use lib.Seq.{get_or-drop, drop-drop, drop-append-add, drop-cons, take_at, get_or-take, length-take-le}
use Rattle.lists.specs.Rows.{joined}
use Rattle.lists.specs.Tabulate.{tabulate}
use Rattle.lists.proofs.Joined.{joined-long}
use Rattle.lists.proofs.Tabulated.{length-tabulate, get_or-tabulate, tabulated}
use Rattle.reading.specs.Reader.{number}
use Rattle.study_image.specs.Image.{bytes_of, byte_in, number_in, bytes_in}
use Rattle.study_image.specs.Fits.{NumberFits}

-- the fields stand there from a place on, and something behind them
pub record Stands (image : List ℕ) (at : ℕ) (fields : List (List ℕ)) : Type 0 where
  pub rest : List ℕ
  pub there : drop at image ≡ joined fields ++ rest

-- behind the first k fields
behind : (fields : List (List ℕ)) (rest : List ℕ) (k n : ℕ) → length (joined (take k fields)) ≡ n
    → drop n (joined fields ++ rest) ≡ joined (drop k fields) ++ rest
unfolding joined
behind fields rest zero n e = rw (sym e) refl
behind [] rest (suc k) n e = rw (sym e) refl
behind (x ∷ fields) rest (suc k) n e =
    let place : n ≡ length x + length (joined (take k fields)) = sym e ∙ length-append x (joined (take k fields)) in
    rw (place, append_assoc x (joined fields) rest)
    (drop-append-add x (joined fields ++ rest) (length (joined (take k fields))) ∙ behind fields rest k _ refl)

module _ {image : List ℕ} {at : ℕ} where
  pub stands-behind : {fields : List (List ℕ)} → Stands image at fields → (k n : ℕ) → length (joined (take k fields)) ≡ n
      → Stands image (at + n) (drop k fields)
  stands-behind {fields} s k n e =
      record { rest = s.rest; there = sym (drop-drop n at image) ∙ ap (drop n) s.there ∙ behind fields s.rest k n e }

  -- a field that is made of fields
  pub stands-inside : {inner fields : List (List ℕ)} → Stands image at (joined inner ∷ fields) → Stands image at inner
  unfolding joined
  stands-inside {inner} {fields} s = record { rest = joined fields ++ s.rest; there = s.there ∙ append_assoc (joined inner) (joined fields) s.rest }

  module _ {x : List ℕ} {fields : List (List ℕ)} (s : Stands image at (x ∷ fields)) where
    front : drop at image ≡ x ++ (joined fields ++ s.rest)
    unfolding joined
    front = s.there ∙ append_assoc x (joined fields) s.rest

    -- a byte of the first field, the whole field, and its number
    pub stands-byte : (k : ℕ) → k < length x → byte_in image (at + k) ≡ get_or x k 0
    stands-byte k h = sym (get_or-drop at image k 0) ∙ ap (λ (l : List ℕ). get_or l k 0) front ∙ get_or-append x (joined fields ++ s.rest) 0 k h

    pub stands-first : 0 < length x → byte_in image at ≡ get_or x 0 0
    stands-first h = ap (byte_in image) (sym (add-zero at)) ∙ stands-byte 0 h

    pub stands-bytes : (n : ℕ) → length x ≡ n → bytes_in image at n ≡ x
    stands-bytes n long = ap (take n) front ∙ take_at x (joined fields ++ s.rest) n long

-- the number of its four bytes
number-back : (n : ℕ) → NumberFits n → number (n % 256) (n / 256 % 256) (n / 65536 % 256) (n / 16777216 % 256) ≡ n
number-back n fits =
    let top : n / 16777216 < 256 = (div-lt_iff_lt-mul {k = 16777216} (lit< tt)).1 fits in
    let second = div-div-eq-div-mul n 256 256 in
    let third = div-div-eq-div-mul n 65536 256 in
    omega (arith, div-add-mod' n 256, div-add-mod' (n / 256) 256, div-add-mod' (n / 65536) 256, second, third, mod-eq_of_lt top)

pub stands-number : {image : List ℕ} {at n : ℕ} {fields : List (List ℕ)} → Stands image at (bytes_of n ∷ fields) → NumberFits n → number_in image at ≡ n
stands-number {image} {at} {n} s fits =
    rw (stands-first s (omega arith), stands-byte s 1 (omega arith), stands-byte s 2 (omega arith), stands-byte s 3 (omega arith)) (number-back n fits)

-- ---- rows of one width: each stands where its number says

module _ {image : List ℕ} {at : ℕ} (row : ℕ → List ℕ) (width n : ℕ) (wide : (k : ℕ) → k < n → length (row k) ≡ width)
    (s : Stands image at (tabulate row n)) where
  first_rows : (k : ℕ) → k < n → length (joined (take k (tabulate row n))) ≡ k * width
  first_rows k h =
      let long : length (take k (tabulate row n)) ≡ k = length-take-le k (tabulate row n) (omega (arith, length-tabulate row n)) in
      joined-long width (take k (tabulate row n)) each ∙ ap (λ (m : ℕ). m * width) long
    where
      each : (i : ℕ) → i < length (take k (tabulate row n)) → length (get_or (take k (tabulate row n)) i []) ≡ width
      each i less =
          let below : i < k = omega (arith, length-take-le k (tabulate row n) (omega (arith, length-tabulate row n))) in
          rw (get_or-take k (tabulate row n) i [] below, get_or-tabulate row n i [] (omega arith)) (wide i (omega arith))

  stands-row : (k : ℕ) → k < n → Stands image (at + k * width) (row k ∷ drop (suc k) (tabulate row n))
  stands-row k h =
      let next : drop k (tabulate row n) ≡ row k ∷ drop (suc k) (tabulate row n) =
      rw (get_or-tabulate row n k [] h) at (drop-cons (tabulate row n) k [] (omega (arith, length-tabulate row n))) in
      rw next at (stands-behind s k (k * width) (first_rows k h))

  -- the records that rows hold
  pub records-back : {A : Type 0} (record_in : ℕ → A) (l : List A) (a : A) → length l ≡ n
      → ((k : ℕ) → k < n → Stands image (at + k * width) (row k ∷ drop (suc k) (tabulate row n)) → record_in k ≡ get_or l k a) → tabulate record_in n ≡ l
  records-back record_in l a long back = sym (tabulated record_in n l a long (λ k h. sym (back k h (stands-row k h))))
