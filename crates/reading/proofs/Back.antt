-- Reading back: a reader that is handed the bytes of a value gives that value, and leaves whatever stands behind them.
use Prim.Native.Nat.{ℕ, zero, suc, ◌+◌, ◌/◌, ◌%◌, ◌^◌, ◌<◌, ◌≤◌}
use mathlib.Core.Path.{◌≡◌, refl, sym, ap, subst, ◌∙◌}
use mathlib.Core.List.{List, [], ◌∷◌, ◌++◌, append_assoc}
use native.Mathlib.Nat.{le_refl, sub-zero, div-add-mod', div-div-eq-div-mul, div-lt_iff_lt-mul, mod-eq_of_lt}
use native.Mathlib.Numerals.{add-one}
use native.Mathlib.Omega.{arith}
use lib.Dec.{lit<}
use lib.ListN.{length, get_or, drop, drop_of_length-le}
use borrow.Author.Tests.{eq-eqb}
use Rattle.lists.specs.Rows.{joined}
use Rattle.lists.specs.Tabulate.{tabulate}
use Rattle.lists.proofs.Joined.{joined-next}
use Rattle.lists.proofs.Tabulated.{length-tabulate, get_or-tabulate}
use Rattle.lists.proofs.Turns.{Turns, turns-start, turns_more, turns-done}
use Rattle.reading.specs.Reader.{Read, Reader, got, and_then, return, judge, byte, word, number, turn, repeat, ◌>>=◌, ◌>>◌}

-- x is read as a, whatever stands behind
pub record Back {A : Type 0} (m : Reader A) (x : List ℕ) (a : A) : Type 0 where
  pub back : (rest : List ℕ) → m (x ++ rest) ≡ got a rest

pub back-return : {A : Type 0} (a : A) → Back (return a) [] a
back-return a = record { back = λ rest. refl }

pub back-then : {A B : Type 0} {m : Reader A} {x y : List ℕ} {a : A} {b : B} (f : A → Reader B) → Back m x a → Back (f a) y b → Back (m >>= f) (x ++ y) b
back-then {m = m} {x = x} {y = y} f here there =
    record {
      back =
          λ rest.
          ap (λ (l : List ℕ). and_then (m l) f) (append_assoc x y rest)
          ∙ ap (λ (r : Read _). and_then r f) (here.back (y ++ rest))
          ∙ there.back rest;
    }

-- what follows reads nothing
pub back-ended : {A B : Type 0} {m : Reader A} {x : List ℕ} {a : A} {b : B} (f : A → Reader B) → Back m x a → Back (f a) [] b → Back (m >>= f) x b
back-ended f here there = record { back = λ rest. ap (λ (r : Read _). and_then r f) (here.back rest) ∙ there.back rest }

pub back-finished : {A B : Type 0} {m : Reader A} {x : List ℕ} {a : A} (f : A → B) → Back m x a → Back (m >>= λ v. return (f v)) x (f a)
back-finished {a = a} f here = back-ended (λ v. return (f v)) here (back-return (f a))

-- a rule that is kept is judged by the way
pub back-judge : {A : Type 0} {m : Reader A} {x : List ℕ} {a : A} (breach : ℕ) → breach ≡ 0 → Back m x a → Back (judge breach >> m) x a
back-judge breach none there = record { back = λ rest. rw (eq-eqb breach 0 none) (there.back rest) }

pub back-judged : {A B : Type 0} {m : Reader A} {x : List ℕ} {a : A} (rule : A → ℕ) (f : A → B) → rule a ≡ 0 → Back m x a
    → Back (m >>= λ v. judge (rule v) >> return (f v)) x (f a)
back-judged {a = a} rule f none here =
    back-ended (λ v. judge (rule v) >> return (f v)) here (back-judge (rule a) none (back-return (f a)))

pub back-byte : (b : ℕ) → Back byte (b ∷ []) b
unfolding byte
back-byte b = record { back = λ rest. refl }

-- a number is that of its four bytes
number-back : (n : ℕ) → n < 2 ^ 32 → number (n % 256) (n / 256 % 256) (n / 65536 % 256) (n / 16777216 % 256) ≡ n
number-back n fits =
    let top : n / 16777216 < 256 = (div-lt_iff_lt-mul {k = 16777216} (lit< tt)).1 fits in
    omega (
      arith,
      div-add-mod' n 256,
      div-add-mod' (n / 256) 256,
      div-add-mod' (n / 65536) 256,
      div-div-eq-div-mul n 256 256,
      div-div-eq-div-mul n 65536 256,
      mod-eq_of_lt top,
    )

pub back-word : (n : ℕ) → n < 2 ^ 32 → Back word (n % 256 ∷ n / 256 % 256 ∷ n / 65536 % 256 ∷ n / 16777216 % 256 ∷ []) n
unfolding word byte
back-word n fits = record { back = λ rest. ap (λ (k : ℕ). got k rest) (number-back n fits) }

-- ---- repeated readings

-- turn k of n reads piece k and takes the value from k to k + 1; past the last piece it reads nothing
module _ {A : Type 0} (step : ℕ → A → Reader A) (value : ℕ → A) (pieces : List (List ℕ)) (n : ℕ)
    (read : (k : ℕ) → k < n → Back (step k (value k)) (get_or pieces k []) (value (k + 1))) where
  module _ (rest : List ℕ) where
    -- what turn i finds
    abbrev before : ℕ → Read A
    before i = got (value i) (joined (drop i pieces) ++ rest)

    one-turn : (i : ℕ) → i < n → turn step i (before i) ≡ before (i + 1)
    one-turn i h =
        ap (λ (l : List ℕ). step i (value i) (l ++ rest)) (joined-next pieces i)
        ∙ ap (step i (value i)) (append_assoc (get_or pieces i []) (joined (drop (i + 1) pieces)) rest)
        ∙ (read i h).back (joined (drop (i + 1) pieces) ++ rest)

    so_far : (i : ℕ) → i ≤ n → Turns (turn step) n 0 (before 0) i (before i)
    so_far zero h = turns-start h
    so_far (suc i) h = rw (add-one i) at (subst (Turns (turn step) n 0 (before 0) (i + 1)) (one-turn i h) (turns_more (so_far i (omega arith)) h))

  pub back-repeat : length pieces ≤ n → Back (repeat step n (value 0)) (joined pieces) (value n)
  unfolding joined
  back-repeat few =
      record {
        back =
            λ rest.
            let all : before rest n ≡ repeat step n (value 0) (joined pieces ++ rest) = rw sub-zero at (turns-done (so_far rest n (le_refl n)) (le_refl n)) in
            sym all ∙ ap (λ (l : List (List ℕ)). got (value n) (joined l ++ rest)) (drop_of_length-le pieces few);
      }

-- so many pieces, a turn for each
pub back-pieces : {A : Type 0} (step : ℕ → A → Reader A) (value : ℕ → A) (piece : ℕ → List ℕ) (n : ℕ)
    → ((k : ℕ) → k < n → Back (step k (value k)) (piece k) (value (k + 1))) → Back (repeat step n (value 0)) (joined (tabulate piece n)) (value n)
back-pieces step value piece n read =
    back-repeat step value (tabulate piece n) n
    (λ k less. subst (λ (x : List ℕ). Back (step k (value k)) x (value (k + 1))) (sym (get_or-tabulate piece n k [] less)) (read k less))
    (omega (arith, length-tabulate piece n))
