-- A number of one digit, one of more, and how many digits a number has at most. What carries it: any fuel that is enough gives the same digits.
use Rattle.std.proofs.Common.{ℕ, zero, suc, ◌/◌, ◌%◌, ◌^◌, ◌<◌, ◌≤◌, ◌≡◌, refl, sym, ap, Bool, true, false, List, [], ◌∷◌, ◌++◌, length, length-append, pow-suc, arith, ltb, lt-ltb, le-ltb, ltb-true, ltb-false}
use Rattle.text.specs.Numbers.{digit, spelt, decimal_within, decimal}

tenth-less : (n more : ℕ) → 10 ≤ n → n ≤ suc more → n / 10 ≤ more
tenth-less n more h k = omega arith

enough : (f g n : ℕ) → n ≤ f → n ≤ g → decimal_within f n ≡ decimal_within g n
unfolding decimal_within
enough zero zero n h k = refl
enough zero (suc g) n h k = rw (lt-ltb n 10 (omega arith)) refl
enough (suc f) zero n h k = rw (lt-ltb n 10 (omega arith)) refl
enough (suc f) (suc g) n h k = go (λ more. enough f g (n / 10) (tenth-less n f more h) (tenth-less n g more k)) (ltb n 10) refl
  where
    go : (10 ≤ n → decimal_within f (n / 10) ≡ decimal_within g (n / 10)) → (b : Bool) → ltb n 10 ≡ b
        → spelt (ltb n 10) (decimal_within f) n ≡ spelt (ltb n 10) (decimal_within g) n
    go front true e = rw e refl
    go front false e = rw e (ap (λ (digits : List ℕ). digits ++ (digit (n % 10) ∷ [])) (front (ltb-false n 10 e)))

pub decimal_one : (n : ℕ) → n < 10 → digit n ∷ [] ≡ decimal n
unfolding decimal decimal_within
decimal_one zero h = refl
decimal_one (suc m) h = rw (lt-ltb (suc m) 10 h) refl

pub decimal_more : (n : ℕ) → 10 ≤ n → decimal n ≡ decimal (n / 10) ++ (digit (n % 10) ∷ [])
unfolding decimal decimal_within
decimal_more zero h = absurd (omega arith)
decimal_more (suc m) h =
    let front = enough m (suc m / 10) (suc m / 10) (tenth-less (suc m) m h (omega arith)) (omega arith) in
    rw (le-ltb (suc m) 10 h) (ap (λ (digits : List ℕ). digits ++ (digit (suc m % 10) ∷ [])) front)

-- below ten to the power of w, a number has at most w digits
pub decimal-short : (w n : ℕ) → 1 ≤ w → n < 10 ^ w → length (decimal n) ≤ w
decimal-short zero n some h = absurd (omega arith)
decimal-short (suc w) n some h = go (λ more. decimal-short w (n / 10) (fewer w more h) (tenth w h)) (ltb n 10) refl
  where
    tenth : (w : ℕ) → n < 10 ^ suc w → n / 10 < 10 ^ w
    tenth w below = omega (arith, pow-suc 10 w)

    fewer : (w : ℕ) → 10 ≤ n → n < 10 ^ suc w → 1 ≤ w
    fewer zero more below = absurd (omega arith)
    fewer (suc w) more below = omega arith

    go : (10 ≤ n → length (decimal (n / 10)) ≤ w) → (b : Bool) → ltb n 10 ≡ b → length (decimal n) ≤ suc w
    go front true e = rw (sym (decimal_one n (ltb-true n 10 e))) (omega arith)
    go front false e =
        let more = ltb-false n 10 e in
        rw (decimal_more n more, length-append (decimal (n / 10)) (digit (n % 10) ∷ [])) (omega (arith, front more))
