-- What carries the loop that goes along two rows of bytes once (`Along`): what stands from a place on decides the order, and as many inputs are counted as
-- have begun up to there.
use Rattle.std.proofs.Common.{◌≡◌, ℕ, suc, ◌+◌, ◌<◌, ◌≤◌, Bool, true, false, cond, ltb, List, [], ◌∷◌, length, get_or, drop, Some, None, refl, sym, ap, ◌∙◌, drop-cons, arith}
use Rattle.std.proofs.Math.ListN.{drop_of_length-le}
use Rattle.std.proofs.lemmas.Bool.{false≢true}
use mir.Val.{bool_byte}
use borrow.Author.Tests.{lt-ltb, le-ltb}
use Rattle.lists.specs.Counting.{truth}
use Rattle.lists.proofs.Sums.{truth-most}
use Rattle.ordering.specs.Distinct.{same_input, distinct}
use Rattle.ordering.specs.Thinning.{stands_next, thinned, counted}
use Rattle.ordering.specs.Inputs.{Input, no_input, mask_values, ByteMask, rank, paired}
use Rattle.ordering.specs.Sorting.{ascends}
use Rattle.ordering.proofs.Pairs.{input_at, paired_long, get_or-paired}
use Rattle.ordering.proofs.Rises.{ascends-kept}
use Rattle.ordering.proofs.Sets.{same-told, same_self}
use Rattle.ordering.proofs.Thinned.{thinned-distinct}
use Rattle.ordering.proofs.Unique.{same-input}

-- ---- two inputs, one behind the other

module _ (a b : Input) (row : List Input) where
  fell-two : rank b < rank a → ascends (a ∷ b ∷ row) ≡ false
  unfolding ascends
  fell-two less = rw (lt-ltb (rank b) (rank a) less) refl

  rose-two : rank a ≤ rank b → ascends (a ∷ b ∷ row) ≡ ascends (b ∷ row)
  unfolding ascends
  rose-two most = rw (le-ltb (rank b) (rank a) most) refl

  -- where the second ranks above the first, the first was the last of its kind
  thinned-two : ByteMask a → ByteMask b → rank a ≤ rank b → truth (ltb (rank a) (rank b)) + length (thinned (b ∷ row)) ≡ length (thinned (a ∷ b ∷ row))
  unfolding thinned stands_next
  thinned-two byte byte' most = go (same_input a b) refl
    where
      go : (p : Bool) → same_input a b ≡ p
          → truth (ltb (rank a) (rank b)) + length (thinned (b ∷ row)) ≡ length (cond (same_input a b) (thinned (b ∷ row)) (a ∷ thinned (b ∷ row)))
      go true same = rw (same, le-ltb (rank a) (rank b) (omega (arith, ap rank (same-told a b same)))) (omega arith)
      go false other =
          let apart : rank a ≡ rank b → ⊥ = λ e. false≢true (sym other ∙ rw (same-input a b byte byte' e) (same_self b)) in
          rw (other, lt-ltb (rank a) (rank b) (omega (arith, apart, most))) (omega arith)

-- ---- along a row

-- what is counted for a truth value
pub byte-truth : (b : Bool) → bool_byte b ≡ truth b
byte-truth true = refl
byte-truth false = refl

-- what it was found to be, by whether it is in order
counted-not : (row : List Input) → ascends row ≡ false → None ≡ counted row
counted-not row e = rw e refl

counted-up : (row : List Input) (n : ℕ) → ascends row ≡ true → n ≡ length (distinct row) → Some n ≡ counted row
counted-up row n e many = rw (e, many) refl

-- one without inputs is in order
pub along-none : (ns ms : List ℕ) → length ns ≡ 0 → Some 0 ≡ counted (paired ns ms)
unfolding paired ascends distinct
along-none [] ms e = refl
along-none (n ∷ ns) ms e = absurd (omega (arith, e))

pub record Along (ns ms : List ℕ) (n at : ℕ) : Type 0 where
  pub few : n ≤ at + 1
  pub order : ascends (paired ns ms) ≡ ascends (drop at (paired ns ms))
  pub due : n + length (thinned (drop at (paired ns ms))) ≡ length (thinned (paired ns ms)) + 1

pub along-start : (ns ms : List ℕ) → Along ns ms 1 0
along-start ns ms = record { few = omega arith; order = refl; due = omega arith }

module _ (ns ms : List ℕ) (rows : length ns ≡ length ms) (bytes : (k : ℕ) → get_or ms k 0 < mask_values) where
  module _ {n at : ℕ} (along : Along ns ms n at) {next : ℕ} (is : next ≡ suc at) (inside : next < length ns) where
    abbrev row : List Input
    row = paired ns ms

    abbrev a : Input
    a = input_at ns ms at

    abbrev b : Input
    b = input_at ns ms next

    abbrev behind : List Input
    behind = drop (suc next) row

    -- what stands from the next place on, and from this one
    rest : drop next row ≡ b ∷ behind
    rest = drop-cons row next no_input (omega (arith, inside, paired_long ns ms rows)) ∙ ap (λ (i : Input). i ∷ behind) (get_or-paired ns ms next rows)

    both : drop at row ≡ a ∷ b ∷ behind
    both =
        drop-cons row at no_input (omega (arith, is, inside, paired_long ns ms rows))
        ∙ ap (λ (i : Input). i ∷ drop (suc at) row) (get_or-paired ns ms at rows)
        ∙ ap (λ (r : List Input). a ∷ r) (ap (λ (k : ℕ). drop k row) (sym is) ∙ rest)

    pub along-fell : rank b < rank a → None ≡ counted row
    along-fell less = counted-not row (along.order ∙ ap ascends both ∙ fell-two a b behind less)

    pub along-more : (k m : ℕ) → k ≡ next → m ≡ bool_byte (ltb (rank a) (rank b)) → rank a ≤ rank b → Along ns ms (n + m) k
    along-more k m here more ranks =
        let one = thinned-two a b behind (bytes at) (bytes next) ranks in
        let from = ap (λ (r : List Input). length (thinned r)) both in
        let on = ap (λ (r : List Input). length (thinned r)) rest in
        let counts : m ≡ truth (ltb (rank a) (rank b)) = more ∙ byte-truth _ in
        rw here
        (record {
          few = omega (arith, is, along.few, counts, truth-most (ltb (rank a) (rank b)));
          order = along.order ∙ ap ascends both ∙ rose-two a b behind ranks ∙ sym (ap ascends rest);
          due = omega (arith, along.due, one, from, on, counts);
        })

  pub along-done : {n at : ℕ} → Along ns ms n at → suc at ≡ length ns → Some n ≡ counted (paired ns ms)
  unfolding thinned stands_next ascends
  along-done {n} {at} along end =
      let long = paired_long ns ms rows in
      let last : drop at (paired ns ms) ≡ get_or (paired ns ms) at no_input ∷ [] =
      drop-cons (paired ns ms) at no_input (omega (arith, end, long))
      ∙ ap (λ (row : List Input). get_or (paired ns ms) at no_input ∷ row) (drop_of_length-le (paired ns ms) {i = suc at} (omega (arith, end, long))) in
      let one : length (thinned (drop at (paired ns ms))) ≡ 1 = ap (λ (row : List Input). length (thinned row)) last in
      let all : n ≡ length (thinned (paired ns ms)) = omega (arith, along.due, one) in
      let up : ascends (paired ns ms) ≡ true = along.order ∙ ap ascends last in
      counted-up (paired ns ms) n up
      (all ∙ ap (λ (row : List Input). length row) (thinned-distinct ns ms rows bytes (ascends-kept (paired ns ms) up)))
