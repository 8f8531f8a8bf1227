-- Laws of the words of the refusal table: that a number which the table lacks has none, and how long they are.
use Rattle.std.proofs.Common.{ℕ, zero, suc, max, ◌≤◌, ◌<◌, ◌≡◌, refl, sym, List, [], ◌∷◌, length, get_or, arith, None}
use Rattle.std.proofs.Math.ListN.{get_or-eq_default}
use Rattle.rules.specs.declared.refusal.Refusal.TheVariants.{Short, Counts, StrayBit, States, NoState, OverOne, TooWide, Inputs}
use Rattle.rules.specs.declared.refusal.Refusal.TheVariants.{NoComponent, Mask, GateAhead, Threshold, NoGate, LoadSize, LeftOver}
use Rattle.rules.specs.declared.refusal.Refusal.TheVariants.{Unsound, NoItem, NoRoom, NoCustomers, Node, BadEnd, Leaf, TooFar}
use Rattle.rules.specs.Refusals.{Numbered}
use Rattle.words.specs.Words.{refusal_words, last_refusal, refusal_word, word_bytes}

-- ---- numbers without a word

-- what is none of the numbers from 1 to the last
pub wordless : (n : ℕ) → (1 ≤ n → last_refusal < n) → refusal_word n ≡ []
unfolding refusal_word refusal_words
wordless zero h = refl
wordless (suc n) h = get_or-eq_default refusal_words [] (h (omega arith))

pub unnumbered : (n : ℕ) → Numbered n None → [] ≡ refusal_word n
unnumbered n none = sym (wordless n (λ some. omega (arith, none Short, none Counts, none StrayBit, none States, none NoState, none OverOne, none TooWide, none Inputs, none NoComponent, none Mask, none GateAhead, none Threshold, none NoGate, none LoadSize, none LeftOver, none Unsound, none NoItem, none NoRoom, none NoCustomers, none Node, none BadEnd, none Leaf, none TooFar)))

-- ---- the longest word

-- the length of the longest row
unfoldable longest : List (List ℕ) → ℕ
longest [] = 0
longest (row ∷ rows) = max (length row) (longest rows)

one_of : (rows : List (List ℕ)) (n : ℕ) → length (get_or rows n []) ≤ longest rows
unfolding longest
one_of [] n = omega arith
one_of (row ∷ rows) zero = omega arith
one_of (row ∷ rows) (suc n) = omega (arith, one_of rows n)

pub word_short : (n : ℕ) → length (refusal_word n) ≤ word_bytes
unfolding refusal_word refusal_words longest
word_short n = omega (arith, one_of refusal_words n)
