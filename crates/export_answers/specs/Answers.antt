-- What a call answers in C, and what it leaves of what it was lent, by what its answer in Rattle tells.
use Rattle.std.specs.Prelude.{ℕ, ◌/◌, ◌≡◌, List, ℤ, pos, neg_ℤ, length, get_or}
use Rattle.units.specs.declared.bounds.Enclosure.{Enclosure}
use Rattle.answers.specs.Told.{Told, result, refusal}

-- ---- the answer

-- a refusal by its number, 0 being none
abbrev pub below : ℕ → ℤ
below number = neg_ℤ (pos number)

-- a result by the number that stands for its values, and a refusal below 0
abbrev pub answered_by : (List ℕ → ℕ) → Told → ℤ
answered_by standing (result values) = pos (standing values)
answered_by standing (refusal number) = below number

-- what stands for the result of a call that only fills what it was lent
abbrev pub done : List ℕ → ℕ
done values = 0

-- of a call that counts: the count, its only value
abbrev pub count : List ℕ → ℕ
count values = get_or values 0 0

-- of the call for the figures: how many pairs of bounds there are
abbrev pub pairs : List ℕ → ℕ
pairs values = length values / 2

-- ---- what is left of what was lent

-- two numbers, for a lower and an upper bound
abbrev pub two : ℕ → ℕ → Enclosure
two lower upper = record { lower = lower; upper = upper }

-- two numbers that were lent for a pair: they take the values of a result; where it has none, or the call is refused,
-- they hold what they held
abbrev pub left_by : Told → Enclosure → Enclosure
left_by (result values) was = two (get_or values 0 was.lower) (get_or values 1 was.upper)
left_by (refusal number) was = was

-- a call for bounds in two slices: what is due as its answer and in each slice, and what it answers and leaves
pub record FillsPair (due : ℤ) (lower-due upper-due lower upper : List ℕ) (answer : ℤ) : Type 0 where
  pub answered : answer ≡ due
  pub lower_left : lower ≡ lower-due
  pub upper_left : upper ≡ upper-due
