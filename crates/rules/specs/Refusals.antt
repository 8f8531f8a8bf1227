-- The refusals and their numbers in the refusal table, and the breach that a judgement tells.
use Rattle.std.specs.Prelude.{ℕ, ◌≡◌, Option, Some, None, Result, Ok, Err}
use Rattle.rules.specs.declared.refusal.Refusal.{Refusal}
use Rattle.rules.specs.declared.refusal.Refusal.TheVariants.{Short, Counts, StrayBit, States, NoState, OverOne, TooWide, Inputs}
use Rattle.rules.specs.declared.refusal.Refusal.TheVariants.{NoComponent, Mask, GateAhead, Threshold, NoGate, LoadSize, LeftOver}
use Rattle.rules.specs.declared.refusal.Refusal.TheVariants.{Unsound, NoItem, NoRoom, NoCustomers, Node, BadEnd, Leaf, TooFar}

-- the number of a refusal's row
abbrev pub row_of : Refusal → ℕ
row_of Short = 1
row_of Counts = 2
row_of StrayBit = 3
row_of States = 4
row_of NoState = 5
row_of OverOne = 6
row_of TooWide = 7
row_of Inputs = 8
row_of NoComponent = 9
row_of Mask = 10
row_of GateAhead = 11
row_of Threshold = 12
row_of NoGate = 13
row_of LoadSize = 14
row_of LeftOver = 15
row_of Unsound = 16
row_of NoItem = 17
row_of NoRoom = 18
row_of NoCustomers = 19
row_of Node = 20
row_of BadEnd = 21
row_of Leaf = 22
row_of TooFar = 23

-- the table has so many rows
abbrev pub rows : ℕ
rows = 23

-- a refusal by its number, or none where the table has no such row
abbrev pub Numbered : ℕ → Option Refusal → Type 0
Numbered number (Some refusal) = row_of refusal ≡ number
Numbered number None = (refusal : Refusal) → row_of refusal ≡ number → ⊥

-- the breach that a judgement tells: the number of the row that is broken, and 0 where it is passed
abbrev pub breach_of : {A : Type 0} → Result A Refusal → ℕ
breach_of (Ok a) = 0
breach_of (Err refusal) = row_of refusal
