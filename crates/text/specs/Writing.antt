-- What a function that writes into a lent buffer from a place on asks for, and what it leaves.
use Rattle.std.specs.Prelude.{ℕ, ◌+◌, ◌≤◌, ◌≡◌, List, length}
use Rattle.lists.specs.Rows.{put}

-- x fits into d from a place on
pub record Room (d : List ℕ) (at : ℕ) (x : List ℕ) : Type 0 where
  pub fits : at + length x ≤ length d

-- x was written into d from a place on, which left d', and `next` is the place behind it
pub record Wrote (d : List ℕ) (at : ℕ) (x d' : List ℕ) (next : ℕ) : Type 0 where
  pub holds : d' ≡ put d at x
  pub behind : next ≡ at + length x
