-- How paths go on at the first component of a block, as the code holds it.
use Rattle.std.specs.Prelude.{ℕ, ◌≡◌, Bool, true, false, List, get_or, drop}
use Rattle.lists.specs.Product.{product}
use Rattle.paths.specs.Paths.{is_blank}
use Rattle.event_tree.specs.declared.blank.Ways.{Ways}
use Rattle.event_tree.specs.declared.blank.Ways.TheVariants.{Blank, States}

-- the ways on at a component of so many states, once it is known whether it is blank
abbrev pub ways_of : Bool → ℕ → Ways
ways_of true states = Blank
ways_of false states = States states

-- whether ways are those at a blank component
abbrev pub blank_in : Ways → Bool
blank_in Blank = true
blank_in (States states) = false

-- how many they are
abbrev pub number_in : Ways → ℕ
number_in Blank = 1
number_in (States states) = states

-- w and m are what the code holds of a block's first component: the ways on, and how many classes each leads to
pub record WaysAt (counts block : List ℕ) (w : Ways) (m : ℕ) : Type 0 where
  pub size : m ≡ product (drop 1 counts)
  pub ways : w ≡ ways_of (is_blank (get_or counts 0 0) (product (drop 1 counts)) block) (get_or counts 0 0)
