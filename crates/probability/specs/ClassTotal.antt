-- What one class comes to over the entries of a list: how many paths bear it, and its bounds.
use Rattle.std.specs.Prelude.{ℕ, ◌≡◌, List, eqb}
use Rattle.lists.specs.Counting.{truth, sum_over}
use Rattle.entries.specs.Entries.{class_borne}
use Rattle.probability.specs.Bounds.{lower_total, upper_total}
use Rattle.probability.specs.declared.classes.ClassTotal.{ClassTotal}

pub record TotalOf (probabilities : List ℕ) (n class : ℕ) (entries : List (List ℕ)) (total : ClassTotal) : Type 0 where
  pub paths : total.paths ≡ sum_over (λ (entry : List ℕ). truth (eqb (class_borne n entry) class)) entries
  pub lower : total.lower ≡ lower_total probabilities n (λ (c : ℕ). eqb c class) entries
  pub upper : total.upper ≡ upper_total probabilities n (λ (c : ℕ). eqb c class) entries
