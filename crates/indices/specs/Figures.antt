-- The figures by the published formulas. P is the probability that a load is lost, C its customers, M its minutes. A sum runs over the loads that take
-- part in it, and takes P as a function of the load's number, so that the same sums serve lower bounds, upper bounds and exact probabilities.
use Rattle.std.specs.Prelude.{ℕ, ◌*◌, Bool, cond, List, eqb, length, get_or}
use Rattle.lists.specs.Counting.{sum, counted}
use Rattle.units.specs.Rounding.{quotient_down, quotient_up}
use Rattle.study.specs.declared.Load.{Load}
use Rattle.study.specs.Zero.{zero_load}
use Rattle.units.specs.declared.bounds.Enclosure.{Enclosure}
use Rattle.answers.specs.declared.figures.Caidi.{Caidi}
use Rattle.answers.specs.declared.figures.Caidi.TheVariants.{Bounds, NotStated}
use Rattle.answers.specs.declared.figures.Figures.{Figures}
use Rattle.indices.specs.Parts.{short, sustained, every}

-- ---- the sums

-- what load j adds to a sum: its value where it takes part
abbrev pub term : (Load → Bool) → (ℕ → Load → ℕ) → List Load → ℕ → ℕ
term takes_part value loads j = counted (takes_part (get_or loads j zero_load)) (value j (get_or loads j zero_load))

-- the sum of a value over the loads that take part
unfoldable pub loads_sum : (Load → Bool) → (ℕ → Load → ℕ) → List Load → ℕ
unfolding sum
loads_sum takes_part value loads = sum (term takes_part value loads) (length loads)

-- C, P × C and P × C × M of load j
abbrev pub customers_served : ℕ → Load → ℕ
customers_served j l = l.customers

abbrev pub customers_lost : (ℕ → ℕ) → ℕ → Load → ℕ
customers_lost p j l = p j * l.customers

abbrev pub minutes_lost : (ℕ → ℕ) → ℕ → Load → ℕ
minutes_lost p j l = p j * l.customers * l.minutes

-- the sum of C, over all loads
unfoldable pub customers_sum : List Load → ℕ
unfolding loads_sum
customers_sum = loads_sum every customers_served

-- the sum of P × C
unfoldable pub loss_sum : (Load → Bool) → (ℕ → ℕ) → List Load → ℕ
unfolding loads_sum
loss_sum takes_part p = loads_sum takes_part (customers_lost p)

-- the sum of P × C × M
unfoldable pub minutes_sum : (Load → Bool) → (ℕ → ℕ) → List Load → ℕ
unfolding loads_sum
minutes_sum takes_part p = loads_sum takes_part (minutes_lost p)

-- P from a list of bounds in units, one for each load
abbrev pub bound_of : List ℕ → ℕ → ℕ
bound_of losses j = get_or losses j 0

-- ---- the quotients

-- a lower sum over its divisor, rounded down, and an upper sum over its own, rounded up
abbrev pub quotients : ℕ → ℕ → ℕ → ℕ → Enclosure
quotients low low_divisor high high_divisor = record { lower = quotient_down low low_divisor; upper = quotient_up high high_divisor }

-- a sum over P for each of the customers served, from lower and upper bounds for P
abbrev pub per_customer : ℕ → ((ℕ → ℕ) → List Load → ℕ) → List ℕ → List ℕ → List Load → Enclosure
per_customer customers sum_of lower upper loads =
    quotients (sum_of (bound_of lower) loads) customers (sum_of (bound_of upper) loads) customers

-- CAIDI from lower and upper sums of P × C and of P × C × M. Its lower bound divides by the upper sum of P × C, its upper by the lower sum; it is not
-- stated when that is 0
unfoldable pub caidi : ℕ → ℕ → ℕ → ℕ → Caidi
caidi loss_low loss_high minutes_low minutes_high = cond (eqb loss_low 0) NotStated (Bounds (quotients minutes_low loss_high minutes_high loss_low))

-- the minutes for each customer interrupted, over the loads that take part
abbrev pub per_interruption : (Load → Bool) → List ℕ → List ℕ → List Load → Caidi
per_interruption takes_part lower upper loads =
    caidi (loss_sum takes_part (bound_of lower) loads) (loss_sum takes_part (bound_of upper) loads) (minutes_sum takes_part (bound_of lower) loads)
    (minutes_sum takes_part (bound_of upper) loads)

-- the figures from the customers served, and lower and upper bounds for the loss of each load
unfoldable pub figures_of : ℕ → List ℕ → List ℕ → List Load → Figures
unfolding short sustained loss_sum minutes_sum caidi
figures_of customers lower upper loads =
    record {
      saifi = per_customer customers (loss_sum sustained) lower upper loads;
      saidi = per_customer customers (minutes_sum sustained) lower upper loads;
      caidi = per_interruption sustained lower upper loads;
      maifi = per_customer customers (loss_sum short) lower upper loads;
    }
