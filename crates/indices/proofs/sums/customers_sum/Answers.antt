-- `indices::sums::customers_sum` meets its contract: a sum over a list is one by its places, and the customers of all loads fit.
use Rattle.std.proofs.Common.{rules, ◌≡◌, ◌∙◌, List}
use Rattle.std.specs.List.{sum_by}
use Rattle.study.specs.declared.Load.{Load}
use Rattle.study.specs.Zero.{zero_load}
use Rattle.indices.specs.Figures.{loads_sum, customers_sum}
use Rattle.indices.proofs.ListSum.{sum-by-places}
use Rattle.indices.proofs.Most.{customers-few}
use Rattle.indices.proofs.sums.customers_sum.Goals as goal

-- the sum over the list of loads
customers-are : (loads : List Load) → sum_by (λ (l : Load). l.customers) loads ≡ customers_sum loads
unfolding customers_sum loads_sum
customers-are loads = sum-by-places (λ (l : Load). l.customers) zero_load loads

pub returns : goal.returns
returns c =
    let loads = c.args.loads.now in
    let added : c.sum.result ≡ sum_by (λ (l : Load). l.customers) loads = search rules in
    let is = added ∙ customers-are loads in
    record { is = is; fits = rw is (customers-few loads c.requires) }
