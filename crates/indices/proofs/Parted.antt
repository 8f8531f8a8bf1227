-- Each load takes part on one side and only one: a sum over the sustained loads and one over the short ones make the sum over all.
use Prim.Native.Nat.{ℕ, ◌+◌}
use mathlib.Core.Path.{◌≡◌, sym, ◌∙◌}
use mathlib.Core.List.{List}
use lib.ListN.{length, get_or}
use Rattle.lists.proofs.SumBelow.{sum_added, sum_alike}
use Rattle.lists.proofs.SumOver.{counted-parted}
use Rattle.study.specs.declared.Load.{Load}
use Rattle.study.specs.Zero.{zero_load}
use Rattle.indices.specs.Figures.{term, loads_sum}
use Rattle.indices.specs.Parts.{short, sustained, every}

pub sums-parted : (value : ℕ → Load → ℕ) (loads : List Load)
    → loads_sum sustained value loads + loads_sum short value loads ≡ loads_sum every value loads
unfolding loads_sum sustained
sums-parted value loads =
    sym (sum_added (term sustained value loads) (term short value loads) (length loads))
    ∙ sum_alike _ (term every value loads) (length loads) (λ j h. counted-parted (short (get_or loads j zero_load)) (value j (get_or loads j zero_load)))
