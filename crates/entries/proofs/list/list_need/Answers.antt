-- `entries::list::list_need` meets its contract: the longest list fits in memory.
use native.Mathlib.Nat.{mul-le-mul}
use native.Mathlib.Omega.{arith}
use Prim.Native.Nat.{◌*◌, ◌≤◌}
use mathlib.Core.Path.{refl}
use Rattle.rules.specs.Limits.{most_components}
use Rattle.entries.specs.Entries.{entry_bytes, list_bytes}
use Rattle.entries.proofs.list.list_need.Goals as goal

pub overflow_mul-result : goal.overflow_mul-result
overflow_mul-result c =
    let width : entry_bytes c.args.n ≤ entry_bytes most_components = omega arith in
    let most : c.args.paths * entry_bytes c.args.n ≤ list_bytes = mul-le-mul c.requires.paths_le_most_joint_states width in
    record { fits = rw c.entry_bytes.ensures (omega (arith, most)) }

pub returns : goal.returns
returns c =
    rw c.entry_bytes.ensures refl
