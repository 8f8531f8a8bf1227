-- `writing::inputs::write_inputs` meets its contract: the gate inputs one behind the other are the front of their places.
use Rattle.std.proofs.Common.{◌≤◌, length, rules}
use Rattle.lists.proofs.Joined.{joined-ones}
use Rattle.writing.proofs.inputs.write_inputs.Goals as goal

pub put-requires : goal.put-requires
put-requires c =
    let g = c.args.g.now in
    let inside : g.gates ≤ length g.input = search (rules, c.requires.gates_le_most_gate_inputs) in
    rw c.from.ensures (rw (joined-ones g.input g.gates inside) at c.requires.room)

pub returns : goal.returns
returns c =
    let g = c.args.g.now in
    let inside : g.gates ≤ length g.input = search (rules, c.requires.gates_le_most_gate_inputs) in
    rw (joined-ones g.input g.gates inside) (rw c.from.ensures at c.put.ensures)
