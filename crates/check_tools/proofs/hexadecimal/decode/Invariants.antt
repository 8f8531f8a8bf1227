-- `check_tools::hexadecimal::decode` is safe: there are at most two digits for each byte of the buffer.
use Rattle.std.proofs.Common.{◌≡◌, ◌*◌, ◌≤◌, length}
use Rattle.check_tools.proofs.hexadecimal.decode.Given as goal

abbrev pub invariant-loop-character : goal.invariant-loop-character
invariant-loop-character l =
    (l.digits ≤ 2 * length l.out) × (length l.out ≡ length l.initial.out)
