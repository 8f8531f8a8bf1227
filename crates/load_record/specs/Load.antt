-- Reading a load record. Bit 0: the loss gate. Bit 1: the customers. Bit 2: the minutes of its restore time.
use Rattle.std.specs.Prelude.{ℕ, cond, eqb}
use Rattle.rules.specs.Limits.{load_maps, most_customers, most_minutes}
use Rattle.rules.specs.Table.{no_gate_fault, size_fault}
use Rattle.reading.specs.Reader.{Reader, byte, word, judge, return, ◌>>=◌, ◌>>◌}
use Rattle.reading.specs.Fields.{fields_by_map}
use Rattle.study.specs.declared.Load.{Load}
use Rattle.study.specs.Absent.{absent_load}
use Rattle.study.specs.Edits.{with_customers, with_minutes}

unfoldable pub loss_gate : ℕ → Load → Reader Load
loss_gate gates l = do
  gate ← byte
  judge (no_gate_fault gates gate)
  return (record { gate = gate; customers = l.customers; minutes = l.minutes })

-- a number of four bytes, at most `most`
unfoldable pub size : ℕ → Reader ℕ
size most = do
  n ← word
  judge (size_fault most n)
  return n

unfoldable pub customers : Load → Reader Load
customers l = do
  n ← size most_customers
  return (with_customers n l)

unfoldable pub minutes : Load → Reader Load
minutes l = do
  n ← size most_minutes
  return (with_minutes n l)

unfoldable pub load_field : ℕ → ℕ → Load → Reader Load
load_field gates k l = cond (eqb k 0) (loss_gate gates l) (cond (eqb k 1) (customers l) (minutes l))

-- a load record of a study with so many gates
unfoldable pub load : ℕ → Reader Load
load gates = fields_by_map load_maps (load_field gates) absent_load
