-- What stands one behind the other in a gate's record: each count in front of what it counts. And a field that is not written.
use Rattle.std.proofs.Common.{◌≡◌, ℕ, List, [], ◌∷◌, ◌++◌, length, append_assoc, append-nil, length-append, refl, sym, ap, ◌∙◌}
use borrow.Author.Tests.{eq-eqb, ne_eqb}
use Rattle.lists.specs.Rows.{joined}
use Rattle.lists.specs.Tabulate.{tabulate}
use Rattle.text.specs.declared.writer.Writer.{Writer}
use Rattle.text.specs.Writer.{Wrote}
use Rattle.text.proofs.Written.{put_put, wrote_none}
use Rattle.study.specs.declared.Gate.{Gate}
use Rattle.study.specs.Absent.{absent_gate}
use Rattle.study_bytes.specs.Written.{byte_of, field, map_of, record_bytes, test_bytes, input_bytes, gate_fields}
use Rattle.study_bytes.proofs.Fields.{field-counted}

-- ---- a field

pub wrote_absent : (absent value : ℕ) (bytes : List ℕ) (w : Writer) → value ≡ absent → Wrote w (field absent value bytes) w
wrote_absent absent value bytes w same = rw (eq-eqb value absent same) (wrote_none w)

pub given : (absent value : ℕ) (bytes : List ℕ) → (value ≡ absent → ⊥) → field absent value bytes ≡ bytes
given absent value bytes some = rw (ne_eqb value absent some) refl

pub ruleset fields = (wrote_absent, given)

-- ---- a gate

-- as the code writes it
abbrev pub gate_parts : Gate → List ℕ
gate_parts g =
    map_of (gate_fields g)
    ∷ (field absent_gate.threshold g.threshold (byte_of g.threshold)
    ++ (field absent_gate.tests g.tests (byte_of g.tests)
    ++ (joined (tabulate (test_bytes g) g.tests)
    ++ (field absent_gate.gates g.gates (byte_of g.gates)
    ++ joined (tabulate (input_bytes g) g.gates)))))

pub gate_spelt : (g : Gate) → record_bytes (gate_fields g) ≡ gate_parts g
unfolding joined record_bytes absent_gate
gate_spelt g =
    let tests = field-counted g.tests (test_bytes g) in
    let inputs = field-counted g.gates (input_bytes g) in
    rw (tests, inputs) (simp (append_assoc, append-nil))

pub ruleset gate = (put_put, append_assoc, append-nil, length-append, gate_spelt)
