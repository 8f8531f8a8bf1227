-- What is written saves that very study, and nothing shorter opens to it. What carries it: the reader gives back the study whose bytes it is handed and
-- takes no fewer bytes than are written (`round_trip`); a sound study is in order already; and order changes no length.
use Prim.Native.Nat.{ℕ, suc, ◌+◌, ◌<◌, ◌≤◌}
use mathlib.Core.Path.{◌≡◌, refl, sym, ap, subst, ◌∙◌}
use mathlib.Core.Bool.{Bool, true, false, cond}
use mathlib.Core.List.{List, [], ◌∷◌, ◌++◌, append-nil}
use native.Mathlib.Omega.{arith}
use lib.Dec.{eqb}
use lib.ListN.{length, take, length-map, length-append}
use lib.Seq.{ext_get_or, take_at}
use Rattle.lists.specs.Counting.{sum_over}
use Rattle.lists.specs.Rows.{put}
use Rattle.lists.proofs.Joined.{joined-sum}
use Rattle.lists.proofs.SumBelow.{sum_alike}
use Rattle.rules.specs.Breach.{refuse}
use Rattle.rules.specs.Limits.{most_gates}
use Rattle.text.proofs.Short.{joined_length}
use Rattle.study.specs.declared.Gate.{Gate}
use Rattle.study.specs.declared.Study.{Study}
use Rattle.study.specs.Absent.{absent_gate}
use Rattle.study.specs.Places.{Shaped, no_gate, gate_at}
use Rattle.study_bytes.specs.Written.{field, record_bytes, test_bytes, input_bytes, tests_bytes, inputs_bytes, gate_fields, gate_bytes}
use Rattle.study_bytes.specs.Written.{components_bytes, gates_bytes, loads_bytes, study_bytes}
use Rattle.gate_order.specs.Order.{in_order, ordered}
use Rattle.gate_order.proofs.InOrder.{in-order-still}
use Rattle.answers.specs.Answered.{answered}
use Rattle.answers.specs.Told.{result, outcome_told}
use Rattle.answers.proofs.Answered.{filled-done}
use Rattle.answers.proofs.Told.{done-told}
use Rattle.reading.specs.Reader.{Read, refused, got}
use Rattle.soundness.specs.Sound.{Sound}
use Rattle.soundness.proofs.Ranges.{gates-most}
use Rattle.opening.specs.Laws.{IsOpened}
use Rattle.opening.specs.Opening.{study, given, as_given, answer, opened}
use Rattle.opening.proofs.Answers.{is-refused, left, not-both}
use Rattle.opening.proofs.Opened.Order.{Given, ordered-gate}
use Rattle.opening.proofs.Opened.Study.{opened-sound, opened-given, opened-ordered}
use Rattle.round_trip.proofs.Back.Study.{study-back}
use Rattle.round_trip.proofs.Costs.Study.{study-costs}
use Rattle.writing.specs.Saving.{write_fault, buffer_written}
use Rattle.writing.proofs.Longest.{study-size}
use Rattle.demands.specs.Calls.{write_study, call_told}
use Rattle.demands.specs.Edits.{Reached, opened as is-opened}
use Rattle.demands.specs.Saving.{AllInOrder, Saves, WrittenOpens, ReachedIffOpens, Shortest, AllPlaces}
use Rattle.demands.proofs.Finished.{finished}
use Rattle.demands.proofs.Reached.{reached-sound, reached-shaped}
use Rattle.demands.proofs.Sorted.{sound-given, sound-fits, sound-in-order, opened-same, only-sorted}
use Rattle.answers.specs.Answers.{StudyAnswer, finished as was_done}

-- ---- a sound study is in order already

module _ (t : Study) (shaped : Shaped t) (s : Sound t) where
  gate-still : (i : ℕ) → i < most_gates → in_order (gate_at t i) ≡ gate_at t i
  gate-still i inside = in-order-still (gate_at t i) (sound-fits t s shaped i inside) (sound-in-order t s shaped i inside).0

  still : ordered t ≡ t
  unfolding ordered
  still =
      let gate =
      ext_get_or no_gate (ordered t).gate t.gate (length-map t.gate in_order)
      (λ i h.
      let inside : i < most_gates = omega (arith, h, length-map t.gate in_order, shaped.gates) in
      ordered-gate t (sound-given t s shaped) i inside ∙ gate-still i inside) in
      λ i.
      record { components = t.components; gates = t.gates; loads = t.loads; component = t.component; gate = gate i; load = t.load }

  -- so its bytes, which are read back whole, save it
  read_back : study (study_bytes t) ≡ got t []
  read_back = ap study (sym (append-nil (study_bytes t))) ∙ study-back t shaped s []

  bytes-open : opened (study_bytes t) ≡ record { outcome = was_done; study = t }
  unfolding opened answer answered refuse
  bytes-open = ap answer read_back ∙ ap (λ (u : Study). record { outcome = was_done; study = u }) still

  bytes-give : as_given (study_bytes t) ≡ t
  unfolding as_given given
  bytes-give = ap given read_back

  bytes-save : Saves (study_bytes t) t
  bytes-save =
      record {
        opens =
            record {
              told = ap (λ (a : StudyAnswer). outcome_told a.outcome) bytes-open;
              study = ap (λ (a : StudyAnswer). a.study) bytes-open;
            };
        is_as_given = bytes-give;
        in_order = subst AllInOrder (sym bytes-give) (sound-in-order t s shaped);
      }

-- what a call that was not refused left in the buffer
written-front : (t : Study) (buffer : List ℕ) (n : ℕ) → call_told (write_study buffer) t ≡ result (n ∷ []) → take n (buffer_written t buffer) ≡ study_bytes t
unfolding buffer_written write_fault put
written-front t buffer n told =
    let done = finished (write_study buffer) t (n ∷ []) told in
    let long : length (study_bytes t) ≡ n = cc done.are in
    ap (take n) (filled-done _ (study_bytes t) buffer done.none) ∙ take_at (study_bytes t) _ n long

-- saves it too
written-save : (t : Study) → Shaped t → (buffer : List ℕ) (n : ℕ) → call_told (write_study buffer) t ≡ result (n ∷ []) → Saves (take n (buffer_written t buffer)) t
written-save t shaped buffer n told =
    subst (λ (bytes : List ℕ). Saves bytes t) (sym (written-front t buffer n told))
    (bytes-save t shaped (finished (write_study buffer) t (n ∷ []) told).is_sound)

pub written-opens : WrittenOpens
written-opens =
    record {
      due = λ t reached. bytes-save t (reached-shaped t reached) (reached-sound t reached);
      written = λ t reached. written-save t (reached-shaped t reached);
    }

pub all-places : AllPlaces
all-places = record { reached = reached-shaped; saves = bytes-save; written = written-save; sorted = only-sorted }

pub reached-iff-opens : ReachedIffOpens
reached-iff-opens =
    record {
      opens = λ t reached. record { bytes = study_bytes t; opens = (written-opens.due t reached).opens };
      reached = λ t o. subst Reached o.opens.study (is-opened o.bytes o.opens.told);
    }

-- ---- no fewer bytes

-- order changes the length of no field
field_alike : (absent value : ℕ) (x y : List ℕ) → length x ≡ length y → length (field absent value x) ≡ length (field absent value y)
field_alike absent value x y e = go (eqb value absent)
  where
    go : (b : Bool) → length (cond b [] x) ≡ length (cond b [] y)
    go true = refl
    go false = e

-- of the record of a gate, whose tests take two bytes each and whose gate inputs take one
gate-long : (g : Gate) → length (gate_bytes (in_order g)) ≡ length (gate_bytes g)
unfolding record_bytes in_order sum_over
gate-long g =
    let h = in_order g in
    let tests : length (tests_bytes h) ≡ length (tests_bytes g) = ap suc (joined-sum (test_bytes h) g.tests ∙ sym (joined-sum (test_bytes g) g.tests)) in
    let inputs : length (inputs_bytes h) ≡ length (inputs_bytes g) = ap suc (joined-sum (input_bytes h) g.gates ∙ sym (joined-sum (input_bytes g) g.gates)) in
    omega (
      arith,
      joined_length (gate_fields h),
      joined_length (gate_fields g),
      field_alike absent_gate.tests g.tests (tests_bytes h) (tests_bytes g) tests,
      field_alike absent_gate.gates g.gates (inputs_bytes h) (inputs_bytes g) inputs,
    )

module _ (t : Study) (given : Given t) (few : t.gates ≤ most_gates) where
  gates-long : length (gates_bytes (ordered t)) ≡ length (gates_bytes t)
  unfolding ordered
  gates-long =
      joined-sum (λ (i : ℕ). gate_bytes (gate_at (ordered t) i)) t.gates
      ∙ sum_alike _ _ t.gates
      (λ i used. ap (λ (g : Gate). length (gate_bytes g)) (ordered-gate t given i (omega arith)) ∙ gate-long (gate_at t i))
      ∙ sym (joined-sum (λ (i : ℕ). gate_bytes (gate_at t i)) t.gates)

  ordered-long : length (study_bytes (ordered t)) ≡ length (study_bytes t)
  unfolding study_bytes ordered
  ordered-long =
      omega (
        arith,
        gates-long,
        length-append (components_bytes t) (gates_bytes (ordered t) ++ loads_bytes t),
        length-append (gates_bytes (ordered t)) (loads_bytes t),
        length-append (components_bytes t) (gates_bytes t ++ loads_bytes t),
        length-append (gates_bytes t) (loads_bytes t),
      )

-- bytes that open are read whole
read_whole : (r : Read Study) → (answer r).outcome ≡ was_done → r ≡ got (given r) []
unfolding given
read_whole (refused n) done = absurd (not-both n (cc (is-refused n)))
read_whole (got t []) done = refl
read_whole (got t (b ∷ rest)) done = absurd (not-both 15 (cc (left t b rest)))

fewest : (bytes : List ℕ) → IsOpened bytes → length (study_bytes (opened bytes).study) ≤ length bytes
unfolding opened as_given
fewest bytes done =
    let t = as_given bytes in
    let few : t.gates ≤ most_gates = omega (arith, (opened-same bytes done).gates, gates-most (opened bytes).study (opened-sound bytes done)) in
    let costs = study-costs bytes t [] (read_whole (study bytes) (done-told _ done)) in
    let long = ap (λ (u : Study). length (study_bytes u)) (opened-ordered bytes done) ∙ ordered-long t (opened-given bytes done) few in
    omega (arith, costs, long)

pub shortest : Shortest
shortest =
    record {
      fewest = λ bytes t opens. subst (λ (u : Study). length (study_bytes u) ≤ length bytes) opens.study (fewest bytes opens.told);
      longest = study-size;
    }
