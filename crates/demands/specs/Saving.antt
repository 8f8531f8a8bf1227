-- Saving: what is written opens to that very study, nothing shorter does, and studies that differ in the order of
-- inputs alone are saved alike.
use Rattle.std.specs.Prelude.{ℕ, ◌<◌, ◌≤◌, ◌≡◌, Bool, List, [], ◌∷◌, length, take}
use Rattle.ordering.specs.Inputs.{Alike}
use Rattle.rules.specs.Limits.{longest_study, most_gates}
use Rattle.study.specs.declared.Gate.{Gate}
use Rattle.study.specs.declared.Study.{Study}
use Rattle.study.specs.Places.{Shaped, gate_at}
use Rattle.gate_order.specs.Inputs.{tests_of, gate_inputs_of}
use Rattle.gate_order.specs.Order.{InOrder}
use Rattle.study_bytes.specs.Written.{study_bytes}
use Rattle.answers.specs.Told.{result}
use Rattle.soundness.specs.Sound.{ZeroBehind, Sound}
use Rattle.opening.specs.Laws.{IsOpened}
use Rattle.opening.specs.Opening.{as_given, opened}
use Rattle.writing.specs.Saving.{buffer_written}
use Rattle.fault_tree.specs.Truth.{gate_true, gate_truths}
use Rattle.meaning.specs.Meaning.{by_gates, model_of}
use Rattle.demands.specs.Calls.{write_study, call_told}
use Rattle.demands.specs.Edits.{Reached}

-- ---- the words

-- bytes open to a study
pub record OpensTo (bytes : List ℕ) (t : Study) : Type 0 where
  pub told : IsOpened bytes
  pub study : (opened bytes).study ≡ t

-- two gates hold the same inputs, in whatever order
pub record SameInputs (g h : Gate) : Type 0 where
  pub threshold : g.threshold ≡ h.threshold
  pub tests : g.tests ≡ h.tests
  pub gates : g.gates ≡ h.gates
  pub same_tests : Alike (tests_of g) (tests_of h)
  pub same_gate_inputs : Alike (gate_inputs_of g) (gate_inputs_of h)

-- two studies are the same but for the order of inputs within their gates
pub record SameButOrder (t u : Study) : Type 0 where
  pub components : t.components ≡ u.components
  pub gates : t.gates ≡ u.gates
  pub loads : t.loads ≡ u.loads
  pub component : t.component ≡ u.component
  pub load : t.load ≡ u.load
  pub gate : (i : ℕ) → i < most_gates → SameInputs (gate_at t i) (gate_at u i)

-- the inputs of each gate stand in order, and the places behind them hold 0
abbrev pub AllInOrder : Study → Type 0
AllInOrder t = (i : ℕ) → i < most_gates → InOrder (gate_at t i) × ZeroBehind (gate_at t i)

-- bytes that save a study: they open to that very study; they give it as it stands, before any input is put in order;
-- so the inputs stand in order in the bytes themselves
pub record Saves (bytes : List ℕ) (t : Study) : Type 0 where
  pub opens : OpensTo bytes t
  pub is_as_given : as_given bytes ≡ t
  pub in_order : AllInOrder (as_given bytes)

-- ---- the round trip

-- Whatever study the calls hand out, opened and edited any number of times, is saved by the bytes that are due by the
-- format, and by those that a call for writing left in its buffer.
pub record WrittenOpens : Type 0 where
  pub due : (t : Study) → Reached t → Saves (study_bytes t) t
  pub written : (t : Study) → Reached t → (buffer : List ℕ) (n : ℕ) → call_told (write_study buffer) t ≡ result (n ∷ [])
      → Saves (take n (buffer_written t buffer)) t

-- some bytes open to a study
pub record Opens (t : Study) : Type 0 where
  pub bytes : List ℕ
  pub opens : OpensTo bytes t

-- The studies that the calls hand out are those to which some bytes open: no row of edits leads to another.
pub record ReachedIffOpens : Type 0 where
  pub opens : (t : Study) → Reached t → Opens t
  pub reached : (t : Study) → Opens t → Reached t

-- No bytes that open to a study are fewer than those written for it, and those are at most 2,023.
pub record Shortest : Type 0 where
  pub fewest : (bytes : List ℕ) (t : Study) → OpensTo bytes t → length (study_bytes t) ≤ length bytes
  pub longest : (t : Study) → Sound t → length (study_bytes t) ≤ longest_study

-- ---- order

-- Opening a row of bytes gives the study that the bytes give, but for the order of inputs within its gates; there
-- they stand in order; and no other study is both.
pub record Sorted (bytes : List ℕ) : Type 0 where
  pub same : SameButOrder (opened bytes).study (as_given bytes)
  pub in_order : AllInOrder (opened bytes).study
  pub no_other : (t : Study) → Reached t → SameButOrder t (as_given bytes) → AllInOrder t → t ≡ (opened bytes).study

abbrev pub OpenedSorted : Type 0
OpenedSorted = (bytes : List ℕ) → IsOpened bytes → Sorted bytes

-- Byte rows that open, and give the same study but for the order of inputs within gates, open to the same study and
-- are written to the same bytes; and no others are.
pub record Alikes (a b : List ℕ) : Type 0 where
  pub same_study : SameButOrder (as_given a) (as_given b) → (opened a).study ≡ (opened b).study
  pub same_bytes : SameButOrder (as_given a) (as_given b) → study_bytes (opened a).study ≡ study_bytes (opened b).study
  pub no_others : study_bytes (opened a).study ≡ study_bytes (opened b).study → SameButOrder (as_given a) (as_given b)

abbrev pub SavesAlike : Type 0
SavesAlike = (a b : List ℕ) → IsOpened a → IsOpened b → Alikes a b

-- Putting inputs in order changes no gate's truth in any joint state, whatever gates below it hold; so it changes no
-- truth of a study; and so nothing of its model, from which the list, the bounds, the figures and the report follow.
pub record TruthKept (bytes : List ℕ) : Type 0 where
  pub gate : (i : ℕ) → i < most_gates → (x : List ℕ) (holds : ℕ → Bool)
      → gate_true (gate_at (opened bytes).study i) x holds ≡ gate_true (gate_at (as_given bytes) i) x holds
  pub truths : (x : List ℕ)
      → gate_truths (opened bytes).study.gate x (opened bytes).study.gates
      ≡ gate_truths (as_given bytes).gate x (as_given bytes).gates
  pub model : model_of by_gates (opened bytes).study ≡ model_of by_gates (as_given bytes)

abbrev pub TruthsKept : Type 0
TruthsKept = (bytes : List ℕ) → IsOpened bytes → TruthKept bytes

-- ---- any value of the struct

-- The arrays of a study have all their places. The struct's type says so, and a definition over lists does not: so it
-- is shown of the studies that the calls hand out; and with it, the above holds of any other sound value too, as
-- somebody might put one together by hand.
pub record AllPlaces : Type 0 where
  pub reached : (t : Study) → Reached t → Shaped t
  pub saves : (t : Study) → Shaped t → Sound t → Saves (study_bytes t) t
  pub written : (t : Study) → Shaped t → (buffer : List ℕ) (n : ℕ) → call_told (write_study buffer) t ≡ result (n ∷ [])
      → Saves (take n (buffer_written t buffer)) t
  pub sorted : (bytes : List ℕ) → IsOpened bytes → (t : Study) → Shaped t → SameButOrder t (as_given bytes)
      → AllInOrder t
      → t ≡ (opened bytes).study
