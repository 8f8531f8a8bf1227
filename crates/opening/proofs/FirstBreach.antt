-- Opening refuses by the first breach from the left. What carries it: every reader is local, so that what a front part gives stands whatever
-- bytes follow, unless the front part is too short.
use Prim.Native.Nat.{ℕ, ◌*◌}
use mathlib.Core.Path.{◌≡◌, refl, ap}
use mathlib.Core.List.{List, [], ◌∷◌, ◌++◌}
use mathlib.Core.Logic.{inl, inr}
use lib.Dec.{eqb}
use lib.ListN.{length, get_or, take}
use Rattle.lists.specs.Product.{product}
use Rattle.rules.specs.Limits.{component_maps, gate_maps, load_maps, most_components, most_gates, most_loads, most_tests, most_gate_inputs, most_customers, most_minutes}
use Rattle.rules.specs.Table.{short, count_fault, states_fault, no_state_fault, sum_fault, width_fault, inputs_fault, no_component_fault, mask_fault}
use Rattle.rules.specs.Table.{ahead_fault, threshold_fault, no_gate_fault, size_fault}
use Rattle.reading.specs.Reader.{Read, Reader, refused, got, repeat}
use Rattle.reading.proofs.Local.{Local, Stands, local-then, local-return, local-judge, local-judged, local-byte, local-word, local-cond}
use Rattle.reading.proofs.Local.{local-repeat, local-fields}
use Rattle.component_record.specs.Component.{state_count, probability, component_field, component}
use Rattle.gate_record.specs.Gate.{threshold, inputs_byte, test, tests, input, inputs, gate_field, gate}
use Rattle.load_record.specs.Load.{loss_gate, size, customers, minutes, load_field, load}
use Rattle.opening.specs.Opening.{count, component_after, component_record, gate_record, load_record, placing, records, study, answer, opened}
use Rattle.study.specs.declared.Component.{Component}
use Rattle.study.specs.declared.Gate.{Gate}
use Rattle.study.specs.declared.Load.{Load}
use Rattle.answers.specs.Told.{outcome_told}
use Rattle.answers.proofs.Told.{done-told, refused-told}
use Rattle.study.specs.declared.Study.{Study}
use Rattle.study.specs.Absent.{absent_component, absent_gate, absent_load}
use Rattle.gate_order.specs.Inputs.{input_count}
use Rattle.study.specs.Joint.{states}
use Rattle.study.specs.Zero.{no_components, no_gates, no_loads}
use Rattle.opening.specs.Laws.{FirstBreach}
use Rattle.opening.proofs.Answers.{is-refused, ends, left, not-both}
use Rattle.std.specs.Prelude.{Err}
use Rattle.answers.specs.Answers.{finished}

-- ---- every reader is local

local-component-field : (k : ℕ) (c : Component) → Local short (component_field k c)
unfolding component_field state_count probability
local-component-field k c =
    local-cond (eqb k 0) (local-judged states_fault _ local-byte)
    (local-then (local-judge (no_state_fault c.states k)) (λ u. local-then local-word (λ p. local-return _)))

local-component : Local short component
unfolding component
local-component =
    local-judged (λ c. sum_fault c.p1 c.p2 c.p3) (λ c. c) (local-fields component_maps component_field absent_component local-component-field)

local-inputs-byte : (most : ℕ) → Local short (inputs_byte most)
unfolding inputs_byte
local-inputs-byte most = local-judged (inputs_fault most) (λ n. n) local-byte

local-test : (counts : List ℕ) (j : ℕ) (g : Gate) → Local short (test counts j g)
unfolding test
local-test counts j g =
    local-then local-byte
    (λ c. local-then (local-judge (no_component_fault (length counts) c)) (λ u. local-judged (mask_fault (get_or counts c 0)) _ local-byte))

local-input : (number j : ℕ) (g : Gate) → Local short (input number j g)
unfolding input
local-input number j g = local-judged (ahead_fault number) _ local-byte

local-gate-field : (counts : List ℕ) (number k : ℕ) (g : Gate) → Local short (gate_field counts number k g)
unfolding gate_field threshold tests inputs
local-gate-field counts number k g =
    local-cond (eqb k 0) (local-then local-byte (λ n. local-return _))
    (local-cond (eqb k 1) (local-then (local-inputs-byte most_tests) (λ n. local-repeat (test counts) n _ (local-test counts)))
    (local-then (local-inputs-byte most_gate_inputs) (λ n. local-repeat (input number) n _ (local-input number))))

local-gate : (counts : List ℕ) (number : ℕ) → Local short (gate counts number)
unfolding gate
local-gate counts number =
    local-judged (λ g. threshold_fault (input_count g) g.threshold) (λ g. g)
    (local-fields gate_maps (gate_field counts number) absent_gate (local-gate-field counts number))

local-size : (most : ℕ) → Local short (size most)
unfolding size
local-size most = local-judged (size_fault most) (λ n. n) local-word

local-load-field : (gates k : ℕ) (l : Load) → Local short (load_field gates k l)
unfolding load_field loss_gate customers minutes
local-load-field gates k l =
    local-cond (eqb k 0) (local-judged (no_gate_fault gates) _ local-byte)
    (local-cond (eqb k 1) (local-then (local-size most_customers) (λ n. local-return _)) (local-then (local-size most_minutes) (λ n. local-return _)))

local-load : (gates : ℕ) → Local short (load gates)
unfolding load
local-load gates = local-fields load_maps (load_field gates) absent_load (local-load-field gates)

local-component-record : (i : ℕ) (cs : List Component) → Local short (component_record i cs)
unfolding component_record component_after
local-component-record i cs = local-judged (λ c. width_fault (product (take i (states cs)) * c.states)) (λ c. c) local-component

local-count : (most : ℕ) → Local short (count most)
unfolding count
local-count most = local-judged (count_fault most) (λ n. n) local-byte

-- records of one kind
local-records : {A : Type 0} (reader : ℕ → List A → Reader A) (n : ℕ) (none : List A) → ((i : ℕ) (l : List A) → Local short (reader i l))
    → Local short (repeat (placing reader) n none)
local-records reader n none on = local-repeat (placing reader) n none (λ i l. local-then (on i l) (λ a. local-return _))

pub local-study : Local short study
unfolding study records
local-study =
    local-then (local-count most_components)
    (λ components.
    local-then (local-count most_gates)
    (λ gates.
    local-then (local-count most_loads)
    (λ loads.
    local-then (local-records component_record components no_components local-component-record)
    (λ cs.
    let counts = take components (states cs) in
    local-then (local-records (gate_record counts) gates no_gates (λ i gs. local-gate counts i))
    (λ gs. local-then (local-records (load_record gates) loads no_loads (λ j ls. local-load gates)) (λ ls. local-return _))))))

-- ---- what opening answers to a front part

-- a front part that is refused with another number than 1 decides
decides : (rest : List ℕ) (r r' : Read Study) → Stands short rest r r' → (n : ℕ) → (answer r).outcome ≡ Err n → (n ≡ 1 → ⊥) → (answer r').outcome ≡ Err n
decides rest r r' (inl e) n is other = absurd (other (cc (is-refused short)))
decides rest (refused m) r' (inr e) n is other = cc
decides rest (got t []) r' (inr e) n is other = absurd (not-both n (cc (ends t)))
decides rest (got t (b ∷ bs)) r' (inr e) n is other = cc (left t b bs, left t b (bs ++ rest))

-- a strict front part of bytes that open is too short
shortens : (rest : List ℕ) (r r' : Read Study) → Stands short rest r r' → (answer r').outcome ≡ finished → (rest ≡ [] → ⊥) → (answer r).outcome ≡ Err 1
shortens rest r r' (inl e) done some = cc (is-refused short)
shortens rest (refused m) r' (inr e) done some = absurd (not-both m (cc (is-refused m)))
shortens [] (got t []) r' (inr e) done some = absurd (some refl)
shortens (b ∷ bs) (got t []) r' (inr e) done some = absurd (not-both 15 (cc (left t b bs)))
shortens rest (got t (b ∷ bs)) r' (inr e) done some = absurd (not-both 15 (cc (left t b (bs ++ rest))))

-- bytes behind bytes that open are left over
leaves : (rest : List ℕ) (r r' : Read Study) → Stands short rest r r' → (answer r).outcome ≡ finished → (rest ≡ [] → ⊥) → (answer r').outcome ≡ Err 15
leaves rest r r' (inl e) done some = absurd (not-both short (cc (is-refused short)))
leaves rest (refused m) r' (inr e) done some = absurd (not-both m (cc (is-refused m)))
leaves [] (got t []) r' (inr e) done some = absurd (some refl)
leaves (b ∷ bs) (got t []) r' (inr e) done some = cc (left t b bs)
leaves rest (got t (b ∷ bs)) r' (inr e) done some = absurd (not-both 15 (cc (left t b bs)))

pub is_first_breach : FirstBreach
unfolding opened
is_first_breach =
    record {
      decided =
          λ front rest n told other.
          ap outcome_told (decides rest (study front) (study (front ++ rest)) (local-study.stands front rest) n (refused-told _ n told) other);
      too_short =
          λ front rest told some.
          ap outcome_told (shortens rest (study front) (study (front ++ rest)) (local-study.stands front rest) (done-told _ told) some);
      left_over =
          λ front rest told some.
          ap outcome_told (leaves rest (study front) (study (front ++ rest)) (local-study.stands front rest) (done-told _ told) some);
    }
