-- An opening that is not refused returns a sound study, and any opening a study with all its places. What carries it: the records of each kind fill
-- their places from the front, each sound by itself, and the joint states so far are judged with each component.
use Prim.Native.Nat.{ℕ, ◌+◌, ◌*◌, ◌<◌}
use mathlib.Core.Path.{◌≡◌, refl, sym, subst}
use mathlib.Core.List.{List, [], ◌∷◌}
use native.Mathlib.Decide.{dec_lt}
use native.Mathlib.Omega.{arith}
use lib.ListN.{get_or, take, get_or-replicate}
use Rattle.lists.specs.Product.{product}
use Rattle.lists.proofs.Filled.{Filled, filled_none, filled_more}
use Rattle.rules.specs.Breach.{refuse}
use Rattle.rules.specs.Limits.{most_components, most_gates, most_loads, most_tests, most_gate_inputs}
use Rattle.rules.specs.Table.{count_fault, width_fault}
use Rattle.rules.proofs.Kept.{range-kept}
use Rattle.reading.specs.Reader.{Read, Reader, refused, got, byte, repeat}
use Rattle.reading.proofs.Held.{Held, Gives, held, gives_then, gives-judge, gives-judged, gives-return, gives-repeat}
use Rattle.answers.specs.Answered.{answered}
use Rattle.answers.proofs.Told.{done-told}
use Rattle.opening.specs.Opening.{count, component_after, component_record, gate_record, load_record, placing, records, study, refused_opening, answer, opened, given, as_given}
use Rattle.opening.proofs.Places.{joint-placed}
use Rattle.study.specs.declared.Component.{Component}
use Rattle.study.specs.declared.Gate.{Gate}
use Rattle.study.specs.declared.Load.{Load}
use Rattle.study.specs.declared.Study.{Study}
use Rattle.study.specs.Joint.{states}
use Rattle.study.specs.Places.{Shaped, ShapedGate, no_gate}
use Rattle.study.specs.Zero.{zero_component, zero_gate, zero_load, no_components, no_gates, no_loads, zero_study}
use Rattle.gate_order.specs.Order.{ordered}
use Rattle.soundness.specs.Sound.{SoundComponent, SoundGate, UnusedGate, SoundLoad, Sound}
use Rattle.opening.specs.Laws.{IsOpened, OpenedSound, OpenedShaped}
use Rattle.opening.proofs.Answers.{is-refused, left, left_over, not-both}
use Rattle.opening.proofs.Opened.Component.{component-sound}
use Rattle.opening.proofs.Opened.Gate.{WholeGate, gate-sound}
use Rattle.opening.proofs.Opened.Load.{load-sound}
use Rattle.opening.proofs.Opened.Order.{Given, ordered-rules, ordered-order, ordered-unused, ordered-shaped}
use Rattle.answers.specs.Answers.{finished}

count-sound : (most : ℕ) → Gives (count most) (λ (n : ℕ). count_fault most n ≡ 0)
unfolding count
count-sound most = gives-judged byte (count_fault most) (λ n. n) (λ n kept. kept)

-- a place below a count that keeps its rule
room : (most n : ℕ) {i : ℕ} → count_fault most n ≡ 0 → i < n → i < most
room most n kept less = omega (arith, (range-kept _ _ most n kept).most)

-- records of one kind, each sound, fill the places from the front
records-filled : {A : Type 0} (Kept : ℕ → A → Type 0) (Unused : A → Type 0) (d : A) (size : ℕ) (reader : ℕ → List A → Reader A) (n : ℕ) (none : List A)
    → count_fault size n ≡ 0 → Filled Kept Unused d size 0 none → ((i : ℕ) (l : List A) → Gives (reader i l) (Kept i))
    → Gives (repeat (placing reader) n none) (Filled Kept Unused d size n)
records-filled Kept Unused d size reader n none counted start read =
    gives-repeat (Filled Kept Unused d size) (placing reader) n none
    (λ i l less f. gives_then (read i l) (λ a kept. gives-return (filled_more f (room size n counted less) kept))) start

-- ---- components

abbrev ComponentsFilled : ℕ → List Component → Type 0
ComponentsFilled = Filled (λ (k : ℕ) (c : Component). SoundComponent c) (λ (c : Component). c ≡ zero_component) zero_component most_components

-- i components fill their places, and their joint states are not too many
record ComponentsSoFar (i : ℕ) (cs : List Component) : Type 0 where
  filled : ComponentsFilled i cs
  width : width_fault (product (take i (states cs))) ≡ 0

no-components : ComponentsSoFar 0 no_components
unfolding no_components product refuse
no-components = record { filled = filled_none refl (λ k h. get_or-replicate most_components k zero_component zero_component h); width = refl }

-- a sound component with which so many joint states are not too many
record Fitting (joint : ℕ) (c : Component) : Type 0 where
  is_sound : SoundComponent c
  width : width_fault (joint * c.states) ≡ 0

after-sound : (joint : ℕ) → Gives (component_after joint) (Fitting joint)
unfolding component_after
after-sound joint =
    gives_then component-sound
    (λ c sound. gives-judge (width_fault (joint * c.states)) (λ fits. gives-return (record { is_sound = sound; width = fits })))

component-placed : (i : ℕ) (cs : List Component) → i < most_components → ComponentsSoFar i cs → Gives (placing component_record i cs) (ComponentsSoFar (i + 1))
unfolding component_record
component-placed i cs below s =
    gives_then (after-sound (product (take i (states cs))))
    (λ c fitting.
    gives-return
    (record {
      filled = filled_more s.filled below fitting.is_sound;
      width = rw (joint-placed cs i c (rw s.filled.long below)) fitting.width;
    }))

-- ---- gates

zero-unused : WholeGate UnusedGate zero_gate
unfolding zero_gate
zero-unused =
    record {
      kept =
          record {
            threshold = refl;
            tests = refl;
            gates = refl;
            behind =
                record {
                  component = λ j from less. get_or-replicate most_tests j 0 0 less;
                  mask = λ j from less. get_or-replicate most_tests j 0 0 less;
                  input = λ j from less. get_or-replicate most_gate_inputs j 0 0 less;
                };
          };
      shaped = record { component = refl; mask = refl; input = refl };
    }

abbrev GatesFilled : List ℕ → ℕ → List Gate → Type 0
GatesFilled counts = Filled (λ (i : ℕ). WholeGate (SoundGate counts i)) (WholeGate UnusedGate) no_gate most_gates

without_gates : (counts : List ℕ) → GatesFilled counts 0 no_gates
unfolding no_gates
without_gates counts = filled_none refl (λ k h. subst (WholeGate UnusedGate) (sym (get_or-replicate most_gates k zero_gate no_gate h)) zero-unused)

-- a gate has all its places, whether a record uses it or not
gates-shaped : (counts : List ℕ) (gates : ℕ) (gs : List Gate) → GatesFilled counts gates gs → (i : ℕ) → i < most_gates → ShapedGate (get_or gs i no_gate)
gates-shaped counts gates gs filled i inside = go (dec_lt i gates)
  where
    go : Dec (i < gates) → ShapedGate (get_or gs i no_gate)
    go (yes used) = (filled.below i used).shaped
    go (no unused) = (filled.behind i (omega arith) inside).shaped

-- ---- loads

abbrev LoadsFilled : ℕ → ℕ → List Load → Type 0
LoadsFilled gates = Filled (λ (k : ℕ). SoundLoad gates) (λ (l : Load). l ≡ zero_load) zero_load most_loads

no-loads : (gates : ℕ) → LoadsFilled gates 0 no_loads
unfolding no_loads
no-loads gates = filled_none refl (λ k h. get_or-replicate most_loads k zero_load zero_load h)

-- ---- the study

-- a study as the bytes give it, which is sound once it is put in order
record Whole (t : Study) : Type 0 where
  given : Given t
  is_sound : Sound (ordered t)

records-sound : (components gates loads : ℕ) → count_fault most_components components ≡ 0 → count_fault most_gates gates ≡ 0 → count_fault most_loads loads ≡ 0
    → Gives (records components gates loads) Whole
unfolding records ordered
records-sound components gates loads c g l =
    gives_then
    (gives-repeat ComponentsSoFar (placing component_record) components no_components
    (λ i cs less s. component-placed i cs (room most_components components c less) s) no-components)
    (λ cs components-sound.
    let counts = take components (states cs) in
    gives_then
    (records-filled _ _ no_gate most_gates (gate_record counts) gates no_gates g (without_gates counts) (λ i gs. gate-sound counts i))
    (λ gs gates-sound.
    gives_then (records-filled _ _ zero_load most_loads (load_record gates) loads no_loads l (no-loads gates) (λ j ls. load-sound gates))
    (λ ls loads-sound.
    let t : Study = record { components = components; gates = gates; loads = loads; component = cs; gate = gs; load = ls } in
    let given : Given t =
    record {
      shaped =
          record {
            components = components-sound.filled.long;
            gates = gates-sound.long;
            loads = loads-sound.long;
            gate = gates-shaped counts gates gs gates-sound;
          };
      gate = λ i below. (gates-sound.below i below).kept;
      no_gate_behind = λ i from inside. (gates-sound.behind i from inside).kept;
    } in
    gives-return
    (record {
      given = given;
      is_sound =
          record {
            components = c;
            gates = g;
            loads = l;
            component = components-sound.filled.below;
            no_component = components-sound.filled.behind;
            width = components-sound.width;
            gate = λ i below. ordered-rules t given i below (room most_gates gates g below);
            order = λ i below. ordered-order t given i (room most_gates gates g below);
            no_gate_behind = ordered-unused t given;
            load = loads-sound.below;
            no_load = loads-sound.behind;
          };
    }))))

study-sound : Gives study Whole
unfolding study
study-sound =
    gives_then (count-sound most_components)
    (λ components c.
    gives_then (count-sound most_gates)
    (λ gates g. gives_then (count-sound most_loads) (λ loads l. records-sound components gates loads c g l)))

answer-sound : (r : Read Study) → Held Whole r → (answer r).outcome ≡ finished → Sound (answer r).study
unfolding answer refuse answered
answer-sound (refused n) h e = absurd (not-both n (cc (is-refused n)))
answer-sound (got t []) h e = h.is_sound
answer-sound (got t (b ∷ rest)) h e = absurd (not-both 15 (cc (left t b rest)))

pub opened-sound : OpenedSound
unfolding opened
opened-sound bytes told = answer-sound (study bytes) (held study-sound bytes) (done-told _ told)

zero-shaped : Shaped zero_study
unfolding zero_study no_components no_gates no_loads
zero-shaped = record { components = refl; gates = refl; loads = refl; gate = gates-shaped [] 0 no_gates (without_gates []) }

answer-shaped : (r : Read Study) → Held Whole r → Shaped (answer r).study
unfolding answer refuse refused_opening answered
answer-shaped (refused n) h = zero-shaped
answer-shaped (got t []) h = ordered-shaped t h.given
answer-shaped (got t (b ∷ rest)) h = rw (left_over t b rest) zero-shaped

pub opened-shaped : OpenedShaped
unfolding opened
opened-shaped bytes = answer-shaped (study bytes) (held study-sound bytes)

-- ---- as the bytes give it

answer-given : (r : Read Study) → Held Whole r → (answer r).outcome ≡ finished → Given (given r)
unfolding answer given
answer-given (refused n) h e = absurd (not-both n (cc (is-refused n)))
answer-given (got t rest) h e = h.given

pub opened-given : (bytes : List ℕ) → IsOpened bytes → Given (as_given bytes)
unfolding opened as_given
opened-given bytes told = answer-given (study bytes) (held study-sound bytes) (done-told _ told)

answer-ordered : (r : Read Study) → (answer r).outcome ≡ finished → (answer r).study ≡ ordered (given r)
unfolding answer given refuse answered
answer-ordered (refused n) e = absurd (not-both n (cc (is-refused n)))
answer-ordered (got t []) e = refl
answer-ordered (got t (b ∷ rest)) e = absurd (not-both 15 (cc (left t b rest)))

pub opened-ordered : (bytes : List ℕ) → IsOpened bytes → (opened bytes).study ≡ ordered (as_given bytes)
unfolding opened as_given
opened-ordered bytes told = answer-ordered (study bytes) (done-told _ told)
