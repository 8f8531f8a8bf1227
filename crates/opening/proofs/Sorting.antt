-- Gates that are put in order one by one, as they are read: the run reads what the definition reads, with the inputs of each gate in order.
use Prim.Native.Nat.{ℕ, zero, suc, ◌+◌}
use mathlib.Core.Path.{◌≡◌, refl, sym, ap, ◌∙◌}
use mathlib.Core.List.{List, [], ◌∷◌, map}
use lib.ListN.{set}
use Rattle.std.proofs.Common.{length, take}
use Rattle.lists.specs.Run.{each}
use Rattle.lists.specs.Rows.{put}
use Rattle.reading.specs.Reader.{Read, refused, got, and_then, return, turn, repeat}
use Rattle.reading.proofs.Alike.{Alike, alike_self, alike_then, alike-return}
use Rattle.rules.specs.Limits.{most_components, most_gates, most_loads}
use Rattle.rules.specs.Table.{left_fault}
use Rattle.ordering.specs.Inputs.{paired, sorted}
use Rattle.study.specs.declared.Gate.{Gate}
use Rattle.study.specs.declared.Study.{Study}
use Rattle.study.specs.Joint.{states}
use Rattle.study.specs.Zero.{zero_gate, no_components, no_gates, no_loads}
use Rattle.answers.specs.Answered.{answered}
use Rattle.answers.specs.Answers.{finished}
use Rattle.gate_record.specs.Gate.{gate}
use Rattle.gate_record.specs.Places.{gate_in_order}
use Rattle.gate_order.specs.Order.{in_order, ordered}
use Rattle.opening.specs.Opening.{count, component_record, gate_record, load_record, placing, records, study, refused_opening, answer, opened}
use Rattle.opening.specs.Places.{gate_record_in_order, study_in_order}

-- what was read, with the inputs of each gate in order
abbrev pub all_in_order : Read (List Gate) → Read (List Gate)
all_in_order r = and_then r (λ gs. return (map in_order gs))

set-in-order : (gs : List Gate) (i : ℕ) (g : Gate) → set (map in_order gs) i (in_order g) ≡ map in_order (set gs i g)
set-in-order [] i g = refl
set-in-order (h ∷ gs) zero g = refl
set-in-order (h ∷ gs) (suc i) g = ap (λ (l : List Gate). in_order h ∷ l) (set-in-order gs i g)

-- places that no record uses are in order
none-in-order : map in_order no_gates ≡ no_gates
unfolding no_gates zero_gate in_order put paired sorted
none-in-order = refl

module _ (counts : List ℕ) where
  turn-in-order : (i : ℕ) (r : Read (List Gate))
      → turn (placing (gate_record_in_order counts)) i (all_in_order r) ≡ all_in_order (turn (placing (gate_record counts)) i r)
  unfolding gate_in_order
  turn-in-order i (refused n) = refl
  turn-in-order i (got gs rest) = go (gate counts i rest)
    where
      go : (r : Read Gate)
          → and_then (and_then r (λ g. return (in_order g))) (λ g. return (set (map in_order gs) i g))
          ≡ all_in_order (and_then r (λ g. return (set gs i g)))
      go (refused n) = refl
      go (got g rest') = ap (λ (l : List Gate). got l rest') (set-in-order gs i g)

  run-in-order : (n i : ℕ) (r : Read (List Gate))
      → each (turn (placing (gate_record_in_order counts))) n i (all_in_order r) ≡ all_in_order (each (turn (placing (gate_record counts))) n i r)
  unfolding each
  run-in-order zero i r = refl
  run-in-order (suc n) i r =
      ap (each (turn (placing (gate_record_in_order counts))) n (i + 1)) (turn-in-order i r) ∙ run-in-order n (i + 1) (turn (placing (gate_record counts)) i r)

  pub gates-in-order : (n : ℕ) (s : List ℕ)
      → repeat (placing (gate_record_in_order counts)) n no_gates s ≡ all_in_order (repeat (placing (gate_record counts)) n no_gates s)
  gates-in-order n s =
      ap (λ (gs : List Gate). each (turn (placing (gate_record_in_order counts))) n 0 (got gs s)) (sym none-in-order) ∙ run-in-order n 0 (got no_gates s)

-- ---- the study

study-alike : Alike ordered study study_in_order
unfolding study records study_in_order ordered
study-alike =
    alike_then _ (alike_self (count most_components))
    (λ components.
    alike_then _ (alike_self (count most_gates))
    (λ gates.
    alike_then _ (alike_self (count most_loads))
    (λ loads.
    alike_then _ (alike_self (repeat (placing component_record) components no_components))
    (λ cs.
    alike_then _ (record { alike = gates-in-order (take components (states cs)) gates })
    (λ gs. alike_then _ (alike_self (repeat (placing (load_record gates)) loads no_loads)) (λ ls. alike-return refl))))))

-- the answer to a reading whose gates are in order
pub opened-refused : (bytes : List ℕ) {n : ℕ} → refused n ≡ study_in_order bytes → refused_opening n ≡ opened bytes
unfolding opened answer
opened-refused bytes e = go (study bytes) (e ∙ study-alike.alike bytes)
  where
    go : {n : ℕ} (r : Read Study) → refused n ≡ and_then r (λ t. return (ordered t)) → refused_opening n ≡ answer r
    go (refused m) e = cc
    go (got t rest) e = cc

-- the end of the bytes is judged last
pub opened-ended : (bytes : List ℕ) {t : Study} {rest : List ℕ} → got t rest ≡ study_in_order bytes
    → answered refused_opening (left_fault (length rest)) (record { outcome = finished; study = t }) ≡ opened bytes
unfolding opened answer
opened-ended bytes e = go (study bytes) (e ∙ study-alike.alike bytes)
  where
    go : {t : Study} {rest : List ℕ} (r : Read Study) → got t rest ≡ and_then r (λ u. return (ordered u))
        → answered refused_opening (left_fault (length rest)) (record { outcome = finished; study = t }) ≡ answer r
    go (refused m) e = cc
    go (got t rest) e = cc
