-- Order changes no truth: opening keeps the inputs of each gate (`opened-sorted`), and so their set, by which a gate votes (`repeats-count-once`).
use Prim.Native.Nat.{ℕ, ◌<◌}
use mathlib.Core.List.{List}
use native.Mathlib.Omega.{arith}
use Rattle.ordering.proofs.Sets.{alike_set}
use Rattle.rules.specs.Limits.{most_gates}
use Rattle.study.specs.declared.Gate.{Gate}
use Rattle.study.specs.Places.{gate_at}
use Rattle.soundness.proofs.Ranges.{gates-most}
use Rattle.opening.specs.Laws.{IsOpened}
use Rattle.opening.specs.Opening.{as_given, opened}
use Rattle.opening.proofs.Opened.Study.{opened-sound}
use Rattle.demands.specs.Repeats.{SameVote, SameButRepeats}
use Rattle.demands.specs.Saving.{SameInputs, TruthsKept}
use Rattle.demands.proofs.Repeats.{repeats-count-once}
use Rattle.demands.proofs.Sorted.{opened-same}

-- the same inputs, each as often, are one set
inputs-vote : (g h : Gate) → SameInputs g h → SameVote g h
inputs-vote g h same = record { threshold = same.threshold; tests = alike_set _ _ same.same_tests; gate_inputs = alike_set _ _ same.same_gate_inputs }

module _ (bytes : List ℕ) (done : IsOpened bytes) where
  gate-votes : (i : ℕ) → i < most_gates → SameVote (gate_at (opened bytes).study i) (gate_at (as_given bytes) i)
  gate-votes i inside = inputs-vote _ _ ((opened-same bytes done).gate i inside)

  but-repeats : SameButRepeats (opened bytes).study (as_given bytes)
  but-repeats =
      let same = opened-same bytes done in
      record {
        components = same.components;
        gates = same.gates;
        loads = same.loads;
        component = same.component;
        load = same.load;
        gate = λ i used. gate-votes i (omega (arith, used, gates-most (opened bytes).study (opened-sound bytes done)));
      }

pub truth-kept : TruthsKept
truth-kept bytes done =
    record {
      gate = λ i inside. repeats-count-once.gate _ _ (gate-votes bytes done i inside);
      truths = repeats-count-once.truths _ _ (but-repeats bytes done);
      model = repeats-count-once.model _ _ (but-repeats bytes done);
    }
