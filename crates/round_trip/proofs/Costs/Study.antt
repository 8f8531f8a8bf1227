-- Whatever bytes are read as a study, they are no fewer than those written for it. What carries it: each record costs at least what is written for it.
use Prim.Native.Nat.{ℕ, ◌+◌, ◌*◌, ◌<◌, ◌≤◌}
use mathlib.Core.Path.{◌≡◌, refl, ap, subst, ◌∙◌}
use mathlib.Core.List.{List, ◌++◌}
use native.Mathlib.Numerals.{add-one}
use native.Mathlib.Omega.{arith}
use lib.ListN.{length, get_or, take, set, length-append, length-set}
use lib.Seq.{get_or-set_same, get_or-set_other}
use Rattle.lists.specs.Product.{product}
use Rattle.lists.specs.Rows.{joined}
use Rattle.lists.specs.Tabulate.{tabulate}
use Rattle.lists.proofs.Joined.{joined-last}
use Rattle.lists.proofs.Tabulated.{tabulate-alike}
use Rattle.rules.specs.Limits.{most_components, most_gates, most_loads}
use Rattle.rules.specs.Table.{count_fault, width_fault}
use Rattle.rules.proofs.Rows.{count_kept}
use Rattle.study.specs.declared.Component.{Component}
use Rattle.study.specs.declared.Study.{Study}
use Rattle.study.specs.Joint.{states}
use Rattle.study.specs.Places.{no_gate}
use Rattle.study.specs.Zero.{zero_component, zero_load, no_components, no_gates, no_loads}
use Rattle.study_bytes.specs.Written.{component_bytes, gate_bytes, load_bytes, components_bytes, gates_bytes, loads_bytes, study_bytes}
use Rattle.reading.specs.Reader.{Read, Reader, repeat}
use Rattle.reading.proofs.Ends.{EndsIn, Ends, ends-then, ends_return, ends-weaker, ends-byte, ends-judge, ends-repeat}
use Rattle.reading.proofs.Held.{Any}
use Rattle.reading.proofs.Takes.{Counts}
use Rattle.opening.specs.Opening.{count, component_after, component_record, gate_record, load_record, placing, records, study}
use Rattle.round_trip.specs.Laws.{NoneShorter}
use Rattle.round_trip.proofs.Costs.Component.{component-costs}
use Rattle.round_trip.proofs.Costs.Gate.{gate-costs}
use Rattle.round_trip.proofs.Costs.Load.{load-costs}

-- ---- the records of one kind

module _ {A : Type 0} (d : A) (bytes : A → List ℕ) (most : ℕ) where
  -- the first k, one behind the other
  abbrev places_bytes : ℕ → List A → List ℕ
  places_bytes k l = joined (tabulate (λ (i : ℕ). bytes (get_or l i d)) k)

  place-more : (l : List A) (k : ℕ) (a : A) → k < length l → length (places_bytes (k + 1) (set l k a)) ≡ length (places_bytes k l) + length (bytes a)
  unfolding tabulate
  place-more l k a inside =
      let now : ℕ → List ℕ = λ i. bytes (get_or (set l k a) i d) in
      let before : ℕ → List ℕ = λ i. bytes (get_or l i d) in
      ap (λ (n : ℕ). length (joined (tabulate now n))) (add-one k)
      ∙ ap length (joined-last (tabulate now k) (now k))
      ∙ length-append (joined (tabulate now k)) (now k)
      ∙ rw
      (tabulate-alike now before k (λ i less. ap bytes (get_or-set_other l k i a d (λ same. omega arith))), get_or-set_same l k a d inside) refl

  -- of n bytes, k records are read into their places
  record Placed (n k : ℕ) (l : List A) (left : ℕ) : Type 0 where
    long : length l ≡ most
    costs : length (places_bytes k l) + left ≤ n

  places-cost : (reader : ℕ → List A → Reader A) (none : List A) (turns n : ℕ) → turns ≤ most → length none ≡ most
      → ((k : ℕ) (l : List A) (left : ℕ) → Ends Any left (reader k l) (λ a rest. length (bytes a) + rest ≤ left))
      → Ends Any n (repeat (placing reader) turns none) (λ l left. length (places_bytes turns l) + left ≤ n)
  unfolding joined tabulate
  places-cost reader none turns n room long each-costs =
      ends-weaker (λ l left placed. placed.costs)
      (ends-repeat (Placed n) (placing reader) turns none
      (λ k l left less placed.
      ends-then (each-costs k l left)
      (λ a rest h.
      ends_return
      (record {
        long = length-set l k a ∙ placed.long;
        costs = omega (arith, placed.costs, place-more l k a (omega (arith, placed.long)));
      })))
      (record { long = long; costs = omega arith }))

-- ---- the study

component-record-costs : (i : ℕ) (cs : List Component) (n : ℕ) → Ends Any n (component_record i cs) (λ c left. length (component_bytes c) + left ≤ n)
unfolding component_record component_after
component-record-costs i cs n =
    ends-then (component-costs n)
    (λ c left h. ends-judge (width_fault (product (take i (states cs)) * c.states)) (λ broken. tt) (λ kept. ends_return h))

count-costs : (most n : ℕ) → Ends Any n (count most) (Counts n most)
unfolding count
count-costs most n =
    ends-then (ends-byte n (λ none. tt))
    (λ v left e.
    ends-judge (count_fault most v) (λ broken. tt) (λ kept. ends_return (record { within = count_kept most v kept; taken = e })))

study-size : (t : Study) → length (study_bytes t) ≡ 3 + length (components_bytes t) + length (gates_bytes t) + length (loads_bytes t)
unfolding study_bytes
study-size t =
    omega (arith, length-append (components_bytes t) (gates_bytes t ++ loads_bytes t), length-append (gates_bytes t) (loads_bytes t))

reading-costs : (n : ℕ) → Ends Any n study (λ t left. length (study_bytes t) + left ≤ n)
unfolding study records no_components no_gates no_loads
reading-costs n =
    ends-then (count-costs most_components n)
    (λ components n1 c.
    ends-then (count-costs most_gates n1)
    (λ gates n2 g.
    ends-then (count-costs most_loads n2)
    (λ loads n3 l.
    ends-then (places-cost zero_component component_bytes most_components component_record no_components components n3 c.within.most refl component-record-costs)
    (λ cs n4 hc.
    let counts = take components (states cs) in
    ends-then (places-cost no_gate gate_bytes most_gates (gate_record counts) no_gates gates n4 g.within.most refl (λ i gs. gate-costs counts i))
    (λ gs n5 hg.
    ends-then (places-cost zero_load load_bytes most_loads (load_record gates) no_loads loads n5 l.within.most refl (λ j ls. load-costs gates))
    (λ ls left hl.
    let t : Study = record { components = components; gates = gates; loads = loads; component = cs; gate = gs; load = ls } in
    ends_return (omega (arith, study-size t, c.taken, g.taken, l.taken, hc, hg, hl))))))))

pub study-costs : NoneShorter
study-costs bytes t rest e =
    subst (λ (r : Read Study). EndsIn Any (λ (u : Study) (left : ℕ). length (study_bytes u) + left ≤ length bytes) r) e
    ((reading-costs (length bytes)).ends bytes refl)
