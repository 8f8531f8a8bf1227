-- The soundness check as it is computed: the first breach among all the rules of `Sound`. A theorem of the project
-- says that there is none exactly when the study is sound.
use Rattle.std.specs.Prelude.{ℕ, Bool, List, [], ◌∷◌, eqb, length, get_or}
use Rattle.lists.specs.Product.{product}
use Rattle.rules.specs.Breach.{first_breach, first, first_of, in_use}
use Rattle.rules.specs.Limits.{most_components, most_gates, most_loads, most_tests, most_gate_inputs, most_customers, most_minutes}
use Rattle.rules.specs.Table.{count_fault, states_fault, lacked_state_fault, sum_fault, width_fault, input_count_fault, no_component_fault, mask_fault}
use Rattle.rules.specs.Table.{ahead_fault, threshold_fault, loss_gate_fault, size_fault, unused_fault}
use Rattle.study.specs.declared.Component.{Component}
use Rattle.study.specs.declared.Gate.{Gate}
use Rattle.study.specs.declared.Load.{Load}
use Rattle.study.specs.declared.Study.{Study}
use Rattle.gate_order.specs.Inputs.{input_count}
use Rattle.study.specs.Joint.{state_counts}
use Rattle.study.specs.Places.{no_gate}
use Rattle.study.specs.Zero.{zero_component, zero_load}
use Rattle.gate_order.specs.Breach.{order_fault}

-- probabilities of states 1 to 3, by the state count: 5 for one above 0 of a state that the component lacks, then 6
unfoldable pub probabilities_fault : ℕ → ℕ → ℕ → ℕ → ℕ
probabilities_fault states p1 p2 p3 =
    first_breach (
    lacked_state_fault states 1 p1
    ∷ lacked_state_fault states 2 p2
    ∷ lacked_state_fault states 3 p3
    ∷ sum_fault p1 p2 p3
    ∷ []
    )

-- a component place that is in use, one that no record uses, and place i of a study with n components
unfoldable pub component_fault : Component → ℕ
component_fault c = first (states_fault c.states) (probabilities_fault c.states c.p1 c.p2 c.p3)

unfoldable pub unused_component_fault : Component → ℕ
unused_component_fault c = unused_fault c.states c.p1 c.p2 c.p3

unfoldable pub component_place_fault : ℕ → ℕ → Component → ℕ
component_place_fault n i c = in_use n i (component_fault c) (unused_component_fault c)

-- test place j of a gate with so many tests, and all of them; the components have these state counts
unfoldable pub test_place_fault : List ℕ → ℕ → ℕ → ℕ → ℕ → ℕ
test_place_fault counts tests j component mask =
    in_use tests j
    (first (no_component_fault (length counts) component) (mask_fault (get_or counts component 0) mask))
    (unused_fault component mask 0 0)

unfoldable pub tests_fault : List ℕ → ℕ → List ℕ → List ℕ → ℕ
tests_fault counts tests component mask =
    first_of (λ (j : ℕ). test_place_fault counts tests j (get_or component j 0) (get_or mask j 0)) most_tests 0

-- gate input place j of gate i with so many gate inputs, and all of them
unfoldable pub input_place_fault : ℕ → ℕ → ℕ → ℕ → ℕ
input_place_fault i gates j input = in_use gates j (ahead_fault i input) (unused_fault input 0 0 0)

unfoldable pub gate_inputs_fault : ℕ → ℕ → List ℕ → ℕ
gate_inputs_fault i gates input = first_of (λ (j : ℕ). input_place_fault i gates j (get_or input j 0)) most_gate_inputs 0

-- the places of the inputs of gate i
unfoldable pub input_places_fault : List ℕ → ℕ → Gate → ℕ
input_places_fault counts i g = first (tests_fault counts g.tests g.component g.mask) (gate_inputs_fault i g.gates g.input)

-- how a gate votes: its inputs stand in order, and its threshold is judged by the distinct ones
unfoldable pub vote_fault : Gate → ℕ
unfolding order_fault input_count
vote_fault g = first (order_fault g) (threshold_fault (input_count g) g.threshold)

-- gate place i that is in use, one that no record uses, and place i of a study with n gates; the places of inputs are
-- judged in both
unfoldable pub gate_fault : List ℕ → ℕ → Gate → ℕ
gate_fault counts i g =
    first_breach (
    input_count_fault most_tests g.tests ∷ input_count_fault most_gate_inputs g.gates ∷ input_places_fault counts i g ∷ vote_fault g ∷ []
    )

unfoldable pub unused_gate_fault : List ℕ → ℕ → Gate → ℕ
unused_gate_fault counts i g = first (unused_fault g.threshold g.tests g.gates 0) (input_places_fault counts i g)

unfoldable pub gate_place_fault : List ℕ → ℕ → ℕ → Gate → ℕ
gate_place_fault counts n i g = in_use n i (gate_fault counts i g) (unused_gate_fault counts i g)

-- a load place that is in use in a study with so many gates, one that no record uses, and place j of a study with n
-- loads
unfoldable pub load_fault : ℕ → Load → ℕ
load_fault gates l =
    first_breach (loss_gate_fault gates l.gate ∷ size_fault most_customers l.customers ∷ size_fault most_minutes l.minutes ∷ [])

unfoldable pub unused_load_fault : Load → ℕ
unused_load_fault l = unused_fault l.gate l.customers l.minutes 0

unfoldable pub load_place_fault : ℕ → ℕ → ℕ → Load → ℕ
load_place_fault gates n j l = in_use n j (load_fault gates l) (unused_load_fault l)

-- all places of a kind of record
unfoldable pub components_fault : ℕ → List Component → ℕ
components_fault n cs = first_of (λ (i : ℕ). component_place_fault n i (get_or cs i zero_component)) most_components 0

unfoldable pub gates_fault : List ℕ → ℕ → List Gate → ℕ
gates_fault counts n gs = first_of (λ (i : ℕ). gate_place_fault counts n i (get_or gs i no_gate)) most_gates 0

unfoldable pub loads_fault : ℕ → ℕ → List Load → ℕ
loads_fault gates n ls = first_of (λ (j : ℕ). load_place_fault gates n j (get_or ls j zero_load)) most_loads 0

-- the counts, and the components
unfoldable pub front_fault : Study → ℕ
front_fault t =
    first_breach (
    count_fault most_components t.components
    ∷ count_fault most_gates t.gates
    ∷ count_fault most_loads t.loads
    ∷ components_fault t.components t.component
    ∷ []
    )

-- the joint states, the gates and the loads
unfoldable pub rest_fault : Study → ℕ
rest_fault t =
    first_breach (
    width_fault (product (state_counts t))
    ∷ gates_fault (state_counts t) t.gates t.gate
    ∷ loads_fault t.gates t.loads t.load
    ∷ []
    )

-- no rule is broken
unfoldable pub sound : Study → Bool
sound t = eqb (first (front_fault t) (rest_fault t)) 0
