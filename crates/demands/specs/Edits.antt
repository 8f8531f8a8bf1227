-- The edits: what each would leave, a row of them, and the plain table of fields that a row is held against.
use Rattle.std.specs.Prelude.{ℕ, ◌<◌, cond, List, [], ◌∷◌, map, eqb}
use Rattle.rules.specs.Breach.{first_breach}
use Rattle.rules.specs.Limits.{most_customers, most_minutes}
use Rattle.rules.specs.Table.{item_fault, size_fault}
use Rattle.study.specs.declared.Component.{Component}
use Rattle.study.specs.declared.Load.{Load}
use Rattle.study.specs.declared.Study.{Study}
use Rattle.study.specs.Edits.{with_probabilities, with_customers, with_minutes, with_component, with_load}
use Rattle.study.specs.Places.{component_at, load_at}
use Rattle.soundness.specs.Check.{probabilities_fault}
use Rattle.opening.specs.Laws.{IsOpened}
use Rattle.opening.specs.Opening
use Rattle.editing.specs.Edits.{component_edit_breaches, probabilities_set, load_edit_breaches, customers_set, minutes_set}
use Rattle.answers.specs.Answers.{StudyAnswer}

-- an edit names an item and gives its new numbers
pub data Edit : Type 0 where
  probabilities : ℕ → ℕ → ℕ → ℕ → Edit
  customers : ℕ → ℕ → Edit
  minutes : ℕ → ℕ → Edit

-- what the call answers
abbrev pub edit : Edit → Study → StudyAnswer
edit (probabilities i p1 p2 p3) t = probabilities_set t i p1 p2 p3
edit (customers j n) t = customers_set t j n
edit (minutes j n) t = minutes_set t j n

-- the list of its breaches, in order
abbrev pub edit_breaches : Edit → Study → List ℕ
edit_breaches (probabilities i p1 p2 p3) t = component_edit_breaches t i p1 p2 p3
edit_breaches (customers j n) t = load_edit_breaches t j most_customers n
edit_breaches (minutes j n) t = load_edit_breaches t j most_minutes n

-- the study with the edit's field anew, whether that keeps the rules or not
abbrev pub changed : Edit → Study → Study
changed (probabilities i p1 p2 p3) t = with_component i (with_probabilities p1 p2 p3 (component_at t i)) t
changed (customers j n) t = with_load j (with_customers n (load_at t j)) t
changed (minutes j n) t = with_load j (with_minutes n (load_at t j)) t

-- the study has the item that the edit names
abbrev pub HasItem : Edit → Study → Type 0
HasItem (probabilities i p1 p2 p3) t = i < t.components
HasItem (customers j n) t = j < t.loads
HasItem (minutes j n) t = j < t.loads

-- a study that the calls hand out: opened, then edited any number of times
pub data Reached : Study → Type 0 where
  opened : (bytes : List ℕ) → IsOpened bytes → Reached (Rattle.opening.specs.Opening.opened bytes).study
  edited : (e : Edit) (t : Study) → Reached t → Reached (edit e t).study

-- the study after a row of edits, each on what the one before left
abbrev pub after : List Edit → Study → Study
after [] t = t
after (e ∷ es) t = after es (edit e t).study

-- ---- a plain table of fields

-- what no edit changes of it: how many items there are, and the state count of each component
pub record Items : Type 0 where
  pub components : ℕ
  pub loads : ℕ
  pub states : ℕ → ℕ

-- and a column for each field that an edit can change
pub record Table : Type 0 where
  pub items : Items
  pub p1 : ℕ → ℕ
  pub p2 : ℕ → ℕ
  pub p3 : ℕ → ℕ
  pub customers : ℕ → ℕ
  pub minutes : ℕ → ℕ

abbrev pub items_of : Study → Items
items_of t = record { components = t.components; loads = t.loads; states = λ i. (component_at t i).states }

abbrev pub table_of : Study → Table
table_of t =
    record {
      items = items_of t;
      p1 = λ i. (component_at t i).p1;
      p2 = λ i. (component_at t i).p2;
      p3 = λ i. (component_at t i).p3;
      customers = λ j. (load_at t j).customers;
      minutes = λ j. (load_at t j).minutes;
    }

-- by what an edit is refused, from the table alone: 17, then the rules of its field
abbrev pub table_breach : Edit → Table → ℕ
table_breach (probabilities i p1 p2 p3) f = first_breach (item_fault f.items.components i ∷ probabilities_fault (f.items.states i) p1 p2 p3 ∷ [])
table_breach (customers j n) f = first_breach (item_fault f.items.loads j ∷ size_fault most_customers n ∷ [])
table_breach (minutes j n) f = first_breach (item_fault f.items.loads j ∷ size_fault most_minutes n ∷ [])

-- a column with n at one item
abbrev pub written : ℕ → ℕ → (ℕ → ℕ) → ℕ → ℕ
written item n column k = cond (eqb k item) n (column k)

-- the table with an edit's fields written
abbrev pub write : Edit → Table → Table
write (probabilities i p1 p2 p3) f =
    record {
      items = f.items;
      p1 = written i p1 f.p1;
      p2 = written i p2 f.p2;
      p3 = written i p3 f.p3;
      customers = f.customers;
      minutes = f.minutes;
    }
write (customers j n) f =
    record { items = f.items; p1 = f.p1; p2 = f.p2; p3 = f.p3; customers = written j n f.customers; minutes = f.minutes }
write (minutes j n) f =
    record { items = f.items; p1 = f.p1; p2 = f.p2; p3 = f.p3; customers = f.customers; minutes = written j n f.minutes }

-- the table after a row of edits; a refused edit writes nothing
abbrev pub table_after : List Edit → Table → Table
table_after [] f = f
table_after (e ∷ es) f = table_after es (cond (eqb (table_breach e f) 0) (write e f) f)

-- all of a study but the fields that can be edited
pub record Others : Type 0 where
  pub components : ℕ
  pub gates : ℕ
  pub loads : ℕ
  pub component : List Component
  pub gate : List Rattle.study.specs.declared.Gate.Gate
  pub load : List Load

abbrev pub others_of : Study → Others
others_of t =
    record {
      components = t.components;
      gates = t.gates;
      loads = t.loads;
      component = map (with_probabilities 0 0 0) t.component;
      gate = t.gate;
      load = map (λ (l : Load). with_customers 0 (with_minutes 0 l)) t.load;
    }
