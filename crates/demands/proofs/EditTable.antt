-- Edits come to what the same edits do to a plain table of fields, and change nothing else. What carries it: once a study is sound, an edit's breach is
-- that of the table; and a list with one element anew differs at that place alone.
use Prim.Native.Nat.{ℕ}
use mathlib.Core.Path.{◌≡◌, refl, ap, fun_ext, ◌∙◌}
use mathlib.Core.Bool.{cond}
use mathlib.Core.List.{List, [], ◌∷◌}
use lib.Dec.{eqb}
use lib.Seq.{map-set_same}
use Rattle.lists.proofs.Sets.{set-column, set-column-kept}
use Rattle.rules.specs.Limits.{most_customers, most_minutes}
use Rattle.rules.proofs.Kept.{front_kept}
use Rattle.study.specs.declared.Component.{Component}
use Rattle.study.specs.declared.Load.{Load}
use Rattle.study.specs.declared.Study.{Study}
use Rattle.study.specs.Edits.{with_probabilities, with_customers, with_minutes, with_load}
use Rattle.study.specs.Places.{component_at, load_at}
use Rattle.study.specs.Zero.{zero_component, zero_load}
use Rattle.soundness.specs.Sound.{Sound}
use Rattle.soundness.proofs.Checked.{none-unsound}
use Rattle.demands.specs.Demand1.{EditFields}
use Rattle.demands.specs.Edits.{Edit, probabilities, customers, minutes, edit, changed, Reached, edited, after}
use Rattle.demands.specs.Edits.{Table, items_of, table_of, table_breach, write, table_after, others_of}
use Rattle.demands.proofs.Edited.{breach, either, component-kept, load_kept}
use Rattle.demands.proofs.Reached.{reached-sound, component-inside, load_inside}

-- ---- the table

-- of a sound study an edit is refused as the table says
table-breach : (e : Edit) (t : Study) → Sound t → breach e t ≡ table_breach e (table_of t)
table-breach (probabilities i p1 p2 p3) t s = front_kept _ _ (none-unsound t s)
table-breach (customers j n) t s = front_kept _ _ (none-unsound t s)
table-breach (minutes j n) t s = front_kept _ _ (none-unsound t s)

-- two tables of the same items whose columns agree
same-table : (f g : Table) → f.items ≡ g.items → ((i : ℕ) → f.p1 i ≡ g.p1 i) → ((i : ℕ) → f.p2 i ≡ g.p2 i) → ((i : ℕ) → f.p3 i ≡ g.p3 i)
    → ((j : ℕ) → f.customers j ≡ g.customers j) → ((j : ℕ) → f.minutes j ≡ g.minutes j) → f ≡ g
same-table f g items p1 p2 p3 c m =
    λ x.
    record { items = items x; p1 = fun_ext p1 x; p2 = fun_ext p2 x; p3 = fun_ext p3 x; customers = fun_ext c x; minutes = fun_ext m x }

-- no edit of probabilities changes a state count
states-kept : (t : Study) (i p1 p2 p3 : ℕ) → items_of (changed (probabilities i p1 p2 p3) t) ≡ items_of t
states-kept t i p1 p2 p3 =
    let new = with_probabilities p1 p2 p3 (component_at t i) in
    let states = set-column-kept t.component i new zero_component (λ (c : Component). c.states) refl in
    λ x. record { components = t.components; loads = t.loads; states = fun_ext states x }

-- an edit without a breach writes its columns
changed-table : (e : Edit) (t : Study) → Reached t → breach e t ≡ 0 → table_of (changed e t) ≡ write e (table_of t)
changed-table (probabilities i p1 p2 p3) t r none =
    let room = component-inside t r i (component-kept t i p1 p2 p3 none).below in
    let column = set-column t.component i (with_probabilities p1 p2 p3 (component_at t i)) zero_component in
    same-table _ _ (states-kept t i p1 p2 p3) (column (λ (c : Component). c.p1) p1 room refl) (column (λ (c : Component). c.p2) p2 room refl)
    (column (λ (c : Component). c.p3) p3 room refl) (λ j. refl) (λ j. refl)
changed-table (customers j n) t r none =
    let new = with_customers n (load_at t j) in
    let room = load_inside t r j (load_kept t j most_customers n none).below in
    same-table _ _ refl (λ i. refl) (λ i. refl) (λ i. refl)
    (set-column t.load j new zero_load (λ (l : Load). l.customers) n room refl)
    (set-column-kept t.load j new zero_load (λ (l : Load). l.minutes) refl)
changed-table (minutes j n) t r none =
    let new = with_minutes n (load_at t j) in
    let room = load_inside t r j (load_kept t j most_minutes n none).below in
    same-table _ _ refl (λ i. refl) (λ i. refl) (λ i. refl)
    (set-column-kept t.load j new zero_load (λ (l : Load). l.customers) refl)
    (set-column t.load j new zero_load (λ (l : Load). l.minutes) n room refl)

edit-table : (e : Edit) (t : Study) → Reached t
    → table_of (edit e t).study ≡ cond (eqb (table_breach e (table_of t)) 0) (write e (table_of t)) (table_of t)
edit-table e t r =
    either e t (λ a b. table_of a.study ≡ cond b (write e (table_of t)) (table_of t)) (changed-table e t r) (λ some. refl)
    ∙ ap (λ (breach : ℕ). cond (eqb breach 0) (write e (table_of t)) (table_of t)) (table-breach e t (reached-sound t r))

row-fields : (t : Study) → Reached t → (es : List Edit) → table_of (after es t) ≡ table_after es (table_of t)
row-fields t r [] = refl
row-fields t r (e ∷ es) = row-fields (edit e t).study (edited e t r) es ∙ ap (table_after es) (edit-table e t r)

-- ---- everything else

load-others : (t : Study) (j : ℕ) (l : Load) → with_customers 0 (with_minutes 0 l) ≡ with_customers 0 (with_minutes 0 (load_at t j))
    → others_of (with_load j l t) ≡ others_of t
load-others t j l same = cc (map-set_same (λ (l : Load). with_customers 0 (with_minutes 0 l)) t.load j l zero_load same)

changed-others : (e : Edit) (t : Study) → others_of (changed e t) ≡ others_of t
changed-others (probabilities i p1 p2 p3) t =
    cc (map-set_same (with_probabilities 0 0 0) t.component i (with_probabilities p1 p2 p3 (component_at t i)) zero_component refl)
changed-others (customers j n) t = load-others t j (with_customers n (load_at t j)) refl
changed-others (minutes j n) t = load-others t j (with_minutes n (load_at t j)) refl

row-others : (t : Study) (es : List Edit) → others_of (after es t) ≡ others_of t
row-others t [] = refl
row-others t (e ∷ es) =
    row-others (edit e t).study es ∙ either e t (λ a b. others_of a.study ≡ others_of t) (λ none. changed-others e t) (λ some. refl)

pub edit-fields : EditFields
edit-fields = record { fields = row-fields; others = row-others }
