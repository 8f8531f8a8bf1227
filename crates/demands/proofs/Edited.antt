-- The answer of an edit: it is done and leaves what it changes, or is refused and leaves the study; and one that is done leaves a sound study.
use Prim.Native.Nat.{ℕ, ◌<◌}
use mathlib.Core.Path.{◌≡◌, refl, sym, ap, subst, ◌∙◌}
use mathlib.Core.Bool.{Bool, true, false}
use mathlib.Core.List.{List, [], ◌∷◌}
use native.Mathlib.Omega.{arith}
use lib.Dec.{eqb}
use lib.ListN.{take}
use lib.Seq.{get_or-set_other, map-set_same}
use borrow.Author.Tests.{eqb-true, eqb-false}
use Rattle.lists.proofs.Sets.{set_keeps}
use Rattle.rules.specs.Breach.{first_breach}
use Rattle.rules.specs.Limits.{most_customers, most_minutes}
use Rattle.rules.specs.Table.{unsound_fault, item_fault, size_fault}
use Rattle.rules.proofs.Kept.{list-kept, both-kept}
use Rattle.rules.proofs.Rows.{item-kept}
use Rattle.study.specs.declared.Component.{Component}
use Rattle.study.specs.declared.Load.{Load}
use Rattle.study.specs.declared.Study.{Study}
use Rattle.study.specs.Edits.{with_probabilities, with_customers, with_minutes, with_component, with_load}
use Rattle.study.specs.Joint.{state_counts}
use Rattle.study.specs.Places.{component_at, gate_at, load_at}
use Rattle.study.specs.Zero.{zero_component, zero_load}
use Rattle.answers.specs.Told.{result, outcome_told, tells}
use Rattle.answers.proofs.Answered.{answered-tells, no-breach}
use Rattle.soundness.specs.Check.{sound, probabilities_fault}
use Rattle.soundness.specs.Sound.{SoundComponent, SoundGate, SoundLoad, Sound}
use Rattle.soundness.proofs.Checked.{probabilities-sound, no-unsound}
use Rattle.editing.specs.Edits.{refused_edit, edited, component_edit_breaches, component_edit_fault, probabilities_set}
use Rattle.editing.specs.Edits.{load_edit_breaches, load_edit_fault, customers_set, minutes_set}
use Rattle.editing.proofs.Edited.{edited-done, edited-refused}
use Rattle.demands.specs.Demand1.{EditedSound}
use Rattle.demands.specs.Edits.{Edit, probabilities, customers, minutes, edit, edit_breaches, changed}
use Rattle.answers.specs.Answers.{StudyAnswer, finished}

-- ---- the answer of an edit

-- the first breach of its list
abbrev pub breach : Edit → Study → ℕ
breach e t = first_breach (edit_breaches e t)

edit-is : (e : Edit) (t : Study) → edit e t ≡ edited (breach e t) t (changed e t)
unfolding probabilities_set customers_set minutes_set component_edit_fault load_edit_fault
edit-is (probabilities i p1 p2 p3) t = refl
edit-is (customers j n) t = refl
edit-is (minutes j n) t = refl

-- what holds of the answer that is done and of the one that is refused holds of the answer
pub either : (e : Edit) (t : Study) (P : StudyAnswer → Bool → Type 0)
    → (breach e t ≡ 0 → P (record { outcome = finished; study = changed e t }) true)
    → ((breach e t ≡ 0 → ⊥) → P (refused_edit t (breach e t)) false)
    → P (edit e t) (eqb (breach e t) 0)
either e t P done refused = go (eqb (breach e t) 0) refl
  where
    go : (b : Bool) → eqb (breach e t) 0 ≡ b → P (edit e t) b
    go true is =
        let none = eqb-true (breach e t) 0 is in
        subst (λ (a : StudyAnswer). P a true) (sym (edit-is e t ∙ edited-done (breach e t) t (changed e t) none)) (done none)
    go false is =
        let some = eqb-false (breach e t) 0 is in
        subst (λ (a : StudyAnswer). P a false) (sym (edit-is e t ∙ edited-refused (breach e t) t (changed e t) some)) (refused some)

-- it tells the first breach of its list
pub edit-tells : (e : Edit) (t : Study) → outcome_told (edit e t).outcome ≡ tells (breach e t) []
unfolding edited
edit-tells e t =
    ap (λ (a : StudyAnswer). outcome_told a.outcome) (edit-is e t)
    ∙ answered-tells (refused_edit t) (breach e t) _ (λ (a : StudyAnswer). outcome_told a.outcome) [] (λ n. refl) refl

-- refused, it hands the study back
pub edit-kept : (e : Edit) (t : Study) → (breach e t ≡ 0 → ⊥) → (edit e t).study ≡ t
edit-kept e t some = either e t (λ a b. a.study ≡ t) (λ none. absurd (some none)) (λ some. refl)

-- done, it had no breach
pub done-kept : (e : Edit) (t : Study) → outcome_told (edit e t).outcome ≡ result [] → breach e t ≡ 0
done-kept e t told = no-breach (breach e t) [] [] (edit-tells e t) told

-- ---- an edit that is done leaves a sound study

-- what no breach tells of an edit: the study is sound, it has the item, and the new numbers break no rule
pub record Kept (t : Study) (count item fault : ℕ) : Type 0 where
  pub is_sound : Sound t
  pub below : item < count
  pub rule : fault ≡ 0

rules-kept : (t : Study) (count item fault : ℕ) → first_breach (unsound_fault (sound t) ∷ item_fault count item ∷ fault ∷ []) ≡ 0 → Kept t count item fault
rules-kept t count item fault none =
    let front = list-kept _ _ none in
    let rest = both-kept (item_fault count item) fault front.right in
    record { is_sound = no-unsound t front.left; below = item-kept count item rest.left; rule = rest.right }

pub component-kept : (t : Study) (i p1 p2 p3 : ℕ) → first_breach (component_edit_breaches t i p1 p2 p3) ≡ 0
    → Kept t t.components i (probabilities_fault (component_at t i).states p1 p2 p3)
component-kept t i p1 p2 p3 = rules-kept t t.components i (probabilities_fault (component_at t i).states p1 p2 p3)

pub load_kept : (t : Study) (j most n : ℕ) → first_breach (load_edit_breaches t j most n) ≡ 0 → Kept t t.loads j (size_fault most n)
load_kept t j most n = rules-kept t t.loads j (size_fault most n)

component-edited : (t : Study) (i : ℕ) (c : Component) → Sound t → i < t.components → c.states ≡ (component_at t i).states → SoundComponent c
    → Sound (with_component i c t)
component-edited t i c s below same new =
    record {
      components = s.components;
      gates = s.gates;
      loads = s.loads;
      component = λ k less. set_keeps t.component i c zero_component SoundComponent k (s.component k less) (λ here. new);
      no_component = λ k from less. get_or-set_other t.component i k c zero_component (λ here. omega arith) ∙ s.no_component k from less;
      width = rw counts s.width;
      gate = λ k less. subst (λ (l : List ℕ). SoundGate l k (gate_at t k)) (sym counts) (s.gate k less);
      order = s.order;
      no_gate_behind = s.no_gate_behind;
      load = s.load;
      no_load = s.no_load;
    }
  where
    counts : state_counts (with_component i c t) ≡ state_counts t
    counts = ap (take t.components) (map-set_same (λ (x : Component). x.states) t.component i c zero_component same)

load-edited : (t : Study) (j : ℕ) (l : Load) → Sound t → j < t.loads → SoundLoad t.gates l → Sound (with_load j l t)
load-edited t j l s below new =
    record {
      components = s.components;
      gates = s.gates;
      loads = s.loads;
      component = s.component;
      no_component = s.no_component;
      width = s.width;
      gate = s.gate;
      order = s.order;
      no_gate_behind = s.no_gate_behind;
      load = λ k less. set_keeps t.load j l zero_load (SoundLoad t.gates) k (s.load k less) (λ here. new);
      no_load = λ k from less. get_or-set_other t.load j k l zero_load (λ here. omega arith) ∙ s.no_load k from less;
    }

pub changed-sound : (e : Edit) (t : Study) → breach e t ≡ 0 → Sound (changed e t)
changed-sound (probabilities i p1 p2 p3) t none =
    let kept = component-kept t i p1 p2 p3 none in
    let was = kept.is_sound.component i kept.below in
    component-edited t i (with_probabilities p1 p2 p3 (component_at t i)) kept.is_sound kept.below refl
    (probabilities-sound (component_at t i) p1 p2 p3 was.states kept.rule)
changed-sound (customers j n) t none =
    let kept = load_kept t j most_customers n none in
    let was = kept.is_sound.load j kept.below in
    load-edited t j (with_customers n (load_at t j)) kept.is_sound kept.below (record { gate = was.gate; customers = kept.rule; minutes = was.minutes })
changed-sound (minutes j n) t none =
    let kept = load_kept t j most_minutes n none in
    let was = kept.is_sound.load j kept.below in
    load-edited t j (with_minutes n (load_at t j)) kept.is_sound kept.below (record { gate = was.gate; customers = was.customers; minutes = kept.rule })

pub edited-sound : EditedSound
edited-sound e t told = either e t (λ a b. Sound a.study) (changed-sound e t) (λ some. absurd (some (done-kept e t told)))
