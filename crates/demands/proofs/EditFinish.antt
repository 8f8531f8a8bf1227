-- An edit whose item is there and whose result would be sound is done, so that one refused by 5, 6 or 14 would break a rule. What carries it: the
-- rules of the edited field are rules of the edited study, read at the place that is anew.
use Prim.Native.Nat.{ℕ, ◌<◌}
use mathlib.Core.Path.{◌≡◌, sym, subst, ◌∙◌}
use mathlib.Core.Bool.{false≢true}
use mathlib.Core.List.{[], ◌∷◌}
use native.Mathlib.Decide.{dec_lt}
use native.Mathlib.Omega.{arith}
use lib.ListN.{get_or, set}
use lib.Seq.{get_or-set_same}
use Rattle.lists.specs.OneOf.{OneOf}
use Rattle.rules.specs.Breach.{first_breach}
use Rattle.rules.specs.Table.{unsound_fault, item_fault}
use Rattle.rules.proofs.Kept.{list-none, none-none, front_kept, front-broken}
use Rattle.rules.proofs.Rows.{item-none, item-missing}
use Rattle.study.specs.declared.Load.{Load}
use Rattle.study.specs.declared.Study.{Study}
use Rattle.study.specs.Edits.{with_probabilities, with_customers, with_minutes}
use Rattle.study.specs.Places.{component_at, load_at}
use Rattle.study.specs.Zero.{zero_component, zero_load}
use Rattle.answers.specs.Told.{refusal}
use Rattle.answers.proofs.Answered.{breach-told, some-breach, tells-result}
use Rattle.demands.specs.Calls.{an_edit, call_told}
use Rattle.soundness.specs.Check.{sound}
use Rattle.soundness.specs.Sound.{SoundComponent, SoundLoad, Sound}
use Rattle.soundness.proofs.Checked.{probabilities-none, none-unsound}
use Rattle.demands.specs.Demand1.{EditsFinish}
use Rattle.demands.specs.Edits.{Edit, probabilities, customers, minutes, changed, HasItem, Reached}
use Rattle.demands.proofs.Edited.{breach, edit-tells}
use Rattle.demands.proofs.OneOf.{one-among}
use Rattle.demands.proofs.Reached.{reached-sound, component-inside, load_inside}

-- ---- the rules of the new field

-- a sound study has no breach of its own, and with the item there and its new numbers within the rules there is none
no-breach : (t : Study) → Sound t → (count item fault : ℕ) → item < count → fault ≡ 0
    → first_breach (unsound_fault (sound t) ∷ item_fault count item ∷ fault ∷ []) ≡ 0
no-breach t s count item fault below none =
    list-none _ _ (none-unsound t s) (list-none _ _ (item-none count item below) (list-none _ _ none none-none))

module _ (t : Study) (r : Reached t) where
  new-load : (j : ℕ) (l : Load) → j < t.loads → SoundLoad t.gates (get_or (set t.load j l) j zero_load) → SoundLoad t.gates l
  new-load j l below = subst (SoundLoad t.gates) (get_or-set_same t.load j l zero_load (load_inside t r j below))

  finishes : (e : Edit) → HasItem e t → Sound (changed e t) → breach e t ≡ 0
  finishes (probabilities i p1 p2 p3) below new =
      let c = with_probabilities p1 p2 p3 (component_at t i) in
      let here = get_or-set_same t.component i c zero_component (component-inside t r i below) in
      no-breach t (reached-sound t r) _ i _ below (probabilities-none c (subst SoundComponent here (new.component i below)))
  finishes (customers j n) below new =
      no-breach t (reached-sound t r) _ j _ below (new-load j (with_customers n (load_at t j)) below (new.load j below)).customers
  finishes (minutes j n) below new =
      no-breach t (reached-sound t r) _ j _ below (new-load j (with_minutes n (load_at t j)) below (new.load j below)).minutes

-- ---- without the item it is refused by 17

no_item : (t : Study) → Sound t → (count item fault : ℕ) → (item < count → ⊥) → first_breach (unsound_fault (sound t) ∷ item_fault count item ∷ fault ∷ []) ≡ 17
no_item t s count item fault lacks =
    let missing = item-missing count item (omega arith) in
    front_kept _ _ (none-unsound t s) ∙ sym (front-broken (fault ∷ []) (sym missing) (λ none. omega arith))

lacks-item : (t : Study) → Sound t → (e : Edit) → (HasItem e t → ⊥) → breach e t ≡ 17
lacks-item t s (probabilities i p1 p2 p3) lacks = no_item t s t.components i _ lacks
lacks-item t s (customers j n) lacks = no_item t s t.loads j _ lacks
lacks-item t s (minutes j n) lacks = no_item t s t.loads j _ lacks

has-item : (e : Edit) (t : Study) → Dec (HasItem e t)
has-item (probabilities i p1 p2 p3) t = dec_lt i t.components
has-item (customers j n) t = dec_lt j t.loads
has-item (minutes j n) t = dec_lt j t.loads

-- ---- the two directions

would_break : (t : Study) → Reached t → (e : Edit) (n : ℕ) → call_told (an_edit e) t ≡ refusal n → OneOf (5 ∷ 6 ∷ 14 ∷ []) n → Sound (changed e t) → ⊥
would_break t r e n told rule new = go (has-item e t)
  where
    go : Dec (HasItem e t) → ⊥
    go (yes has) = some-breach _ [] n (edit-tells e t) told (finishes t r e has new)
    go (no lacks) =
        let number = sym (lacks-item t (reached-sound t r) e lacks) ∙ breach-told _ [] n (edit-tells e t) told in
        false≢true (one-among (5 ∷ 6 ∷ 14 ∷ []) 17 (subst (OneOf (5 ∷ 6 ∷ 14 ∷ [])) (sym number) rule))

pub edits-finish : EditsFinish
edits-finish =
    record { would_break = would_break; done = λ t r e has new. edit-tells e t ∙ tells-result _ [] (finishes t r e has new) }
