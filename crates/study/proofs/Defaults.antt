-- The default of a row is the default of an element at each place, so that of a record is the one of zeros.
use Rattle.std.proofs.Common.{◌≡◌, ℕ, ◌<◌, List, length, get_or, replicate, sym, ◌∙◌, arith}
use Rattle.std.specs.Array.{AllOfLen}
use Rattle.std.proofs.lemmas.List.{length-replicate, get_or-replicate, ext_get_or}
use Rattle.study.specs.declared.Component.{Component}
use Rattle.study.specs.declared.Gate.{Gate}
use Rattle.study.specs.declared.Load.{Load}
use Rattle.study.specs.contracts.ComponentDefault.TheImpl as component
use Rattle.study.specs.contracts.GateDefault.TheImpl as gate
use Rattle.study.specs.contracts.LoadDefault.TheImpl as load
use Rattle.study.specs.Zero.{zero_component, zero_gate, zero_load}

-- where only d is a default
pub all-same : {A : Type 0} (P : A → Type 0) (d : A) → ((x : A) → P x → x ≡ d) → (xs : List A) (n : ℕ) → AllOfLen P xs n
    → xs ≡ replicate n d
all-same P d one xs n all =
    ext_get_or d xs (replicate n d) (all.long ∙ sym (length-replicate n d)) each
  where
    each : (i : ℕ) → i < length xs → get_or xs i d ≡ get_or (replicate n d) i d
    each i h =
        let inside : i < n = omega (arith, all.long) in
        one _ (all.at i d inside) ∙ sym (get_or-replicate n i d d inside)

pub component_default : (c : Component) → component.is_default-value.it c → c ≡ zero_component
component_default c h = rw (h.0, h.1.0, h.1.1.0, h.1.1.1)

pub load_default : (l : Load) → load.is_default-value.it l → l ≡ zero_load
load_default l h = rw (h.0, h.1.0, h.1.1)

pub gate_default : (g : Gate) → gate.is_default-value.it g → g ≡ zero_gate
unfolding zero_gate
gate_default g h =
    let component = all-same _ 0 (λ x e. e) _ _ h.1.1.0 in
    let mask = all-same _ 0 (λ x e. e) _ _ h.1.1.1.0 in
    let input = all-same _ 0 (λ x e. e) _ _ h.1.1.1.1.1 in
    rw (h.0, h.1.0, component, mask, h.1.1.1.1.0, input)
