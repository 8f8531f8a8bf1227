-- What carries the loops over the records of one kind: each record that is read goes to its own place, up to the first that is refused.
use Rattle.std.proofs.Common.{ℕ, suc, ◌+◌, ◌*◌, ◌<◌, ◌≡◌, refl, ap, List, [], ◌∷◌, ◌++◌, add-one, length, take}
use native.Mathlib.Nat.{not-suc-le-zero, le_of_suc-le-suc}
use lib.ListN.{set}
use Rattle.lists.specs.Product.{product}
use Rattle.lists.proofs.Products.{product-snoc}
use Rattle.reading.specs.Reader.{Read, Reader, refused, got, and_then, return, repeat}
use Rattle.reading.proofs.Repeats.{RepeatLeft, repeat-more, repeat-stopped}
use Rattle.study.specs.declared.Component.{Component}
use Rattle.study.specs.Joint.{states}
use Rattle.opening.specs.Opening.{placing}

-- i of n records stand in their places, and record i is read
module _ {A : Type 0} (reader : ℕ → List A → Reader A) {n : ℕ} {none : List A} {bytes now : List ℕ} {places : List A} {i : ℕ}
    (left : RepeatLeft (placing reader) n none bytes (got places now) i) (more : i < n) where
  -- it goes to place i
  pub placed : {a : A} {rest : List ℕ} → got a rest ≡ reader i places now → RepeatLeft (placing reader) n none bytes (got (set places i a) rest) (i + 1)
  placed read = repeat-more left more (ap (λ (r : Read A). and_then r (λ a. return (set places i a))) read)

  -- where it is refused, it ends the run
  pub place-refused : {q : ℕ} → refused q ≡ reader i places now → refused q ≡ repeat (placing reader) n none bytes
  place-refused read = repeat-stopped (repeat-more left more (ap (λ (r : Read A). and_then r (λ a. return (set places i a))) read))

-- the state counts of the first i + 1 components, once component i is placed
pub states-placed : (cs : List Component) (i : ℕ) (c : Component) → i < length cs → take (suc i) (states (set cs i c)) ≡ take i (states cs) ++ (c.states ∷ [])
states-placed [] i c h = absurd (not-suc-le-zero h)
states-placed (d ∷ cs) ℕ.zero c h = refl
states-placed (d ∷ cs) (suc i) c h = ap (λ (l : List ℕ). d.states ∷ l) (states-placed cs i c (le_of_suc-le-suc h))

-- and their joint states
pub joint-placed : (cs : List Component) (i : ℕ) (c : Component) → i < length cs
    → product (take (i + 1) (states (set cs i c))) ≡ product (take i (states cs)) * c.states
joint-placed cs i c h = rw (add-one, states-placed cs i c h) (product-snoc (take i (states cs)) c.states)
