-- What a breach of 0 tells: the rule behind it is kept. These carry a rule from the refusal table to the facts that a proof needs.
use Prim.Native.Nat.{ℕ, suc, ◌<◌, ◌≤◌}
use mathlib.Core.Path.{◌≡◌, refl, sym, ap, ◌∙◌}
use mathlib.Core.Bool.{Bool, true, false, cond, true≢false}
use mathlib.Core.List.{List, [], ◌∷◌, ◌++◌}
use mathlib.Core.Logic.{◌⊎◌, inl, inr}
use native.Mathlib.Omega.{arith}
use lib.Dec.{eqb, ltb}
use borrow.Author.Tests.{eq-eqb, ne_eqb, lt-ltb, le-ltb, ltb-true, ltb-false, eqb-true, eqb-false}
use Rattle.rules.specs.Breach.{refuse, first, first_breach, outside, unless_absent, in_use}

-- neither of two is a breach
pub record Neither (a b : ℕ) : Type 0 where
  pub left : a ≡ 0
  pub right : b ≡ 0

pub first-kept : (a b : ℕ) → first a b ≡ 0 → Neither a b
unfolding first
first-kept a b e = go (eqb a 0) refl
  where
    go : (t : Bool) → eqb a 0 ≡ t → Neither a b
    go true t = record { left = eqb-true a 0 t; right = rw t at e }
    go false t = absurd (eqb-false a 0 t (rw t at e))

pub first-none : (a b : ℕ) → a ≡ 0 → b ≡ 0 → first a b ≡ 0
unfolding first
first-none a b p q = rw p q

-- a breach is the first, whatever follows
pub first_some : (a b : ℕ) → (a ≡ 0 → ⊥) → first a b ≡ a
unfolding first
first_some a b some = rw (ne_eqb a 0 some)

-- where the first is none, the next decides
pub first_next : (a b : ℕ) → a ≡ 0 → first a b ≡ b
unfolding first
first_next a b none = rw none

-- what comes second matters only where the first is kept
pub first-behind : (a b c : ℕ) → (a ≡ 0 → b ≡ c) → first a b ≡ first a c
unfolding first
first-behind a b c same = go (eqb a 0) refl
  where
    go : (t : Bool) → eqb a 0 ≡ t → cond (eqb a 0) b a ≡ cond (eqb a 0) c a
    go true kept = rw kept (same (eqb-true a 0 kept))
    go false broken = rw broken refl

-- nothing is judged after the last
pub first-last : (a : ℕ) → first a 0 ≡ a
unfolding first
first-last a = go (eqb a 0) refl
  where
    go : (t : Bool) → eqb a 0 ≡ t → first a 0 ≡ a
    go true t = rw t (sym (eqb-true a 0 t))
    go false t = rw t

-- ---- lists of breaches

-- no breach in a list: none at its front, and none behind it
pub list-kept : (b : ℕ) (bs : List ℕ) → first_breach (b ∷ bs) ≡ 0 → Neither b (first_breach bs)
unfolding first_breach
list-kept b bs e = first-kept b (first_breach bs) e

pub list-none : (b : ℕ) (bs : List ℕ) → b ≡ 0 → first_breach bs ≡ 0 → first_breach (b ∷ bs) ≡ 0
unfolding first_breach
list-none b bs p q = first-none b (first_breach bs) p q

pub none-none : first_breach [] ≡ 0
unfolding first_breach
none-none = refl

-- a list as code judges it: each breach before those behind it, up to the last; `simp (list-more, list-last)` writes any list so
pub list-more : (a b : ℕ) (bs : List ℕ) → first_breach (a ∷ b ∷ bs) ≡ first a (first_breach (b ∷ bs))
unfolding first_breach
list-more a b bs = refl

pub list-last : (a : ℕ) → first_breach (a ∷ []) ≡ a
unfolding first_breach
list-last a = first-last a

-- a breach found at the front is the first of the list, whatever follows
pub front-broken : {fault b : ℕ} (bs : List ℕ) → fault ≡ b → (fault ≡ 0 → ⊥) → fault ≡ first_breach (b ∷ bs)
unfolding first_breach
front-broken {fault} {b} bs e some = e ∙ sym (first_some b (first_breach bs) (λ none. some (e ∙ none)))

-- with none at the front, the rest decides
pub front_kept : (b : ℕ) (bs : List ℕ) → b ≡ 0 → first_breach (b ∷ bs) ≡ first_breach bs
unfolding first_breach
front_kept b bs none = first_next b (first_breach bs) none

-- two breaches: the first of both as code finds them, the second where the first is none, and none at all
pub two-judged : {fault front back a b : ℕ} → fault ≡ first front back → front ≡ a → back ≡ b → fault ≡ first_breach (a ∷ b ∷ [])
two-judged {fault} {front} {back} {a} {b} e is_front is-back = rw (list-more, list-last, ← is_front, ← is-back) e

pub second-decides : (a b : ℕ) → a ≡ 0 → first_breach (a ∷ b ∷ []) ≡ b
second-decides a b none = front_kept a (b ∷ []) none ∙ list-last b

pub both-kept : (a b : ℕ) → first_breach (a ∷ b ∷ []) ≡ 0 → Neither a b
both-kept a b none =
    let front = list-kept a (b ∷ []) none in
    record { left = front.left; right = sym (list-last b) ∙ front.right }

-- ---- rules

-- the rule of a row is kept
pub refuse-kept : (n : ℕ) (broken : Bool) → refuse (suc n) broken ≡ 0 → broken ≡ false
unfolding refuse
refuse-kept n true e = absurd (omega arith)
refuse-kept n false e = refl

-- n is one of lowest to highest
pub record Within (lowest highest n : ℕ) : Type 0 where
  pub least : lowest ≤ n
  pub most : n ≤ highest

pub outside_kept : (lowest highest n : ℕ) → outside lowest highest n ≡ false → Within lowest highest n
unfolding outside
outside_kept lowest highest n e = go (ltb n lowest) refl
  where
    go : (t : Bool) → ltb n lowest ≡ t → Within lowest highest n
    go true t = absurd (true≢false (rw t at e))
    go false t = record { least = ltb-false n lowest t; most = ltb-false highest n (rw t at e) }

-- a row over a range is kept
pub range-kept : (row lowest highest n : ℕ) → refuse (suc row) (outside lowest highest n) ≡ 0 → Within lowest highest n
range-kept row lowest highest n e = outside_kept lowest highest n (refuse-kept row (outside lowest highest n) e)

-- a field that holds its absent value breaks no rule, and neither does one that keeps the rule
pub absent_none : (absent breach : ℕ) → unless_absent absent absent breach ≡ 0
unfolding unless_absent
absent_none absent breach = rw (eq-eqb absent absent refl)

pub unless-none : (absent value breach : ℕ) → breach ≡ 0 → unless_absent absent value breach ≡ 0
unfolding unless_absent
unless-none absent value breach e = rw e (both (eqb value absent))
  where
    both : (b : Bool) → ◌≡◌ {A = ℕ} (cond b 0 0) 0
    both true = refl
    both false = refl

-- without a breach it is the one or the other
pub unless-kept : (absent value breach : ℕ) → unless_absent absent value breach ≡ 0 → (value ≡ absent) ⊎ (breach ≡ 0)
unfolding unless_absent
unless-kept absent value breach e = go (eqb value absent) refl
  where
    go : (b : Bool) → eqb value absent ≡ b → (value ≡ absent) ⊎ (breach ≡ 0)
    go true same = inl (eqb-true value absent same)
    go false other = inr (rw other at e)

-- a place in use, and one that is not
pub used-kept : (count place used unused : ℕ) → place < count → in_use count place used unused ≡ 0 → used ≡ 0
used-kept count place used unused h e = rw (lt-ltb place count h) at e

pub unused-kept : (count place used unused : ℕ) → count ≤ place → in_use count place used unused ≡ 0 → unused ≡ 0
unused-kept count place used unused h e = rw (le-ltb place count h) at e

pub in-use-none : (count place used unused : ℕ) → (place < count → used ≡ 0) → (count ≤ place → unused ≡ 0) → in_use count place used unused ≡ 0
in-use-none count place used unused below behind = go (ltb place count) refl
  where
    go : (b : Bool) → ltb place count ≡ b → cond b used unused ≡ 0
    go true e = below (ltb-true place count e)
    go false e = behind (ltb-false place count e)

-- ---- a list that is judged in two parts

first-assoc : (a b c : ℕ) → first a (first b c) ≡ first (first a b) c
first-assoc a b c = go (eqb a 0) refl
  where
    go : (t : Bool) → eqb a 0 ≡ t → first a (first b c) ≡ first (first a b) c
    go true e = let none = eqb-true a 0 e in rw (first_next a (first b c) none, first_next a b none)
    go false e = let some = eqb-false a 0 e in rw (first_some a (first b c) some, first_some a b some, first_some a c some)

pub in_parts : (front behind : List ℕ) → first_breach (front ++ behind) ≡ first (first_breach front) (first_breach behind)
unfolding first_breach first
in_parts [] behind = refl
in_parts (a ∷ front) behind = ap (first a) (in_parts front behind) ∙ first-assoc a (first_breach front) (first_breach behind)

-- a breach of the front part is the first of the whole
pub part-broken : {fault : ℕ} (front behind : List ℕ) → fault ≡ first_breach front → (fault ≡ 0 → ⊥) → fault ≡ first_breach (front ++ behind)
part-broken front behind e some = e ∙ sym (in_parts front behind ∙ first_some (first_breach front) (first_breach behind) (λ none. some (e ∙ none)))

-- and where it has none, what is behind it decides
pub part-kept : (front behind : List ℕ) → first_breach front ≡ 0 → first_breach (front ++ behind) ≡ first_breach behind
part-kept front behind none = in_parts front behind ∙ first_next (first_breach front) (first_breach behind) none
