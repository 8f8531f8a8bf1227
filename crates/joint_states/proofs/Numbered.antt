-- Joint states and their numbers: the list of all joint states has the one numbered k at its place k.
use Prim.Native.Nat.{ℕ, zero, suc, ◌+◌, ◌*◌, ◌/◌, ◌%◌, ◌<◌, ◌≤◌}
use mathlib.Core.Path.{◌≡◌, refl, sym, ap, subst, ◌∙◌}
use mathlib.Core.List.{List, [], ◌∷◌, ◌++◌, map}
use native.Mathlib.Nat.{mul-le-mul_right, mod-lt, div-lt_iff_lt-mul, div-add-mod', not-suc-le-zero, zero-mul, zero-add, add-zero}
use native.Mathlib.Omega.{arith}
use lib.ListN.{length, get_or, length-append, length-map, get_or-append}
use lib.Seq.{get_or-append-add}
use Rattle.lists.specs.Product.{product}
use Rattle.lists.proofs.Elements.{Every}
use Rattle.lists.proofs.Maps.{get_or-map-inside}
use Rattle.joint_states.specs.JointStates.{JointState, divided, joint_states, number_of}
use Rattle.joint_states.specs.Laws.{JointStatesListed}

-- ---- a joint state, component by component

module _ {c : ℕ} {cs : List ℕ} where
  pub joint-cons : {s : ℕ} {x : List ℕ} → s < c → JointState cs x → JointState (c ∷ cs) (s ∷ x)
  joint-cons {s} {x} h j = record { long = ap suc j.long; below = below }
    where
      below : (k : ℕ) → k < length (c ∷ cs) → get_or (s ∷ x) k 0 < get_or (c ∷ cs) k 0
      below zero less = h
      below (suc k) less = j.below k (omega arith)

  pub joint-head : {s : ℕ} {x : List ℕ} → JointState (c ∷ cs) (s ∷ x) → s < c
  joint-head j = j.below 0 (omega arith)

  pub joint-tail : {s : ℕ} {x : List ℕ} → JointState (c ∷ cs) (s ∷ x) → JointState cs x
  joint-tail {s} {x} j = record { long = long; below = λ k h. j.below (suc k) (omega arith) }
    where
      long : length x ≡ length cs
      long = omega (arith, j.long)

  pub joint-none : JointState (c ∷ cs) [] → ⊥
  joint-none j = omega (arith, j.long)

-- ---- numbers

pub number-below : (counts x : List ℕ) → JointState counts x → number_of counts x < product counts
unfolding number_of product
number-below [] x j = omega arith
number-below (c ∷ cs) [] j = absurd (joint-none j)
number-below (c ∷ cs) (s ∷ x) j =
    let rest = number-below cs x (joint-tail j) in
    let room : suc s * product cs ≤ c * product cs = mul-le-mul_right (product cs) (joint-head j) in
    omega (arith, rest, room)

factor-some : (k c m : ℕ) → k < c * m → 0 < m
factor-some k c zero h = absurd (omega arith)
factor-some k c (suc m) h = omega arith

-- a joint state with number k
pub record WithNumber (counts : List ℕ) (k : ℕ) : Type 0 where
  pub joint : List ℕ
  pub is_joint : JointState counts joint
  pub number : number_of counts joint ≡ k

pub with_number : (counts : List ℕ) (k : ℕ) → k < product counts → WithNumber counts k
unfolding number_of product
with_number [] k h = record { joint = []; is_joint = record { long = refl; below = λ i less. absurd (not-suc-le-zero less) }; number = omega arith }
with_number (c ∷ cs) k h =
    let m = product cs in
    let some = factor-some k c m h in
    let rest = with_number cs (k % m) (mod-lt k some) in
    record {
      joint = (k / m) ∷ rest.joint;
      is_joint = joint-cons ((div-lt_iff_lt-mul some).1 h) rest.is_joint;
      number = ap (λ (r : ℕ). k / m * m + r) rest.number ∙ div-add-mod' k m;
    }

-- where all are up
pub number_up : (counts x : List ℕ) → ((k : ℕ) → get_or x k 0 ≡ 0) → number_of counts x ≡ 0
unfolding number_of
number_up [] x up = refl
number_up (c ∷ cs) [] up = refl
number_up (c ∷ cs) (s ∷ x) up = rw (up 0, zero-mul, zero-add) (number_up cs x (λ k. up (suc k)))

-- ---- the list of all

module _ (mark : ℕ → ℕ) (rows : ℕ → List (List ℕ)) (m : ℕ) (long : (s : ℕ) → length (rows s) ≡ m) where
  -- row k of the i-th state's
  pub get_or-divided : (s n i k : ℕ) → i < n → k < m → get_or (divided mark rows s n) (i * m + k) [] ≡ mark (s + i) ∷ get_or (rows (s + i)) k []
  unfolding divided
  get_or-divided s zero i k h less = absurd (not-suc-le-zero h)
  get_or-divided s (suc n) zero k h less =
      let rest = divided mark rows (s + 1) n in
      let inside : k < length (rows s) = rw (long s) less in
      let heads : k < length (map (λ (row : List ℕ). mark s ∷ row) (rows s)) = rw (length-map (rows s) (λ (row : List ℕ). mark s ∷ row)) inside in
      rw (zero-mul, zero-add, add-zero)
      (get_or-append (map (λ (row : List ℕ). mark s ∷ row) (rows s)) rest [] k heads ∙ get_or-map-inside (λ (row : List ℕ). mark s ∷ row) (rows s) k [] [] inside)
  get_or-divided s (suc n) (suc i) k h less =
      let rest = divided mark rows (s + 1) n in
      let heads = map (λ (row : List ℕ). mark s ∷ row) (rows s) in
      let place : suc i * m + k ≡ length heads + (i * m + k) = rw (length-map (rows s) (λ (row : List ℕ). mark s ∷ row), long s) (omega arith) in
      let state : s + 1 + i ≡ s + suc i = omega arith in
      ap (λ (p : ℕ). get_or (heads ++ rest) p []) place
      ∙ get_or-append-add heads rest (i * m + k) []
      ∙ get_or-divided (s + 1) n i k (omega arith) less
      ∙ ap (λ (z : ℕ). mark z ∷ get_or (rows z) k []) state

  pub length-divided : (s n : ℕ) → length (divided mark rows s n) ≡ n * m
  unfolding divided
  length-divided s zero = sym (zero-mul m)
  length-divided s (suc n) =
      length-append (map (λ (row : List ℕ). mark s ∷ row) (rows s)) (divided mark rows (s + 1) n)
      ∙ ap (λ (k : ℕ). k + length (divided mark rows (s + 1) n)) (length-map (rows s) (λ (row : List ℕ). mark s ∷ row) ∙ long s)
      ∙ ap (λ (k : ℕ). m + k) (length-divided (s + 1) n)
      ∙ omega arith

pub length-joint_states : (counts : List ℕ) → length (joint_states counts) ≡ product counts
unfolding joint_states product
length-joint_states [] = refl
length-joint_states (c ∷ cs) = length-divided (λ s. s) (λ s. joint_states cs) (product cs) (λ s. length-joint_states cs) 0 c

pub numbered : (counts x : List ℕ) → JointState counts x → get_or (joint_states counts) (number_of counts x) [] ≡ x
unfolding joint_states number_of
numbered [] [] j = refl
numbered [] (s ∷ x) j = absurd (omega (arith, j.long))
numbered (c ∷ cs) [] j = absurd (joint-none j)
numbered (c ∷ cs) (s ∷ x) j =
    let all = length-joint_states cs in
    get_or-divided (λ s. s) (λ s. joint_states cs) (product cs) (λ s. all) 0 c s (number_of cs x) (joint-head j) (number-below cs x (joint-tail j))
    ∙ ap (λ (z : ℕ). z ∷ get_or (joint_states cs) (number_of cs x) []) (zero-add s)
    ∙ ap (λ (y : List ℕ). s ∷ y) (numbered cs x (joint-tail j))

-- the one at place k has number k
at_place : (counts : List ℕ) (k : ℕ) (h : k < product counts) → (with_number counts k h).joint ≡ get_or (joint_states counts) k []
at_place counts k h =
    let w = with_number counts k h in
    sym (numbered counts w.joint w.is_joint) ∙ ap (λ (n : ℕ). get_or (joint_states counts) n []) w.number

-- all that the list holds are joint states
pub all-joint : (counts : List ℕ) → Every (JointState counts) [] (joint_states counts)
all-joint counts k h =
    let inside : k < product counts = rw (length-joint_states counts) at h in
    subst (JointState counts) (at_place counts k inside) (with_number counts k inside).is_joint

pub joint-states-listed : JointStatesListed
joint-states-listed counts =
    record {
      many = length-joint_states counts;
      joint = λ k h. all-joint counts k (rw (length-joint_states counts) h);
      numbered = λ k h. sym (ap (number_of counts) (at_place counts k h)) ∙ (with_number counts k h).number;
      below = number-below counts;
      at_number = numbered counts;
    }
