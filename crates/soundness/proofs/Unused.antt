-- Rows that no record uses, judged at once. Each of their places breaks row 16 or none; so does their first breach, which is therefore 16 where some
-- place holds more than 0, and none where they are a row of zeros.
use Rattle.std.proofs.Common.{◌≡◌, ◌≢◌, ℕ, zero, suc, ◌+◌, ◌<◌, Bool, true, false, List, length, get_or, refl, sym, ap, ◌∙◌, arith, nat_eq}
use lib.Dec.{eqb}
use lib.ListN.{replicate, length-replicate}
use borrow.Author.Tests.{eqb-true, eqb-false, le-ltb}
use Rattle.std.specs.Cmp.Lexicographic.{pointwise}
use Rattle.std.proofs.lemmas.Slice.Eq.{bytes_eq-Decides}
use Rattle.std.proofs.lemmas.List.{get_or-replicate}
use Rattle.std.proofs.lemmas.Grind.{same_number_lists}
use Rattle.lists.specs.Run.{each}
use Rattle.rules.specs.Breach.{refuse, first, first_of, in_use}
use Rattle.rules.specs.Limits.{most_tests, most_gate_inputs}
use Rattle.rules.specs.Table.{unsound_fault, unused_fault, no_component_fault, mask_fault, ahead_fault}
use Rattle.rules.proofs.Kept.{first-kept, first-none}
use Rattle.rules.proofs.Firsts.{first_of-kept, first_of-none}
use Rattle.rules.proofs.Rows.{sound-kept, unused-fields, unused-none}
use Rattle.soundness.specs.Check.{test_place_fault, tests_fault, input_place_fault, gate_inputs_fault}

-- no breach but of row 16
abbrev Sixteen : ℕ → Type 0
Sixteen b = b ≢ 0 → b ≡ 16

refuse-sixteen : (broken : Bool) → Sixteen (refuse 16 broken)
unfolding refuse
refuse-sixteen true some = refl
refuse-sixteen false some = absurd (some refl)

first-sixteen : (a b : ℕ) → Sixteen a → Sixteen b → Sixteen (first a b)
unfolding first
first-sixteen a b p q = go (eqb a 0) refl
  where
    go : (t : Bool) → eqb a 0 ≡ t → Sixteen (first a b)
    go true t = rw t q
    go false t = rw t p

run-sixteen : (f : ℕ → ℕ) → ((k : ℕ) → Sixteen (f k)) → (n i b : ℕ) → Sixteen b → Sixteen (each (λ (k breach : ℕ). first breach (f k)) n i b)
unfolding each
run-sixteen f all zero i b p = p
run-sixteen f all (suc n) i b p = run-sixteen f all n (i + 1) (first b (f i)) (first-sixteen b (f i) p (all i))

-- two such that are none together are the same
alike : (a b : ℕ) → Sixteen a → Sixteen b → (a ≡ 0 → b ≡ 0) → (b ≡ 0 → a ≡ 0) → a ≡ b
alike a b p q there back = go (eqb a 0) refl
  where
    go : (t : Bool) → eqb a 0 ≡ t → a ≡ b
    go true t = let none = eqb-true a 0 t in none ∙ sym (there none)
    go false t = let some = eqb-false a 0 t in p some ∙ sym (q (λ none. some (back none)))

-- the first breach among the places of a row, and of two rows side by side
abbrev pub row_fault : ℕ → List ℕ → ℕ
row_fault n row = first_of (λ (j : ℕ). unused_fault (get_or row j 0) 0 0 0) n 0

abbrev pair_fault : ℕ → List ℕ → List ℕ → ℕ
pair_fault n row other = first_of (λ (j : ℕ). unused_fault (get_or row j 0) (get_or other j 0) 0 0) n 0

row-sixteen : (n : ℕ) (row : List ℕ) → Sixteen (row_fault n row)
unfolding first_of
row-sixteen n row = run-sixteen _ (λ j. refuse-sixteen _) n 0 0 (λ some. absurd (some refl))

pair-sixteen : (n : ℕ) (row other : List ℕ) → Sixteen (pair_fault n row other)
unfolding first_of
pair-sixteen n row other = run-sixteen _ (λ j. refuse-sixteen _) n 0 0 (λ some. absurd (some refl))

row-kept : (n : ℕ) (row : List ℕ) → row_fault n row ≡ 0 → (j : ℕ) → j < n → get_or row j 0 ≡ 0
row-kept n row none j less = (unused-fields (get_or row j 0) 0 0 0 (first_of-kept _ n none j less)).field1

row-none : (n : ℕ) (row : List ℕ) → ((j : ℕ) → j < n → get_or row j 0 ≡ 0) → row_fault n row ≡ 0
row-none n row zeros = first_of-none _ n (λ j less. unused-none (get_or row j 0) 0 0 0 (zeros j less) refl refl refl)

-- a row is judged by whether it is a row of zeros
pub row-judged : (n : ℕ) (row : List ℕ) → length row ≡ n → (zeros : Bool) → zeros ≡ pointwise nat_eq row (replicate n 0)
    → unsound_fault zeros ≡ row_fault n row
unfolding refuse
row-judged n row long zeros is = alike (unsound_fault zeros) (row_fault n row) (refuse-sixteen _) (row-sixteen n row) there back
  where
    there : unsound_fault zeros ≡ 0 → row_fault n row ≡ 0
    there sound =
        let same = (bytes_eq-Decides row (replicate n 0)).0 (sym is ∙ sound-kept zeros sound) in
        row-none n row (λ j less. ap (λ (r : List ℕ). get_or r j 0) same ∙ get_or-replicate n j 0 0 less)

    back : row_fault n row ≡ 0 → unsound_fault zeros ≡ 0
    back none =
        let same =
        same_number_lists row (replicate n 0) (long ∙ sym (length-replicate n 0))
        (λ j less. row-kept n row none j (omega (arith, long)) ∙ sym (get_or-replicate n j 0 0 (omega (arith, long)))) in
        rw (is ∙ (bytes_eq-Decides row (replicate n 0)).1 same)

-- two rows one behind the other are judged as side by side
rows-judged : (n : ℕ) (row other : List ℕ) → first (row_fault n row) (row_fault n other) ≡ pair_fault n row other
rows-judged n row other =
    alike (first (row_fault n row) (row_fault n other)) (pair_fault n row other)
    (first-sixteen _ _ (row-sixteen n row) (row-sixteen n other)) (pair-sixteen n row other)
    (λ none.
    let both = first-kept _ _ none in
    first_of-none _ n (λ j less. unused-none _ _ 0 0 (row-kept n row both.left j less) (row-kept n other both.right j less) refl refl))
    (λ none.
    let fields = λ (j : ℕ) (less : j < n). unused-fields (get_or row j 0) (get_or other j 0) 0 0 (first_of-kept _ n none j less) in
    first-none _ _ (row-none n row (λ j less. (fields j less).field1)) (row-none n other (λ j less. (fields j less).field2)))

-- a place behind no count at all is unused
no-place : (j used unused : ℕ) → unused ≡ in_use 0 j used unused
no-place j used unused = rw (le-ltb j 0 (omega arith))

-- where a gate has no tests, and where it has no gate inputs
pub no-tests : (counts component mask : List ℕ)
    → first (row_fault most_tests component) (row_fault most_tests mask) ≡ tests_fault counts 0 component mask
unfolding tests_fault test_place_fault
no-tests counts component mask =
    rows-judged most_tests component mask ∙ ap (λ (f : ℕ → ℕ). first_of f most_tests 0) (λ i j. no-place j (used j) (unused j) i)
  where
    used : ℕ → ℕ
    used j = first (no_component_fault (length counts) (get_or component j 0)) (mask_fault (get_or counts (get_or component j 0) 0) (get_or mask j 0))

    unused : ℕ → ℕ
    unused j = unused_fault (get_or component j 0) (get_or mask j 0) 0 0

pub no-inputs : (gate : ℕ) (input : List ℕ) → row_fault most_gate_inputs input ≡ gate_inputs_fault gate 0 input
unfolding gate_inputs_fault input_place_fault
no-inputs gate input = ap (λ (f : ℕ → ℕ). first_of f most_gate_inputs 0) (λ i j. no-place j (ahead_fault gate (get_or input j 0)) (unused_fault (get_or input j 0) 0 0 0) i)
