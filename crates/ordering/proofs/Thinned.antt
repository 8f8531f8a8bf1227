-- Rows without the inputs that stand right behind again: in order, these are the distinct ones. And what carries the loop that puts them at the front, over
-- what is left to look at: those that count there are still to be put (`Thinning`).
use Prim.Native.Nat.{ℕ, zero, suc, ◌+◌, ◌<◌, ◌≤◌}
use mathlib.Core.Path.{◌≡◌, refl, sym, ap, ap₂, ◌∙◌}
use mathlib.Core.Bool.{Bool, true, false, ◌&&◌, ◌||◌, cond, false≢true}
use mathlib.Core.List.{List, [], ◌∷◌}
use native.Mathlib.Nat.{zero-add}
use native.Mathlib.Numerals.{add-one}
use native.Mathlib.Omega.{arith}
use lib.Dec.{eqb}
use lib.ListN.{length, get_or, set, drop, length-set, length-map, drop_of_length-le}
use lib.Seq.{drop-cons, drop-set-lt}
use Rattle.lists.proofs.Elements.{Every}
use Rattle.lists.proofs.Puts.{Due, due-start, due-set, due-done, due-end}
use Rattle.ordering.specs.Distinct.{same_input, stands_in, distinct}
use Rattle.ordering.specs.Thinning.{stands_next, thinned, Fronted}
use Rattle.ordering.specs.Inputs.{Input, no_input, mask_values, ByteMask, rank, paired, numbers, masks, Ascending}
use Rattle.ordering.specs.Laws.{EnoughToLookNext}
use Rattle.ordering.proofs.Sets.{same-told, same_self, first-most}
use Rattle.ordering.proofs.Pairs.{paired_long, get_or-paired}
use Rattle.ordering.proofs.Rises.{Rises, rises}
use Rattle.ordering.proofs.Unique.{same-input}

-- ---- in order

ranks-apart : (a b : Input) → rank a < rank b → same_input a b ≡ false
ranks-apart a b less = go (same_input a b) refl
  where
    go : (p : Bool) → same_input a b ≡ p → same_input a b ≡ false
    go true same = absurd (omega (arith, less, ap rank (same-told a b same)))
    go false other = other

-- what ranks below the first of a row in order does not stand there
below_none : (a b : Input) (row : List Input) → Rises (b ∷ row) → rank a < rank b → stands_in a (b ∷ row) ≡ false
unfolding stands_in
below_none a b [] up less = rw (ranks-apart a b less) refl
below_none a b (c ∷ row) up less = rw (ranks-apart a b less) (below_none a c row up.1 (omega (arith, less, up.0)))

-- so an input stands behind again only right behind
next-enough : (a : Input) (row : List Input) → Rises (a ∷ row) → Every ByteMask no_input (a ∷ row) → stands_next a row ≡ stands_in a row
unfolding stands_in stands_next
next-enough a [] up bytes = refl
next-enough a (b ∷ row) up bytes = go (same_input a b) refl row up.1
  where
    go : (p : Bool) → same_input a b ≡ p → (row : List Input) → Rises (b ∷ row) → same_input a b ≡ (same_input a b || stands_in a row)
    go true same row up' = rw same refl
    go false other [] up' = rw other refl
    go false other (c ∷ row) up' =
        let apart : rank a ≡ rank b → ⊥ =
        λ e. false≢true (sym other ∙ rw (same-input a b (bytes 0 (omega arith)) (bytes 1 (omega arith)) e) (same_self b)) in
        rw other (sym (below_none a c row up'.1 (omega (arith, apart, up.0, up'.0))))

risen-enough : (row : List Input) → Rises row → Every ByteMask no_input row → thinned row ≡ distinct row
unfolding thinned distinct
risen-enough [] up bytes = refl
risen-enough (a ∷ row) up bytes =
    rw (next-enough a row up bytes)
    (ap (λ (r : List Input). cond (stands_in a row) r (a ∷ r)) (risen-enough row up.1 (λ k h. bytes (suc k) (omega arith))))

pub enough-to-look-next : EnoughToLookNext
enough-to-look-next row bytes up = risen-enough row (rises row up) bytes

-- rows of bytes, side by side
pub thinned-distinct : (ns ms : List ℕ) → length ns ≡ length ms → ((k : ℕ) → get_or ms k 0 < mask_values) → Ascending (paired ns ms)
    → thinned (paired ns ms) ≡ distinct (paired ns ms)
thinned-distinct ns ms rows bytes up = enough-to-look-next (paired ns ms) (λ k inside. rw (get_or-paired ns ms k rows) (bytes k)) up

-- ---- the first input of what is left

module _ (row : List Input) (at : ℕ) (inside : at < length row) where
  -- where it stands right behind again, it does not count
  thinned-again : stands_next (get_or row at no_input) (drop (suc at) row) ≡ true → thinned (drop at row) ≡ thinned (drop (suc at) row)
  unfolding thinned
  thinned-again next = rw (drop-cons row at no_input inside, next) refl

  -- where it does not, it does
  thinned-more : stands_next (get_or row at no_input) (drop (suc at) row) ≡ false → thinned (drop at row) ≡ get_or row at no_input ∷ thinned (drop (suc at) row)
  unfolding thinned
  thinned-more last = rw (drop-cons row at no_input inside, last) refl

-- where nothing is left, none counts
thinned-none : (row : List Input) (at : ℕ) → length row ≤ at → thinned (drop at row) ≡ []
unfolding thinned
thinned-none row at end = rw (drop_of_length-le row {i = at} end) refl

-- whether it does, by the bytes of two rows
pub next-short : (a : Input) (row : List Input) (at : ℕ) → length row ≤ suc at → stands_next a (drop (suc at) row) ≡ false
unfolding stands_next
next-short a row at end = rw (drop_of_length-le row {i = suc at} end) refl

pub next-told : (ns ms : List ℕ) (at : ℕ) → length ns ≡ length ms → suc at < length ns
    → stands_next (get_or (paired ns ms) at no_input) (drop (suc at) (paired ns ms))
    ≡ (eqb (get_or ns at 0) (get_or ns (suc at) 0) && eqb (get_or ms at 0) (get_or ms (suc at) 0))
unfolding stands_next same_input
next-told ns ms at rows two =
    let inside : suc at < length (paired ns ms) = omega (arith, two, paired_long ns ms rows) in
    rw (drop-cons (paired ns ms) (suc at) no_input inside, get_or-paired ns ms at rows, get_or-paired ns ms (suc at) rows) refl

-- ---- those that count, put at the front

paired-drop : (k : ℕ) (n m : List ℕ) → drop k (paired n m) ≡ paired (drop k n) (drop k m)
unfolding paired
paired-drop zero n m = refl
paired-drop (suc k) [] m = refl
paired-drop (suc k) (a ∷ n) [] = go (drop k n)
  where
    go : (l : List ℕ) → [] ≡ paired l []
    go [] = refl
    go (b ∷ l) = refl
paired-drop (suc k) (a ∷ n) (b ∷ m) = paired-drop k n m

-- the rows ns₀ and ms₀ are now ns and ms; so many are put, and those from a place on are to come
pub record Thinning (ns₀ ms₀ ns ms : List ℕ) (kept at : ℕ) : Type 0 where
  pub rows : length ns ≡ length ms
  pub few : kept ≤ at
  pub numbers_due : Due ns₀ 0 (numbers (thinned (paired ns₀ ms₀))) ns kept (numbers (thinned (drop at (paired ns ms))))
  pub masks_due : Due ms₀ 0 (masks (thinned (paired ns₀ ms₀))) ms kept (masks (thinned (drop at (paired ns ms))))

pub thinned-most : (row : List Input) → length (thinned row) ≤ length row
unfolding thinned
thinned-most [] = omega arith
thinned-most (a ∷ row) = first-most (stands_next a row) a (thinned row) row (thinned-most row)

pub thinning-start : {ns ms : List ℕ} → length ns ≡ length ms → Thinning ns ms ns ms 0 0
thinning-start {ns} {ms} e =
    let most = thinned-most (paired ns ms) in
    let long = paired_long ns ms e in
    record {
      rows = e;
      few = omega arith;
      numbers_due = due-start (omega (arith, most, long, length-map (thinned (paired ns ms)) (λ (a : Input). a.number)));
      masks_due = due-start (omega (arith, most, long, e, length-map (thinned (paired ns ms)) (λ (a : Input). a.mask)));
    }

module _ {ns₀ ms₀ ns ms : List ℕ} {kept at : ℕ} (thinning : Thinning ns₀ ms₀ ns ms kept at) where
  inside-row : at < length ns → at < length (paired ns ms)
  inside-row inside = omega (arith, inside, paired_long ns ms thinning.rows)

  pub thinning-again : at < length ns → stands_next (get_or (paired ns ms) at no_input) (drop (suc at) (paired ns ms)) ≡ true → Thinning ns₀ ms₀ ns ms kept (at + 1)
  thinning-again inside next =
      let same = thinned-again (paired ns ms) at (inside-row inside) next in
      rw add-one
      (record {
        rows = thinning.rows;
        few = omega (arith, thinning.few);
        numbers_due = rw same at thinning.numbers_due;
        masks_due = rw same at thinning.masks_due;
      })

  pub thinning-more : at < length ns → stands_next (get_or (paired ns ms) at no_input) (drop (suc at) (paired ns ms)) ≡ false
      → Thinning ns₀ ms₀ (set ns kept (get_or ns at 0)) (set ms kept (get_or ms at 0)) (kept + 1) (at + 1)
  thinning-more inside last =
      let n = get_or ns at 0 in
      let m = get_or ms at 0 in
      let here : get_or (paired ns ms) at no_input ≡ record { number = n; mask = m } = get_or-paired ns ms at thinning.rows in
      let first = thinned-more (paired ns ms) at (inside-row inside) last ∙ ap (λ (a : Input). a ∷ thinned (drop (suc at) (paired ns ms))) here in
      let before : kept < suc at = omega (arith, thinning.few) in
      let left : drop (suc at) (paired ns ms) ≡ drop (suc at) (paired (set ns kept n) (set ms kept m)) =
      paired-drop (suc at) ns ms
      ∙ sym (ap₂ paired (drop-set-lt (suc at) ns kept n before) (drop-set-lt (suc at) ms kept m before))
      ∙ sym (paired-drop (suc at) (set ns kept n) (set ms kept m)) in
      let numbers_more = due-set (rw first at thinning.numbers_due) in
      let masks-more = due-set (rw first at thinning.masks_due) in
      rw (add-one at)
      (record {
        rows = length-set ns kept n ∙ thinning.rows ∙ sym (length-set ms kept m);
        few = omega (arith, thinning.few);
        numbers_due = rw left at numbers_more;
        masks_due = rw left at masks-more;
      })

  pub thinning-done : length ns ≤ at → Fronted ns₀ ms₀ (thinned (paired ns₀ ms₀)) ns ms kept
  thinning-done end =
      let none = thinned-none (paired ns ms) at (omega (arith, end, paired_long ns ms thinning.rows)) in
      let numbers-end = rw none at thinning.numbers_due in
      record {
        in_numbers = due-done numbers-end;
        in_masks = due-done (rw none at thinning.masks_due);
        many = due-end numbers-end ∙ zero-add _ ∙ length-map (thinned (paired ns₀ ms₀)) (λ (a : Input). a.number);
      }
