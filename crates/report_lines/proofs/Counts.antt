-- What carries the count of paths by class: the paths below k are counted, each at the place of its class.
use Prim.Native.Nat.{ℕ, ◌+◌, ◌<◌, ◌≤◌}
use mathlib.Core.Path.{◌≡◌, refl, sym, ap, ◌∙◌}
use mathlib.Core.Bool.{Bool, true, false}
use mathlib.Core.List.{List, [], ◌∷◌}
use native.Mathlib.Nat.{add-zero}
use native.Mathlib.Omega.{arith}
use lib.Dec.{eqb}
use lib.ListN.{length, get_or, take, set, length-set, length-take}
use lib.Seq.{take_all, get_or-set_same, get_or-set_other}
use borrow.Author.Tests.{eqb-true, eqb-false, eq-eqb, ne_eqb}
use Rattle.lists.specs.Counting.{truth, sum_over}
use Rattle.lists.proofs.Adding.{add-next}
use Rattle.lists.proofs.Sums.{truth-most}
use Rattle.entries.specs.Entries.{class_borne, class_places, entry_at, entries_of}
use Rattle.entries.specs.Lists.{PathList}
use Rattle.entries.proofs.Entries.{entries-long, entry-is}
use Rattle.totals.specs.Places.{Placed, Cleared}
use Rattle.report_lines.specs.Classes.{bearing}

-- no more paths than there are
bearing-most : (n : ℕ) (entries : List (List ℕ)) (c : ℕ) → bearing n entries c ≤ length entries
unfolding bearing sum_over
bearing-most n [] c = omega arith
bearing-most n (entry ∷ entries) c = omega (arith, truth-most (eqb (class_borne n entry) c), bearing-most n entries c)

bearing-next : (n : ℕ) (entries : List (List ℕ)) (k c : ℕ) → k < length entries
    → bearing n (take (k + 1) entries) c ≡ bearing n (take k entries) c + truth (eqb (class_borne n (get_or entries k [])) c)
unfolding bearing
bearing-next n entries k c h = add-next (λ (entry : List ℕ). truth (eqb (class_borne n entry) c)) entries k [] h

-- one value anew
placed-set : {places : ℕ} {f g : ℕ → ℕ} {d₀ d : List ℕ} (i r : ℕ) → places ≤ length d₀ → Placed places f d₀ d → i < places → g i ≡ r
    → ((p : ℕ) → (p ≡ i → ⊥) → g p ≡ f p) → Placed places g d₀ (set d i r)
placed-set {places} {f} {g} {d₀} {d} i r room placed inside here there =
    record {
      size = length-set d i r ∙ placed.size;
      here = λ p h. at p h (eqb p i) refl;
      behind = λ k past. get_or-set_other d i k r 0 (λ same. absurd (omega (arith, same, past, inside))) ∙ placed.behind k past;
    }
  where
    at : (p : ℕ) → p < places → (b : Bool) → eqb p i ≡ b → get_or (set d i r) p 0 ≡ g p
    at p h true same = rw (eqb-true p i same) (get_or-set_same d i r 0 (omega (arith, inside, room, placed.size)) ∙ sym here)
    at p h false other = get_or-set_other d i p r 0 (eqb-false p i other) ∙ placed.here p h ∙ sym (there p (eqb-false p i other))

-- one path more
counted : (n : ℕ) (entries : List (List ℕ)) (k class r : ℕ) {d₀ d : List ℕ} → class_places ≤ length d₀
    → Placed class_places (bearing n (take k entries)) d₀ d → k < length entries → class < class_places → class ≡ class_borne n (get_or entries k [])
    → r ≡ get_or d class 0 + 1 → Placed class_places (bearing n (take (k + 1) entries)) d₀ (set d class r)
counted n entries k class r room placed inside small borne e = placed-set class r room placed small here there
  where
    next : (c : ℕ) → bearing n (take (k + 1) entries) c ≡ bearing n (take k entries) c + truth (eqb class c)
    next c = rw borne (bearing-next n entries k c inside)

    here : bearing n (take (k + 1) entries) class ≡ r
    here = rw (next class, eq-eqb class class refl) (sym (e ∙ ap (λ (v : ℕ). v + 1) (placed.here class small)))

    there : (c : ℕ) → (c ≡ class → ⊥) → bearing n (take (k + 1) entries) c ≡ bearing n (take k entries) c
    there c other = rw (next c, ne_eqb class c (λ same. other (sym same)), add-zero) refl

-- d₀ is what was cleared for it
pub record Counts (n : ℕ) (list : List ℕ) (paths : ℕ) (d₀ : List ℕ) (k : ℕ) (d : List ℕ) : Type 0 where
  pub listed : PathList n paths list
  pub room : class_places ≤ length d₀
  pub placed : Placed class_places (bearing n (take k (entries_of n paths list))) d₀ d

module _ {n : ℕ} {list : List ℕ} {paths : ℕ} {d₀ : List ℕ} where
  pub counts_start : {d : List ℕ} → PathList n paths list → class_places ≤ length d → Cleared class_places d d₀ → Counts n list paths d₀ 0 d₀
  unfolding bearing sum_over
  counts_start listed room none =
      record {
        listed = listed;
        room = omega (arith, room, none.size);
        placed = record { size = refl; here = none.here; behind = λ k h. refl };
      }

  -- a class has its place
  pub counts-place : {k class : ℕ} {d : List ℕ} → Counts n list paths d₀ k d → class < class_places → class < length d
  counts-place c h = omega (arith, h, c.room, c.placed.size)

  pub counts-few : {k : ℕ} {d : List ℕ} (class : ℕ) → Counts n list paths d₀ k d → class < class_places → get_or d class 0 ≤ k
  counts-few {k} {d} class c h =
      let entries = entries_of n paths list in
      omega (arith, c.placed.here class h, bearing-most n (take k entries) class, length-take k entries)

  pub counts-more : {k class r : ℕ} {d : List ℕ} → Counts n list paths d₀ k d → k < paths → class < class_places
      → class ≡ class_borne n (entry_at n list k) → r ≡ get_or d class 0 + 1 → Counts n list paths d₀ (k + 1) (set d class r)
  counts-more {k} {class} {r} {d} c h small is-class e =
      let entries = entries_of n paths list in
      let inside : k < length entries = rw (entries-long n paths list) h in
      let borne = is-class ∙ ap (class_borne n) (sym (entry-is n paths list k h)) in
      record { listed = c.listed; room = c.room; placed = counted n entries k class r c.room c.placed inside small borne e }

  pub counts-done : {k : ℕ} {d d' : List ℕ} → Cleared class_places d d₀ → Counts n list paths d₀ k d' → paths ≤ k
      → Placed class_places (bearing n (entries_of n paths list)) d d'
  counts-done {k} {d} {d'} none c h =
      let entries = entries_of n paths list in
      let all = take_all k entries (omega (arith, h, entries-long n paths list)) in
      record {
        size = c.placed.size ∙ none.size;
        here = λ p inside. c.placed.here p inside ∙ ap (λ (l : List (List ℕ)). bearing n l p) all;
        behind = λ p past. c.placed.behind p past ∙ none.behind p past;
      }
