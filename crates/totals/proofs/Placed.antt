-- Laws of values at the first places of a lent slice. What carries a loop that sets them one by one: those below j are set, and those ahead are still as
-- they were, so that a loop may read what it adds to.
use Prim.Native.Nat.{ℕ, ◌+◌, ◌<◌, ◌≤◌}
use mathlib.Core.Path.{◌≡◌, refl, sym, ap, subst, ◌∙◌}
use mathlib.Core.Bool.{Bool, true, false}
use mathlib.Core.List.{List, ◌++◌}
use native.Mathlib.Omega.{arith}
use lib.Dec.{eqb, ltb}
use lib.ListN.{length, get_or, drop, set, replicate, length-set, length-replicate, get_or-replicate}
use lib.Seq.{drop_at, get_or-set_same, get_or-set_other, ext_get_or}
use borrow.Author.Tests.{eqb-true, eqb-false, ltb-true, ltb-false}
use Rattle.lists.specs.Rows.{put}
use Rattle.lists.specs.Tabulate.{tabulate}
use Rattle.lists.proofs.Fronts.{get_or-put, put_front, put-behind}
use Rattle.lists.proofs.Puts.{put-size}
use Rattle.lists.proofs.Tabulated.{length-tabulate, get_or-tabulate}
use Rattle.totals.specs.Places.{Placed, Cleared}

-- ---- one place after the other

pub record Placing (places : ℕ) (value : ℕ → ℕ) (d₀ : List ℕ) (j : ℕ) (d : List ℕ) : Type 0 where
  pub inside : j ≤ places
  pub room : places ≤ length d₀
  pub front : Placed j value d₀ d

module _ {places : ℕ} {value : ℕ → ℕ} {d₀ : List ℕ} where
  pub placing-start : places ≤ length d₀ → Placing places value d₀ 0 d₀
  placing-start room =
      record { inside = omega arith; room = room; front = record { size = refl; here = λ p h. absurd (omega (arith, h)); behind = λ k h. refl } }

  pub placing-room : {j : ℕ} {d : List ℕ} → Placing places value d₀ j d → j < places → j < length d
  placing-room w h = omega (arith, h, w.room, w.front.size)

  pub placing-more : {j r : ℕ} {d : List ℕ} → Placing places value d₀ j d → j < places → r ≡ value j → Placing places value d₀ (j + 1) (set d j r)
  placing-more {j} {r} {d} w h e =
      record {
        inside = omega (arith, h);
        room = w.room;
        front =
            record {
              size = length-set d j r ∙ w.front.size;
              here = λ p less. at p less (eqb p j) refl;
              behind = λ k past. get_or-set_other d j k r 0 (λ same. absurd (omega (arith, same, past))) ∙ w.front.behind k (omega (arith, past));
            };
      }
    where
      at : (p : ℕ) → p < j + 1 → (b : Bool) → eqb p j ≡ b → get_or (set d j r) p 0 ≡ value p
      at p less true same = rw (eqb-true p j same) (get_or-set_same d j r 0 (placing-room w h) ∙ e)
      at p less false other =
          let below : p < j = omega (arith, less, eqb-false p j other) in
          get_or-set_other d j p r 0 (eqb-false p j other) ∙ w.front.here p below

  pub placing-done : {j : ℕ} {d : List ℕ} → Placing places value d₀ j d → places ≤ j → Placed places value d₀ d
  placing-done {j} {d} w h =
      let all : j ≡ places = omega (arith, h, w.inside) in
      subst (λ (n : ℕ). Placed n value d₀ d) all w.front

-- ---- all of them: the values are put at the front

pub placed-put : {places : ℕ} {value : ℕ → ℕ} {d d' : List ℕ} → Placed places value d d' → places ≤ length d → d' ≡ put d 0 (tabulate value places)
placed-put {places} {value} {d} {d'} a room =
    ext_get_or 0 d' (put d 0 (tabulate value places)) (a.size ∙ sym size) (λ k h. at k (ltb k places) refl)
  where
    long : length (tabulate value places) ≡ places
    long = length-tabulate value places

    size : length (put d 0 (tabulate value places)) ≡ length d
    size = put-size d (put d 0 (tabulate value places)) 0 (tabulate value places) (omega (arith, long, room)) refl

    at : (k : ℕ) (b : Bool) → ltb k places ≡ b → get_or d' k 0 ≡ get_or (put d 0 (tabulate value places)) k 0
    at k true less =
        let inside = ltb-true k places less in
        a.here k inside ∙ sym (get_or-put d (tabulate value places) k 0 (omega (arith, inside, long)) ∙ get_or-tabulate value places k 0 inside)
    at k false past =
        let behind = ltb-false k places past in
        a.behind k behind ∙ sym (put-behind d (tabulate value places) k (omega (arith, behind, long)))

-- ---- an array of zeros is cleared

pub zeros-cleared : {places : ℕ} {d : List ℕ} → d ≡ replicate places 0 → Cleared places d d
zeros-cleared {places} {d} e = record { size = refl; here = λ p h. rw e (get_or-replicate {A = ℕ} places p 0 0 h); behind = λ k h. refl }

-- and so are places that zeros are written over
pub zeros-written : {places : ℕ} {d x : List ℕ} → places ≤ length d → x ≡ replicate places 0 → Cleared places d (x ++ drop places d)
zeros-written {places} {d} {x} room e =
    let long : length x ≡ places = ap length e ∙ length-replicate places 0 in
    rw (put_front d x long)
    (record {
      size = put-size d (put d 0 x) 0 x (omega (arith, long, room)) refl;
      here = λ p h. get_or-put d x p 0 (omega (arith, h, long)) ∙ rw e (get_or-replicate {A = ℕ} places p 0 0 h);
      behind = λ k h. put-behind d x k (omega (arith, h, long));
    })

-- what is put over values at the first places hides them
pub placed-over : {places : ℕ} {value : ℕ → ℕ} {d d' : List ℕ} → Placed places value d d' → places ≤ length d → (x : List ℕ) → length x ≡ places
    → put d' 0 x ≡ put d 0 x
placed-over {places} {value} {d} {d'} placed room x long =
    let values = tabulate value places in
    let many : length values ≡ places = length-tabulate value places in
    sym (put_front d' x long)
    ∙ ap (λ (l : List ℕ). x ++ drop places l) (placed-put placed room ∙ sym (put_front d values many))
    ∙ ap (λ (l : List ℕ). x ++ l) (drop_at values (drop places d) places many)
    ∙ put_front d x long
