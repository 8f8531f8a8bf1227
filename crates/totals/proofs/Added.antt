-- Laws of adding to totals: nothing, something at one place alone, one thing behind another, and to places that were cleared first.
use Prim.Native.Nat.{ℕ, ◌+◌, ◌<◌, ◌≤◌, min}
use mathlib.Core.Path.{◌≡◌, refl, ap, ◌∙◌}
use mathlib.Core.Bool.{Bool, true, false}
use mathlib.Core.List.{List}
use native.Mathlib.Nat.{min-le_left}
use native.Mathlib.Omega.{arith}
use lib.Dec.{eqb}
use lib.ListN.{length, get_or, set, length-set}
use lib.Seq.{get_or-set_same, get_or-set_other}
use borrow.Author.Tests.{eqb-true, eqb-false}
use Rattle.totals.specs.Places.{Totals, Placed, Cleared, Adds}

module _ {most places : ℕ} where
  -- totals stay totals
  pub adds-totals : {more : ℕ → ℕ} {d d' : List ℕ} → Totals most places d → Adds most places more d d' → Totals most places d'
  adds-totals {more} {d} {d'} t a =
      record { room = omega (arith, t.room, a.sums.size); each = λ p h. rw (a.sums.here p h) (min-le_left most (get_or d p 0 + more p)) }

  -- the same added, said otherwise
  pub adds-alike : {more other : ℕ → ℕ} {d d' : List ℕ} → ((p : ℕ) → more p ≡ other p) → Adds most places more d d' → Adds most places other d d'
  adds-alike {more} {other} {d} {d'} same a =
      record {
        sums =
            record {
              size = a.sums.size;
              here = λ p h. a.sums.here p h ∙ ap (λ (n : ℕ). min most (get_or d p 0 + n)) (same p);
              behind = a.sums.behind;
            };
      }

  pub adds-nothing : {d : List ℕ} → Totals most places d → Adds most places (λ p. 0) d d
  adds-nothing {d} t = record { sums = record { size = refl; here = λ p h. omega (arith, t.each p h); behind = λ k h. refl } }

  pub adds-both : {f g : ℕ → ℕ} {d d' d'' : List ℕ} → Adds most places f d d' → Adds most places g d' d'' → Adds most places (λ (p : ℕ). f p + g p) d d''
  adds-both {f} {g} {d} {d'} {d''} a b =
      record {
        sums =
            record {
              size = b.sums.size ∙ a.sums.size;
              here = λ p h. omega (arith, a.sums.here p h, b.sums.here p h);
              behind = λ k h. b.sums.behind k h ∙ a.sums.behind k h;
            };
      }

  -- something at one place alone
  pub adds-at : {more : ℕ → ℕ} {d : List ℕ} {i r : ℕ} → Totals most places d → i < places → r ≡ min most (get_or d i 0 + more i)
      → ((p : ℕ) → (p ≡ i → ⊥) → more p ≡ 0) → Adds most places more d (set d i r)
  adds-at {more} {d} {i} {r} t inside e others =
      record {
        sums =
            record {
              size = length-set d i r;
              here = λ p h. at p h (eqb p i) refl;
              behind = λ k h. get_or-set_other d i k r 0 (λ same. absurd (omega (arith, same, h, inside)));
            };
      }
    where
      at : (p : ℕ) → p < places → (b : Bool) → eqb p i ≡ b → get_or (set d i r) p 0 ≡ min most (get_or d p 0 + more p)
      at p h true same = rw (eqb-true p i same) (get_or-set_same d i r 0 (omega (arith, inside, t.room)) ∙ e)
      at p h false other = get_or-set_other d i p r 0 (eqb-false p i other) ∙ omega (arith, others p (eqb-false p i other), t.each p h)

  -- places that were cleared hold totals
  pub cleared-totals : {d d' : List ℕ} → Cleared places d d' → places ≤ length d → Totals most places d'
  cleared-totals none room = record { room = omega (arith, room, none.size); each = λ p h. omega (arith, none.here p h) }

  -- and have then what is added, at most so much, whatever stood there before
  pub cleared-adds : {more value : ℕ → ℕ} {d₀ d d' : List ℕ} → Cleared places d₀ d → Adds most places more d d' → ((p : ℕ) → min most (more p) ≡ value p)
      → Placed places value d₀ d'
  cleared-adds {more} {value} none a same =
      record {
        size = a.sums.size ∙ none.size;
        here = λ p h. omega (arith, a.sums.here p h, none.here p h, same p);
        behind = λ k h. a.sums.behind k h ∙ none.behind k h;
      }
