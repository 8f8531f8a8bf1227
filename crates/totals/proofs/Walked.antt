-- What carries the walk along a block's paths, for one of the two bounds: those of the ways below s are added.
use Rattle.std.proofs.Common.{ℕ, suc, ◌+◌, ◌<◌, ◌≤◌, ◌≡◌, refl, sym, ap, ◌∙◌, Bool, List, arith, length, get_or, drop}
use native.Mathlib.Nat.{zero-add}
use Rattle.lists.specs.Counting.{counted}
use Rattle.paths.specs.Paths.{part, paths}
use Rattle.paths.specs.Ways.{mark}
use Rattle.paths.proofs.Ways.{headed}
use Rattle.event_tree.specs.declared.block.ClassBlock.{ClassBlock}
use Rattle.event_tree.specs.declared.parts.Fork.{Fork}
use Rattle.event_tree.specs.Ways.{blank_in, number_in}
use Rattle.event_tree.proofs.Forked.{no-fork, rows, left, left-all, left-next, left-none, fork-fewer}
use Rattle.probability.specs.Bounds.{factored}
use Rattle.totals.specs.Places.{places_of, counts_at, Totals, Adds}
use Rattle.totals.specs.Walk.{brought_by, brings}
use Rattle.totals.proofs.Added.{adds-totals, adds-alike, adds-nothing, adds-both}
use Rattle.totals.proofs.Onward.{brought-none, brought-append, brought-headed, brought-leaf}

module _ (loadwise : Bool) (rounding most : ℕ) (probabilities : List ℕ) (i : ℕ) where
  pub record Walked (f : Fork) (bound : ℕ) (d₀ : List ℕ) (s : ℕ) (d : List ℕ) : Type 0 where
    pub totals : Totals most (places_of loadwise) d
    -- what was added at each place
    pub done : ℕ → ℕ
    pub adds : Adds most (places_of loadwise) done d₀ d
    pub due : (p : ℕ) → done p + brought_by rounding probabilities i (length f.block.counts.now) bound
        (counts_at loadwise p) (left f s)
        ≡ brings loadwise rounding probabilities i f.block.counts.now f.block.classes.now bound p

-- no component is left: the one path brings its bound where its class counts
pub leaf-brings : (loadwise : Bool) (rounding : ℕ) (probabilities : List ℕ) (i : ℕ) (counts block : List ℕ)
    (bound : ℕ) {most class : ℕ} {d d' : List ℕ}
    → length counts ≡ 0 → class ≡ get_or block 0 0 → Adds most (places_of loadwise) (λ (p : ℕ). counted
    (counts_at loadwise p class) bound) d d'
    → Adds most (places_of loadwise) (brings loadwise rounding probabilities i counts block bound) d d'
unfolding brings
leaf-brings loadwise rounding probabilities i counts block bound none is adds =
    adds-alike
    (λ p. rw (no-fork counts block none, none, is) (sym (brought-leaf rounding probabilities
    (counts_at loadwise p) i bound (get_or block 0 0)))) adds

-- the paths of way s, and those of the ways behind it
next : (rounding : ℕ) (probabilities : List ℕ) (i bound : ℕ) (keep : ℕ → Bool) (f : Fork) (s : ℕ) → s < number_in f.ways
    → brought_by rounding probabilities i (length f.block.counts.now) bound keep (left f s)
    ≡ brought_by rounding probabilities (i + 1) (length (drop 1 f.block.counts.now))
    (factored rounding probabilities i (mark (blank_in f.ways) s) bound) keep
    (rows f s)
    + brought_by rounding probabilities i (length f.block.counts.now) bound keep (left f (s + 1))
next rounding probabilities i bound keep f s h =
    let counts : List ℕ = f.block.counts.now in
    let all = brought_by rounding probabilities i (length counts) bound keep in
    let own : ℕ = mark (blank_in f.ways) s in
    let fewer : length counts ≡ suc (length (drop 1 counts)) = omega
    (arith, fork-fewer f {later = drop 1 counts} refl) in
    ap all (left-next f s h)
    ∙ brought-append rounding probabilities keep i (length counts) bound (headed own (rows f s)) (left f (s + 1))
    ∙ ap (λ (n : ℕ). n + all (left f (s + 1)))
    (ap (λ (n : ℕ). brought_by rounding probabilities i n bound keep (headed own (rows f s))) fewer
    ∙ brought-headed rounding probabilities keep i (length (drop 1 counts)) bound own (rows f s))

module _ {loadwise : Bool} {rounding most : ℕ} {probabilities : List ℕ} {i : ℕ} {f : Fork} {bound : ℕ} {d₀ : List ℕ}
  where
    pub walked_start : Totals most (places_of loadwise) d₀ → Walked loadwise rounding most probabilities i f bound d₀ 0 d₀
    unfolding brings
    walked_start t =
        record {
          totals = t;
          done = λ p. 0;
          adds = adds-nothing t;
          due =
              λ p.
              rw (left-all f)
              (zero-add
              (brought_by rounding probabilities i (length f.block.counts.now) bound (counts_at loadwise p)
              (paths f.block.counts.now f.block.classes.now)));
        }

    pub walked_more : {s own onwards : ℕ} {d d' : List ℕ} → Walked loadwise rounding most probabilities i f bound d₀ s d
        → s < number_in f.ways → own ≡ mark (blank_in f.ways) s → onwards ≡ factored rounding probabilities i own bound
        → Adds most (places_of loadwise) (brings loadwise rounding probabilities (i + 1) (drop 1 f.block.counts.now)
        (part f.size s f.block.classes.now) onwards) d d'
        → Walked loadwise rounding most probabilities i f bound d₀ (s + 1) d'
    unfolding brings
    walked_more {s} {own} {onwards} {d} {d'} walked h is-own is-onwards adds =
        let later : List ℕ = drop 1 f.block.counts.now in
        let parted : List ℕ = part f.size s f.block.classes.now in
        record {
          totals = adds-totals walked.totals adds;
          done = λ p. walked.done p + brings loadwise rounding probabilities (i + 1) later parted onwards p;
          adds = adds-both walked.adds adds;
          due =
              λ p.
              let way : brings loadwise rounding probabilities (i + 1) later parted onwards p
              ≡ brought_by rounding probabilities (i + 1) (length later) (factored rounding probabilities i (mark
              (blank_in f.ways) s) bound)
              (counts_at loadwise p) (rows f s)
              = rw (is-onwards, is-own) refl in
              omega (arith, walked.due p, next rounding probabilities i bound (counts_at loadwise p) f s h, way);
        }

    pub walked-done : {b : ClassBlock} {s : ℕ} {d : List ℕ} → f.block ≡ b
        → Walked loadwise rounding most probabilities i f bound d₀ s d
        → number_in f.ways ≤ s → Adds most (places_of loadwise)
        (brings loadwise rounding probabilities i b.counts.now b.classes.now bound) d₀ d
    walked-done {b} {s} {d} e walked h =
        rw (← e)
        (adds-alike
        (λ p.
        let n : ℕ = length f.block.counts.now in
        let none : brought_by rounding probabilities i n bound (counts_at loadwise p) (left f s) ≡ 0
        = rw (left-none f s h) (brought-none rounding probabilities (counts_at loadwise p) i n bound) in
        omega (arith, walked.due p, none))
        walked.adds)
