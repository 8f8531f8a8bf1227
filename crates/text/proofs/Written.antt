-- What is written piece by piece: pieces in a row, for which a function names the rules `pieces` and no more, and pieces in a loop, those below k by then.
use Rattle.std.proofs.Common.{ℕ, zero, suc, ◌+◌, ◌<◌, ◌≤◌, ◌≡◌, List, [], ◌++◌, length, take-append-drop, append_assoc, append-nil, length-append, add-zero, add-one, refl, sym, ap, ◌∙◌, ◌∷◌, subst, arith}
use Rattle.std.proofs.Math.Decide.{dec_lt}
use Rattle.lists.specs.Rows.{put, joined}
use Rattle.lists.specs.Tabulate.{tabulate}
use Rattle.lists.proofs.Joined.{joined-last}
use Rattle.lists.proofs.Puts.{put-put}
use Rattle.text.specs.declared.writer.Writer.{Writer}
use Rattle.text.specs.Writer.{Room, Wrote}

-- a piece, and another behind it
pub put_put : (d x y : List ℕ) (at n : ℕ) → at + length x ≤ length d → n ≡ at + length x → put (put d at x) n y ≡ put d at (x ++ y)
put_put d x y at n room e = subst (λ (k : ℕ). put (put d at x) k y ≡ put d at (x ++ y)) (sym e) (put-put d at x y room)

-- nothing
pub put_none : (d : List ℕ) (at : ℕ) → put d at [] ≡ d
unfolding put
put_none d at = rw (add-zero, append-nil) (take-append-drop at d)

pub ruleset pieces = (put_put, put_none, append_assoc, append-nil, length-append)

-- ---- in a loop

module _ (f : ℕ → List ℕ) where
  more : (k : ℕ) → joined (tabulate f (k + 1)) ≡ joined (tabulate f k) ++ f k
  unfolding tabulate
  more k = rw add-one (joined-last (tabulate f k) (f k))

  -- the pieces up to one are no longer than all of them
  up-to : (n k : ℕ) → k < n → length (joined (tabulate f k)) + length (f k) ≤ length (joined (tabulate f n))
  unfolding tabulate
  up-to zero k h = absurd (omega arith)
  up-to (suc n) k h = go (up-to n k) (dec_lt k n)
    where
      go : (k < n → length (joined (tabulate f k)) + length (f k) ≤ length (joined (tabulate f n))) → Dec (k < n)
          → length (joined (tabulate f k)) + length (f k) ≤ length (joined (tabulate f n ++ f n ∷ []))
      go before (yes less) = rw joined-last (omega (arith, before less, length-append (joined (tabulate f n)) (f n)))
      go before (no all) =
          let e : k ≡ n = omega arith in
          rw (e, joined-last) (omega (arith, length-append (joined (tabulate f n)) (f n)))

pub wrote_none : (w : Writer) → Wrote w [] w
wrote_none w = record { holds = sym (put_none w.buffer.now w.size); behind = sym (add-zero w.size); long = refl; same_buffer = refl }

-- of n pieces, the values of a function, those below k are written, and there is room for the next
pub record Tabled (f : ℕ → List ℕ) (n : ℕ) (w : Writer) (k : ℕ) (w' : Writer) : Type 0 where
  pub room : Room w (joined (tabulate f n))
  pub wrote : Wrote w (joined (tabulate f k)) w'
  pub next : k < n → Room w' (f k)

module _ {f : ℕ → List ℕ} {n : ℕ} {w : Writer} where
  tabled : {k : ℕ} {w' : Writer} → Room w (joined (tabulate f n)) → Wrote w (joined (tabulate f k)) w' → Tabled f n w k w'
  tabled {k} room wrote =
      record { room = room; wrote = wrote; next = λ h. record { fits = omega (arith, room.fits, wrote.behind, wrote.long, up-to f n k h) } }

  pub tabled_start : Room w (joined (tabulate f n)) → Tabled f n w 0 w
  unfolding tabulate joined
  tabled_start room = tabled room (wrote_none w)

  pub tabled_more : {k : ℕ} {w' w'' : Writer} → Tabled f n w k w' → k < n → Wrote w' (f k) w'' → Tabled f n w (k + 1) w''
  tabled_more {k} {w'} {w''} t h next =
      let rows = joined (tabulate f k) in
      let fits : w.size + length rows ≤ length w.buffer.now = omega (arith, t.room.fits, up-to f n k h) in
      tabled t.room (rw (more f k) (record {
        holds = next.holds ∙ rw t.wrote.holds (put_put w.buffer.now rows (f k) w.size w'.size fits t.wrote.behind);
        behind = omega (arith, next.behind, t.wrote.behind, length-append rows (f k));
        long = next.long ∙ t.wrote.long;
        same_buffer = next.same_buffer ∙ t.wrote.same_buffer;
      }))

pub ruleset tables = (tabled_start, tabled_more)
