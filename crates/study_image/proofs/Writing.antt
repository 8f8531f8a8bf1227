-- Rows that are written one behind the other, each of one width.
use Rattle.std.proofs.Common.{ap, ◌≡◌, ℕ, ◌+◌, ◌*◌, ◌≤◌, List, [], ◌∷◌, ◌++◌, length, append_assoc, append-nil, length-append, add-one, refl, ◌∙◌, arith}
use Rattle.lists.specs.Rows.{put, joined}
use Rattle.lists.specs.Tabulate.{tabulate}
use Rattle.lists.proofs.Joined.{joined-last}
use Rattle.study.specs.declared.Study.{Study}
use Rattle.study_image.specs.Image.{component_rows, gate_rows, load_rows, image_of}
use Rattle.text.specs.declared.writer.Writer.{Writer}
use Rattle.text.specs.Writer.{Wrote}
use Rattle.text.proofs.Written.{put_put, wrote_none}

-- what is written, and something behind it
pub wrote_more : {w w' w'' : Writer} {x y : List ℕ} → Wrote w x w' → Wrote w' y w'' → w.size + length x ≤ length w.buffer.now → Wrote w (x ++ y) w''
wrote_more {w} {w'} {w''} {x} {y} first next room =
    record {
      holds = next.holds ∙ rw first.holds (put_put w.buffer.now x y w.size w'.size room first.behind);
      behind = omega (arith, next.behind, first.behind, length-append x y);
      long = next.long ∙ first.long;
      same_buffer = next.same_buffer ∙ first.same_buffer;
    }

-- the first k rows are written
pub record Placed (row : ℕ → List ℕ) (width : ℕ) (w : Writer) (k : ℕ) (w' : Writer) : Type 0 where
  pub wrote : Wrote w (joined (tabulate row k)) w'
  pub size : w'.size ≡ w.size + k * width
  pub long : length w'.buffer.now ≡ length w.buffer.now
  pub inside : w'.size ≤ length w.buffer.now

pub placed_start : {row : ℕ → List ℕ} {width : ℕ} {w : Writer} → w.size ≤ length w.buffer.now → Placed row width w 0 w
unfolding tabulate joined
placed_start {w = w} room = record { wrote = wrote_none w; size = omega arith; long = refl; inside = room }

pub placed-more : {row : ℕ → List ℕ} {width k : ℕ} {w w' w'' : Writer} → Placed row width w k w' → Wrote w' (row k) w'' → length (row k) ≡ width
    → w''.size ≤ length w.buffer.now → Placed row width w (k + 1) w''
unfolding tabulate
placed-more {row} {width} {k} {w} {w'} {w''} placed next wide room =
    let last : w''.size ≡ w'.size + length (row k) = next.behind in
    record {
      wrote = rw (add-one, joined-last (tabulate row k) (row k)) (wrote_more placed.wrote next (omega (arith, placed.wrote.behind, placed.inside)));
      size = omega (arith, placed.size, last, wide);
      long = next.long ∙ placed.long;
      inside = room;
    }

as-joined : (a b c d : List ℕ) → a ++ b ++ c ++ d ≡ joined (a ∷ b ∷ c ∷ d ∷ [])
unfolding joined
as-joined a b c d = simp (append_assoc, append-nil)

-- the fields of a study are written at the front
pub image_written : (t : Study) {w w₁ w₂ w₃ w₄ : Writer} {old : List ℕ} → w.buffer.now ≡ old → w.size ≡ 0 → Wrote w (t.components ∷ t.gates ∷ t.loads ∷ []) w₁
    → Wrote w₁ (component_rows t.component) w₂ → Wrote w₂ (gate_rows t.gate) w₃ → Wrote w₃ (load_rows t.load) w₄ → w₃.size ≤ length old
    → w₄.buffer.now ≡ put old 0 (image_of t)
unfolding image_of
image_written t {w} {w₁} {w₂} {w₃} {old = old} same none counts components gates loads room =
    let long : length w.buffer.now ≡ length old = ap length same in
    let first : w₁.size ≡ w.size + 3 = counts.behind in
    let second : w₂.size ≡ w₁.size + length (component_rows t.component) = components.behind in
    let third : w₃.size ≡ w₂.size + length (gate_rows t.gate) = gates.behind in
    let two = wrote_more counts components (omega arith) in
    let three = wrote_more two gates (omega arith) in
    let all = rw (same, none) at (wrote_more three loads (omega arith)).holds in
    all ∙ ap (put old 0) (as-joined (t.components ∷ t.gates ∷ t.loads ∷ []) (component_rows t.component) (gate_rows t.gate) (load_rows t.load))
