-- What carries the code that reads a tree: each of its exits, and the loop over the subtrees of a node.
use Rattle.std.proofs.Common.{ℕ, zero, suc, Result, Ok, Err, IsErrAnd, ◌+◌, ◌<◌, ◌≤◌, ◌≡◌, refl, sym, ap, ◌∙◌, List, [], ◌∷◌, length, get_or, set, arith}
use Rattle.std.proofs.lemmas.List.{set-get_or}
use borrow.Author.Tests.{eq-eqb, ne_eqb}
use Rattle.rules.specs.declared.refusal.Refusal.{Refusal}
use Rattle.rules.specs.Refusals.{row_of}
use Rattle.rules.specs.Table.{node_fault}
use Rattle.entries.specs.Entries.{blank_mark}
use Rattle.paths.specs.Blocks.{Block}
use Rattle.reading.specs.Reader.{Read, Reader, refused, got, judge, repeat, turn, ◌>>◌}
use Rattle.reading.proofs.Repeats.{RepeatLeft, repeat-start, repeat-more, repeat-done, repeat-stopped}
use Rattle.drawn_tree.specs.Reading.{leaf_mark, asked, tree_byte}
use Rattle.drawn_tree.specs.Filling.{unasked, leaf_drawn, node_drawn, tree_drawn, branch_drawn, filled_of}
use Rattle.drawn_tree.proofs.Asked.{Free, unasked-less}

-- no row has the number 0
row-some : (r : Refusal) → row_of r ≡ 0 → ⊥
row-some r e = grind (arith, e)

-- what stands at a place is what was written there last
set-set : (l : List ℕ) (i a b : ℕ) → set (set l i a) i b ≡ set l i b
set-set [] i a b = refl
set-set (x ∷ l) zero a b = refl
set-set (x ∷ l) (suc i) a b = ap (λ (rest : List ℕ). x ∷ rest) (set-set l i a b)

-- a subtree of a node that asks this component: that of state i
abbrev pub subtree : List ℕ → ℕ → List ℕ → ℕ → ℕ → List ℕ → Reader (List ℕ)
subtree counts loads marks component i = tree_drawn counts loads (unasked marks) (set marks component i)

-- ---- a rule that is judged by the way

judged-broken : {A : Type 0} {breach : ℕ} (k : Reader A) (bytes : List ℕ) (r : Refusal) → row_of r ≡ breach → refused (row_of r) ≡ (judge breach >> k) bytes
judged-broken k bytes r broken = rw (← broken, ne_eqb (row_of r) 0 (row-some r)) refl

judged-kept : {A : Type 0} {breach : ℕ} (k : Reader A) (bytes : List ℕ) → 0 ≡ breach → k bytes ≡ (judge breach >> k) bytes
judged-kept k bytes kept = rw (← kept) refl

-- ---- the exits

-- a refusal that is handed on
pub handed-on : (answer : Result (Unit {0}) Refusal) (r : Refusal) {drawn : Read (List ℕ)} (table rest : List ℕ) → IsErrAnd answer (λ e. e ≡ r)
    → refused (row_of r) ≡ drawn → filled_of answer table rest ≡ drawn
handed-on (Ok u) r table rest same read = absurd same
handed-on (Err e) r table rest same read = ap (λ (r : Refusal). refused (row_of r)) same ∙ read

module _ (counts : List ℕ) (loads : ℕ) (marks table bytes : List ℕ) where
  -- what the bytes draw
  abbrev pub below : Read (List ℕ)
  below = branch_drawn counts loads marks table bytes

  pub drawn-short : (n : ℕ) → refused n ≡ tree_byte bytes → refused n ≡ below
  unfolding tree_drawn
  drawn-short n byte = rw (← byte) refl

  -- the first byte is read
  module _ {first : ℕ} {rest : List ℕ} (byte : got first rest ≡ tree_byte bytes) where
    pub drawn-leaf : first ≡ leaf_mark → leaf_drawn counts loads marks table rest ≡ below
    unfolding tree_drawn
    drawn-leaf leaf = rw (← byte, eq-eqb first leaf_mark leaf) refl

    node-there : (first ≡ leaf_mark → ⊥) → node_drawn counts marks first (subtree counts loads marks first) table rest ≡ below
    unfolding tree_drawn
    node-there other = rw (← byte, ne_eqb first leaf_mark other) refl

    pub drawn-refused : (first ≡ leaf_mark → ⊥) → (r : Refusal) → row_of r ≡ node_fault (length counts) first (asked marks first) → refused (row_of r) ≡ below
    unfolding node_drawn
    drawn-refused other r broken = judged-broken _ rest r broken ∙ node-there other

    pub drawn-node : (first ≡ leaf_mark → ⊥) → 0 ≡ node_fault (length counts) first (asked marks first)
        → repeat (subtree counts loads marks first) (get_or counts first 0) table rest ≡ below
    unfolding node_drawn
    drawn-node other kept = judged-kept _ rest kept ∙ node-there other

-- ---- the loop

-- the subtrees of the states below i are drawn; but for the component asked, the marks are those above the node
pub record Drawing (counts : List ℕ) (loads : ℕ) (marks₀ table₀ bytes₀ : List ℕ) (component states i : ℕ) (marks table bytes : List ℕ) : Type 0 where
  pub marked : set marks component blank_mark ≡ marks₀
  pub turns : RepeatLeft (subtree counts loads marks₀ component) states table₀ bytes₀ (got table bytes) i
  pub whole : Block counts table

module _ {counts : List ℕ} {loads : ℕ} {marks₀ table₀ bytes₀ : List ℕ} {component states : ℕ} where
  pub drawing-start : Free (length counts) marks₀ component → Block counts table₀
      → Drawing counts loads marks₀ table₀ bytes₀ component states 0 marks₀ table₀ bytes₀
  drawing-start free b = record { marked = rw free.free at (set-get_or marks₀ component 0); turns = repeat-start; whole = b }

  module _ {i : ℕ} {marks table bytes : List ℕ} (w : Drawing counts loads marks₀ table₀ bytes₀ component states i marks table bytes)
      (free : Free (length counts) marks₀ component) (few : states ≤ blank_mark) (h : i < states) where
    -- the branch of state i
    branch : set marks component i ≡ set marks₀ component i
    branch = sym (set-set marks component blank_mark i) ∙ ap (λ (m : List ℕ). set m component i) w.marked

    one-asked : suc (unasked (set marks₀ component i)) ≡ unasked marks₀
    one-asked = unasked-less marks₀ component i free.free (λ blank. omega (arith, blank, h, few))

    pub fewer-left : unasked (set marks component i) < unasked marks₀
    fewer-left = rw branch (omega (arith, one-asked))

    one-turn : branch_drawn counts loads (set marks component i) table bytes ≡ turn (subtree counts loads marks₀ component) i (got table bytes)
    one-turn =
        ap (λ (m : List ℕ). branch_drawn counts loads m table bytes) branch
        ∙ ap (λ (levels : ℕ). tree_drawn counts loads levels (set marks₀ component i) table bytes) one-asked

    pub drawing-more : {marks' table' bytes' : List ℕ} → got table' bytes' ≡ branch_drawn counts loads (set marks component i) table bytes
        → marks' ≡ set marks component i → length table' ≡ length table
        → Drawing counts loads marks₀ table₀ bytes₀ component states (i + 1) marks' table' bytes'
    drawing-more read same long =
        record {
          marked = ap (λ (m : List ℕ). set m component blank_mark) same ∙ set-set marks component i blank_mark ∙ w.marked;
          turns = repeat-more w.turns h (read ∙ one-turn);
          whole = record { long = long ∙ w.whole.long; some = w.whole.some; most = w.whole.most };
        }

    pub drawing-stopped : {n : ℕ} → refused n ≡ branch_drawn counts loads (set marks component i) table bytes
        → refused n ≡ repeat (subtree counts loads marks₀ component) states table₀ bytes₀
    drawing-stopped read = repeat-stopped (repeat-more w.turns h (read ∙ one-turn))

  pub drawing-done : {i : ℕ} {marks table bytes : List ℕ} → Drawing counts loads marks₀ table₀ bytes₀ component states i marks table bytes → states ≤ i
      → got table bytes ≡ repeat (subtree counts loads marks₀ component) states table₀ bytes₀
  drawing-done w h = repeat-done w.turns h
