-- Two lists are equal exactly when the two models lose the same loads in every joint state. What carries it: the bytes of a list are its entries one
-- behind the other, entries of one length are told apart by their bytes, and paths are the same exactly when all joint states are classed alike.
use Prim.Native.Nat.{ℕ, zero, suc, ◌+◌, ◌*◌, ◌≤◌}
use mathlib.Core.Path.{◌≡◌, refl, sym, ap, ◌∙◌}
use mathlib.Core.List.{List, [], ◌∷◌, ◌++◌}
use native.Mathlib.Nat.{zero-mul}
use native.Mathlib.Omega.{arith}
use lib.ListN.{length, get_or, take}
use lib.Seq.{take-add}
use Rattle.lists.specs.Bits.{bit}
use Rattle.lists.specs.Rows.{put, joined}
use Rattle.lists.proofs.Digits.{same_bits}
use Rattle.lists.proofs.Elements.{Every}
use Rattle.lists.proofs.Joined.{joined-last, joined-tells}
use Rattle.lists.proofs.Puts.{put-size}
use Rattle.rules.specs.Table.{room_fault}
use Rattle.rules.proofs.Kept.{both-kept}
use Rattle.rules.proofs.Rows.{room-kept}
use Rattle.study.specs.declared.Study.{Study}
use Rattle.answers.proofs.Answered.{filled-done}
use Rattle.entries.specs.Entries.{entry_bytes, entry_at, entries_of}
use Rattle.entries.proofs.Entries.{entries-put}
use Rattle.model.specs.Good.{Good}
use Rattle.model.specs.Listed.{Listed as Holds}
use Rattle.model.specs.Model.{Model, components, paths_of}
use Rattle.model.proofs.Listing.{entries-wide, list-need, paths-few}
use Rattle.model.proofs.Paths.{paths-same-iff}
use Rattle.drawn_tree.specs.Leaves.{asking}
use Rattle.drawn_tree.proofs.Leaves.{asking-reaches}
use Rattle.meaning.specs.Meaning.{Meaning, by_tree, meaning_fault, model_of}
use Rattle.meaning.proofs.Tables.{meant-good}
use Rattle.path_calls.specs.Listing.{path_list, list_fault, buffer_listed}
use Rattle.demands.specs.Calls.{list_paths}
use Rattle.demands.specs.Demand3.{LoseAlike, ListsEqual, ModelListsEqualIff, ListsEqualIff, Redrawn}
use Rattle.demands.specs.Listed.{ListedBy}
use Rattle.demands.proofs.Finished.{finished}

-- ---- the bytes of a list

-- the entries of a list, one behind the other, are the bytes at its front
bytes_of : (n paths : ℕ) (d : List ℕ) → joined (entries_of n paths d) ≡ take (paths * entry_bytes n) d
unfolding entries_of joined
bytes_of n zero d = rw zero-mul refl
bytes_of n (suc paths) d =
    let places : suc paths * entry_bytes n ≡ paths * entry_bytes n + entry_bytes n = omega arith in
    rw places
    (joined-last (entries_of n paths d) (entry_at n d paths)
    ∙ ap (λ (front : List ℕ). front ++ entry_at n d paths) (bytes_of n paths d)
    ∙ sym (take-add (paths * entry_bytes n) (entry_bytes n) d))

held_bytes : {m : Model} {p : ℕ} {d : List ℕ} → Holds m p d → take (p * entry_bytes (components m)) d ≡ joined (paths_of m)
held_bytes {m} {p} {d} held = sym (bytes_of (components m) p d) ∙ ap joined held.entries

-- ---- two models with the same state counts

module _ (m n : Model) (p q : ℕ) (d e : List ℕ) (counts : m.counts ≡ n.counts) (first : Holds m p d) (second : Holds n q e) where
  abbrev width : ℕ
  width = entry_bytes (components m)

  same_width : entry_bytes (components n) ≡ width
  same_width = ap (λ (l : List ℕ). entry_bytes (length l)) (sym counts)

  second-bytes : take (q * width) e ≡ joined (paths_of n)
  second-bytes = rw same_width at (held_bytes second)

  second-wide : Every (λ (row : List ℕ). length row ≡ width) [] (paths_of n)
  second-wide k h = entries-wide n second.good k h ∙ same_width

  same-paths : ListsEqual (components m) p q d e → paths_of m ≡ paths_of n
  same-paths equal =
      joined-tells width (paths_of m) (paths_of n) (entries-wide m first.good) second-wide
      (sym first.number ∙ equal.number ∙ second.number) (sym (held_bytes first) ∙ equal.bytes ∙ second-bytes)

  losses : ListsEqual (components m) p q d e → LoseAlike m n
  losses equal x j k =
      ap (λ (class : ℕ). bit class k) (paths-same-iff.classes m n first.good second.good counts (same-paths equal) x j)

  lists : LoseAlike m n → ListsEqual (components m) p q d e
  lists alike =
      let same = paths-same-iff.paths m n counts (λ x j. same_bits (m.class x) (n.class x) (alike x j)) in
      record {
        number = first.number ∙ ap length same ∙ sym second.number;
        bytes = held_bytes first ∙ ap joined same ∙ sym second-bytes;
      }

pub model-lists-equal-iff : ModelListsEqualIff
model-lists-equal-iff m n p q d e counts first second =
    record { same_losses = losses m n p q d e counts first second; same_lists = lists m n p q d e counts first second }

-- ---- two calls

-- a buffer that has the room holds the list of a good model once it is put there
put_holds : (m : Model) → Good m → {p : ℕ} (d list : List ℕ) → p ≡ length (paths_of m) → length (joined (paths_of m)) ≤ length d
    → list ≡ put d 0 (joined (paths_of m)) → Holds m p list
put_holds m good {p} d list number room e =
    let size = put-size d list 0 (joined (paths_of m)) (omega (arith, room)) e in
    record {
      good = good;
      number = number;
      room =
          record {
            components = good.counts.few;
            few = omega (arith, number, paths-few m good);
            long = rw number (omega (arith, list-need m good, size, room));
          };
      entries = rw (e, number) (entries-put (components m) (paths_of m) d (entries-wide m good));
    }

-- a call that was not refused leaves the list of its model in the buffer
pub call-holds : (m : Meaning) (t : Study) (d : List ℕ) (p : ℕ) → ListedBy m t d p → Holds (model_of m t) p (buffer_listed m t d)
unfolding buffer_listed list_fault
call-holds m t d p answer =
    let done = finished (list_paths m d) t (p ∷ []) answer in
    let count : length (path_list m t) ≡ p = cc in
    let need = length (joined (path_list m t)) in
    put_holds (model_of m t) (meant-good m t done.is_sound) d (buffer_listed m t d) (sym count)
    (room-kept need (length d) (both-kept (meaning_fault m t) (room_fault need (length d)) done.none_behind).right)
    (filled-done _ (joined (path_list m t)) d done.none)

pub lists-equal-iff : ListsEqualIff
unfolding model_of
lists-equal-iff m n t u p q d e first second counts =
    model-lists-equal-iff (model_of m t) (model_of n u) p q _ _ counts (call-holds m t d p first) (call-holds n u e q second)

-- ---- trees that are drawn anew

pub redrawn : Redrawn
unfolding model_of
redrawn =
    record {
      same_list =
          λ t tree other p q d e first second alike.
          (lists-equal-iff (by_tree tree) (by_tree other) t t p q d e first second refl).same_lists
          (λ x joint j. ap (λ (class : ℕ). bit class j) (alike x joint));
      changed_places =
          λ counts i k hi hk below x joint.
          asking-reaches counts i (λ (s : ℕ). asking counts k (below s)) x joint hi
          ∙ asking-reaches counts k (below (get_or x i 0)) x joint hk
          ∙ sym
          (asking-reaches counts k (λ (r : ℕ). asking counts i (λ (s : ℕ). below s r)) x joint hk
          ∙ asking-reaches counts i (λ (s : ℕ). below s (get_or x k 0)) x joint hi);
    }
