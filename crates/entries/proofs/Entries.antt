-- Laws of entries: how long one is and which class it bears; and of entries in a list, where each stands, and that entries put at the front of a buffer
-- stand there.
use Prim.Native.Nat.{ℕ, suc, ◌+◌, ◌*◌, ◌<◌, ◌≤◌}
use mathlib.Core.Path.{◌≡◌, refl, sym, ap, ◌∙◌}
use mathlib.Core.List.{List, [], ◌∷◌, append-nil}
use native.Mathlib.Nat.{mul-le-mul_right}
use native.Mathlib.Omega.{arith}
use lib.ListN.{length, get_or, take, drop, length-append, length-drop}
use native.Mathlib.Decide.{dec_lt}
use lib.Seq.{get_or-drop, get_or-take, length-take-le, take-append-le, drop-append-le, drop-append_seam}
use Rattle.lists.specs.Rows.{put, joined}
use Rattle.lists.proofs.Elements.{Every}
use Rattle.lists.proofs.Joined.{joined-long}
use Rattle.lists.proofs.Rows.{row-at}
use Rattle.lists.proofs.Tabulated.{length-tabulate, get_or-tabulate, tabulated}
use Rattle.entries.specs.Entries.{byte_values, class_places, class_code, class_read, entry_bytes, entry, class_borne, entry_at, entries_of}
use Rattle.entries.specs.Lists.{EntryIn, PathList}
use Rattle.entries.proofs.ClassBytes.{code-long, code_read}

-- ---- an entry

pub own-long : (marks : List ℕ) (class : ℕ) → length (entry marks class) ≡ entry_bytes (length marks)
unfolding entry
own-long marks class = length-append marks (class_code class) ∙ ap (λ (n : ℕ). length marks + n) (code-long class)

-- it bears its own class
pub own-class : (marks : List ℕ) (class : ℕ) → class_borne (length marks) (entry marks class) ≡ class
unfolding entry class_borne
own-class marks class =
    ap class_read (drop-append_seam marks (class_code class) ∙ sym (append-nil (class_code class))) ∙ code_read class []

-- and so it does with one mark more in front
pub class-behind : (mark n : ℕ) (entry : List ℕ) → class_borne (suc n) (mark ∷ entry) ≡ class_borne n entry
unfolding class_borne
class-behind mark n entry = refl

-- ---- the entries of a list

pub entry-at-long : {list : List ℕ} {n k : ℕ} (e : List ℕ) → EntryIn list n k → e ≡ entry_at n list k → length e ≡ entry_bytes n
entry-at-long {list} {n} {k} e within same =
    ap length same ∙ length-take-le (entry_bytes n) (drop (k * entry_bytes n) list) (rw (length-drop (k * entry_bytes n) list) (omega (arith, within.inside)))

module _ {n paths : ℕ} {list : List ℕ} (l : PathList n paths list) where
  pub entry_in : {k : ℕ} → k < paths → EntryIn list n k
  entry_in {k} h =
      let room : suc k * entry_bytes n ≤ paths * entry_bytes n = mul-le-mul_right (entry_bytes n) h in
      record { inside = omega (arith, room, l.long) }

  pub entry-long : {k : ℕ} (e : List ℕ) → k < paths → e ≡ entry_at n list k → length e ≡ entry_bytes n
  entry-long e h same = entry-at-long e (entry_in h) same

pub entries-long : (n paths : ℕ) (list : List ℕ) → length (entries_of n paths list) ≡ paths
unfolding entries_of
entries-long n paths list = length-tabulate (entry_at n list) paths

pub entry-is : (n paths : ℕ) (list : List ℕ) (k : ℕ) → k < paths → get_or (entries_of n paths list) k [] ≡ entry_at n list k
unfolding entries_of
entry-is n paths list k h = get_or-tabulate (entry_at n list) paths k [] h

-- ---- entries put at the front of a buffer

pub entries-put : (n : ℕ) (rows : List (List ℕ)) (d : List ℕ) → Every (λ (row : List ℕ). length row ≡ entry_bytes n) [] rows
    → entries_of n (length rows) (put d 0 (joined rows)) ≡ rows
unfolding entries_of put
entries-put n rows d each = sym (tabulated (entry_at n (put d 0 (joined rows))) (length rows) rows [] refl at)
  where
    at : (k : ℕ) → k < length rows → get_or rows k [] ≡ entry_at n (put d 0 (joined rows)) k
    at k h =
        let width = entry_bytes n in
        let x = joined rows in
        let rest = drop (0 + length x) d in
        let room : (k + 1) * width ≤ length rows * width = mul-le-mul_right width (omega arith) in
        let inside : k * width + width ≤ length x = omega (arith, room, joined-long width rows each) in
        sym (row-at width rows k each h)
        ∙ sym (take-append-le width (drop (k * width) x) rest (rw (length-drop (k * width) x) (omega (arith, inside))))
        ∙ ap (take width) (sym (drop-append-le (k * width) x rest (omega (arith, inside))))

-- ---- the class of an entry of bytes

pub class-places : (n k : ℕ) (list : List ℕ) → ((i : ℕ) → get_or list i 0 < byte_values) → class_borne n (entry_at n list k) < class_places
unfolding class_borne class_read
class-places n k list bytes = go (dec_lt (n + 0) (entry_bytes n))
  where
    go : Dec (n + 0 < entry_bytes n) → get_or (drop n (entry_at n list k)) 0 0 < class_places
    go (yes h) =
        rw (get_or-drop n (entry_at n list k) 0 0 ∙ get_or-take (entry_bytes n) (drop (k * entry_bytes n) list) (n + 0) 0 h ∙ get_or-drop (k * entry_bytes n) list (n + 0) 0)
        (bytes (k * entry_bytes n + (n + 0)))
    go (no h) = absurd (omega arith)
