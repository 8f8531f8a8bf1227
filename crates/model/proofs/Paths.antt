-- What holds of the paths of any good model. What carries it: its classes are a block, and the paths of any block do so.
use Prim.Native.Nat.{ℕ}
use mathlib.Core.Path.{◌≡◌, sym, ap, subst, ◌∙◌}
use mathlib.Core.List.{List, []}
use lib.ListN.{get_or}
use lib.Seq.{ext_get_or}
use Rattle.lists.specs.Product.{product}
use Rattle.joint_states.specs.JointStates.{JointState}
use Rattle.joint_states.proofs.Numbered.{with_number}
use Rattle.paths.specs.Blocks.{Block, class_at}
use Rattle.paths.specs.Paths.{paths}
use Rattle.paths.specs.Words.{OnePath, BlankIff}
use Rattle.paths.proofs.Ascending.{paths-ascend}
use Rattle.paths.proofs.Blank.{blank-exactly}
use Rattle.paths.proofs.Entries.{each-entry as block-entry}
use Rattle.paths.proofs.OnePath.{one-path-each}
use Rattle.paths.proofs.Tell.{paths-tell}
use Rattle.model.specs.Good.{Good}
use Rattle.model.specs.Laws.{EachIsEntry, OnePathEach, PathsAscend, BlankExactly, ClassAlike, PathsTell}
use Rattle.model.specs.Model.{Model, components, classes_of, paths_of}
use Rattle.model.proofs.Classes.{classes-long, class-at, good-block}

pub each-entry : EachIsEntry
unfolding paths_of
each-entry m good i h =
    let e = block-entry m.counts (classes_of m) (good-block m good) i h in
    record {
      long = e.long;
      states = e.states;
      joint = e.joint;
      is_joint = e.is_joint;
      fitted = e.fitted;
      bears = e.bears ∙ class-at m e.joint e.is_joint;
    }

pub one-path : OnePathEach
unfolding paths_of
one-path m good x j =
    subst (λ (class : ℕ). OnePath (components m) class x (paths_of m)) (class-at m x j)
    (one-path-each m.counts (classes_of m) (good-block m good) x j)

pub ascending : PathsAscend
unfolding paths_of
ascending m good = paths-ascend m.counts (classes_of m) (good-block m good)

-- two ways to class joint states that agree on them tell the same components blank
blank-alike : (counts : List ℕ) (f g : List ℕ → ℕ) (k : ℕ) (entry : List ℕ) → ((x : List ℕ) → JointState counts x → f x ≡ g x)
    → BlankIff counts f k entry → BlankIff counts g k entry
blank-alike counts f g k entry agree iff =
    record {
      blank = λ e x y d. sym (agree x d.first) ∙ iff.blank e x y d ∙ agree y d.second;
      settled = λ same. iff.settled (λ x y d. agree x d.first ∙ same x y d ∙ sym (agree y d.second));
    }

pub blank-iff : BlankExactly
unfolding paths_of
blank-iff m good i k h less =
    blank-alike m.counts (class_at m.counts (classes_of m)) m.class k (get_or (paths_of m) i []) (class-at m)
    (blank-exactly m.counts (classes_of m) (good-block m good) i k h less)

-- ---- two models over the same state counts

module _ (m n : Model) (counts : m.counts ≡ n.counts) where
  -- the class that the second has for a joint state of the first
  second-class : (x : List ℕ) → JointState m.counts x → class_at m.counts (classes_of n) x ≡ n.class x
  second-class x j =
      ap (λ (l : List ℕ). class_at l (classes_of n) x) counts ∙ class-at n x (subst (λ (l : List ℕ). JointState l x) counts j)

  same-classes : ClassAlike m n → classes_of m ≡ classes_of n
  same-classes alike =
      ext_get_or 0 (classes_of m) (classes_of n) (classes-long m ∙ ap product counts ∙ sym (classes-long n))
      (λ k h.
      let w = with_number m.counts k (rw (classes-long m) at h) in
      rw (sym w.number) (class-at m w.joint w.is_joint ∙ alike w.joint w.is_joint ∙ sym (second-class w.joint w.is_joint)))

  -- the paths of the second over the state counts of the first
  second-paths : paths m.counts (classes_of n) ≡ paths_of n
  unfolding paths_of
  second-paths = ap (λ (l : List ℕ). paths l (classes_of n)) counts

  same-paths : ClassAlike m n → paths_of m ≡ paths_of n
  unfolding paths_of
  same-paths alike = ap (paths m.counts) (same-classes alike) ∙ second-paths

  paths-alike : Good m → Good n → paths_of m ≡ paths_of n → ClassAlike m n
  unfolding paths_of
  paths-alike good other same x j =
      let second : Block m.counts (classes_of n) = subst (λ (l : List ℕ). Block l (classes_of n)) (sym counts) (good-block n other) in
      let classes = paths-tell m.counts (classes_of m) (classes_of n) (good-block m good) second (same ∙ sym second-paths) in
      sym (class-at m x j) ∙ ap (λ (l : List ℕ). class_at m.counts l x) classes ∙ second-class x j

pub paths-same-iff : PathsTell
paths-same-iff =
    record { classes = λ m n good other counts. paths-alike m n counts good other; paths = λ m n counts. same-paths m n counts }
