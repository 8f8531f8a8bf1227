-- Each list that a call answered: its entries are such, every joint state fits one path, paths ascend, and a component is blank exactly where its state
-- changes no loss. What carries it: the buffer holds the paths of a model, which is good, and the paths of any good model do so.
use Prim.Native.Nat.{ℕ}
use mathlib.Core.Path.{◌≡◌, sym, subst}
use mathlib.Core.List.{List, []}
use native.Mathlib.Omega.{arith}
use lib.ListN.{length, get_or}
use Rattle.study.specs.declared.Study.{Study}
use Rattle.study.specs.Joint.{state_counts}
use Rattle.paths.specs.Words.{IsEntry, OnePath, Ascending, BlankIff}
use Rattle.model.specs.Model.{paths_of}
use Rattle.model.proofs.Paths
use Rattle.meaning.specs.Meaning.{Meaning, class_meant, model_of}
use Rattle.demands.specs.Demand3.{EachIsEntry, OnePathEach, PathsAscend, BlankExactly}
use Rattle.demands.specs.Listed.{ListedBy, paths_in}
use Rattle.demands.proofs.ListsEqual.{call-holds}

-- the paths in the buffer are those of the model
pub are-paths : (m : Meaning) (t : Study) (d : List ℕ) (p : ℕ) → ListedBy m t d p → paths_of (model_of m t) ≡ paths_in m t d p
unfolding model_of
are-paths m t d p answer = sym (call-holds m t d p answer).entries

pub each-entry : EachIsEntry
unfolding model_of
each-entry m t d p answer i h =
    let holds = call-holds m t d p answer in
    subst (λ (l : List (List ℕ)). IsEntry (state_counts t) (class_meant m t) (get_or l i [])) (are-paths m t d p answer)
    (Rattle.model.proofs.Paths.each-entry (model_of m t) holds.good i (omega (arith, holds.number)))

pub one-path : OnePathEach
unfolding model_of
one-path m t d p answer x j =
    subst (OnePath (length (state_counts t)) (class_meant m t x) x) (are-paths m t d p answer)
    (Rattle.model.proofs.Paths.one-path (model_of m t) (call-holds m t d p answer).good x j)

pub ascending : PathsAscend
unfolding model_of
ascending m t d p answer =
    subst (Ascending (length (state_counts t))) (are-paths m t d p answer)
    (Rattle.model.proofs.Paths.ascending (model_of m t) (call-holds m t d p answer).good)

pub blank-iff : BlankExactly
unfolding model_of
blank-iff m t d p answer i k h less =
    let holds = call-holds m t d p answer in
    subst (λ (l : List (List ℕ)). BlankIff (state_counts t) (class_meant m t) k (get_or l i [])) (are-paths m t d p answer)
    (Rattle.model.proofs.Paths.blank-iff (model_of m t) holds.good i k (omega (arith, holds.number)) less)
