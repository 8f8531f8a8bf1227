-- Each joint state fits one path and only one, which bears its class: by induction over the components, since it fits only rows of its own
-- state, and at a blank component the rows of all states are alike.
use mathlib.Core.Path.{refl, sym, ap, ◌∙◌}
use mathlib.Core.List.{[], ◌∷◌}
use native.Mathlib.Omega.{arith}
use lib.ListN.{length, get_or}
use Rattle.lists.specs.Counting.{those}
use Rattle.lists.specs.Product.{product}
use Rattle.joint_states.specs.JointStates.{number_of}
use Rattle.joint_states.proofs.Numbered.{joint-head, joint-tail, joint-none}
use Rattle.entries.specs.Entries.{entry}
use Rattle.entries.proofs.Entries.{own-class, class-behind}
use Rattle.paths.specs.Paths.{part, is_blank, paths}
use Rattle.paths.specs.Ways.{mark}
use Rattle.paths.specs.Words.{fits, fitting}
use Rattle.paths.specs.Theorems.{OnePathEach}
use Rattle.paths.proofs.Alike.{blank-alike}
use Rattle.paths.proofs.Fitting.{fitting-branches}
use Rattle.paths.proofs.Parts.{first_some, first-most, part-block, class-part}
use Rattle.paths.proofs.Ways.{part_paths, paths-branches, headed}

pub one-path-each : OnePathEach
unfolding paths those fits number_of
one-path-each [] block b [] j = record { path = entry [] (get_or block 0 0); only = refl; bears = own-class [] (get_or block 0 0) }
one-path-each [] block b (s ∷ x) j = absurd (omega (arith, j.long))
one-path-each (c ∷ cs) block b [] j = absurd (joint-none j)
one-path-each (c ∷ cs) block b (s ∷ x) j =
    let blank = is_blank c (product cs) block in
    let rest = one-path-each cs (part (product cs) s block) (part-block b s (joint-head j)) x (joint-tail j) in
    record {
      path = mark blank s ∷ rest.path;
      only =
          ap (fitting (s ∷ x)) (paths-branches c cs block)
          ∙ fitting-branches s x (part_paths cs block) blank c (joint-head j) (first-most b)
          (λ e. ap (paths cs) (blank-alike c (product cs) block e 0 s (first_some b) (joint-head j)))
          ∙ ap (headed (mark blank s)) rest.only;
      bears = class-behind (mark blank s) (length cs) rest.path ∙ rest.bears ∙ sym (class-part c cs block s x (joint-tail j));
    }
