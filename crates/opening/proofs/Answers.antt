-- What opening answers by what was read.
use Prim.Native.Nat.{ℕ, suc}
use mathlib.Core.Path.{◌≡◌, refl}
use mathlib.Core.List.{List, [], ◌∷◌}
use native.Mathlib.Nat.{zero-lt-suc}
use native.Mathlib.Omega.{arith}
use borrow.Author.Tests.{lt-ltb}
use lib.ListN.{length}
use Rattle.rules.specs.Breach.{refuse}
use Rattle.reading.specs.Reader.{refused, got}
use Rattle.study.specs.declared.Study.{Study}
use Rattle.answers.specs.Answered.{answered}
use Rattle.answers.specs.Answers.{finished}
use Rattle.opening.specs.Opening.{answer, refused_opening}
use Rattle.std.specs.Prelude.{Err}

pub is-refused : (n : ℕ) → (answer (refused n)).outcome ≡ Err n
unfolding answer refused_opening answered
is-refused n = refl

pub ends : (t : Study) → (answer (got t [])).outcome ≡ finished
unfolding answer refuse answered
ends t = refl

-- bytes are left over
pub left_over : (t : Study) (b : ℕ) (rest : List ℕ) → answer (got t (b ∷ rest)) ≡ refused_opening 15
unfolding answer refuse answered
left_over t b rest = rw (lt-ltb 0 (suc (length rest)) (zero-lt-suc (length rest)))

pub left : (t : Study) (b : ℕ) (rest : List ℕ) → (answer (got t (b ∷ rest))).outcome ≡ Err 15
unfolding refused_opening
left t b rest = rw (left_over t b rest)

pub not-both : (n : ℕ) → finished ≡ Err n → ⊥
not-both n e = let z : ◌≡◌ {A = ℕ} 0 1 = cc in omega arith
