-- An array that is filled by calls of one function, which changes nothing, with the number of each place.
use Rattle.std.proofs.Common.{◌≡◌, ℕ, zero, suc, ◌+◌, ◌<◌, List, get_or, subst, ◌∙◌, arith}
use denote.Param.Members.{Mut, Called}
use Rattle.std.specs.Array.{IsFromFnResult, IsFromFnResultFrom}
use Rattle.lists.specs.Tabulate.{tabulate}
use Rattle.lists.proofs.Tabulated.{tabulated}

module _ {F B : Type 0} (g : Mut F (ℕ × Unit {0}) B) (f : F) (v : ℕ → B) where
  abbrev pub Gives : Type 0
  Gives = (i : ℕ) (y : B) (f' : F) → Called g f (i, tt) y f' → (y ≡ v i) × (f' ≡ f)

  from : Gives → (n i : ℕ) (ys : List B) (d : B) → IsFromFnResultFrom g f ys i n → (k j : ℕ) → k < n → j ≡ i + k → get_or ys j d ≡ v j
  from gives zero i ys d all k j h e = absurd (omega arith)
  from gives (suc n) i ys d all zero j h e =
      let at : j ≡ i = omega arith in
      let called = gives i all.1 all.0 all.3 in
      rw at (all.2.1 d ∙ called.0)
  from gives (suc n) i ys d all (suc k) j h e =
      let called = gives i all.1 all.0 all.3 in
      from gives n (i + 1) ys d (subst (λ (q : F). IsFromFnResultFrom g q ys (i + 1) n) called.1 all.4) k j (omega arith) (omega arith)

module _ {F B : Type 0} {g : Mut F (ℕ × Unit {0}) B} {f : F} {ys : List B} {n : ℕ} (v : ℕ → B) (d : B) where
  pub read-all : IsFromFnResult g f ys n → Gives g f v → ys ≡ tabulate v n
  read-all all gives = tabulated v n ys d all.long (λ k h. from g f v gives n 0 ys d all.each k k h (omega arith))
