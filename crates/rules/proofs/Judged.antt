-- What a judgement by `?` comes to: an error is the first breach, whatever is judged behind it, and where a rule is passed, the next ones decide.
use Rattle.std.proofs.Common.{◌≡◌, ◌≢◌, ℕ, List, [], ◌∷◌, refl, sym, ◌∙◌, arith}
use Rattle.rules.specs.Breach.{first, first_breach}
use Rattle.rules.specs.Refusals.{row_of}
use Rattle.rules.specs.declared.refusal.Refusal.{Refusal}
use Rattle.rules.proofs.Kept.{first_some, first_next}

-- no row has the number 0
pub some_row : (r : Refusal) → row_of r ≢ 0
some_row r e = grind arith

pub err_first : (r : Refusal) (a b : ℕ) → row_of r ≡ a → row_of r ≡ first a b
err_first r a b e = e ∙ sym (first_some a b (λ none. some_row r (e ∙ none)))

pub ok_first : (a b : ℕ) → 0 ≡ a → first a b ≡ b
ok_first a b e = first_next a b (sym e)

pub err_listed : (r : Refusal) (b : ℕ) (bs : List ℕ) → row_of r ≡ b → row_of r ≡ first_breach (b ∷ bs)
unfolding first_breach
err_listed r b bs e = err_first r b (first_breach bs) e

pub ok_listed : (b : ℕ) (bs : List ℕ) → 0 ≡ b → first_breach (b ∷ bs) ≡ first_breach bs
unfolding first_breach
ok_listed b bs e = ok_first b (first_breach bs) e

pub none_listed : 0 ≡ first_breach []
unfolding first_breach
none_listed = refl

-- these, for a function that judges by `?`
pub ruleset judged = (err_first, ok_first, err_listed, ok_listed, none_listed)
