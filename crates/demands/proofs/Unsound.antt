-- An altered study is refused by 16 in every later call, and nothing else is; and each call is refused by the numbers that are listed for it. What
-- carries it: 16 heads every list of breaches, and the rows behind it are other rows of the table.
use Prim.Native.Nat.{ℕ}
use mathlib.Core.Path.{◌≡◌, refl, sym, subst, ◌∙◌}
use mathlib.Core.Bool.{Bool, true, false, false≢true, not}
use mathlib.Core.List.{List, [], ◌∷◌, ◌++◌}
use mathlib.Core.Logic.{inl, inr}
use native.Mathlib.Omega.{arith}
use lib.Dec.{eqb}
use borrow.Author.Tests.{eqb-true, eqb-false}
use Rattle.lists.specs.OneOf.{OneOf}
use Rattle.rules.specs.Breach.{refuse, first_breach}
use Rattle.rules.specs.Table.{unsound_fault}
use Rattle.rules.proofs.Kept.{front_kept, front-broken}
use Rattle.study.specs.declared.Study.{Study}
use Rattle.study.specs.Joint.{state_counts}
use Rattle.answers.specs.Told.{refusal}
use Rattle.answers.proofs.Answered.{tells-refusal, some-breach, breach-told}
use Rattle.soundness.specs.Check.{sound, probabilities_fault}
use Rattle.soundness.specs.Sound.{Sound}
use Rattle.soundness.proofs.Checked.{check-refuses, none-unsound}
use Rattle.drawn_tree.specs.Laws.{DrawnRow}
use Rattle.drawn_tree.proofs.Judged.{drawn-rows}
use Rattle.meaning.specs.Meaning.{Meaning, by_gates, by_tree, meaning_fault}
use Rattle.evaluation.specs.Rooms.{pair_fault}
use Rattle.demands.specs.Calls.{Call, an_edit, list_paths, path_bounds, class_bounds, load_bounds, figures, write_study}
use Rattle.demands.specs.Calls.{call_told, call_breaches, call_values, meaning_numbers, numbers_behind}
use Rattle.demands.specs.Demand1.{UnsoundRefused, NumbersListed}
use Rattle.demands.specs.Edits.{probabilities, customers, minutes}
use Rattle.demands.proofs.Finished.{behind, headed, finished}
use Rattle.demands.proofs.OneOf.{NoneOr, of-refuse, of-unless, of_none, of-more, among, one-among, one_right, more_left, more-before}
use Rattle.demands.proofs.Refusals.{calls-refuse}

-- ---- which numbers stand behind it

-- 5 for a state that is not there, then 6
of-probabilities : (numbers : List ℕ) (states p1 p2 p3 : ℕ) → OneOf numbers 5 → OneOf numbers 6 → NoneOr numbers (probabilities_fault states p1 p2 p3)
unfolding probabilities_fault
of-probabilities numbers states p1 p2 p3 five six =
    of-more numbers _ _ (of-unless numbers _ _ _ (of-refuse numbers 5 _ five))
    (of-more numbers _ _ (of-unless numbers _ _ _ (of-refuse numbers 5 _ five))
    (of-more numbers _ _ (of-unless numbers _ _ _ (of-refuse numbers 5 _ five)) (of-more numbers _ _ (of-refuse numbers 6 _ six) (of_none numbers))))

-- a single row
of_row : (n : ℕ) (broken : Bool) → NoneOr (n ∷ []) (first_breach (refuse n broken ∷ []))
of_row n broken = of-more (n ∷ []) _ [] (of-refuse (n ∷ []) n broken (inl refl)) (of_none (n ∷ []))

-- 17, then one row more
of-item : (n : ℕ) (lacks broken : Bool) → NoneOr (17 ∷ n ∷ []) (first_breach (refuse 17 lacks ∷ refuse n broken ∷ []))
of-item n lacks broken =
    let numbers : List ℕ = 17 ∷ n ∷ [] in
    of-more numbers _ _ (of-refuse numbers 17 lacks (inl refl)) (of-more numbers _ [] (of-refuse numbers n broken (inr (inl refl))) (of_none numbers))

-- 18 for either of two slices
pub of_pair : (numbers : List ℕ) (need lower upper : ℕ) → OneOf numbers 18 → NoneOr numbers (pair_fault need lower upper)
unfolding pair_fault
of_pair numbers need lower upper here =
    of-more numbers _ _ (of-refuse numbers 18 _ here) (of-more numbers _ [] (of-refuse numbers 18 _ here) (of_none numbers))

-- a drawn tree has the rows 20 to 22, and gates have none
of-drawn : (n : ℕ) → ((n ≡ 0 → ⊥) → DrawnRow n) → NoneOr (20 ∷ 21 ∷ 22 ∷ []) n
of-drawn n row = go (eqb n 0) refl
  where
    third : DrawnRow n → (b : Bool) → eqb n 20 ≡ b → (c : Bool) → eqb n 21 ≡ c → OneOf (20 ∷ 21 ∷ 22 ∷ []) n
    third r true e c e' = inl (eqb-true n 20 e)
    third r false e true e' = inr (inl (eqb-true n 21 e'))
    third r false e false e' = inr (inr (inl (omega (arith, r.least, r.most, eqb-false n 20 e, eqb-false n 21 e'))))

    go : (b : Bool) → eqb n 0 ≡ b → NoneOr (20 ∷ 21 ∷ 22 ∷ []) n
    go true e = inl (eqb-true n 0 e)
    go false e = inr (third (row (eqb-false n 0 e)) (eqb n 20) refl (eqb n 21) refl)

of-meaning : (m : Meaning) (t : Study) → NoneOr (meaning_numbers m) (meaning_fault m t)
of-meaning by_gates t = inl refl
of-meaning (by_tree tree) t = of-drawn _ (drawn-rows (state_counts t) t.loads tree _ refl)

-- the meaning, then a breach with one number
of-meant : (m : Meaning) (t : Study) (n : ℕ) {breach : ℕ} → ((numbers : List ℕ) → OneOf numbers n → NoneOr numbers breach)
    → NoneOr (meaning_numbers m ++ n ∷ []) (first_breach (meaning_fault m t ∷ breach ∷ []))
of-meant m t n last =
    let numbers : List ℕ = meaning_numbers m ++ n ∷ [] in
    of-more numbers _ _ (more_left (meaning_numbers m) (n ∷ []) _ (of-meaning m t))
    (of-more numbers _ [] (last numbers (one_right (meaning_numbers m) (n ∷ []) n (inl refl))) (of_none numbers))

numbers-behind : (c : Call) (t : Study) → NoneOr (numbers_behind c) (first_breach (behind c t))
numbers-behind (an_edit (probabilities i p1 p2 p3)) t =
    let numbers : List ℕ = 17 ∷ 5 ∷ 6 ∷ [] in
    of-more numbers _ _ (of-refuse numbers 17 _ (inl refl))
    (of-more numbers _ [] (of-probabilities numbers _ p1 p2 p3 (inr (inl refl)) (inr (inr (inl refl)))) (of_none numbers))
numbers-behind (an_edit (customers j n)) t = of-item 14 _ _
numbers-behind (an_edit (minutes j n)) t = of-item 14 _ _
numbers-behind (list_paths m buffer) t = of-meant m t 18 (λ numbers. of-refuse numbers 18 _)
numbers-behind (path_bounds m lower upper) t = of-meant m t 18 (λ numbers. of_pair numbers _ _ _)
numbers-behind (class_bounds m lower upper) t = of-meant m t 18 (λ numbers. of_pair numbers _ _ _)
numbers-behind (load_bounds m j) t =
    let numbers : List ℕ = 17 ∷ meaning_numbers m in
    of-more numbers _ _ (of-refuse numbers 17 _ (inl refl))
    (of-more numbers _ [] (more-before 17 (meaning_numbers m) _ (of-meaning m t)) (of_none numbers))
numbers-behind (figures m) t = of-meant m t 19 (λ numbers. of-refuse numbers 19 _)
numbers-behind (write_study buffer) t = of_row 18 _

-- and 16 is none of them
other-meaning : (m : Meaning) (n : ℕ) → eqb 16 n ≡ false → among (0 ∷ meaning_numbers m ++ n ∷ []) 16 ≡ false
other-meaning by_gates n other = rw other
other-meaning (by_tree tree) n other = rw other

other-numbers : (c : Call) → among (0 ∷ numbers_behind c) 16 ≡ false
other-numbers (an_edit (probabilities i p1 p2 p3)) = refl
other-numbers (an_edit (customers j n)) = refl
other-numbers (an_edit (minutes j n)) = refl
other-numbers (list_paths m buffer) = other-meaning m 18 refl
other-numbers (path_bounds m lower upper) = other-meaning m 18 refl
other-numbers (class_bounds m lower upper) = other-meaning m 18 refl
other-numbers (load_bounds by_gates j) = refl
other-numbers (load_bounds (by_tree tree) j) = refl
other-numbers (figures m) = other-meaning m 19 refl
other-numbers (write_study buffer) = refl

not-sixteen : (c : Call) → OneOf (0 ∷ numbers_behind c) 16 → ⊥
not-sixteen c h = false≢true (sym (other-numbers c) ∙ one-among (0 ∷ numbers_behind c) 16 h)

-- ---- 16

-- a study that is not sound breaks the row of 16
unsound-fault : (t : Study) → (Sound t → ⊥) → unsound_fault (sound t) ≡ 16
unfolding refuse
unsound-fault t unsound = go (sound t) refl
  where
    go : (b : Bool) → sound t ≡ b → unsound_fault b ≡ 16
    go true e = absurd (unsound (check-refuses t e))
    go false e = refl

sixteen : (c : Call) (t : Study) → (Sound t → ⊥) → call_told c t ≡ refusal 16
sixteen c t unsound =
    let first : first_breach (call_breaches c t) ≡ 16 =
    rw (headed c t) (sym (front-broken (behind c t) (sym (unsound-fault t unsound)) (λ none. omega arith))) in
    (calls-refuse.refuses c t).answer ∙ tells-refusal _ (call_values c t) (λ none. omega (arith, first)) ∙ (λ i. refusal (first i))

no_other : (c : Call) (t : Study) → call_told c t ≡ refusal 16 → Sound t → ⊥
no_other c t told s =
    let first = breach-told _ (call_values c t) 16 (calls-refuse.refuses c t).answer told in
    let behind-it : first_breach (behind c t) ≡ 16 = sym (front_kept _ (behind c t) (none-unsound t s)) ∙ (rw (headed c t) at first) in
    not-sixteen c (subst (OneOf (0 ∷ numbers_behind c)) behind-it (numbers-behind c t))

pub unsound-refused : UnsoundRefused
unsound-refused = record { sixteen = sixteen; no_other = no_other; told_sound = λ c t values told. (finished c t values told).is_sound }

-- ---- the numbers of each call

more_numbers : (c : Call) (n : ℕ) → OneOf (0 ∷ numbers_behind c) n → NoneOr (16 ∷ numbers_behind c) n
more_numbers c n (inl none) = inl none
more_numbers c n (inr here) = inr (inr here)

some_number : (numbers : List ℕ) (n : ℕ) → (n ≡ 0 → ⊥) → NoneOr numbers n → OneOf numbers n
some_number numbers n some (inl none) = absurd (some none)
some_number numbers n some (inr here) = here

pub numbers-listed : NumbersListed
numbers-listed c t n told =
    let is = (calls-refuse.refuses c t).answer in
    let first = breach-told _ (call_values c t) n is told in
    let all : List ℕ = 16 ∷ numbers_behind c in
    let one = of-more all _ (behind c t) (of-refuse all 16 (not (sound t)) (inl refl)) (more_numbers c _ (numbers-behind c t)) in
    some_number all n (λ none. some-breach _ (call_values c t) n is told (first ∙ none))
    (subst (NoneOr all) (sym (λ i. first_breach (headed c t i)) ∙ first) one)
