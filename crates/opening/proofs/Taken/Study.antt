-- A study takes at most 2,023 bytes, and reading it is refused by the rows 1 to 15, by 1 only where there are no more bytes than that. So no study that
-- opens is longer, and one byte more decides the whole answer.
use Prim.Native.Nat.{ℕ, min, ◌+◌, ◌-◌, ◌*◌, ◌<◌, ◌≤◌}
use mathlib.Core.Path.{◌≡◌, refl, sym, ap, subst, ◌∙◌}
use mathlib.Core.List.{List, [], ◌∷◌, ◌++◌}
use mathlib.Core.Logic.{inl, inr}
use native.Mathlib.Decide.{dec_le}
use native.Mathlib.Omega.{arith}
use lib.ListN.{length, take, drop, take-append-drop}
use lib.Seq.{take_all, length-take-le}
use Rattle.rules.specs.Limits.{longest_study, most_components, most_gates, most_loads}
use Rattle.rules.specs.Table.{short}
use Rattle.reading.specs.Reader.{Read, refused, got, repeat}
use Rattle.reading.proofs.Ends.{EndsIn, Ends, ends-then, ends_return, ends-weaker, ends-repeat}
use Rattle.reading.proofs.Local.{Stands}
use Rattle.reading.proofs.Takes.{Refusal, Takes, ends-count, takes-return, takes-then, takes-repeat}
use Rattle.answers.proofs.Told.{done-told, refused-told}
use Rattle.study.specs.declared.Study.{Study}
use Rattle.study.specs.Joint.{states}
use Rattle.study.specs.Zero.{no_gates, no_loads}
use Rattle.opening.specs.Opening.{count, gate_record, load_record, placing, records, study, answer, opened}
use Rattle.opening.specs.Laws.{OpeningRow, OpeningRows, LongestStudy}
use Rattle.opening.proofs.Answers.{is-refused, ends, left, left_over, not-both}
use Rattle.opening.proofs.FirstBreach.{local-study}
use Rattle.opening.proofs.Taken.Components.{components-taken}
use Rattle.opening.proofs.Taken.Gate.{gate-taken}
use Rattle.opening.proofs.Taken.Load.{load-taken}
use Rattle.std.specs.Prelude.{Err}
use Rattle.answers.specs.Answers.{finished}

module _ {Short : Type 0} where
  -- gate 0 takes 27 bytes, and each of 31 others 59
  gates-taken : (counts : List ℕ) (gates n : ℕ) → gates ≤ most_gates → (n < 27 + 31 * 59 → Short)
      → Ends (Refusal Short) n (repeat (placing (gate_record counts)) gates no_gates) (λ gs left. n ≤ 27 + 31 * 59 + left)
  gates-taken counts gates n room few =
      ends-weaker (λ gs left taken. omega arith)
      (ends-repeat (λ i gs left. n ≤ 27 * min i 1 + 59 * (i - 1) + left) (placing (gate_record counts)) gates no_gates
      (λ i gs left less taken.
      ends-then (gate-taken counts i left (λ short. few (omega arith))) (λ g rest h. ends_return (omega arith))) (omega arith))

  loads-taken : (gates loads : ℕ) → Takes Short (loads * 10) (repeat (placing (load_record gates)) loads no_loads)
  loads-taken gates loads = takes-repeat (placing (load_record gates)) loads no_loads (λ j ls. takes-then (load-taken gates) (λ l. takes-return _))

  study-taken : (n : ℕ) → (n ≤ longest_study → Short) → Ends (Refusal Short) n study (λ t left. n ≤ longest_study + left)
  unfolding study records count
  study-taken n few =
      ends-then (ends-count _ most_components tt (λ less. few (omega arith)))
      (λ components n1 c.
      ends-then (ends-count _ most_gates tt (λ less. few (omega arith)))
      (λ gates n2 g.
      ends-then (ends-count _ most_loads tt (λ less. few (omega arith)))
      (λ loads n3 l.
      let counts : n ≡ 3 + n3 = omega arith in
      ends-then (components-taken components n3 c.within.most (λ less. few (omega arith)))
      (λ cs n4 taken4.
      ends-then (gates-taken (take components (states cs)) gates n4 g.within.most (λ less. few (omega arith)))
      (λ gs n5 taken5.
      ends-then ((loads-taken gates loads).takes n5 (λ less. few (omega arith)))
      (λ ls left taken. ends_return (omega arith)))))))

-- ---- what opening answers

-- what reading a study of n bytes ends in
abbrev Ended : Type 0 → ℕ → Read Study → Type 0
Ended Short n r = EndsIn (Refusal Short) (λ t left. n ≤ longest_study + left) r

answer-row : (n : ℕ) (r : Read Study) → Ended (Unit {0}) n r → (number : ℕ) → (answer r).outcome ≡ Err number → OpeningRow number
answer-row n (refused m) h number e =
    let same : m ≡ number = cc (is-refused m) in
    record { least = omega (arith, h.row.least); most = omega (arith, h.row.most) }
answer-row n (got t []) h number e = absurd (not-both number (cc (ends t)))
answer-row n (got t (b ∷ rest)) h number e =
    let same : 15 ≡ number = cc (left t b rest) in
    record { least = omega arith; most = omega arith }

pub opening-rows : OpeningRows
unfolding opened
opening-rows bytes number told =
    answer-row (length bytes) (study bytes) ((study-taken (length bytes) (λ few. tt)).ends bytes refl) number (refused-told _ number told)

-- bytes that open are all taken
answer-most : (n : ℕ) (r : Read Study) → Ended (n ≤ longest_study) n r → (answer r).outcome ≡ finished → n ≤ longest_study
answer-most n (refused m) h e = absurd (not-both m (cc (is-refused m)))
answer-most n (got t []) h e = omega arith
answer-most n (got t (b ∷ rest)) h e = absurd (not-both 15 (cc (left t b rest)))

-- a front part that is longer than any study decides the whole answer
front-decides : (rest : List ℕ) (r r' : Read Study) → Stands short rest r r' → Ended ⊥ (longest_study + 1) r → answer r ≡ answer r'
front-decides rest r r' (inl e) h = absurd ((subst (Ended ⊥ (longest_study + 1)) e h).too_short refl)
front-decides rest (refused m) r' (inr e) h = ap answer (sym e)
front-decides rest (got t []) r' (inr e) h = absurd (omega arith)
front-decides rest (got t (b ∷ bs)) r' (inr e) h = left_over t b bs ∙ sym (ap answer e ∙ left_over t b (bs ++ rest))

take-decides : (bytes : List ℕ) → Dec (length bytes ≤ longest_study + 1) → opened (take (longest_study + 1) bytes) ≡ opened bytes
unfolding opened
take-decides bytes (yes all) = ap opened (take_all (longest_study + 1) bytes all)
take-decides bytes (no more) =
    let front = take (longest_study + 1) bytes in
    let rest = drop (longest_study + 1) bytes in
    let long : length front ≡ longest_study + 1 = length-take-le (longest_study + 1) bytes (omega arith) in
    front-decides rest (study front) (study (front ++ rest)) (local-study.stands front rest)
    ((study-taken (longest_study + 1) (λ few. omega arith)).ends front long)
    ∙ ap opened (take-append-drop (longest_study + 1) bytes)

pub longest-study : LongestStudy
unfolding opened
longest-study =
    record {
      most =
          λ bytes told.
          answer-most (length bytes) (study bytes) ((study-taken (length bytes) (λ few. few)).ends bytes refl) (done-told _ told);
      decides = λ bytes. take-decides bytes (dec_le (length bytes) (longest_study + 1));
    }
