-- No report is longer than the buffer that is made for it: the model of a study has bytes for classes, and a refusal is a byte.
use Prim.Native.Nat.{ℕ, ◌^◌, ◌<◌, ◌≤◌}
use mathlib.Core.Path.{◌≡◌, refl, ap, subst}
use mathlib.Core.List.{List}
use native.Mathlib.Omega.{arith}
use lib.ListN.{length}
use lib.Pow.{pow_mono}
use Rattle.rules.specs.Limits.{most_loads}
use Rattle.study.specs.declared.Study.{Study}
use Rattle.answers.specs.Told.{outcome_told}
use Rattle.soundness.specs.Sound.{Sound}
use Rattle.soundness.proofs.Ranges.{loads-most}
use Rattle.opening.specs.Opening.{opened}
use Rattle.opening.proofs.Taken.Study.{opening-rows}
use Rattle.entries.specs.Entries.{class_places}
use Rattle.fault_tree.specs.Classes.{class_of}
use Rattle.fault_tree.specs.Truth.{gate_truths}
use Rattle.fault_tree.proofs.ClassBits.{class-below}
use Rattle.meaning.specs.Meaning.{by_gates, model_of}
use Rattle.meaning.proofs.Tables.{meant-good}
use Rattle.report_text.specs.Laws.{ReportFits}
use Rattle.report_text.specs.Report.{report_bytes, model_text, report_text}
use Rattle.report_text.proofs.Fits.{refused-short, model-short, borne-by-state}
use Rattle.report_text.proofs.Opened.{text-done, text-refused, opened-study}
use Rattle.std.specs.Prelude.{Ok, Err}
use Rattle.answers.specs.Answers.{Outcome}

-- a class has a bit for each load
class-byte : (t : Study) → Sound t → (x : List ℕ) → class_of t x < class_places
unfolding class_of
class-byte t s x =
    let below = class-below (gate_truths t.gate x t.gates) t.load t.loads in
    let most : 2 ^ t.loads ≤ 2 ^ most_loads = pow_mono (loads-most t s) in
    omega (arith, below, most)

gates-short : (t : Study) → Sound t → length (model_text (model_of by_gates t)) ≤ report_bytes
unfolding model_of
gates-short t s =
    let good = meant-good by_gates t s in
    model-short (model_of by_gates t) good (borne-by-state (model_of by_gates t) good (class-byte t s))

pub report-fits : ReportFits
report-fits bytes = go (opened bytes).outcome refl
  where
    go : (o : Outcome) → (opened bytes).outcome ≡ o → length (report_text bytes) ≤ report_bytes
    go (Ok a) done =
        let t = (opened bytes).study in
        let s = opened-study bytes refl done in
        subst (λ (text : List ℕ). length text ≤ report_bytes) (text-done bytes refl done)
        (gates-short t s)
    go (Err n) refused =
        let row = opening-rows bytes n (ap outcome_told refused) in
        subst (λ (text : List ℕ). length text ≤ report_bytes) (text-refused bytes refl refused) (omega (arith, refused-short n (omega (arith, row.most))))
