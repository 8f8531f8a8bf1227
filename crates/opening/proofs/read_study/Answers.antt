-- `opening::read_study` meets its contract: the counts, then each kind of record, over the places of a study of zeros.
use Rattle.std.proofs.Common.{◌≡◌, ℕ, ap, List, Result, Ok, Err, refl, rules}
use Rattle.rules.specs.declared.refusal.Refusal.{Refusal}
use Rattle.rules.specs.Refusals.{row_of}
use Rattle.rules.specs.Limits.{most_components}
use Rattle.reading.specs.Reader.{refused, got, and_then, return, read_into}
use Rattle.study.specs.declared.Load.{Load}
use Rattle.study.specs.declared.Study.{Study}
use Rattle.study.specs.Zero.{no_components, no_gates, no_loads, zero_study}
use Rattle.opening.specs.Opening.{count}
use Rattle.opening.specs.Places.{study_in_order}
use Rattle.opening.proofs.read_study.Goals as goal

-- the last reading of a study, whose places belong to it
into-then : {A B : Type 0} (result : Result (Unit {0}) Refusal) (f : A → B) (a : A) (rest : List ℕ)
    → read_into result (f a) rest ≡ and_then (read_into result a rest) (λ x. return (f x))
into-then (Ok u) f a rest = refl
into-then (Err r) f a rest = refl

pub returns-in_err-read_components : goal.returns-in_err-read_components
unfolding study_in_order zero_study
returns-in_err-read_components c =
    let components : got c.in_ok-t.field-0 c.read_count.new.bytes.rest.now ≡ count most_components c.args.bytes.now.rest.now = c.in_ok-t.ensures.reads in
    let none : c.args.t.now.component ≡ no_components = ap (λ (t : Study). t.component) c.requires in
    let whole : refused (row_of c.in_err-read_components.field-0.0) ≡ study_in_order c.args.bytes.now.rest.now
    = rw (← components, ← c.in_ok-t-2.ensures.reads, ← c.in_ok-t-3.ensures.reads, ← none, ← c.in_err-read_components.ensures) in
    search rules

pub returns-in_err-read_gates : goal.returns-in_err-read_gates
unfolding study_in_order zero_study
returns-in_err-read_gates c =
    let none : c.args.t.now.component ≡ no_components = ap (λ (t : Study). t.component) c.requires in
    let none' : c.args.t.now.gate ≡ no_gates = ap (λ (t : Study). t.gate) c.requires in
    let read = rw (c.from.ensures, c.state_counts-counts.ensures) at c.in_err-read_gates.ensures in
    let whole : refused (row_of c.in_err-read_gates.field-0.0) ≡ study_in_order c.args.bytes.now.rest.now
    = rw (← c.in_ok-t.ensures.reads, ← c.in_ok-t-2.ensures.reads, ← c.in_ok-t-3.ensures.reads, ← none, ← c.in_ok-read_components.ensures, ← none', ← read) in
    search rules

pub returns : goal.returns
unfolding study_in_order zero_study
returns c =
    let none : c.args.t.now.component ≡ no_components = ap (λ (t : Study). t.component) c.requires in
    let none' : c.args.t.now.gate ≡ no_gates = ap (λ (t : Study). t.gate) c.requires in
    let none'' : c.args.t.now.load ≡ no_loads = ap (λ (t : Study). t.load) c.requires in
    let gates = rw (c.from.ensures, c.state_counts-counts.ensures) at c.in_ok-read_gates.ensures in
    let with_loads : List Load → Study =
    λ ls.
    record {
      components = c.in_ok-t.field-0;
      gates = c.in_ok-t-2.field-0;
      loads = c.in_ok-t-3.field-0;
      component = c.read_components.new.component;
      gate = c.read_gates.new.gate;
      load = ls;
    } in
    rw (
      ← c.in_ok-t.ensures.reads,
      ← c.in_ok-t-2.ensures.reads,
      ← c.in_ok-t-3.ensures.reads,
      ← none,
      ← c.in_ok-read_components.ensures,
      ← none',
      ← gates,
      ← none'',
      ← c.read_loads.ensures,
    )
    (into-then c.read_loads.result with_loads c.read_loads.new.load c.read_loads.new.bytes.rest.now)
