use Rattle.std.proofs.Common.{◌≡◌, ◌∙◌, ◌<◌, ◌^◌, true, false, arith, ap, sym}
use Rattle.std.specs.Str.{bytes_eq}
use Rattle.fmp_codes.specs.declared.records.Record.{Record}
use Rattle.fmp_trace.specs.Lines.{core_text}
use Rattle.fmp_run_explore_from.proofs.Further.{no_line, no_event, no_answer, one_line}
use Rattle.fmp_run_explore_from.proofs.begun.go_on.Goals as goal

pub returns-in_default-clause-no_further : goal.returns-in_default-clause-no_further
returns-in_default-clause-no_further g c =
    let small : c.args.n < 2 ^ 64 = omega arith in
    no_line c.args.names.now c.validity.ensures c.args.n small (g.F.Follow.at c.args.walker.now).place c.args.text.now c.in_default.ensures.none

pub returns-in_default-happen-clause-no_further : goal.returns-in_default-happen-clause-no_further
returns-in_default-happen-clause-no_further g c =
    let small : c.args.n < 2 ^ 64 = omega arith in
    no_event c.args.names.now c.validity.ensures c.args.n small (g.F.Follow.at c.args.walker.now).place c.args.text.now c.in-Some.line.now c.in-Some.after.now c.in-Some.ensures.line c.in-Some.ensures.rest
    c.in_default-happen.ensures.report

pub returns-then-branch-clause-further : goal.returns-then-branch-clause-further
returns-then-branch-clause-further g c =
    let small : c.args.n < 2 ^ 64 = omega arith in
    let names = c.args.names.now in
    let line = c.in-Some.line.now in
    let same : bytes_eq (core_text names c.args.n (g.F.Follow.at c.happen.new.walker).made) line ≡ true =
    ap (λ (r : Record). bytes_eq (core_text names c.args.n r) line) (sym c.record.ensures) ∙ sym c.in_ok-is_line.ensures ∙ c.if-branch.true in
    one_line names c.validity.ensures c.args.n small (g.F.Follow.at c.args.walker.now).place c.args.text.now line c.in-Some.after.now c.in-Some.ensures.line c.in-Some.ensures.rest
    (g.F.Follow.at c.happen.new.walker) c.in-Some-happen.event c.in-Some-happen.ensures.happened c.choice_of.result c.choice_of.ensures same

pub returns-else-branch-clause-no_further : goal.returns-else-branch-clause-no_further
returns-else-branch-clause-no_further g c =
    let small : c.args.n < 2 ^ 64 = omega arith in
    let names = c.args.names.now in
    let line = c.in-Some.line.now in
    let other : bytes_eq (core_text names c.args.n (g.F.Follow.at c.happen.new.walker).made) line ≡ false =
    ap (λ (r : Record). bytes_eq (core_text names c.args.n r) line) (sym c.record.ensures) ∙ sym c.in_ok-is_line.ensures ∙ c.if-branch.false in
    no_answer names c.validity.ensures c.args.n small (g.F.Follow.at c.args.walker.now).place c.args.text.now line c.in-Some.after.now c.in-Some.ensures.line c.in-Some.ensures.rest
    (g.F.Follow.at c.happen.new.walker) c.in-Some-happen.event c.in-Some-happen.ensures.happened c.in-Some-happen.ensures.report other
