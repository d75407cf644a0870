use Rattle.std.proofs.Common.{◌≡◌, ℕ, Result, Ok, Err, sym, subst}
use Rattle.fmp_names.specs.Names.{NameLists}
use Rattle.fmp_out.specs.Putting.{Adds}
use Rattle.fmp_rules.specs.Arrivals.{numbered}
use Rattle.fmp_rules.specs.Step.{step}
use Rattle.fmp_text.specs.declared.fault.TextKind.{TextKind}
use Rattle.fmp_trace.specs.Lines.{line_text}
use Rattle.fmp_trace.specs.Reading.{at_line}
use Rattle.fmp_trace_partial.specs.Saying.{line_said}
use Rattle.fmp_trace_partial.specs.declared.telling.Said.{Said}
use Rattle.fmp_run_partial.specs.Filling.{filled, filled_text}
use Rattle.fmp_run_partial.proofs.filling.put_filled.Goals as goal

-- what was read of a line is what it says
was_said : (n : ℕ) (told : Result Said TextKind) (s : Said) → at_line n told ≡ Ok s → told ≡ Ok s
was_said n (Ok t) s e = cc
was_said n (Err kind) s e = absurd cc

pub returns-in-Ok : goal.returns-in-Ok
returns-in-Ok c =
    let names = c.args.config.now.names in
    let line = c.in-Some.line.now in
    let w = c.args.plain.now.state in
    let s = c.in-Ok.said in
    let told = subst (λ (ns : NameLists). at_line c.args.n (line_said ns c.args.n line) ≡ Ok s) c.names-names.ensures.value c.in-Ok.ensures in
    let whole = subst (λ (ns : NameLists). Adds (line_text ns c.args.number (filled s (step numbered w s.entry.event).1)) c.args.out.now c.put_whole.new.out)
    c.names-names.ensures.value c.put_whole.ensures in
    rw c.in-Some.is (subst (λ (said : Result Said TextKind). Adds (filled_text names c.args.number w said) c.args.out.now c.put_whole.new.out)
    (sym (was_said c.args.n (line_said names c.args.n line) s told)) whole)
