use Rattle.std.proofs.Common.{sym, ◌∙◌}
use Rattle.std.proofs.lemmas.Slice.Eq.{bytes_eq-Decides}
use Rattle.fmp_trace.proofs.FrontCalls.{return_reported}
use Rattle.fmp_trace.proofs.heads.worded_event.Goals as goal

pub returns-then-eq-3 : goal.returns-then-eq-3
returns-then-eq-3 c =
    let word = sym c.split_prefix.ensures.prefix ∙ (bytes_eq-Decides c.split_prefix.result.0.now c.as_slice-3.result.now).0 (sym c.if-eq-3.ensures) ∙ c.as_slice-3.ensures in
    sym (return_reported c.args.names.now c.args.text.now c.args.p c.validity.ensures word)
