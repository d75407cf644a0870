use Rattle.std.proofs.Common.{◌≡◌, drop}
use Rattle.fmp_cli_diagnostics.specs.Options.{form_from, plain}
use Rattle.fmp_cli_diagnostics.proofs.option.line_form.Given as goal

abbrev pub invariant-loop-word : goal.invariant-loop-word
invariant-loop-word l = form_from l.form (drop l.word-index l.words) ≡ form_from plain l.fn.words
