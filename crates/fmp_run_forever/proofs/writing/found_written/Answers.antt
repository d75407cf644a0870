use Rattle.std.proofs.Common.{◌∙◌, ◌++◌, ◌-◌, ℕ, List, ap, subst}
use Rattle.fmp_run_devices.specs.Devices.{BeginsWith, bytes_of}
use Rattle.fmp_search_pattern.specs.Lasting.{Lasting}
use Rattle.fmp_run_forever.specs.Stayed.{Finds}
use Rattle.fmp_run_forever.proofs.writing.found_written.Goals as goal

pub returns-in-Ok-write_out-clause-written : goal.returns-in-Ok-write_out-clause-written
returns-in-Ok-write_out-clause-written g c = λ known. (
  c.in-Ok.report.text.items,
  subst (λ (l : List Lasting). Finds c.args.asked.now.config c.args.asked.now.scripts c.args.rules l c.args.bounds.turns.count (c.args.bounds.places.count - 1) c.in-Ok.report.text.items
      c.in-Ok.report.staying) c.deref.ensures.value c.in-Ok.ensures.finds,
  c.in-Ok-write_out.ensures.ok known ∙ ap (λ (x : List ℕ). bytes_of (g.W.Sink.written c.args.output.now) ++ x) c.as_slice.ensures.value,
)

pub returns-in-Err-write_out-clause-part : goal.returns-in-Err-write_out-clause-part
returns-in-Err-write_out-clause-part g c = λ known is. (
  c.in-Ok.report.text.items,
  c.in-Ok.report.staying,
  subst (λ (l : List Lasting). Finds c.args.asked.now.config c.args.asked.now.scripts c.args.rules l c.args.bounds.turns.count (c.args.bounds.places.count - 1) c.in-Ok.report.text.items
      c.in-Ok.report.staying) c.deref.ensures.value c.in-Ok.ensures.finds,
  subst (λ (x : List ℕ). BeginsWith (bytes_of (g.W.Sink.written c.args.output.now)) x (bytes_of (g.W.Sink.written c.write_out.new.sink))) c.as_slice.ensures.value
      (c.in-Err-write_out.ensures.err known),
)
