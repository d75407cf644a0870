use Rattle.std.proofs.Common.{Ok, Err, sym, ap, ◌∙◌}
use Rattle.fmp_text.specs.Places.{call_at, place_of}
use Rattle.fmp_text.proofs.PlacedFaults.{call_read}
use Rattle.fmp_text.proofs.call.read_call.Goals as goal

pub returns-in-Ok : goal.returns-in-Ok
returns-in-Ok c =
    record { exact = call_read c.args.names.now c.args.bytes.now (Ok c.in-Ok.call) (sym c.all_of.ensures ∙ c.if-not-all_of.false) (ap (call_at c.args.names.now) (sym c.skip.ensures) ∙ c.in-Ok.ensures) }

pub returns-in-Err : goal.returns-in-Err
returns-in-Err c =
    record { exact = call_read c.args.names.now c.args.bytes.now (Err (place_of c.in-Err.misfit)) (sym c.all_of.ensures ∙ c.if-not-all_of.false) (ap (call_at c.args.names.now) (sym c.skip.ensures) ∙ c.in-Err.ensures) }
