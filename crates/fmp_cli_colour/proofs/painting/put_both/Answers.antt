use Rattle.fmp_run_devices.specs.Devices.{bytes_of}
use Rattle.fmp_cli_colour.proofs.Pieces.{both_err, first_err}
use Rattle.fmp_cli_colour.proofs.painting.put_both.Goals as goal

pub returns-in_err-write_all-clause-err : goal.returns-in_err-write_all-clause-err
returns-in_err-write_all-clause-err g c = λ known. first_err c.from_residual.result _ _ _ (bytes_of (g.W.Sink.written c.write_all.new.sink)) _ (c.in_err-write_all.ensures.err known)

pub returns-clause-err : goal.returns-clause-err
returns-clause-err g c = λ known. both_err _ _ _ _ _ _ (c.in_ok-write_all.ensures.ok known) (c.write_all-2.ensures.err (c.write_all.ensures.known known))
