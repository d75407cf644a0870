use Rattle.fmp_run_stream.proofs.Passing.{begins_after, on_err}
use Rattle.fmp_run_stream.proofs.stream.Answering.pass.Goals as goal

pub returns-in_err-write_all-2-clause-err : goal.returns-in_err-write_all-2-clause-err
returns-in_err-write_all-2-clause-err g c = λ known.
    let first = rw c.as_slice.ensures.value at (c.in_ok-write_all.ensures.ok known) in
    let second = rw c.as_slice-2.ensures at (c.in_err-write_all-2.ensures.err (c.write_all.ensures.known known)) in
    on_err _ _ (begins_after _ c.args.self.now.entries.items c.args.self.now.lines _ _ first second)
