use Rattle.std.proofs.Common.{refl}
use Rattle.fmp_text.proofs.Scanned.{fed_line}
use Rattle.fmp_text.proofs.scan.first_line.Goals as goal

pub returns-clause-says : goal.returns-clause-says
returns-clause-says c = fed_line c.args.names.now c.args.bytes.now _ c.in_ok-end.end c.line_event.result refl (rw c.in_ok-end.was at c.memchr.ensures) c.line_event.ensures
