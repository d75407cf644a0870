use Rattle.fmp_text.proofs.Echoed.{echo_some}
use Rattle.fmp_text.proofs.Fronted.{ended_some}
use Rattle.fmp_text.proofs.scan.quick_line.Goals as goal

pub returns-clause-line : goal.returns-clause-line
returns-clause-line c = ended_some c.args.names.now c.args.bytes.now c.in_ok-rest.rest.now c.quick_event.new.event c.after_end.result c.validity.ensures c.in_ok-rest.ensures.front c.after_end.ensures

pub returns-clause-echo : goal.returns-clause-echo
returns-clause-echo c = echo_some c.quick_event.new.echo _ c.after_end.result c.in_ok-rest.ensures.echo
