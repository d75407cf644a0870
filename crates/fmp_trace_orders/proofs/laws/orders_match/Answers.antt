use Rattle.fmp_trace_orders.proofs.Matching.{orders_match}
use Rattle.fmp_trace_orders.proofs.laws.orders_match.Goals as goal

pub returns : goal.returns
returns c = λ s valid names_valid lines few. orders_match s lines valid names_valid few
