use Rattle.std.proofs.Common.{sym, ◌∙◌, arith}
use Rattle.fmp_trace.proofs.ReadTexts.{one_list}
use Rattle.fmp_trace.proofs.laws.texts_print_one_list.Goals as goal

pub returns : goal.returns
returns c = λ names text a b valid la lb pa pb. one_list names 1 a b valid pa.fit pb.fit (omega (arith, la)) (omega (arith, lb)) (sym pa.lines ∙ pb.lines)
