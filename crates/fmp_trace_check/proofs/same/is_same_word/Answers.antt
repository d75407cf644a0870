use Rattle.fmp_trace_check.proofs.EightBytes.{words_same}
use Rattle.fmp_trace_check.proofs.same.is_same_word.Goals as goal

pub returns : goal.returns
returns c = words_same c.args.a.now c.args.b.now _ _ c.told-a c.told-b c.fits-a c.fits-b c.from_le_bytes.ensures c.from_le_bytes-2.ensures
