use Rattle.fmp_text.proofs.Words.{four_same}
use Rattle.fmp_text.proofs.quick.is_same_four.Goals as goal

pub returns : goal.returns
returns c = four_same c.args.one.now c.args.other.now _ _ c.told-one c.told-other c.fits-one c.fits-other c.from_le_bytes.ensures c.from_le_bytes-2.ensures
