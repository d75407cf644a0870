use Rattle.std.proofs.Common.{rules}
use Rattle.std.proofs.lemmas.Slice.Eq.{slice_eq-Decides}
use Rattle.fmp_text_scripts.proofs.equality.are_same_values.Goals as goal

pub returns : goal.returns
returns c = slice_eq-Decides (λ a b. search rules) c.args.one.now c.args.other.now c.eq.result c.eq.ensures
