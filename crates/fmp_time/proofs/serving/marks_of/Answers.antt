use Rattle.std.proofs.Common.{false}
use Rattle.std.proofs.lemmas.List.{get_or-replicate, length-replicate}
use Rattle.fmp_time.proofs.serving.marks_of.Goals as goal

pub loop-item-init : goal.loop-item-init
loop-item-init c = record { marks = λ k h. get_or-replicate 128 k false false h; count = length-replicate 128 false }
