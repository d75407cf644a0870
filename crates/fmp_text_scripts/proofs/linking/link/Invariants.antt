use Rattle.std.proofs.Common.{◌≡◌, drop}
use Rattle.fmp_text_scripts.specs.Linking.{linked}
use Rattle.fmp_text_scripts.proofs.Linked.{joined}
use Rattle.fmp_text_scripts.proofs.linking.link.Given as goal

abbrev pub invariant-loop-jump : goal.invariant-loop-jump
invariant-loop-jump l = linked l.labels l.jumps ≡ joined l.ways.items (linked l.labels (drop l.jump-index l.jumps))
