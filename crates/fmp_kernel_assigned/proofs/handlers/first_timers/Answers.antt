use Rattle.std.proofs.Common.{Option, None, length, get_or, sym, ap, ◌∙◌}
use Rattle.std.proofs.lemmas.List.{get_or-replicate, length-replicate}
use Rattle.fmp_time.specs.Left.{Left}
use Rattle.fmp_time.specs.Times.{Times}
use Rattle.fmp_kernel_assigned.proofs.Boot.{none_started}
use Rattle.fmp_kernel_assigned.proofs.handlers.first_timers.Goals as goal

pub loop-index-init : goal.loop-index-init
loop-index-init c = record {
  left = λ k h. ap (λ (m : Times). get_or m.left k None) c.new-timers.ensures ∙ get_or-replicate {A = Option Left} 128 k None None h ∙ sym (none_started c.args.cyclics.now k);
  all = ap (λ (m : Times). length m.left) c.new-timers.ensures ∙ length-replicate {A = Option Left} 128 None;
  waits = ap (λ (m : Times). m.waits) c.new-timers.ensures;
}
