use Rattle.std.proofs.Common.{◌≡◌, List, [], replicate, refl, sym, subst, ap, ◌∙◌}
use Rattle.fmp_time.specs.Differences.{Entry}
use Rattle.fmp_time.specs.Times.{no_times, AreWaits}
use Rattle.fmp_time.specs.Shown.{table, times_of}
use Rattle.fmp_time.proofs.Effects.{times_same}
use Rattle.fmp_time.proofs.Waits.{waits-none}
use Rattle.fmp_time.proofs.timers.Timers.new.Goals as goal

empty : times_of (replicate 8 []) [] ≡ no_times
unfolding table
empty = times_same _ _ _ _ refl refl

pub invariant_of-result : goal.invariant_of-result
invariant_of-result c = subst AreWaits (sym (ap (λ (q : List (List Entry)). times_of q c.new-2.result) c.new.ensures ∙ ap (times_of (replicate 8 [])) c.new-2.ensures ∙ empty)) waits-none

pub returns : goal.returns
returns c = ap (λ (q : List (List Entry)). times_of q c.new-2.result) c.new.ensures ∙ ap (times_of (replicate 8 [])) c.new-2.ensures ∙ empty
