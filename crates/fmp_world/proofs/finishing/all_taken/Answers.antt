use Rattle.std.proofs.Common.{◌≡◌, ◌+◌, ◌<◌, ◌≤◌, ◌&&◌, ◌∙◌, nat_lt, slice_index, refl, ap, sym, arith}
use Rattle.fmp_codes.specs.Numbers.{as_proc}
use Rattle.fmp_setup.specs.Setup.{has_time}
use Rattle.fmp_smp_histories.specs.Counted.{taken}
use Rattle.fmp_world.proofs.Judging.{within_more, all_more, none_more}
use Rattle.fmp_world.proofs.finishing.all_taken.Goals as goal
use Rattle.fmp_world.proofs.finishing.all_taken.Goals.{then-owes, else-owes}

pub returns-then-taken-ticks-clause-within : goal.returns-then-taken-ticks-clause-within
returns-then-taken-ticks-clause-within c = λ h are.
    let small : c.loop-at.at < c.args.processors = omega arith in
    let is = are c.loop-at.at (omega arith) in
    (λ t. cc, λ all. let le = all c.loop-at.at small in absurd (omega arith))

pub loop-at-preserved : goal.loop-at-preserved
loop-at-preserved c = λ h are.
    let n = c.loop-at.at in
    let ticks = c.args.ticks in
    let timer = c.args.timer in
    let is = are n (omega arith) in
    let read : slice_index c.args.counts.now c.from.result ≡ taken (n + 1) h = ap (slice_index c.args.counts.now) c.from.ensures ∙ is in
    let le : taken (n + 1) h ≤ ticks = omega arith in
    let owes : c.owes.result ≡ (has_time timer (as_proc (n + 1)) && nat_lt (taken (n + 1) h) ticks) = rw (← c.new.ensures.value, ← read) c.owes.ensures in
    let before = c.loop-at.invariant h are in (
      within_more n ticks h before.0 le,
      elim c.if-owes.branch [
        | then-owes w ↦ rw w.all-is (none_more timer n ticks h (sym owes ∙ w.if-owes.true))
        | else-owes w ↦ rw w.all-is (all_more c.loop-at.all timer n ticks h (sym owes ∙ w.if-owes.false) le before.1)
      ],
    )

pub returns-clause-within : goal.returns-clause-within
returns-clause-within c = λ h are.
    let same : c.loop-at.at ≡ c.args.processors = omega arith in
    let found = c.loop-at.invariant h are in
    (λ t. rw same at found.0, λ all. refl)

pub returns-clause-all : goal.returns-clause-all
returns-clause-all c = λ h are.
    let same : c.loop-at.at ≡ c.args.processors = omega arith in
    let found = c.loop-at.invariant h are in
    rw same at found.1
