use Rattle.std.proofs.Common.{◌≡◌, ◌≤◌, arith, subst}
use Rattle.fmp_run_seeds.specs.Found.{ArePassed, Tries}
use Rattle.fmp_run_seeds.proofs.Trying.{is_first, one_more}
use Rattle.fmp_run_seeds.proofs.seeking.sought.Goals as goal

pub loop-seed-preserved : goal.loop-seed-preserved
loop-seed-preserved g c =
    let a = c.args in
    one_more a.runs a.asked.now.config a.asked.now.scripts a.asked.now.question a.first c.loop-seed.seed c.loop-seed.invariant
    (subst (Tries a.runs a.asked.now.config a.asked.now.scripts a.asked.now.question c.loop-seed.seed) c.in_default.is c.in_ok-found.ensures)

pub returns-then-is_over-clause-seeks : goal.returns-then-is_over-clause-seeks
returns-then-is_over-clause-seeks g c =
    let a = c.args in (
      one_more a.runs a.asked.now.config a.asked.now.scripts a.asked.now.question a.first c.loop-seed.seed c.loop-seed.invariant
          (subst (Tries a.runs a.asked.now.config a.asked.now.scripts a.asked.now.question c.loop-seed.seed) c.in_default.is c.in_ok-found.ensures),
      omega (arith, c.loop-seed.auto.seed),
      omega (arith, c.loop-seed-test.true),
      c.new-then-is_over.ensures.items,
    )

pub returns-in-None-clause-seeks : goal.returns-in-None-clause-seeks
returns-in-None-clause-seeks g c =
    let a = c.args in
    let right : a.first ≤ a.last = omega (arith, c.if-last-first.false) in
    let within : c.loop-seed.seed ≤ a.last = c.loop-seed.auto.seed-end right in
    let at : c.loop-seed.seed ≡ a.last = omega (arith, c.loop-seed-test.false, within) in
    let before = subst (ArePassed a.runs a.asked.now.config a.asked.now.scripts a.asked.now.question a.first) at c.loop-seed.invariant in
    let is = subst (Tries a.runs a.asked.now.config a.asked.now.scripts a.asked.now.question a.last) c.in-None.is c.in_ok-found-2.ensures in
    (one_more a.runs a.asked.now.config a.asked.now.scripts a.asked.now.question a.first a.last before is, c.new-in-None.ensures.items)

pub returns-in-Some-clause-seeks : goal.returns-in-Some-clause-seeks
returns-in-Some-clause-seeks g c =
    let a = c.args in
    let tried = subst (Tries a.runs a.asked.now.config a.asked.now.scripts a.asked.now.question c.loop-seed.seed) c.in-Some.is c.in_ok-found.ensures in
    is_first a.runs a.asked.now.config a.asked.now.scripts a.asked.now.question a.first a.last c.loop-seed.seed (c.in-Some.found, c.in-Some.text) tried (omega (arith, c.loop-seed.auto.seed))
    (omega (arith, c.loop-seed-test.true)) c.loop-seed.invariant

pub returns-in-Some-2-clause-seeks : goal.returns-in-Some-2-clause-seeks
returns-in-Some-2-clause-seeks g c =
    let a = c.args in
    let right : a.first ≤ a.last = omega (arith, c.if-last-first.false) in
    let within : c.loop-seed.seed ≤ a.last = c.loop-seed.auto.seed-end right in
    let at : c.loop-seed.seed ≡ a.last = omega (arith, c.loop-seed-test.false, within) in
    let before = subst (ArePassed a.runs a.asked.now.config a.asked.now.scripts a.asked.now.question a.first) at c.loop-seed.invariant in
    let tried = subst (Tries a.runs a.asked.now.config a.asked.now.scripts a.asked.now.question a.last) c.in-Some-2.is c.in_ok-found-2.ensures in
    is_first a.runs a.asked.now.config a.asked.now.scripts a.asked.now.question a.first a.last a.last (c.in-Some-2.found, c.in-Some-2.text) tried right (omega arith) before
