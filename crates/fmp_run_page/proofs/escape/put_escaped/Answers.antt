use Rattle.std.proofs.Common.{◌∙◌}
use Rattle.std.proofs.lemmas.List.{take_rest}
use Rattle.fmp_run_page.proofs.Plain.{last_escaped, one_escaped}
use Rattle.fmp_run_page.proofs.escape.put_escaped.Goals as goal

pub loop-at-preserved : goal.loop-at-preserved
loop-at-preserved c whole =
    let found = rw c.in-Some.is at c.memchr2.ensures in
    let last = c.put_byte.ensures whole in
    let front = c.put.ensures last.0 in
    let before = c.loop-at.invariant front.0 in (
      before.0,
      one_escaped _ c.loop-at.out.bytes c.put.new.self.bytes c.put_byte.new.out.bytes c.loop-at.rest.now _ c.in-Some.at found.0.high found.0.before
          (take_rest c.loop-at.rest.now c.in-Some.at) front.1 last.1 before.1,
    )

pub returns : goal.returns
returns c whole =
    let none = rw c.in_default.is at c.memchr2.ensures in
    let last = c.put-2.ensures whole in
    let before = c.loop-at.invariant last.0 in
    (before.0, last.1 ∙ last_escaped _ c.loop-at.out.bytes c.loop-at.rest.now none before.1)
