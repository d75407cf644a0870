use Rattle.std.proofs.Common.{ap, sym, ◌∙◌, length, arith}
use Rattle.std.proofs.lemmas.Bool.{eq-eqb, eqb-true, false≢true}
use Rattle.fmp_search_shrink.specs.declared.made.Made.{Made}
use Rattle.fmp_search_shrink.proofs.Making.{all_found, both_steps, none_left, rest_found, rest_passed}
use Rattle.fmp_search_shrink.proofs.runners.is_kept.Goals as goal
use Rattle.fmp_search_shrink.proofs.runners.is_kept.Goals.{then-is_made, else-is_made, then-loop-at-test+else-passed-given, else-loop-at-test}

pub loop-at-preserved : goal.loop-at-preserved
loop-at-preserved c =
    let runner = c.args.runner in
    let made = c.args.made.now in
    let given = c.args.given.now in
    let at = c.loop-at.at in
    let passed = c.loop-at.passed in
    let m = c.index-made-at.result in
    let o = c.index-given-passed.result in
    let so_far = c.loop-at.invariant in
    let first = ap (λ (x : Made). x.call) c.index-made-at.is in
    elim c.if-is_made.branch [
      | then-is_made w ↦
          let next = w.next_of-at-then-is_made in
          let here = w.at-is in
          let yes = c.is_made.ensures.0 w.if-is_made.true in
          let goes = rest_found runner made given at passed m c.loop-at-test.true c.index-made-at.is so_far.own next.result o c.if-passed-given.true c.index-given-passed.is yes.0 (first ∙ yes.1) next.ensures.calls in
          record {
            within = rw here next.ensures.within;
            own = rw here next.ensures.own;
            left = rw here (both_steps so_far.left goes);
          }
      | else-is_made w ↦
          let here = w.at-is in
          let no = w.if-is_made.false in
          let goes = rest_passed runner made given at passed m c.loop-at-test.true c.index-made-at.is so_far.own o c.if-passed-given.true c.index-given-passed.is (λ yes. false≢true (sym no ∙ c.is_made.ensures.1 (yes.0, sym first ∙ yes.1))) in
          record {
            within = rw here so_far.within;
            own = rw here so_far.own;
            left = rw here (both_steps so_far.left goes);
          }
    ]

pub returns : goal.returns
returns c =
    let runner = c.args.runner in
    let made = c.args.made.now in
    let given = c.args.given.now in
    let at = c.loop-at.at in
    let passed = c.loop-at.passed in
    let so_far = c.loop-at.invariant in
    elim c.loop-at-test.branch [
      | then-loop-at-test+else-passed-given w ↦
          let small = w.loop-at-test.true in (
            λ is. let all = eqb-true at (length made) is in absurd (omega (arith, all, small)),
            λ part. absurd (none_left runner made given at passed small so_far.own w.if-passed-given.false (so_far.left.0 part)),
          )
      | else-loop-at-test w ↦
          let past = w.loop-at-test.false in
          let within = so_far.within in (
            λ is. so_far.left.1 (all_found runner made given at passed past),
            λ part. eq-eqb at (length made) (omega (arith, past, within)),
          )
    ]
