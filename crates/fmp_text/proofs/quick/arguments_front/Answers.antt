use Rattle.std.proofs.Common.{◌∙◌, arith}
use Rattle.std.proofs.lemmas.Grind.{common_steps}
use Rattle.std.proofs.lemmas.List.{length-set}
use Rattle.fmp_codes.specs.declared.kinds.ArgumentKind.TheVariants.{Object}
use Rattle.fmp_codes.specs.declared.kinds.ObjectKind.TheVariants.{Task}
use Rattle.fmp_text.proofs.Echoed.{prints_first, prints_last, prints_next, prints_none}
use Rattle.fmp_text.proofs.Fronted.{goes_first, goes_last, goes_next, goes_none}
use Rattle.fmp_text.proofs.quick.arguments_front.Goals as goal

pub loop-index-init : goal.loop-index-init
loop-index-init c = record {
  four = c.told-values;
  goes = goes_first c.args.names.now c.args.kinds.now c.args.text.now;
  kept = λ own. own;
  prints = λ own. prints_first c.args.names.now c.args.kinds.now c.args.text.now;
}

pub returns-then-index-count-clause-closed : goal.returns-then-index-count-clause-closed
returns-then-index-count-clause-closed c =
    goes_last c.args.names.now c.args.kinds.now c.loop-index.values c.loop-index.index (Object Task) c.value_front.new.value c.args.text.now c.loop-index.rest.now c.in_ok-more.more.now
    c.loop-index-test.true (omega (arith, c.loop-index.invariant.four, c.loop-index-test.true, c.requires)) c.loop-index.invariant.goes c.in_ok-more.ensures.front c.after_byte.result (grind (arith, common_steps)) c.after_byte.ensures

pub returns-then-index-count-clause-printed : goal.returns-then-index-count-clause-printed
returns-then-index-count-clause-printed c = λ own.
    prints_last c.args.names.now c.args.kinds.now c.loop-index.values c.loop-index.index (Object Task) c.value_front.new.value c.args.text.now c.loop-index.rest.now c.in_ok-more.more.now
    c.loop-index-test.true (omega (arith, c.loop-index.invariant.four, c.loop-index-test.true, c.requires)) (c.loop-index.invariant.prints (c.in_ok-more.ensures.kept own)) (c.in_ok-more.ensures.printed own)
    c.after_byte.result (grind (arith, common_steps)) c.after_byte.ensures

pub loop-index-preserved : goal.loop-index-preserved
loop-index-preserved c =
    record {
      four = length-set c.loop-index.values c.loop-index.index c.value_front.new.value ∙ c.loop-index.invariant.four;
      goes = goes_next c.args.names.now c.args.kinds.now c.loop-index.values c.loop-index.index (Object Task) c.value_front.new.value c.args.text.now c.loop-index.rest.now c.in_ok-more.more.now
          c.loop-index-test.true (omega (arith, c.loop-index.invariant.four, c.loop-index-test.true, c.requires)) c.loop-index.invariant.goes c.in_ok-more.ensures.front c.in_ok-rest.rest.now (grind (arith, common_steps)) c.in_ok-rest.ensures.front;
      kept = λ own. c.loop-index.invariant.kept (c.in_ok-more.ensures.kept (c.in_ok-rest.ensures.kept own));
      prints = λ own.
          let shown = c.in_ok-rest.ensures.kept own in
          prints_next c.args.names.now c.args.kinds.now c.loop-index.values c.loop-index.index (Object Task) c.value_front.new.value c.args.text.now c.loop-index.rest.now c.in_ok-more.more.now
          c.loop-index-test.true (omega (arith, c.loop-index.invariant.four, c.loop-index-test.true, c.requires)) (c.loop-index.invariant.prints (c.in_ok-more.ensures.kept shown)) (c.in_ok-more.ensures.printed shown)
          c.in_ok-rest.rest.now (grind (arith, common_steps)) (c.in_ok-rest.ensures.printed own);
    }

pub returns-clause-closed : goal.returns-clause-closed
returns-clause-closed c =
    goes_none c.args.names.now c.args.kinds.now c.loop-index.values c.loop-index.index c.args.text.now c.loop-index.rest.now c.after_byte-2.result (grind (arith, common_steps)) c.loop-index.invariant.goes c.after_byte-2.ensures

pub returns-clause-printed : goal.returns-clause-printed
returns-clause-printed c = λ own.
    prints_none c.args.names.now c.args.kinds.now c.loop-index.values c.loop-index.index c.args.text.now c.loop-index.rest.now c.after_byte-2.result (grind (arith, common_steps)) (c.loop-index.invariant.prints own)
    c.after_byte-2.ensures
