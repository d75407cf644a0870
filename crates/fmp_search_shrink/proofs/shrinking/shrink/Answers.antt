use Rattle.std.proofs.Common.{◌+◌, List, subst}
use Rattle.fmp_codes.specs.declared.records.Event.{Event}
use Rattle.fmp_search_shrink.proofs.Parts.{part_of_part}
use Rattle.fmp_search_shrink.specs.Shrinking.{IsKeeping, without}
use Rattle.fmp_search_shrink.proofs.Kept.{keeps, keeps_to, whole_keeps}
use Rattle.fmp_search_shrink.proofs.Without.{part_is_on}
use Rattle.fmp_search_shrink.proofs.shrinking.shrink.Goals as goal

pub in_rows-requires-clause-keeps : goal.in_rows-requires-clause-keeps
in_rows-requires-clause-keeps c =
    let config = c.args.config.now in
    let k = c.in_ok-keeping.keeping in
    whole_keeps config c.args.events.items c.args.runs k (subst (λ (l : List Event). IsKeeping config c.args.runs l k) c.as_slice-2.ensures.value c.in_ok-keeping.ensures)

pub one_by_one-requires-clause-on : goal.one_by_one-requires-clause-on
one_by_one-requires-clause-on c = part_is_on c.args.config.now.processors c.in_ok-left.left.items c.args.events.items c.in_ok-left.ensures.0 c.requires.on

pub returns : goal.returns
returns c =
    let config = c.args.config.now in
    let whole = c.args.events.items in
    let runs = c.args.runs in
    let k = c.in_ok-keeping.keeping in
    let es = c.in_ok-one_by_one.field-0.items in
    let is = subst (λ (l : List Event). IsKeeping config runs l k) c.as_slice-2.ensures.value c.in_ok-keeping.ensures in
    let less = c.in_ok-one_by_one.ensures in
    record {
      part = part_of_part es c.in_ok-left.left.items whole less.left.0 c.in_ok-left.ensures.0;
      shows = less.left.1;
      kept = keeps config whole runs k es is less.left.2;
      none = λ i small shown kept. less.none i small shown (keeps_to config whole runs k (without es i (i + 1)) is kept);
    }
