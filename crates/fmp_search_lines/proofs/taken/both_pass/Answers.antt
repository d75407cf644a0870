use Rattle.std.proofs.Common.{rules, ◌≡◌, true, false, sym, ◌∙◌}
use Rattle.fmp_search_lines.specs.Orders.{numbers_from}
use Rattle.fmp_search_lines.specs.Lasts.{last_at}
use Rattle.fmp_search_lines.proofs.Sets.{may_pass-append, both_left, neither}
use Rattle.fmp_search_lines.proofs.taken.both_pass.Goals as goal

pub returns-then-may_pass : goal.returns-then-may_pass
returns-then-may_pass c =
    let t : c.may_pass.result ≡ true = search rules in
    both_left _ _ _ _ (may_pass-append (last_at c.args.lasts.now) c.args.line c.args.lines.now (numbers_from c.args.low c.args.more))
    (sym c.may_pass.ensures ∙ t) c.numbers_pass.ensures

pub returns-else-may_pass : goal.returns-else-may_pass
returns-else-may_pass c =
    let f : c.may_pass.result ≡ false = search rules in
    f ∙ sym (neither _ _ _ (may_pass-append (last_at c.args.lasts.now) c.args.line c.args.lines.now (numbers_from c.args.low c.args.more))
    (sym c.may_pass.ensures ∙ f))
