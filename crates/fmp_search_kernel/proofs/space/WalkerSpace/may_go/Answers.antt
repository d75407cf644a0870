use Rattle.std.proofs.Common.{◌≡◌, false, subst}
use Rattle.fmp_search_pattern.specs.Questions.{allows}
use Rattle.fmp_search_kernel.proofs.Going.{none_goes}
use Rattle.fmp_search_kernel.proofs.space.WalkerSpace.may_go.Goals as goal

pub returns-else-may_mark : goal.returns-else-may_mark
returns-else-may_mark c = λ _.
    let w = c.args.self.now.place in
    none_goes w c.args.step (λ text. subst (λ b. allows w.question w.seen b text ≡ false) c.is_marked.ensures (c.may_mark.ensures c.if-may_mark.false text))
