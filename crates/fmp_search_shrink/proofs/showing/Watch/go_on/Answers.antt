use Rattle.std.proofs.Common.{◌∙◌, ◌++◌, ◌∷◌, [], List, ℕ, Bool, length, ap, sym, subst}
use Rattle.fmp_rules.specs.Arrivals.{numbered}
use Rattle.fmp_rules.specs.Boot.{booted}
use Rattle.fmp_rules.specs.Step.{answers, replay}
use Rattle.fmp_rules.specs.World.{World}
use Rattle.fmp_law_lists.specs.Stands.{Stands}
use Rattle.fmp_kernel_order.specs.Queues.{Queues}
use Rattle.fmp_search_orders.specs.Laws.{TakenAre}
use Rattle.fmp_search_orders.specs.Sights.{sight}
use Rattle.fmp_search_orders.proofs.Longer.{taken_long}
use Rattle.fmp_search_kernel.specs.Walked.{count_in}
use Rattle.fmp_search_shrink.specs.Seen.{AreNext}
use Rattle.fmp_search_shrink.proofs.Answering.{seen_next, stands_next, taken_next}
use Rattle.fmp_search_shrink.proofs.showing.Watch.go_on.Goals as goal

pub returns : goal.returns
returns c = λ given so_far.
    let config = c.args.config.now in
    let rules = c.args.rules in
    let question = c.args.question.now in
    let e = c.args.event in
    let m = replay numbered (booted config) given in
    let before = c.args.self.now in
    let w = c.answer.new.self in
    let next = c.see.new.self in
    let same = c.see.ensures.same in
    let report = c.answer.ensures.made m so_far.stands in
    let stands = c.answer.ensures.stands m so_far.stands in
    let taken_are = taken_next config rules question given e before.taken w.taken w.made report c.answer.ensures.taken so_far.taken_are so_far.sized in
    let lines = sight config rules (count_in w.taken) w.kernel w.made in
    let seen = subst (λ (ns : List Bool). AreNext question lines ns next.numbers) c.answer.ensures.numbers c.in_ok-see.ensures.next in
    record {
      stands =
          subst (λ (k : World Queues). Stands k (replay numbered (booted config) (given ++ e ∷ []))) (sym same.0) (stands_next config rules question given e w.kernel stands);
      processors = ap (λ (k : World Queues). length k.processors) same.0 ∙ c.answer.ensures.processors ∙ so_far.processors;
      taken_are = subst (λ (ns : List ℕ). TakenAre rules ns (answers numbered (booted config) (given ++ e ∷ []))) (sym same.2) taken_are;
      sized = ap (λ (ns : List ℕ). length ns) (same.2 ∙ c.answer.ensures.taken) ∙ taken_long rules before.taken w.made.event w.made.answer ∙ so_far.sized;
      seen = seen_next config rules question given e w.taken w.kernel w.made before.numbers next.numbers taken_are stands report so_far.seen seen;
    }
