use Rattle.std.proofs.Common.{◌∙◌, List, Bool, ap, drop, refl}
use Rattle.fmp_names.specs.Names.{NameLists}
use Rattle.fmp_trace.specs.Lines.{core_text}
use Rattle.fmp_search_pattern.specs.Sights.{Sight}
use Rattle.fmp_search_orders.specs.Sights.{padded, sight}
use Rattle.fmp_search_kernel.specs.Walked.{count_in}
use Rattle.fmp_search_kernel.proofs.Sighted.{sight_is}
use Rattle.fmp_search_shrink.specs.Seen.{is_seen}
use Rattle.fmp_search_shrink.proofs.Seeing.{settled_next}
use Rattle.fmp_search_shrink.proofs.showing.Watch.see.Goals as goal

pub returns-then-is_settled-clause-next : goal.returns-then-is_settled-clause-next
returns-then-is_settled-clause-next c = settled_next c.args.question.now c.args.self.now.numbers (c.if-is_settled.ensures refl) _

pub returns-clause-next : goal.returns-clause-next
returns-clause-next c = λ n small.
    let s = c.args.self.now in
    let line = c.as_slice.ensures.value ∙ c.in_ok-put_line.ensures ∙ ap (λ (l : NameLists). padded (drop 2 (core_text l 1 s.made))) c.names.ensures.value in
    let seen = c.new-event.ensures ∙ sight_is c.args.config.now s.made s.kernel c.is_over-over.result c.as_slice.result.now c.args.rules (count_in s.taken) line c.is_over-over.ensures in
    c.all_seen-self.ensures n small ∙ ap (λ (x : Sight). is_seen c.args.question.now x s.numbers n) seen
