use Rattle.std.proofs.Common.{◌≡◌, true, drop, ap, subst, refl, ◌∙◌}
use Rattle.fmp_names.specs.Names.{NameLists}
use Rattle.fmp_trace.specs.Lines.{core_text}
use Rattle.fmp_show_facts.specs.Facts.{is_so as is_asked}
use Rattle.fmp_search_pattern.specs.Questions.{allows}
use Rattle.fmp_search_pattern.specs.Sights.{Sight}
use Rattle.fmp_search_orders.specs.Places.{sight_at}
use Rattle.fmp_search_orders.specs.Sights.{padded}
use Rattle.fmp_search_kernel.specs.Walked.{Walked, count_in}
use Rattle.fmp_search_pattern.proofs.Unread.{allowed_by}
use Rattle.fmp_search_kernel.proofs.Sighted.{sight_is}
use Rattle.fmp_search_kernel.proofs.walker.Walker.is_allowed.Goals as goal

pub returns-clause-allowed : goal.returns-clause-allowed
returns-clause-allowed c =
    let s = c.self.inside in
    let question = s.question.now in
    let seen = c.args.seen in
    let marked = c.args.marked in
    let over = c.is_over-over.result in
    let read = c.step_reads-is_read.result in
    let right = padded (drop 2 (core_text s.config.now.names 1 s.made)) in
    let line = λ (is : read ≡ true). c.deref.ensures.value ∙ c.in_ok-put_read_line.ensures is ∙ ap (λ (l : NameLists). padded (drop 2 (core_text l 1 s.made))) c.names-names.ensures.value in
    let shown = allowed_by (is_asked s.kernel) over c.deref.result.now right read question seen marked line c.step_reads-is_read.ensures in
    let sight = sight_is s.config.now s.made s.kernel over right s.rules (count_in s.taken) refl c.is_over-over.ensures in
    subst (λ (w : Walked). c.allows.result ≡ allows w.place.question seen marked (sight_at w.place w.made)) c.self.view_is
    (subst (λ (x : Sight). c.allows.result ≡ allows question seen marked x) sight
    (c.allows.ensures ∙ ap (allows question seen marked) c.new-event.ensures ∙ shown))
