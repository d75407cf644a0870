use Rattle.std.proofs.Common.{◌≡◌, true, drop, ap, map, subst, refl, ◌∙◌}
use Rattle.fmp_names.specs.Names.{NameLists}
use Rattle.fmp_trace.specs.Lines.{core_text}
use Rattle.fmp_show_facts.specs.Facts.{is_so as is_asked}
use Rattle.fmp_search_pattern.specs.Lasting.{is_so}
use Rattle.fmp_search_pattern.specs.Sights.{Sight}
use Rattle.fmp_search_orders.specs.Places.{sight_at}
use Rattle.fmp_search_orders.specs.Sights.{padded}
use Rattle.fmp_search_orders.specs.Watched.{bits_of}
use Rattle.fmp_search_kernel.specs.Walked.{Walked, count_in}
use Rattle.fmp_search_pattern.proofs.Unread.{all_by}
use Rattle.fmp_search_kernel.proofs.Sighted.{sight_is}
use Rattle.fmp_search_kernel.proofs.walker.Walker.bits.Goals as goal

pub returns-clause-bits : goal.returns-clause-bits
returns-clause-bits c =
    let s = c.self.inside in
    let lasting = c.args.lasting.now in
    let over = c.is_over-over.result in
    let right = padded (drop 2 (core_text s.config.now.names 1 s.made)) in
    let line = λ (read : c.some_read.result ≡ true). c.deref.ensures.value ∙ c.in_ok-put_read_line.ensures read ∙ ap (λ (l : NameLists). padded (drop 2 (core_text l 1 s.made))) c.names-names.ensures.value in
    let shown = all_by (is_asked s.kernel) over c.deref.result.now right c.some_read.result lasting line c.some_read.ensures in
    let sight = sight_is s.config.now s.made s.kernel over right s.rules (count_in s.taken) refl c.is_over-over.ensures in
    subst (λ (w : Walked). c.bits_at.result ≡ bits_of (map (λ l. is_so l (sight_at w.place w.made)) lasting)) c.self.view_is
    (subst (λ (x : Sight). c.bits_at.result ≡ bits_of (map (λ l. is_so l x) lasting)) sight
    (c.bits_at.ensures ∙ ap (λ (x : Sight). bits_of (map (λ l. is_so l x) lasting)) c.new-seen.ensures ∙ ap bits_of shown))
