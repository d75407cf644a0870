use Rattle.std.proofs.Common.{◌≡◌, Some, None, true, List, refl, sym, ap, ◌∙◌, arith}
use Rattle.std.specs.Option.{option_map}
use Rattle.std.proofs.lemmas.Bool.{eq-eqb}
use Rattle.fmp_kernel_parts.specs.Lists as links
use Rattle.fmp_kernel_parts.proofs.Soundness.{list_in}
use Rattle.fmp_time.specs.Differences.{Entry, entries_at, ticks_in}
use Rattle.fmp_time.specs.Left.{left_by}
use Rattle.fmp_time.proofs.Entries.{list_at-entries_of}
use Rattle.fmp_time.proofs.Found.{place_entry, left_none, left_some}
use Rattle.fmp_time.proofs.differences.Differences.at.Goals as goal

pub returns-in_err-list-clause-left : goal.returns-in_err-list-clause-left
returns-in_err-list-clause-left c =
    left_none c.args.self.now c.args.item (place_entry c.self.inside.more c.self.inside.links c.args.self.now c.args.item None c.self.view_is c.in_err-list.ensures)
    ∙ ap (option_map left_by) (sym c.from_residual.ensures)

pub ticks_at-requires-clause-list_in : goal.ticks_at-requires-clause-list_in
ticks_at-requires-clause-list_in c =
    let there : links.has c.args.item (links.list_at c.self.inside.links c.in_ok-list.list) ≡ true =
    c.in_ok-list.ensures c.in_ok-list.list ∙ eq-eqb c.in_ok-list.list c.in_ok-list.list refl in
    omega (arith, list_in c.self.inside.links c.in_ok-list.list c.args.item there, c.self.invariant.count)

pub ticks_at-requires-clause-there : goal.ticks_at-requires-clause-there
ticks_at-requires-clause-there c = c.in_ok-list.ensures c.in_ok-list.list ∙ eq-eqb c.in_ok-list.list c.in_ok-list.list refl

pub returns-clause-left : goal.returns-clause-left
returns-clause-left c =
    left_some c.args.self.now c.args.item c.in_ok-list.list c.ticks_at.result
    (place_entry c.self.inside.more c.self.inside.links c.args.self.now c.args.item (Some c.in_ok-list.list) c.self.view_is c.in_ok-list.ensures)
    (ap (λ (q : List (List Entry)). ticks_in (entries_at q c.in_ok-list.list) c.args.item) (sym c.self.view_is)
    ∙ ap (λ (es : List Entry). ticks_in es c.args.item) (list_at-entries_of c.self.inside.more c.self.inside.links c.in_ok-list.list) ∙ c.ticks_at.ensures)
