use Rattle.std.proofs.Common.{◌≡◌, ◌∙◌, ◌-◌, ℕ, suc, false, List, Some, ap, length, refl, subst, sym, take}
use Rattle.std.specs.Prelude.{slice_get}
use Rattle.std.specs.Option.{option_and_then}
use Rattle.std.proofs.lemmas.Option.{slice_get_read}
use Rattle.fmp_search_orders.specs.Shown.{NoneShows}
use Rattle.fmp_search_pattern.specs.declared.question.Step.{Step}
use Rattle.fmp_cli_notes.specs.Judged.{IsFirst}
use Rattle.fmp_cli_notes.specs.Parts.{only_item}
use Rattle.fmp_cli_notes.specs.Patterns.{words_of}
use Rattle.fmp_cli_notes.proofs.Known.{of_first}
use Rattle.fmp_cli_notes.proofs.unshown.tell_step.Goals as goal

pub returns-in-Some-only_item : goal.returns-in-Some-only_item
returns-in-Some-only_item g c = λ whole.
    let s = c.args.searched.now in
    let step = c.in-Some.step.now in
    let item = c.in-Some-only_item.item.now in
    let bounds = c.args.bounds in
    let first = c.if-come-eq0.true in
    let at : slice_get s.question c.args.come ≡ Some step =
    ap (λ (q : List Step). slice_get q c.args.come) (sym (c.steps.ensures ∙ c.question.ensures))
    ∙ slice_get_read c.steps.result.now (length c.steps.result.now) c.args.come step refl c.in-Some.ensures.lookup.3.0 c.in-Some.ensures.lookup.1 in
    let all : only_item step ≡ Some item = sym c.in-Some-only_item.ensures in
    let known : item.negated ≡ false → IsFirst s (words_of item.wanted) (Some false) = λ positive. record {
      item = item;
      first = ap (λ (n : ℕ). option_and_then only_item (slice_get s.question n)) (sym first) ∙ ap (option_and_then only_item) at ∙ all;
      positive = positive;
      words = refl;
      none = subst (λ (n : ℕ). NoneShows s.config s.scripts s.rules (take (suc n) s.question)) first c.requires.last;
      never = refl;
    } in
    rw at (of_first c.args.about.asked.now s bounds.turns.count (bounds.places.count - 1) step item (g.N.Notes.told c.args.notes.now) (g.N.Notes.told c.tell_first.new.notes) all known c.tell_first.ensures)
