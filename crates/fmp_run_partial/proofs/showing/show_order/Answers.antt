use Rattle.std.proofs.Common.{◌≡◌, ◌≤◌, List, length, ap, sym, subst, ◌∙◌, arith}
use Rattle.fmp_codes.specs.declared.records.Event.{Event}
use Rattle.fmp_plain.specs.Run.{Run}
use Rattle.fmp_text.specs.Limits.{most_events}
use Rattle.fmp_run_partial.proofs.Played.{few_played}
use Rattle.fmp_run_partial.proofs.showing.show_order.Goals as goal

pub put_answers-requires : goal.put_answers-requires
put_answers-requires c =
    let few_events : length c.as_slice.result.now ≤ most_events = rw c.as_slice.ensures.value c.in_ok-lines.ensures.few in
    let steps : c.in_ok-plain.plain.steps ≡ 0 = ap (λ (m : Run). m.steps) c.in_ok-plain.ensures.state in
    let short : length c.as_slice-2.result.now ≤ most_events =
    subst (λ (xs : List Event). length xs ≤ most_events) (sym (c.as_slice-2.ensures.value ∙ c.in_ok-events.ensures))
    (few_played _ _ _ few_events c.requires.few) in
    omega (arith, steps, short)
