use Rattle.std.proofs.Common.{◌≡◌, ℕ, ◌-◌, ◌<◌, ◌≤◌, List, Option, None, Some, Bor, length, option_map, slice_get, get_or, refl, ap, sym, subst, ◌∙◌}
use Rattle.std.proofs.lemmas.Option.{slice_get_past, slice_get_read}
use Rattle.std.specs.List.{HoldsAt}
use Rattle.std.specs.Option.{IfSome, MatchOption, option_copied}
use Rattle.fmp_codes.specs.declared.records.Event.{Event}
use Rattle.fmp_text.specs.Limits.{most_events}
use Rattle.fmp_run_partial.specs.Playing.{played}
use Rattle.fmp_run_partial.proofs.Played.{few_played, is_told}
use Rattle.fmp_run_partial.proofs.telling.told_at.Goals as goal

-- what was looked up in a list
copied_at : (found : Option (Bor ℕ)) (xs : List ℕ) (i : ℕ) → IfSome found (λ x. x.now ≡ get_or xs i x.now)
    → MatchOption found (length xs ≤ i) (λ x. (i < length xs) × HoldsAt (λ y. x.now ≡ y) xs i) → option_copied found ≡ slice_get xs i
copied_at None xs i is there = sym (slice_get_past xs i there)
copied_at (Some x) xs i is there = sym (slice_get_read xs (length xs) i x.now refl there.0 is)

pub returns-clause-told : goal.returns-clause-told
returns-clause-told c = λ said read.
    let lines = c.in_ok-lines.lines in
    let order = option_map (λ v. v.items) c.args.order.now in
    let at : c.saturating_sub-at.result ≡ c.args.n - 1 = c.saturating_sub-at.ensures in
    let start : c.copied.result ≡ slice_get lines.starts.items (c.args.n - 1) =
    c.copied.ensures ∙ copied_at c.get.result c.deref.result.now c.saturating_sub-at.result c.get.ensures.lookup.1 c.get.ensures.lookup.3
    ∙ ap (λ (xs : List ℕ). slice_get xs c.saturating_sub-at.result) c.deref.ensures.value ∙ ap (slice_get lines.starts.items) at in
    let event : c.event_at.result ≡ slice_get lines.events.items (c.args.n - 1) =
    c.event_at.ensures ∙ ap (λ (xs : List Event). slice_get xs c.saturating_sub-at.result) c.as_slice-2.ensures.value ∙ ap (slice_get lines.events.items) at in
    let before : c.in_ok-before.before.items ≡ played lines.events.items (c.args.n - 1) order =
    c.in_ok-before.ensures ∙ ap (λ (xs : List Event). played xs c.saturating_sub-at.result order) c.as_slice.ensures.value
    ∙ ap (λ (count : ℕ). played lines.events.items count order) at in
    is_told c.args.config.now c.args.text.now lines c.in_ok-lines.ensures.lines said read order c.args.n
    record { number = c.args.n; start = c.copied.result; event = c.event_at.result; before = c.in_ok-before.before } refl start event before

pub returns-clause-within : goal.returns-clause-within
returns-clause-within c =
    let few_events : length c.as_slice.result.now ≤ most_events = rw c.as_slice.ensures.value c.in_ok-lines.ensures.few in
    record {
      short = c.requires.short;
      few = subst (λ (xs : List Event). length xs ≤ most_events) (sym c.in_ok-before.ensures) (few_played _ _ _ few_events c.requires.few);
    }
