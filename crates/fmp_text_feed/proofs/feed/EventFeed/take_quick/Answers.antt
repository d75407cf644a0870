use Rattle.std.proofs.Common.{◌≡◌, ◌<◌, None, ◌∙◌, ap, arith, drop, rules}
use Rattle.std.proofs.lemmas.Grind.{common_steps}
use Rattle.std.proofs.lemmas.List.{drop-drop}
use Rattle.fmp_bytes.proofs.Cutting.{take-to_end}
use Rattle.fmp_text.specs.Limits.{most_events}
use Rattle.fmp_text_feed.specs.Feed.{Feed}
use Rattle.fmp_text_feed.proofs.Quick.{quick_gives, quick_in_bits, quick_on}
use Rattle.fmp_text_feed.proofs.feed.EventFeed.take_quick.Goals as goal

pub returns-clause-gives : goal.returns-clause-gives
returns-clause-gives c =
    let s = c.self.inside in
    let old : Feed = record { rest = drop s.start s.bytes.items; lines = s.lines; events = s.events; taken = s.taken; dropped = s.has_dropped; ended = s.has_ended; fault = s.fault } in
    let fine : old.fault ≡ None = search rules in
    let room : old.events < most_events = grind (arith, common_steps) in
    let tail = take-to_end c.deref.result.now s.start ∙ ap (drop s.start) c.deref.ensures.value in
    λ _. rw (← c.self.view_is, ← drop-drop _ s.start s.bytes.items) (quick_gives c.args.names.now _ c.quick_line.new.event _ c.in-Some.ensures.line old fine tail room)

pub returns-clause-on : goal.returns-clause-on
returns-clause-on c = λ _. quick_on c.args.names.now _ c.quick_line.new.event _ c.in-Some.ensures.line

pub returns-clause-in_bits : goal.returns-clause-in_bits
returns-clause-in_bits c = λ _. quick_in_bits c.args.names.now _ c.quick_line.new.event _ c.in-Some.ensures.line c.validity.ensures
