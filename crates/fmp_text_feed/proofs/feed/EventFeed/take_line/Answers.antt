use Rattle.std.proofs.Common.{◌∙◌, ◌≤◌, ap, drop}
use Rattle.std.proofs.lemmas.List.{drop-drop}
use Rattle.fmp_bytes.proofs.Cutting.{take-to_end}
use Rattle.fmp_codes.specs.Records.{processor_of}
use Rattle.fmp_calls.specs.Arguments.{EventInBits}
use Rattle.fmp_text.proofs.Limited.{line_in_bits, line_on}
use Rattle.fmp_text_feed.specs.Feed.{Feed}
use Rattle.fmp_text_feed.proofs.Ahead.{taken_off}
use Rattle.fmp_text_feed.proofs.Fitting.{scan_fits}
use Rattle.fmp_text_feed.proofs.feed.EventFeed.take_line.Goals as goal

pub returns-clause-takes : goal.returns-clause-takes
returns-clause-takes c =
    let s = c.self.inside in
    let old : Feed = record { rest = drop s.start s.bytes.items; lines = s.lines; events = s.events; taken = s.taken; dropped = s.has_dropped; ended = s.has_ended; fault = s.fault } in
    let fine = ap (λ (f : Feed). f.fault) c.self.view_is ∙ c.requires in
    let tail = take-to_end c.deref.result.now s.start ∙ ap (drop s.start) c.deref.ensures.value in
    rw (← c.self.view_is, ← drop-drop c.next_said-scan.result.used s.start s.bytes.items) (taken_off c.args.names.now old _ c.next_said-scan.result fine tail c.next_said-scan.ensures.gives c.next_said-scan.ensures.whole)

pub returns-clause-on : goal.returns-clause-on
returns-clause-on c = scan_fits c.args.names.now (λ e. (processor_of e).number ≤ c.args.names.now.processors) (line_on c.args.names.now) _ _ c.next_said-scan.result c.next_said-scan.ensures.gives

pub returns-clause-in_bits : goal.returns-clause-in_bits
returns-clause-in_bits c = scan_fits c.args.names.now EventInBits (λ line e. line_in_bits c.args.names.now line e c.validity.ensures) _ _ c.next_said-scan.result c.next_said-scan.ensures.gives
