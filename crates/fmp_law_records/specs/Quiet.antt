-- Events that change nothing, by their records alone.
use Rattle.std.specs.Prelude.{◌≡◌, false, None}
use Rattle.fmp_codes.specs.declared.records.Answer.TheVariants as answer
use Rattle.fmp_codes.specs.declared.records.Event.{Event}
use Rattle.fmp_codes.specs.declared.records.Event.TheVariants as event
use Rattle.fmp_codes.specs.declared.records.Record.{Record}
use Rattle.fmp_codes.specs.Records.{is_taken}
use Rattle.fmp_rules.specs.Arrivals.{State}

-- a call that nobody is there to make answers `idle` and changes nothing, and so does a tick or an interrupt that is not taken: one that is held, a tick
-- that does not count, an interrupt that finds no request
abbrev pub ChangesNothing : State → Event → Record → State → Type 0
ChangesNothing old (event.Call p call) did new = did.runner ≡ None → (did.answer ≡ answer.Idle) × (new ≡ old)
ChangesNothing old (event.Tick p) did new = is_taken did.answer ≡ false → new ≡ old
ChangesNothing old (event.Ipi p) did new = is_taken did.answer ≡ false → new ≡ old
