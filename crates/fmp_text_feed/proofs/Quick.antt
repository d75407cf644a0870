-- The first line, taken off a feed where it is an event.
use Rattle.std.proofs.Common.{◌≡◌, ◌<◌, ◌≤◌, ℕ, ◌+◌, List, drop, Some, None, Ok, refl, sym, ◌∙◌, arith}
use Rattle.std.proofs.lemmas.Bool.{lt-ltb}
use Rattle.fmp_codes.specs.Records.{processor_of}
use Rattle.fmp_codes.specs.declared.records.Event.{Event}
use Rattle.fmp_calls.specs.Arguments.{EventInBits}
use Rattle.fmp_names.specs.Names.{NameLists, AreValid}
use Rattle.fmp_text.specs.Limits.{most_events}
use Rattle.fmp_text.specs.declared.scan.Scan.{Scan}
use Rattle.fmp_text.specs.Events.{IsFirstLine, ScansTo}
use Rattle.fmp_text.proofs.Limited.{line_in_bits, line_on}
use Rattle.fmp_text.proofs.Scanned.{next_line}
use Rattle.fmp_text_feed.specs.Feed.{Feed, Gives}
use Rattle.fmp_text_feed.proofs.Ahead.{taken_off}

module _ (names : NameLists) (tail : List ℕ) (event : Event) (used : ℕ) (first : IsFirstLine names tail (Ok (Some event)) used) where
  pub quick_gives : (old : Feed) → old.fault ≡ None → tail ≡ old.rest → old.events < most_events
      → Gives names old (Ok (Some event)) (record old { rest = drop used old.rest; lines = old.lines + 1; events = old.events + 1 })
  quick_gives old fine is_tail room more =
      let scan : Scan = record { said = Ok (Some event); used = used; lines = old.lines + 1 } in
      let none : 0 + used ≡ used = omega arith in
      let scans : ScansTo names old.lines tail scan = λ cut count rest. rw none at (next_line names old.lines tail tail old.lines 0 used (Ok (Some event)) refl first (λ c n m. refl) cut count rest) in
      let taken = taken_off names old tail scan fine is_tail scans (λ nothing. absurd cc) in
      rw (lt-ltb old.events most_events room) at (taken.ahead more)

  pub quick_on : (processor_of event).number ≤ names.processors
  quick_on = line_on names first.line event (sym first.says)

  pub quick_in_bits : AreValid names → EventInBits event
  quick_in_bits valid = line_in_bits names first.line event valid (sym first.says)
