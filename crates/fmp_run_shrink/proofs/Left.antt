-- What is left of a list that was read is such as a list of events may have.
use Rattle.std.proofs.Common.{◌≡◌, ℕ, ◌≤◌, List, length, arith}
use Rattle.std.specs.Prelude.{All}
use Rattle.fmp_calls.specs.Arguments.{EventInBits}
use Rattle.fmp_codes.specs.Records.{AreOn, processor_of}
use Rattle.fmp_codes.specs.declared.records.Event.{Event}
use Rattle.fmp_names.specs.Names.{NameLists}
use Rattle.fmp_text.specs.Limits.{most_events}
use Rattle.fmp_run_shrink.specs.Written.Telling.{IsReadBack, event_lines}
use Rattle.fmp_search_shrink.specs.Runners.{IsPartOf}
use Rattle.fmp_search_shrink.proofs.Parts.{part_all, part_length}

module _ (whole es : List Event) (part : IsPartOf es whole) where
  pub left_on : (n : ℕ) → AreOn n whole → AreOn n es
  left_on n on = part_all (λ e. (processor_of e).number ≤ n) es whole part on

  pub left_in_bits : All EventInBits whole → All EventInBits es
  left_in_bits bits = part_all EventInBits es whole part bits

  pub left_few : length whole ≤ most_events → length es ≤ most_events
  left_few few = omega (arith, few, part_length es whole part)

-- the text of what is left, where it is written of a copy by a copy of the names
pub is_written : (lists names : NameLists) (text : List ℕ) (es copy : List Event) → names ≡ lists → copy ≡ es → text ≡ event_lines names copy
    → (AreOn names.processors copy → All EventInBits copy → length copy ≤ most_events → IsReadBack names text copy)
    → AreOn lists.processors es → All EventInBits es → length es ≤ most_events → (text ≡ event_lines lists es) × IsReadBack lists text es
is_written lists names text es copy same is lines read on bits few = (rw (same, is) at lines, (rw (same, is) at read) on bits few)
