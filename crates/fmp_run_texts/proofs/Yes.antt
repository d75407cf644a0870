-- The trace that answers some events is checked with yes.
use Rattle.std.proofs.Common.{◌≡◌, ◌∙◌, ℕ, ◌≤◌, List, length, subst, ap, arith}
use Rattle.std.specs.Prelude.{All}
use Rattle.fmp_rules.specs.Boot.{booted}
use Rattle.fmp_rules.specs.Arrivals.{numbered}
use Rattle.fmp_setup.specs.Setup.{Setup}
use Rattle.fmp_rules.specs.Step.{answers}
use Rattle.fmp_rules.proofs.Replays.{length-answers}
use Rattle.fmp_setup.specs.Valid.{IsValid}
use Rattle.fmp_text.proofs.Limited.{reading_on, reading_in_bits}
use Rattle.fmp_text.proofs.SpelledTexts.{reading_of-spelled}
use Rattle.fmp_text.specs.TextGrammar.{SpellsText}
use Rattle.fmp_names.specs.Names.{AreValid}
use Rattle.fmp_text.specs.Limits.{most_bytes as MOST_BYTES, most_events}
use Rattle.fmp_calls.specs.Arguments.{EventInBits}
use Rattle.fmp_codes.specs.Records.{AreOn}
use Rattle.fmp_codes.specs.declared.records.Event.{Event}
use Rattle.fmp_trace_check.proofs.FittingAnswers.{answers-fit}
use Rattle.fmp_trace_check.specs.Checking.{PrintsAnswers}
use Rattle.fmp_trace.proofs.Lengths.{lines_few}
use Rattle.fmp_law_balance.proofs.waits.Fewer.{few_releases}
use Rattle.fmp_trace.specs.Lines.{lines_from}
use Rattle.fmp_run_texts.specs.Texts.{Answered, SaysConfig}
use Rattle.fmp_run_texts.specs.Traces.{IsOwn}
use Rattle.fmp_law_lists.proofs.Along.{records_are_answers}
use Rattle.fmp_run_texts.proofs.Grammars.{one_config}

-- What a machine answers to events within their limit is within that of bytes: no line but for its releases has more than 738, no
-- release more than 143, and there are no more releases than events.
own_short : (c : Setup) (events : List Event) → IsValid c → AreValid c.names → AreOn c.processors events → All EventInBits events → length events ≤ most_events
    → length (lines_from c.names 1 (answers numbered (booted c) events)) ≤ MOST_BYTES
own_short c events valid names_valid on in_bits few =
    let bytes = lines_few c.names names_valid 1 (answers numbered (booted c) events) (answers-fit c events valid on in_bits) in
    let releases = few_releases c events valid on in
    let many = length-answers (booted c) events in
    omega (arith, bytes, releases, many, few)

-- the trace of what a machine answers to events within their limit
pub own_trace : (c : Setup) (trace : List ℕ) (events : List Event) → IsValid c → AreValid c.names → AreOn c.processors events → All EventInBits events → length events ≤ most_events
    → trace ≡ lines_from c.names 1 (answers numbered (booted c) events) → PrintsAnswers c trace events
own_trace c trace events valid names_valid on in_bits few is = record {
  on = on;
  in_bits = in_bits;
  few = few;
  short = rw is (own_short c events valid names_valid on in_bits few);
  prints = is;
}

-- the trace that answers a list of events prints what this machine answers to them
pub answered_prints : (config_text event_text trace : List ℕ) (c : Setup) → SaysConfig config_text c → IsValid c → AreValid c.names → (a : Answered config_text event_text trace) →
    PrintsAnswers c trace a.events
answered_prints config_text event_text trace c is valid names_valid a =
    let same : a.config ≡ c = one_config config_text a.config c a.says is in
    let spelled = subst (λ (s : Setup). SpellsText s.names event_text a.events) same a.lists in
    let lists = reading_of-spelled c.names event_text a.events names_valid spelled in
    own_trace c trace a.events valid names_valid (rw (← valid.same_processors) (reading_on c.names event_text a.events lists)) (reading_in_bits c.names event_text a.events names_valid lists)
    spelled.few (subst (λ (s : Setup). trace ≡ lines_from s.names 1 (answers numbered (booted s) a.events)) same
    (a.prints ∙ ap (lines_from a.config.names 1) (records_are_answers a.config a.events a.records a.headline)))

-- so does a trace that is one of the machine's own
pub own_prints : (config_text trace : List ℕ) (c : Setup) → SaysConfig config_text c → (own : IsOwn config_text trace) → PrintsAnswers c trace own.events
own_prints config_text trace c is own =
    subst (λ (s : Setup). PrintsAnswers s trace own.events) (one_config config_text own.config c own.says is) own.prints
