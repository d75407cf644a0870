-- How a run over a configuration and events ends.
use Rattle.std.proofs.Common.{◌≡◌, ◌∙◌, ℕ, false, List, ◌++◌, take, Result, Ok, Err, IfErr, OnOk, ap, sym, refl, inl, inr}
use Rattle.std.proofs.lemmas.Bool.{false≢true}
use Rattle.fmp_law_lists.proofs.Along.{headline_throughout}
use Rattle.fmp_law_records.proofs.effects.ReportedRuns.{machine_run}
use Rattle.fmp_rules.specs.Arrivals.{numbered}
use Rattle.fmp_rules.specs.Boot.{booted}
use Rattle.fmp_rules.specs.Step.{answers}
use Rattle.fmp_codes.specs.Records.{AreOn}
use Rattle.fmp_setup.specs.Setup.{Setup}
use Rattle.fmp_setup.specs.Valid.{IsValid}
use Rattle.fmp_law_safety.proofs.Booted.{runs_safe}
use Rattle.fmp_text.proofs.Limited.{reading_on}
use Rattle.fmp_codes.specs.declared.records.Event.{Event}
use Rattle.fmp_names.specs.Names.{AreValid, NameLists}
use Rattle.fmp_text.proofs.SpelledTexts.{reading_of-spelled, text_is_spelled}
use Rattle.fmp_text.specs.TextGrammar.{SpellsText}
use Rattle.fmp_text.specs.declared.fault.TextFault.{TextFault}
use Rattle.fmp_text.specs.Events.{IsFirst, IsMemory, reading_by_line}
use Rattle.fmp_text_feed.proofs.Report.{never_memory}
use Rattle.fmp_run_texts.proofs.Grammars.{one_config, only_memory}
use Rattle.fmp_run_events.proofs.ByLine.{line_by_line, whole_by_line}
use Rattle.fmp_run_texts.specs.declared.fault.RunFault.{RunFault}
use Rattle.fmp_run_stream.specs.declared.stream.Detail.{Detail}
use Rattle.fmp_run_texts.specs.declared.fault.RunFault.TheVariants as run
use Rattle.fmp_run_texts.specs.Faults.{is_config, is_text, is_write}
use Rattle.fmp_run_texts.specs.Texts.{FirstConfigFault, FlushFails, SaysConfig}
use Rattle.fmp_run_stream.specs.Runs.{FirstEventFault, FirstTextFault, IsAnswered, IsNoFaultOfText, IsPrefix, IsPrefixOut, IsOutOfMemory, IsWritten, LeavesWritten, Writing, trace_of}
use Rattle.fmp_run_stream.specs.Details.{detail_of}
use Rattle.fmp_run_stream.specs.Told.{IsTold}
use Rattle.fmp_run_stream.specs.Streams.{IsAllOut, IsAmple, Leaves}

-- without a fault all events are answered, and the text spells them
pub written : (config_text event_text old new : List ℕ) (d : Detail) (writing : Writing) (c : Setup) → ((es : List Event) → detail_of d c es ≡ writing c es) → SaysConfig config_text c → IsValid c
    → IsAllOut d c (reading_by_line c.names event_text) old new → IsWritten writing config_text event_text old new
written config_text event_text old new d writing c same says valid all =
    let is = whole_by_line c.names event_text all.given all.reading in
    let on : AreOn c.processors all.given = rw (← valid.same_processors) (reading_on c.names event_text all.given is) in
    let safe = runs_safe c all.given valid on in (
      writing c all.given,
      record {
        config = c;
        events = all.given;
        says = says;
        lists = text_is_spelled c.names event_text all.given is;
        prints = refl;
        safe = safe;
        headline = headline_throughout c all.given valid on;
        reported = machine_run c valid all.given on;
      },
      all.text ∙ ap (λ (bytes : List ℕ). old ++ bytes) (same all.given),
    )

-- a trace that was written so answers the events
pub answered : (config_text event_text old new : List ℕ) → IsWritten trace_of config_text event_text old new → IsAnswered config_text event_text old new
unfolding trace_of
answered config_text event_text old new (output, w, out) = (
  output,
  record {
    config = w.config;
    events = w.events;
    records = answers numbered (booted w.config) w.events;
    says = w.says;
    lists = w.lists;
    prints = w.prints;
    safe = w.safe;
    headline = w.headline;
  },
  out,
)

-- and it is the trace that records tell
pub told : (config_text event_text old new : List ℕ) → IsWritten trace_of config_text event_text old new → IsTold config_text event_text old new
unfolding trace_of
told config_text event_text old new (output, w, out) = (
  output,
  record {
    config = w.config;
    events = w.events;
    records = answers numbered (booted w.config) w.events;
    says = w.says;
    lists = w.lists;
    run = w.reported;
    prints = w.prints;
  },
  out,
)

-- what is written of a prefix of the events, in other words
pub prefix_as : (d : Detail) (writing : Writing) (c : Setup) → ((es : List Event) → detail_of d c es ≡ writing c es) → (events : List Event) (old new : List ℕ)
    → IsPrefixOut (detail_of d) c events old new → IsPrefixOut writing c events old new
prefix_as d writing c same events old new (n, text) = (n, text ∙ ap (λ (bytes : List ℕ). old ++ bytes) (same (take n events)))

module _ (config_text event_text old : List ℕ) where
  -- a fault of the configuration, or before there is one
  pub nothing_out : (writing : Writing) (fault : RunFault) → is_text fault ≡ false → is_write fault ≡ false → LeavesWritten writing config_text event_text old old fault
  nothing_out writing (run.Config fault) text write = refl
  nothing_out writing (run.Text fault) text write = absurd (false≢true (sym text))
  nothing_out writing run.Read text write = inl refl
  nothing_out writing run.Write text write = absurd (false≢true (sym write))
  nothing_out writing run.Memory text write = inl refl
  nothing_out writing run.Start text write = inl refl
  nothing_out writing run.Disagree text write = inl refl

  pub no_text : (fault : RunFault) → is_text fault ≡ false → FirstTextFault config_text event_text fault
  no_text (run.Config fault) text = tt
  no_text (run.Text fault) text = absurd (false≢true (sym text))
  no_text run.Read text = tt
  no_text run.Write text = tt
  no_text run.Memory text = tt
  no_text run.Start text = tt
  no_text run.Disagree text = tt

  -- a fault after a right configuration
  module _ (c : Setup) (says : SaysConfig config_text c) where
    pub leaves_out : (d : Detail) (writing : Writing) → ((es : List Event) → detail_of d c es ≡ writing c es) → (new : List ℕ) (fault : RunFault) → is_config fault ≡ false
        → Leaves d c event_text (reading_by_line c.names event_text) old new fault → LeavesWritten writing config_text event_text old new fault
    leaves_out d writing same new (run.Config fault) config left = absurd (false≢true (sym config))
    leaves_out d writing same new (run.Text fault) config (inl left) =
        (c, says, inl (record { first = left.first; text = left.text ∙ ap (λ (bytes : List ℕ). old ++ bytes) (same (reading_by_line c.names event_text).events) }))
    leaves_out d writing same new (run.Text fault) config (inr left) = (c, says, inr (left.0, prefix_as d writing c same _ old new left.1.0))
    leaves_out d writing same new run.Read config left = inr (c, says, prefix_as d writing c same _ old new left)
    leaves_out d writing same new run.Write config left = (
      detail_of d c (reading_by_line c.names event_text).events,
      record { config = c; says = says; prints = same (reading_by_line c.names event_text).events },
      left,
    )
    leaves_out d writing same new run.Memory config (inl none) = inl none
    leaves_out d writing same new run.Memory config (inr left) = inr (c, says, prefix_as d writing c same _ old new left.0)
    leaves_out d writing same new run.Start config left = inr (c, says, prefix_as d writing c same _ old new left)
    leaves_out d writing same new run.Disagree config left = inr (c, says, prefix_as d writing c same _ old new left)

    pub first_out : (fault : RunFault) → FirstEventFault (reading_by_line c.names event_text) fault → FirstTextFault config_text event_text fault
    first_out (run.Config fault) first = tt
    first_out (run.Text fault) first = (c, says, first)
    first_out run.Read first = tt
    first_out run.Write first = tt
    first_out run.Memory first = tt
    first_out run.Start first = tt
    first_out run.Disagree first = tt

    -- the same of a result
    pub leaves_result : {T : Type 0} (d : Detail) (new : List ℕ) (r : Result T RunFault) → IfErr r (λ fault. is_config fault ≡ false)
        → IfErr r (Leaves d c event_text (reading_by_line c.names event_text) old new) → IfErr r (LeavesWritten (detail_of d) config_text event_text old new)
    leaves_result d new (Ok done) config left = tt
    leaves_result d new (Err fault) config left = leaves_out d (detail_of d) (λ es. refl) new fault config left

    pub first_result : {T : Type 0} (r : Result T RunFault) → IfErr r (FirstEventFault (reading_by_line c.names event_text)) → IfErr r (FirstTextFault config_text event_text)
    first_result (Ok done) first = tt
    first_result (Err fault) first = first_out fault first

    pub written_result : {T : Type 0} (d : Detail) (new : List ℕ) (r : Result T RunFault) → OnOk r (IsValid c)
        → OnOk r (IsAllOut d c (reading_by_line c.names event_text) old new) → OnOk r (IsWritten (detail_of d) config_text event_text old new)
    written_result d new (Ok done) valid all = written config_text event_text old new d (detail_of d) c (λ es. refl) says valid all
    written_result d new (Err fault) valid all = tt

-- a read of the events failed, and the flush after it, or none did
pub flush_result : {K L M : Type 0} (config_text event_text old : List ℕ) (c : Setup) → (K → SaysConfig config_text c) → (d : Detail) (new : List ℕ) (n m : ℕ)
    → FlushFails n m (M → IsPrefixOut (detail_of d) c (reading_by_line c.names event_text).events old new) → FlushFails n m (K → L → M → IsPrefix (detail_of d) config_text event_text old new)
flush_result config_text event_text old c says d new n m (inl none) = inl none
flush_result config_text event_text old c says d new n m (inr (one, out)) = inr (one, λ configs reads writes. inr (c, says configs, out writes))

-- where the room that was taken is enough, nothing is out after want of memory
module _ (c : Setup) (event_text old : List ℕ) (valid : AreValid c.names) (d : Detail) (ample : IsAmple d event_text) where
  early : (new : List ℕ) (fault : RunFault) → is_config fault ≡ false → Leaves d c event_text (reading_by_line c.names event_text) old new fault → IsOutOfMemory fault → new ≡ old
  early new (run.Config fault) config left want = absurd (false≢true (sym config))
  early new (run.Text fault) config (inl before) want = absurd (never_memory c.names valid event_text fault before.first want.0)
  early new (run.Text fault) config (inr (memory, out)) want = absurd (out.1 ample)
  early new run.Read config left want = absurd want
  early new run.Write config left want = absurd want
  early new run.Memory config (inl none) want = none
  early new run.Memory config (inr out) want = absurd (out.1 ample)
  early new run.Start config left want = absurd want
  early new run.Disagree config left want = absurd want

  pub early_result : {T : Type 0} (new : List ℕ) (r : Result T RunFault) → IfErr r (λ fault. is_config fault ≡ false)
      → IfErr r (Leaves d c event_text (reading_by_line c.names event_text) old new) → IfErr r (λ fault. IsOutOfMemory fault → new ≡ old)
  early_result new (Ok done) config left = tt
  early_result new (Err fault) config left = early new fault config left

-- Texts that are right in all have no fault.
module _ (config_text event_text : List ℕ) (c : Setup) (events : List Event) (says : SaysConfig config_text c) (spells : SpellsText c.names event_text events) where
  pub config_right : (fault : RunFault) → is_text fault ≡ false → FirstConfigFault config_text fault → IsNoFaultOfText fault
  config_right (run.Config fault) text first = only_memory config_text c (run.Config fault) says first text
  config_right (run.Text fault) text first = absurd (false≢true (sym text))
  config_right run.Read text first = tt
  config_right run.Write text first = tt
  config_right run.Memory text first = tt
  config_right run.Start text first = tt
  config_right run.Disagree text first = tt

  text_right : (names : NameLists) → names ≡ c.names → AreValid names → (fault : TextFault) → IsFirst (reading_by_line names event_text) fault → IsMemory fault
  text_right names same valid fault (inl first) =
      let spelled = rw (← same) at spells in
      let read = line_by_line names event_text events (reading_of-spelled names event_text events valid spelled) in
      absurd (let report = rw read at first in cc)
  text_right names same valid fault (inr memory) = memory

  pub events_right : (names : NameLists) → names ≡ c.names → AreValid names → (fault : RunFault) → is_config fault ≡ false → FirstEventFault (reading_by_line names event_text) fault
      → IsNoFaultOfText fault
  events_right names same valid (run.Config fault) config first = absurd (false≢true (sym config))
  events_right names same valid (run.Text fault) config first = text_right names same valid fault first
  events_right names same valid run.Read config first = tt
  events_right names same valid run.Write config first = tt
  events_right names same valid run.Memory config first = tt
  events_right names same valid run.Start config first = tt
  events_right names same valid run.Disagree config first = tt

  pub right_result : {T : Type 0} (config : Setup) → SaysConfig config_text config → AreValid config.names → (r : Result T RunFault) → IfErr r (λ fault. is_config fault ≡ false)
      → IfErr r (FirstEventFault (reading_by_line config.names event_text)) → IfErr r IsNoFaultOfText
  right_result config is valid (Ok done) kinds first = tt
  right_result config is valid (Err fault) kinds first = events_right config.names (ap (λ (s : Setup). s.names) (one_config config_text config c is says)) valid fault kinds first
