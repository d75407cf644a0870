-- One event more of a run, one piece more of its text, and its end.
use Rattle.std.proofs.Common.{◌≡◌, ◌≢◌, ◌⊎◌, ◌∙◌, ℕ, ◌+◌, ◌*◌, ◌-◌, ◌≤◌, ◌<◌, Bool, true, false, cond, IsTrue, List, [], ◌∷◌, ◌++◌, length, take, drop, refl, ap, sym, subst, arith, append_assoc, length-append, inl, inr}
use Rattle.std.specs.Prelude.{None, Some, Option, Ok}
use Rattle.std.proofs.lemmas.List.{append-nil, append_cancel_left, take-append-drop}
use Rattle.std.proofs.Math.Seq.{take-append_seam}
use Rattle.fmp_codes.specs.declared.records.Event.{Event}
use Rattle.fmp_text_feed.proofs.Cut.{ahead_closed, ahead_new, ahead_pushed}
use Rattle.fmp_text_feed.proofs.Short.{end_short, pushed_short, rest_short}
use Rattle.fmp_text_feed.specs.Feed.{Feed, Gives, IsDone, IsEndOf, IsWanting, ahead, closed, first_room, new_feed, only, pushed}
use Rattle.fmp_law_lists.specs.Stands.{Stands}
use Rattle.fmp_rules.specs.Boot.{booted}
use Rattle.fmp_rules.specs.Arrivals.{State, numbered}
use Rattle.fmp_setup.specs.Setup.{Setup}
use Rattle.fmp_rules.specs.Step.{replay, step}
use Rattle.fmp_text.specs.declared.fault.TextFault.{TextFault}
use Rattle.fmp_text.specs.Events.{Reading, faultless, reading_by_line, with_events}
use Rattle.fmp_codes.specs.declared.records.Record.{Record}
use Rattle.fmp_names.specs.Names.{NameLists}
use Rattle.fmp_run_stream.proofs.Traces.{all_begun, begins_on, boot_begun, detail_more, detail_none, entry_after, prefix_begun, state_more, report_again}
use Rattle.fmp_run_stream.specs.declared.stream.Answering.{Answering}
use Rattle.fmp_run_stream.specs.declared.stream.Detail.{Detail}
use Rattle.fmp_run_stream.specs.declared.stream.Detail.TheVariants as detail
use Rattle.fmp_run_texts.specs.declared.fault.RunFault.{RunFault}
use Rattle.fmp_run_texts.specs.declared.fault.RunFault.TheVariants as run
use Rattle.fmp_run_devices.specs.Devices.{BeginsWith}
use Rattle.fmp_run_stream.specs.Runs.{IsPrefixOut}
use Rattle.fmp_run_stream.specs.Details.{boot_text, detail_of, entry_text, report_in}
use Rattle.fmp_run_stream.specs.Streams.{Answers, IsAllOut, IsAmple, Leaves, Streams, pending}

module _ (d : Detail) (tells : Bool) (c : Setup) (text : List ℕ) (whole : Reading) (old : List ℕ) where
  -- one event was answered, and its entry told
  pub stream_step : (a b : Answering) (between : Feed) (written out remaining : List ℕ) (event : Event) → Answers d tells c text whole old a written remaining
      → ahead c.names a.feed remaining ≡ with_events (event ∷ []) (ahead c.names between remaining) → IsEndOf a.feed.rest between.rest → between.dropped ≡ a.feed.dropped
      → ((m : State) → Stands a.kernel m → b.detail ≡ report_in a.detail c.names (step numbered m event).0) → b.feed ≡ between
      → ((m : State) → Stands a.kernel m → Stands b.kernel (step numbered m event).0) → b.count ≡ a.count + 1
      → (IsTrue tells → (m : State) → Stands a.kernel m → out ≡ written ++ entry_text a.detail c.names (a.count + 1) (step numbered m event))
      → Answers d tells c text whole old b out remaining
  stream_step a b between written out remaining event s next end dropped same feed state count line =
      let rest = ahead c.names b.feed remaining in
      let before = replay numbered (booted c) s.given in
      let next_state = (step numbered before event).0 in
      record {
        given = s.given ++ event ∷ [];
        detail = same before s.stands ∙ ap (λ (x : Detail). report_in x c.names next_state) s.detail ∙ report_again d c.names before next_state
            ∙ ap (report_in d c.names) (sym (state_more c s.given event));
        reading = s.reading ∙ ap (with_events s.given) (rw (← feed) at next)
            ∙ ap (λ (xs : List Event). record { events = xs; fault = rest.fault }) (sym (append_assoc s.given (event ∷ []) rest.events));
        short = λ kept fits. rw feed (end_short 32768 a.feed.rest between.rest remaining end (s.short (sym dropped ∙ ap (λ (f : Feed). f.dropped) (sym feed) ∙ kept) fits));
        stands = rw (state_more c s.given event) (state _ s.stands);
        count = rw (count, s.count, length-append) refl;
        text = λ report.
            line report _ s.stands ∙ ap (λ (x : Detail). written ++ entry_text x c.names (a.count + 1) (step numbered before event)) s.detail
            ∙ ap (λ i. written ++ entry_text (report_in d c.names before) c.names (i + 1) (step numbered before event)) s.count
            ∙ ap (λ xs. xs ++ entry_after d c s.given event) (s.text report) ∙ append_assoc old (detail_of d c s.given) (entry_after d c s.given event)
            ∙ ap (λ xs. old ++ xs) (sym (detail_more d c s.given event));
      }

  -- a piece was read and pushed
  pub stream_push : (a b : Answering) (piece written remaining rest : List ℕ) → Streams d tells c text whole old a written remaining → a.feed.ended ≡ false
      → a.feed.dropped ≡ false → remaining ≡ piece ++ rest → b.detail ≡ a.detail → b.feed ≡ pushed a.feed piece → b.kernel ≡ a.kernel → b.count ≡ a.count → pending b ≡ pending a → Streams d tells c text whole old b written rest
  stream_push a b piece written remaining rest st unended undropped split detail feed kernel count line =
      let s = st.report in
      record {
        passed = line ∙ st.passed;
        report = record {
          given = s.given;
          detail = detail ∙ s.detail;
          reading = s.reading ∙ ap (with_events s.given) (ap (ahead c.names a.feed) split ∙ ahead_pushed c.names a.feed piece rest unended ∙ ap (λ f. ahead c.names f rest) (sym feed));
          short = λ kept fits. rw feed (pushed_short 32768 a.feed piece rest (ap (λ (f : Feed). f.dropped) (sym feed) ∙ kept) (rw split at (s.short undropped fits)));
          stands = rw kernel s.stands;
          count = count ∙ s.count;
          text = s.text;
        };
      }

  -- the end of the text was read
  pub stream_close : (a b : Answering) (written remaining rest : List ℕ) → Streams d tells c text whole old a written remaining → a.feed.ended ≡ false
      → remaining ≡ [] → rest ≡ [] → b.detail ≡ a.detail → b.feed ≡ closed a.feed → b.kernel ≡ a.kernel → b.count ≡ a.count → pending b ≡ pending a → Streams d tells c text whole old b written rest
  stream_close a b written remaining rest st unended none no_rest detail feed kernel count line =
      let s = st.report in
      record {
        passed = line ∙ st.passed;
        report = record {
          given = s.given;
          detail = detail ∙ s.detail;
          reading = s.reading ∙ ap (with_events s.given) (ap (ahead c.names a.feed) none ∙ ahead_closed c.names a.feed rest unended ∙ ap (λ f. ahead c.names f rest) (sym feed));
          short = λ kept fits. rw (feed, no_rest) (rw none at (s.short (ap (λ (f : Feed). f.dropped) (sym feed) ∙ kept) fits));
          stands = rw kernel s.stands;
          count = count ∙ s.count;
          text = s.text;
        };
      }

  -- a feed that asks for more has the same ahead
  pub stream_same : (a b : Answering) (written remaining : List ℕ) → Answers d tells c text whole old a written remaining
      → ahead c.names a.feed remaining ≡ ahead c.names b.feed remaining → IsEndOf a.feed.rest b.feed.rest → b.feed.dropped ≡ a.feed.dropped → b.detail ≡ a.detail → b.kernel ≡ a.kernel → b.count ≡ a.count → Answers d tells c text whole old b written remaining
  stream_same a b written remaining s same end dropped detail kernel count = record {
    given = s.given;
    detail = detail ∙ s.detail;
    reading = s.reading ∙ ap (with_events s.given) same;
    short = λ kept fits. end_short 32768 a.feed.rest b.feed.rest remaining end (s.short (sym dropped ∙ kept) fits);
    stands = rw kernel s.stands;
    count = count ∙ s.count;
    text = s.text;
  }

  -- what was told is out or pending, as before
  pub answers_moved : (a b : Answering) (before out remaining : List ℕ) → (b.feed ≡ a.feed) × (b.kernel ≡ a.kernel) × (b.count ≡ a.count) × (b.detail ≡ a.detail)
      → (IsTrue tells → out ≡ before) → Answers d tells c text whole old a before remaining → Answers d tells c text whole old b out remaining
  answers_moved a b before out remaining same out_is s = record {
    given = s.given;
    detail = same.3 ∙ s.detail;
    reading = s.reading ∙ ap (with_events s.given) (ap (λ f. ahead c.names f remaining) (sym same.0));
    short = λ kept fits. rw same.0 (s.short (ap (λ (f : Feed). f.dropped) (sym same.0) ∙ kept) fits);
    stands = rw same.1 s.stands;
    count = same.2 ∙ s.count;
    text = λ report. out_is report ∙ s.text report;
  }

  -- what was written was passed on, and is the same
  pub stream_passed : (a : Answering) (written out remaining : List ℕ) → (IsTrue tells → out ≡ written) → Streams d tells c text whole old a written remaining
      → Streams d tells c text whole old a out remaining
  stream_passed a written out remaining same s = record { report = answers_moved a a written out remaining (refl, refl, refl, refl) same s.report; passed = s.passed }

  -- at the end of the text all is out
  pub stream_done : (a : Answering) (written remaining : List ℕ) → IsTrue tells → Streams d tells c text whole old a written remaining → IsDone c.names a.feed
      → IsAllOut d c whole old written
  stream_done a written remaining report st done =
      let s = st.report in
      record {
        given = s.given;
        reading = s.reading ∙ ap (with_events s.given) (done remaining) ∙ ap (λ (xs : List Event). faultless xs) (append-nil s.given);
        text = s.text report;
      }

  -- what is out is what is written of a prefix of the events
  pub prefix_out : (a : Answering) (written remaining : List ℕ) → IsTrue tells → Answers d tells c text whole old a written remaining → IsPrefixOut (detail_of d) c whole.events old written
  prefix_out a written remaining report s =
      let events = ap (λ (r : Reading). r.events) s.reading in
      let prefix = ap (take (length s.given)) events ∙ take-append_seam s.given (ahead c.names a.feed remaining).events in
      (length s.given, s.text report ∙ ap (λ es. old ++ detail_of d c es) (sym prefix))

  -- what was written and passed on is a beginning of what is written of all events
  pub passed_begun : (a : Answering) (written out remaining : List ℕ) → IsTrue tells → out ≡ written → Streams d tells c text whole old a written remaining
      → BeginsWith old (detail_of d c whole.events) out
  passed_begun a written out remaining report same s =
      let front = prefix_out a written remaining report s.report in
      prefix_begun d c whole.events front.0 old out (same ∙ front.1)

  -- a text at fault, where what is written of the events before is out
  pub stopped : (a : Answering) (written remaining : List ℕ) (fault : TextFault) → IsTrue tells → Answers d tells c text whole old a written remaining
      → ahead c.names a.feed remaining ≡ only fault → Leaves d c text whole old written (run.Text fault)
  stopped a written remaining fault report s is =
      let reading = s.reading ∙ ap (with_events s.given) is in
      let events = ap (λ (r : Reading). r.events) reading ∙ append-nil s.given in
      inl (record { first = ap (λ (r : Reading). r.fault) reading; text = s.text report ∙ ap (λ es. old ++ detail_of d c es) (sym events) })

  -- memory for a piece is wanting only where lines are long
  pub piece_wanting : (a : Answering) (written remaining : List ℕ) (size : ℕ) → Streams d tells c text whole old a written remaining → IsWanting a.feed → size ≤ 65536
      → first_room < 2 * length a.feed.rest + size → ¬ (IsAmple d text)
  piece_wanting a written remaining size s wanting fits full = λ ample.
      let short = rest_short 32768 a.feed.rest remaining wanting.no_line (s.report.short wanting.all_taken ample.short) in
      omega (arith, short, fits, full)

-- each further piece brings the end nearer
pub measure_falls : (old new : Bool) (limit taken later : ℕ) → old ≡ false → taken ≤ limit → (new ≡ false → (taken < later) × (later ≤ limit))
    → cond new 0 (limit + 1 - later) < cond old 0 (limit + 1 - taken)
measure_falls old true limit taken later is fits moves = rw is (omega arith)
measure_falls old false limit taken later is fits moves =
    let nearer = moves refl in
    rw is (omega arith)

-- a run begins with all of the text ahead, and what is written at boot
pub stream_start : (d : Detail) (tells : Bool) (c : Setup) (text old written : List ℕ) (a : Answering) → a.detail ≡ report_in d c.names (booted c) → a.feed ≡ new_feed → Stands a.kernel (booted c) → a.count ≡ 0 → pending a ≡ []
    → (IsTrue tells → written ≡ old ++ boot_text d c.names (booted c)) → Streams d tells c text (reading_by_line c.names text) old a written text
stream_start d tells c text old written a detail feed stands count passed out = record {
  report = record {
    given = [];
    detail = detail;
    reading = sym (ap (λ f. ahead c.names f text) feed ∙ ahead_new c.names text);
    short = λ kept fits. rw feed fits;
    stands = stands;
    count = count;
    text = λ report. out report ∙ ap (λ xs. old ++ xs) (sym (detail_none d c));
  };
  passed = passed;
}

-- what is left where what is written at boot was not written, or not whole
pub start_leaves : (d : Detail) (c : Setup) (text : List ℕ) (whole : Reading) (old new : List ℕ) (fault : RunFault) → (fault ≡ run.Memory → new ≡ old)
    → (fault ≡ run.Write → BeginsWith old (boot_text d c.names (booted c)) new) → (fault ≡ run.Memory) ⊎ (fault ≡ run.Write) → Leaves d c text whole old new fault
start_leaves d c text whole old new fault memory write (inl is) = rw is (inl (memory is))
start_leaves d c text whole old new fault memory write (inr is) = rw is (boot_begun d c whole.events old new (write is))

-- all of what is written is a beginning of it
pub all_out_begun : (d : Detail) (c : Setup) (whole : Reading) (old new : List ℕ) → IsAllOut d c whole old new → BeginsWith old (detail_of d c whole.events) new
all_out_begun d c whole old new all = all_begun d c whole.events old new (all.text ∙ ap (λ (r : Reading). old ++ detail_of d c r.events) (sym all.reading))

-- memory for what is told of an event is wanting only where that is more than its line
pub memory_leaves : (d : Detail) (c : Setup) (text : List ℕ) (whole : Reading) (old : List ℕ) (a : Answering) (out remaining : List ℕ) → (a.detail ≡ detail.Line → ⊥)
    → Answers d true c text whole old a out remaining → Leaves d c text whole old out run.Memory
memory_leaves d c text whole old a out remaining more s =
    inr (prefix_out d true c text whole old a out remaining refl s, λ ample. more (s.detail ∙ ap (λ (x : Detail). report_in x c.names (replay numbered (booted c) s.given)) ample.lines))

-- what is out and pending is a beginning of all
pub begun_from : (d : Detail) (c : Setup) (text : List ℕ) (whole : Reading) (old : List ℕ) (a b : Answering) (before after held remaining made : List ℕ)
    → Streams d true c text whole old a before remaining → Answers d true c text whole old b (after ++ held) remaining → after ≡ before ++ made
    → ((written : List ℕ) × (after ≡ old ++ written)) × BeginsWith old (detail_of d c whole.events) (after ++ held)
begun_from d c text whole old a b before after held remaining made st s grown =
    let front = prefix_out d true c text whole old b (after ++ held) remaining refl s in
    let first = detail_of d c st.report.given in
    ((first ++ made, grown ∙ ap (λ (xs : List ℕ). xs ++ made) (st.report.text refl) ∙ append_assoc old first made), prefix_begun d c whole.events front.0 old (after ++ held) front.1)

-- a write that failed in what was pending, where what was out and what was pending are a beginning of all
pub torn : (d : Detail) (c : Setup) (events : List Event) (old written after held out : List ℕ) → after ≡ old ++ written
    → BeginsWith old (detail_of d c events) (after ++ held) → BeginsWith after held out → BeginsWith old (detail_of d c events) out
torn d c events old written after held out split (n, is) begins =
    let all = detail_of d c events in
    let same : written ++ held ≡ take n all = append_cancel_left old (written ++ held) (take n all) (sym (append_assoc old written held) ∙ ap (λ (xs : List ℕ). xs ++ held) (sym split) ∙ is) in
    subst (λ (xs : List ℕ). BeginsWith old xs out) (ap (λ (xs : List ℕ). xs ++ drop n all) same ∙ take-append-drop n all)
    (begins_on old written held (drop n all) out (subst (λ (xs : List ℕ). BeginsWith xs held out) split begins))

-- the names in hand are those of the configuration
module _ (names : NameLists) (c : Setup) (same : names ≡ c.names) where
  pub named_next : (a between : Feed) (found : Option Event) (event : Event) → found ≡ Some event → Gives names a (Ok found) between
      → (more : List ℕ) → ahead c.names a more ≡ with_events (event ∷ []) (ahead c.names between more)
  named_next a between found event is gives =
      let given = subst (λ (o : Option Event). Gives names a (Ok o) between) is gives in
      subst (λ (l : NameLists). Gives l a (Ok (Some event)) between) same given

  pub named_same : (a between : Feed) (found : Option Event) → found ≡ None → Gives names a (Ok found) between → (more : List ℕ) → ahead c.names a more ≡ ahead c.names between more
  named_same a between found is gives =
      let given = subst (λ (o : Option Event). Gives names a (Ok o) between) is gives in
      subst (λ (l : NameLists). Gives l a (Ok None) between) same given

  pub named_detail : (d : Detail) (kept : Detail) (m : State) → kept ≡ report_in d names m → kept ≡ report_in d c.names m
  named_detail d kept m e = e ∙ ap (λ (l : NameLists). report_in d l m) same

  pub named_entry : (d : Detail) (out written : List ℕ) (n : ℕ) (did : State × Record) → out ≡ written ++ entry_text d names n did → out ≡ written ++ entry_text d c.names n did
  named_entry d out written n did e = e ∙ ap (λ l. written ++ entry_text d l n did) same
