-- A drawing that saw all events is the waveform of their machine.
use Rattle.std.proofs.Common.{◌≡◌, ℕ, ◌+◌, List, [], ◌∷◌, ◌++◌, map, refl, sym, ap, ap₂, ◌∙◌, append_assoc, append-nil}
use Rattle.fmp_codes.specs.declared.records.Event.{Event}
use Rattle.fmp_codes.specs.declared.records.Record.{Record}
use Rattle.fmp_rules.specs.Arrivals.{State, numbered}
use Rattle.fmp_rules.specs.Boot.{booted}
use Rattle.fmp_rules.specs.Step.{step}
use Rattle.fmp_names.specs.Names.{NameLists}
use Rattle.fmp_setup.specs.Setup.{Setup}
use Rattle.fmp_trace_check.specs.declared.checking.Verdict.{Verdict}
use Rattle.fmp_trace_check.specs.declared.checking.Verdict.TheVariants.{Yes}
use Rattle.fmp_trace_check.specs.Checking.{Judges}
use Rattle.fmp_trace_check.specs.Watching.{watched_by}
use Rattle.fmp_trace.specs.Prints.{PrintsWithin}
use Rattle.fmp_run_wave.specs.Runs.{Draws}
use Rattle.fmp_run_wave.specs.Shown.{Shown, shown_of}
use Rattle.fmp_run_wave.specs.Waves.{Picture, following, change_text, events_text, shown_by, start_of}
use Rattle.fmp_run_wave.proofs.Left.{left_shown}

watched-nil : (names : NameLists) (w : State) (n : ℕ) (d : Picture) → watched_by following names w n [] d ≡ d
unfolding watched_by
watched-nil names w n d = refl

watched-cons : (names : NameLists) (w : State) (n : ℕ) (e : Event) (es : List Event) (d : Picture)
    → watched_by following names w n (e ∷ es) d ≡ watched_by following names (step numbered w e).0 (n + 1) es (following d names n (step numbered w e).1 (step numbered w e).0)
unfolding watched_by
watched-cons names w n e es d = refl

events-nil : (names : NameLists) (n : ℕ) (w : State) → events_text names n w [] ≡ []
unfolding events_text
events-nil names n w = refl

events-cons : (names : NameLists) (n : ℕ) (w : State) (e : Event) (es : List Event) → events_text names n w (e ∷ es)
    ≡ change_text names n (step numbered w e).1 (shown_of w) (shown_of (step numbered w e).0) ++ events_text names (n + 1) (step numbered w e).0 es
unfolding events_text
events-cons names n w e es = refl

-- the events are told after what was drawn
drawn_events : (names : NameLists) (w : State) (n : ℕ) (es : List Event) (d : Picture) → d.shown ≡ shown_of w → (watched_by following names w n es d).wave ≡ d.wave ++ events_text names n w es
drawn_events names w n [] d shown =
    ap (λ (x : Picture). x.wave) (watched-nil names w n d) ∙ sym (ap (λ (xs : List ℕ). d.wave ++ xs) (events-nil names n w) ∙ append-nil d.wave)
drawn_events names w n (e ∷ es) d shown =
    let after = (step numbered w e).0 in
    let report = (step numbered w e).1 in
    let change : List ℕ = change_text names n report (shown_of w) (shown_of after) in
    let kept : shown_by d.shown report after ≡ shown_of after = ap (λ (s : Shown). shown_by s report after) shown ∙ left_shown w e in
    ap (λ (x : Picture). x.wave) (watched-cons names w n e es d)
    ∙ drawn_events names after (n + 1) es (following d names n report after) kept
    ∙ ap₂ (λ (s t : Shown). (d.wave ++ change_text names n report s t) ++ events_text names (n + 1) after es) shown kept
    ∙ append_assoc d.wave change (events_text names (n + 1) after es)
    ∙ ap (λ (xs : List ℕ). d.wave ++ xs) (sym (events-cons names n w e es))

-- what was drawn of a trace that is the machine's own
pub is_drawn : (c : Setup) (text : List ℕ) (verdict : Verdict) (from to : Picture) (wave : List ℕ) → Judges c text verdict → verdict ≡ Yes → from ≡ start_of c
    → ((records : List Record) → PrintsWithin c.names text records → to ≡ watched_by following c.names (booted c) 1 (map (λ r. r.event) records) from) → wave ≡ to.wave → Draws c text wave
is_drawn c text verdict from to wave judges is_yes starts saw is =
    let records = judges.records in
    record {
      records = records;
      prints = judges.prints;
      own = rw is_yes at judges.compares;
      drawn = is ∙ ap (λ (x : Picture). x.wave) (saw records judges.prints ∙ ap (watched_by following c.names (booted c) 1 (map (λ r. r.event) records)) starts)
          ∙ drawn_events c.names (booted c) 1 (map (λ r. r.event) records) (start_of c) refl;
    }
