-- What the machine answers fits the names of its configuration.
use Rattle.std.proofs.Common.{◌≡◌, ℕ, ◌-◌, ◌≤◌, eqb, false, List, [], ◌∷◌, length, map, get_or, Option, Some, None, refl, sym, ap, subst, ◌∙◌, arith}
use Rattle.std.specs.Prelude.{All, IfSome}
use Rattle.std.proofs.lemmas.Bool.{ne_eqb}
use Rattle.std.proofs.lemmas.List.Elements.{All-tail}
use Rattle.std.proofs.lemmas.Option.{slice_get-get_or}
use Rattle.fmp_codes.specs.Records.{AreOn, Ascend}
use Rattle.fmp_codes.specs.declared.numbers.Task.{Task}
use Rattle.fmp_codes.specs.declared.records.Event.{Event}
use Rattle.fmp_codes.specs.declared.records.Record.{Record}
use Rattle.fmp_codes.specs.declared.records.Release.{Release}
use Rattle.fmp_codes.specs.declared.records.Runner.{Runner}
use Rattle.fmp_codes.specs.declared.records.Runner.TheVariants as runners
use Rattle.fmp_calls.specs.Arguments.{EventInBits}
use Rattle.fmp_codes.specs.declared.kinds.NameKind.TheVariants.{Object}
use Rattle.fmp_codes.specs.declared.kinds.ObjectKind.{ObjectKind}
use Rattle.fmp_codes.specs.declared.kinds.ObjectKind.TheVariants as objects
use Rattle.fmp_rules.specs.Boot.{booted}
use Rattle.fmp_rules.specs.Arrivals.{State, numbered}
use Rattle.fmp_setup.specs.Setup.{Setup}
use Rattle.fmp_rules.specs.Step.{step, answers}
use Rattle.fmp_setup.specs.Valid.{IsValid}
use Rattle.fmp_rules.proofs.Replays.{step_event}
use Rattle.fmp_setup.proofs.Named.{length_at}
use Rattle.fmp_law_safety.proofs.Telling.{runs_name}
use Rattle.fmp_law_safety.specs.Counts.{counts_of, IsRunnerOf, IsTaskOf, IsReleaseOf, NamesOnly}
use Rattle.fmp_names.specs.Names.{NameLists, names_of, name_of}
use Rattle.fmp_trace.specs.Fits.{IsNamed, RunnerFits, ReleasesFit, RunChangeFits, FitsNames, AllFit}

-- ---- the events of the answers

pub answers_events : (m : State) (es : List Event) → map (λ r. r.event) (answers numbered m es) ≡ es
answers_events m [] = refl
answers_events m (e ∷ es) =
    ap (λ (x : Event). x ∷ map (λ r. r.event) (answers numbered (step numbered m e).0 es)) (step_event m e)
    ∙ ap (λ (xs : List Event). e ∷ xs) (answers_events (step numbered m e).0 es)

-- ---- names

-- a number up to that of the names of a kind is a name's
named_to : (lists : NameLists) (kind : ObjectKind) (i : ℕ) → 1 ≤ i → i ≤ length (names_of lists (Object kind)) → IsNamed lists kind i
unfolding name_of
named_to lists kind i least most =
    let test : eqb i 0 ≡ false = ne_eqb i 0 (λ e. omega (arith, least, e)) in
    (get_or (names_of lists (Object kind)) (i - 1) [], rw test (slice_get-get_or (names_of lists (Object kind)) (i - 1) [] (omega (arith, least, most))))

module _ (c : Setup) (valid : IsValid c) where
  tasks_named : length (names_of c.names (Object objects.Task)) ≡ length c.tasks
  tasks_named = sym (length_at c.names.objects 0) ∙ ap (λ (ns : List ℕ). get_or ns 0 0) valid.named_objects

  cyclics_named : length (names_of c.names (Object objects.Cyclic)) ≡ length c.cyclics
  cyclics_named = sym (length_at c.names.objects 5) ∙ ap (λ (ns : List ℕ). get_or ns 5 0) valid.named_objects

  alarms_named : length (names_of c.names (Object objects.Alarm)) ≡ length c.alarms
  alarms_named = sym (length_at c.names.objects 6) ∙ ap (λ (ns : List ℕ). get_or ns 6 0) valid.named_objects

  task_fits : (t : Task) → IsTaskOf (counts_of c) t → IsNamed c.names objects.Task t.number
  task_fits t most = named_to c.names objects.Task t.number t.least (rw tasks_named most)

  runner_fits : (o : Option Runner) → IfSome o (IsRunnerOf (counts_of c)) → RunnerFits c.names o
  runner_fits None one = tt
  runner_fits (Some (runners.Task t)) one = task_fits t one
  runner_fits (Some (runners.Alarm a)) one = named_to c.names objects.Alarm a.number a.least (rw alarms_named one)
  runner_fits (Some (runners.Cyclic y)) one = named_to c.names objects.Cyclic y.number y.least (rw cyclics_named one)

  releases_fit : (rs : List Release) → All (IsReleaseOf (counts_of c)) rs → ReleasesFit c.names rs
  releases_fit [] all = tt
  releases_fit (r ∷ rs) all =
      let one = all 0 r (omega arith) in
      (task_fits r.task one.0, one.1, releases_fit rs (All-tail (IsReleaseOf (counts_of c)) r rs all))

  run_change_fits : (o : Option (Option Task)) → IfSome o (λ running. IfSome running (IsTaskOf (counts_of c))) → RunChangeFits c.names o
  run_change_fits None one = tt
  run_change_fits (Some None) one = tt
  run_change_fits (Some (Some t)) one = task_fits t one

  pub record_fits : (r : Record) → NamesOnly (counts_of c) r → EventInBits r.event → FitsNames c.names r
  record_fits r only in_bits = record {
    processor = rw valid.same_processors only.processor;
    event = in_bits;
    runner = runner_fits r.runner only.runner;
    answer = only.answer;
    releases = releases_fit r.releases only.releases;
    few = only.few;
    lost = only.lost;
    run_change = run_change_fits r.run_change only.run_change;
    requests = subst (λ (most : ℕ). Ascend most 0 r.requests) (sym valid.same_processors) only.requests;
  }

  records_fit : (rs : List Record) → All (NamesOnly (counts_of c)) rs → All EventInBits (map (λ r. r.event) rs) → AllFit c.names rs
  records_fit [] only in_bits = tt
  records_fit (r ∷ rs) only in_bits = (
    record_fits r (only 0 r (omega arith)) (in_bits 0 r.event (omega arith)),
    records_fit rs (All-tail (NamesOnly (counts_of c)) r rs only) (All-tail EventInBits r.event (map (λ q. q.event) rs) in_bits),
  )

pub answers-fit : (c : Setup) (es : List Event) → IsValid c → AreOn c.processors es → All EventInBits es → AllFit c.names (answers numbered (booted c) es)
answers-fit c es valid on in_bits =
    records_fit c valid (answers numbered (booted c) es) (runs_name c es valid on in_bits) (subst (All EventInBits) (sym (answers_events (booted c) es)) in_bits)
