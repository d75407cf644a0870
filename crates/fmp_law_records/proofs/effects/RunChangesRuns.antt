-- Which change of the running task and which requests a record tells, along a run.
use Rattle.std.proofs.Common.{◌≡◌, ◌≤◌, List, [], ◌∷◌, ◌++◌, length, refl, ap, ◌∙◌, subst, arith, Option}
use Rattle.std.specs.Prelude.{filter}
use Rattle.std.proofs.lemmas.List.Elements.{All-nil, All-cons, All-append}
use Rattle.fmp_codes.specs.declared.numbers.Proc.{Proc}
use Rattle.fmp_codes.specs.declared.numbers.Task.{Task}
use Rattle.fmp_codes.specs.declared.records.Event.{Event}
use Rattle.fmp_codes.specs.declared.records.Record.{Record}
use Rattle.fmp_setup.specs.Setup.{Setup}
use Rattle.fmp_setup.specs.Valid.{IsValid}
use Rattle.fmp_rules.specs.World.{processor, is_held, processors_to}
use Rattle.fmp_rules.specs.Ordering.{top}
use Rattle.fmp_rules.specs.Arrivals.{State, numbered}
use Rattle.fmp_rules.specs.Step.{step, replay, answers}
use Rattle.fmp_rules.specs.Boot.{booted}
use Rattle.fmp_rules.proofs.Replays.{replay_more, answers_more}
use Rattle.fmp_law_safety.specs.Runs.{processor_of, AreOn}
use Rattle.fmp_law_balance.proofs.waits.Events.{event_reported}
use Rattle.fmp_law_records.specs.Requests.{ProcessorReported, is_held_reported, came_to_end, is_among, processor_after, processor_by, processor_at_boot, report_processor}
use Rattle.fmp_law_records.specs.Standing.{Standing, standing_after, standing_by, standing_at_boot, report_standing, top_reported}
use Rattle.fmp_law_records.specs.Tops.{RequestsAreDue}
use Rattle.fmp_law_records.proofs.Ready.{Stands, top_same}
use Rattle.fmp_law_records.proofs.RequestsRuns.{HoldsReported, holds_after_all}
use Rattle.fmp_law_records.proofs.StandingRuns.{stands_from_boot}
use Rattle.fmp_law_records.proofs.TopsRuns.{requests_due}
use Rattle.fmp_law_records.specs.Refusals.Callers.{report_running}
use Rattle.fmp_law_records.proofs.refusals.Callers.{running_after_all}
use Rattle.fmp_law_records.proofs.refusals.Judged.{configured_after_all}
use Rattle.fmp_law_records.proofs.counts.Ready.{ready_after}
use Rattle.fmp_law_records.specs.Effects.RunChanges.{change_to, gets_request, IsRunChangeReported}
use Rattle.fmp_law_records.proofs.effects.RunChanges.{filter_within, Changes, changes_step}

-- One record more.

processor_more : (c : Setup) (p : Proc) (rs : List Record) (r : Record) (x : ProcessorReported) → processor_by c p (rs ++ r ∷ []) x ≡ processor_after c p r
    (processor_by c p rs x)
processor_more c p [] r x = refl
processor_more c p (y ∷ rs) r x = processor_more c p rs r (processor_after c p y x)

standing_more : (c : Setup) (rs : List Record) (r : Record) (s : Standing) → standing_by c (rs ++ r ∷ []) s ≡ standing_after c r (standing_by c rs s)
standing_more c [] r s = refl
standing_more c (y ∷ rs) r s = standing_more c rs r (standing_after c y s)

module _ (c : Setup) (events : List Event) (valid : IsValid c) (on : AreOn c.processors events) (e : Event) (within : (processor_of e).number ≤ c.processors) where
  abbrev m : State
  m = replay numbered (booted c) events

  abbrev records : List Record
  records = answers numbered (booted c) events

  abbrev r : Record
  r = (step numbered m e).1

  abbrev after : State
  after = (step numbered m e).0

  on_more : AreOn c.processors (events ++ e ∷ [])
  on_more = let Within : Event → Type 0 = λ y. (processor_of y).number ≤ c.processors in All-append Within events (e ∷ []) on
      (All-cons Within e [] within (All-nil Within))

  -- what is so of a run is so of a run with this event
  one_more : (P : List Record → State → Type 0) → P (answers numbered (booted c) (events ++ e ∷ [])) (replay numbered (booted c) (events ++ e ∷ [])) → P
      (records ++ r ∷ []) after
  one_more P so = subst (λ rs. P rs after) (answers_more (booted c) events e)
      (subst (P (answers numbered (booted c) (events ++ e ∷ []))) (replay_more (booted c) events e) so)

  holds_next : (p : Proc) → p.number ≤ c.processors → is_held after p ≡ is_held_reported (processor_after c p r (report_processor c p records))
  holds_next p here =
      (one_more (λ rs v. HoldsReported c p v (report_processor c p rs)) (holds_after_all c p here (events ++ e ∷ []) valid on_more)).held
      ∙ ap is_held_reported (processor_more c p records r (processor_at_boot c))

  top_next : (p : Proc) → top numbered after p ≡ top_reported c (standing_after c r (report_standing c records)) p
  top_next p =
      let h : Stands c (report_standing c (records ++ r ∷ [])) after = one_more (λ rs v. Stands c (report_standing c rs) v)
      (stands_from_boot c (events ++ e ∷ []) valid on_more) in
      top_same c (report_standing c (records ++ r ∷ [])) after h (rw h.count valid.few_tasks) p ∙ ap (λ s. top_reported c s p) (standing_more c records r (standing_at_boot c))

  pub run_change_after : IsRunChangeReported c records r
  run_change_after =
      let count : length m.processors ≡ c.processors = (configured_after_all c events valid on).processors in
      let few : length m.processors ≤ 8 = rw count valid.few_processors in
      let changes : Changes m few (ready_after c valid events on).safe (step numbered m e) = changes_step m few (ready_after c valid events on).safe e
      (rw count within) in
      let p : Proc = processor_of r.event in
      let here : p.number ≤ c.processors = rw (event_reported numbered m e) within in
      let sent : RequestsAreDue c (report_standing c records) r = requests_due c events valid on e within in
      record {
        run_change =
            changes.change
            ∙ ap (λ b. change_to (came_to_end r.runner r.answer r.event) b (processor m p).running (top numbered after p)) (holds_next p here)
            ∙ ap (λ (o : Option Task). change_to (came_to_end r.runner r.answer r.event) (is_held_reported (processor_after c p r (report_processor c p records))) o
            (top numbered after p))
            (running_after_all c valid p here events on)
            ∙ ap (change_to (came_to_end r.runner r.answer r.event) (is_held_reported (processor_after c p r (report_processor c p records))) (report_running c p records))
            (top_next p);
        requests =
            changes.listed
            ∙ ap (λ n. filter (λ p. is_among p r.requests) (processors_to n)) count
            ∙ filter_within (λ p. is_among p r.requests) (gets_request c records r) c.processors valid.few_processors sent.sent 1 c.processors (omega arith)
            (omega arith);
      }

pub run_change_reported : (c : Setup) (events : List Event) → IsValid c → AreOn c.processors events → (e : Event) → (processor_of e).number ≤ c.processors →
    IsRunChangeReported c (answers numbered (booted c) events) (step numbered (replay numbered (booted c) events) e).1
run_change_reported c events valid on e within = run_change_after c events valid on e within
