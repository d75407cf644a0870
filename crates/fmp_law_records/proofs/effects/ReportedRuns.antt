-- Records of which each is as those before it tell are those of the machine.
use Rattle.std.proofs.Common.{◌≡◌, ◌↔◌, ◌≤◌, ◌∙◌, List, [], ◌∷◌, ◌++◌, map, refl, sym, ap, subst}
use Rattle.std.proofs.lemmas.List.{append-nil, append_assoc}
use Rattle.std.proofs.lemmas.List.Elements.{All-nil, All-head, All-tail, All-push}
use Rattle.fmp_codes.specs.declared.records.Event.{Event}
use Rattle.fmp_codes.specs.declared.records.Record.{Record}
use Rattle.fmp_setup.specs.Setup.{Setup}
use Rattle.fmp_setup.specs.Valid.{IsValid}
use Rattle.fmp_rules.specs.Arrivals.{State, numbered}
use Rattle.fmp_rules.specs.Boot.{booted}
use Rattle.fmp_rules.specs.Step.{step, replay, answers}
use Rattle.fmp_rules.proofs.Replays.{step_event, replay_more, answers_more}
use Rattle.fmp_law_safety.specs.Runs.{processor_of, AreOn}
use Rattle.fmp_law_records.specs.Effects.Records.{IsReported, IsReportedRun}
use Rattle.fmp_law_records.proofs.effects.Records.{one_record, record_reported}

abbrev event_of : Record → Event
event_of r = r.event

-- these records are each as those before it tell where those of a run up to them stand before
abbrev AreReportedAfter : Setup → List Record → List Record → Type 0
AreReportedAfter c front records = (before : List Record) (r : Record) (after : List Record) → records ≡ before ++ r ∷ after → IsReported c (front ++ before) r

-- the first of them, and those after it
first_told : (c : Setup) (front : List Record) (r : Record) (rs : List Record) → AreReportedAfter c front (r ∷ rs) → IsReported c front r
first_told c front r rs told = subst (λ x. IsReported c x r) (append-nil front) (told [] r rs refl)

rest_told : (c : Setup) (front longer : List Record) (r : Record) (rs : List Record) → longer ≡ front ++ r ∷ [] → AreReportedAfter c front (r ∷ rs) → AreReportedAfter c longer rs
rest_told c front longer r rs is told before s after at =
    subst (λ x. IsReported c x s) (sym (ap (λ x. x ++ before) is ∙ append_assoc front (r ∷ []) before)) (told (r ∷ before) s after (ap (λ x. r ∷ x) at))

-- What is told is one list.

same_run : (c : Setup) (front records others : List Record) → AreReportedAfter c front records → AreReportedAfter c front others → map event_of records ≡ map event_of others → records ≡ others
same_run c front [] [] told also events = refl
same_run c front [] (s ∷ ss) told also events = cc
same_run c front (r ∷ rs) [] told also events = cc
same_run c front (r ∷ rs) (s ∷ ss) told also events =
    let here : r.event ≡ s.event = cc in
    let later : map event_of rs ≡ map event_of ss = cc in
    let same : r ≡ s = one_record c front r s (first_told c front r rs told) (first_told c front s ss also) here in
    let rest = same_run c (front ++ r ∷ []) rs ss (rest_told c front (front ++ r ∷ []) r rs refl told)
    (rest_told c front (front ++ r ∷ []) s ss (ap (λ x. front ++ x ∷ []) same) also) later in
    ap (λ x. x ∷ rs) same ∙ ap (λ x. s ∷ x) rest

pub one_run : (c : Setup) (events : List Event) (records others : List Record) → IsReportedRun c events records → IsReportedRun c events others → records ≡ others
one_run c events records others run other = same_run c [] records others run.reported other.reported (run.answered ∙ sym other.answered)

-- And the machine's records are it.

events_answered : (m : State) (es : List Event) → map event_of (answers numbered m es) ≡ es
events_answered m [] = refl
events_answered m (e ∷ es) = rw (step_event m e, events_answered (step numbered m e).0 es) refl

module _ (c : Setup) (valid : IsValid c) where
  abbrev own : List Event → List Record
  own es = answers numbered (booted c) es

  abbrev next : List Event → Event → Record
  next es e = (step numbered (replay numbered (booted c) es) e).1

  machine_reported : (es more : List Event) → AreOn c.processors es → AreOn c.processors more → AreReportedAfter c (own es) (answers numbered (replay numbered (booted c) es) more)
  machine_reported es [] before on [] r after at = cc
  machine_reported es [] before on (x ∷ front) r after at = cc
  machine_reported es (e ∷ more) before on [] r after at =
      let P : Event → Type 0 = λ x. (processor_of x).number ≤ c.processors in
      let same : next es e ≡ r = cc in
      subst (λ x. IsReported c x r) (sym (append-nil (own es))) (subst (λ x. IsReported c (own es) x) same (record_reported c es valid before e (All-head P e more on)))
  machine_reported es (e ∷ more) before on (x ∷ front) r after at =
      let P : Event → Type 0 = λ y. (processor_of y).number ≤ c.processors in
      let split : next es e ∷ answers numbered (replay numbered (booted c) (es ++ e ∷ [])) more ≡ x ∷ (front ++ r ∷ after) =
      ap (λ m. next es e ∷ answers numbered m more) (replay_more (booted c) es e) ∙ at in
      let same : next es e ≡ x = cc in
      let rest : answers numbered (replay numbered (booted c) (es ++ e ∷ [])) more ≡ front ++ r ∷ after = cc in
      let is = machine_reported (es ++ e ∷ []) more (All-push P es e before (All-head P e more on)) (All-tail P e more on) front r after rest in
      subst (λ y. IsReported c y r) (ap (λ y. y ++ front) (answers_more (booted c) es e) ∙ append_assoc (own es) (next es e ∷ []) front ∙ ap (λ y. own es ++ y ∷ front) same) is

  pub machine_run : (events : List Event) → AreOn c.processors events → IsReportedRun c events (own events)
  machine_run events on = record {
    answered = events_answered (booted c) events;
    reported = machine_reported [] events (All-nil (λ e. (processor_of e).number ≤ c.processors)) on;
  }

pub reported_run : (c : Setup) (events : List Event) (records : List Record) → IsValid c → AreOn c.processors events →
    IsReportedRun c events records ↔ (records ≡ answers numbered (booted c) events)
reported_run c events records valid on = (
  λ run. one_run c events records (answers numbered (booted c) events) run (machine_run c valid events on),
  λ same. subst (λ x. IsReportedRun c events x) (sym same) (machine_run c valid events on),
)
