-- Which calls are made, over places and over orders.
use Rattle.std.proofs.Common.{◌≡◌, ◌∙◌, ℕ, zero, suc, Bool, true, false, cond, not, List, [], ◌∷◌, ◌++◌, length, take, replicate, Option, Some, None, refl, ap, sym, subst, arith}
use Rattle.std.specs.Prelude.{is_none, option_map, slice_get}
use Rattle.std.proofs.lemmas.Bool.{and_parts}
use Rattle.std.proofs.lemmas.List.{length-replicate}
use Rattle.fmp_codes.specs.declared.numbers.Proc.{Proc}
use Rattle.fmp_codes.specs.declared.records.Event.{Event}
use Rattle.fmp_codes.specs.declared.records.Event.TheVariants as event
use Rattle.fmp_codes.specs.declared.records.Record.{Record}
use Rattle.fmp_codes.specs.declared.records.Runner.{Runner}
use Rattle.fmp_text_scripts.specs.Scripts.{Steps}
use Rattle.fmp_setup.specs.Setup.{Setup}
use Rattle.fmp_setup.specs.Valid.{IsValid}
use Rattle.fmp_rules.specs.World.{runner_of}
use Rattle.fmp_rules.specs.Step.{step}
use Rattle.fmp_rules.proofs.Replays.{step_event}
use Rattle.fmp_kernel_order.specs.Queues.{listed}
use Rattle.fmp_smp_histories.specs.Histories.{state_after}
use Rattle.fmp_smp_histories.specs.Positions.{function_of}
use Rattle.fmp_search.specs.Runs.{run}
use Rattle.fmp_search.specs.Meeting.{IsReported, IsReportedAt, IsReportedWithin}
use Rattle.fmp_search_pattern.specs.declared.question.Step.{Step as Asked}
use Rattle.fmp_search_pattern.specs.Lasting.{Lasting}
use Rattle.fmp_search_pattern.specs.Items.{Item}
use Rattle.fmp_search_pattern.specs.Questions.{allows, has_unwanted, is_barred, seen}
use Rattle.fmp_search_pattern.specs.Sights.{Sight}
use Rattle.fmp_search_orders.specs.declared.rules.Rules.{Rules}
use Rattle.fmp_search_orders.specs.Laws.{LeadsTo}
use Rattle.fmp_search_orders.specs.Made.{EndsWithCall, IsMade, IsMadeWithin, MadeAnswer, MadeAnswers, lets_pass, number_after, number_at, number_at_of, number_by, number_of_call, number_reported, watched_number}
use Rattle.fmp_search_orders.specs.Orders.{IsOrder, MayHappen}
use Rattle.fmp_search_orders.specs.Places.{Place, origin, event_of, is_marked, went, after, allowed, next_place, position_at, sight_at}
use Rattle.fmp_search_orders.specs.Shown.{IsMarked, last_sight}
use Rattle.fmp_search_orders.specs.Watched.{Watched, watched, watched_after}
use Rattle.fmp_search_orders.proofs.Begun.{on_start}
use Rattle.fmp_search_orders.proofs.Longer.{leads_more, same_allowed, same_record}
use Rattle.fmp_search_orders.proofs.Runs.{at_end, may_step, order_steps, runs_orders, same_position, same_runner, step_may}
use Rattle.fmp_search_orders.proofs.Staying.{walk}
use Rattle.fmp_search_orders.proofs.Watching.{run_watched, unwatched}

-- ---- questions that let every event be passed by

none_barred : (o : Option (List (List Item))) (sight : Sight) → is_none o ≡ true → has_unwanted sight o ≡ false
none_barred None sight none = refl
none_barred (Some moment) sight none = cc

passes_at : (question : List Asked) (k : ℕ) (sight : Sight) → lets_pass question ≡ true → is_barred sight (slice_get question k) ≡ false
passes_at [] k sight free = refl
passes_at (s ∷ question) zero sight free = none_barred s.without sight (and_parts (is_none s.without) (lets_pass question) free).0
passes_at (s ∷ question) (suc k) sight free = passes_at question k sight (and_parts (is_none s.without) (lets_pass question) free).1

pub passes_by : (question : List Asked) (k : ℕ) (sight : Sight) → lets_pass question ≡ true → allows question k false sight ≡ true
unfolding allows
passes_by question k sight free = ap not (passes_at question k sight free)

no_mark : (n k : ℕ) (m : Bool) → slice_get (replicate n false) k ≡ Some m → m ≡ false
no_mark zero k m is = cc
no_mark (suc n) zero m is = cc
no_mark (suc n) (suc k) m is = no_mark n k m is

module _ (c : Setup) (scripts : List Steps) (rs : Rules) (question : List Asked) (valid : IsValid c) where
  abbrev q : Place
  q = origin c scripts rs question

  abbrev Leads : Place → List Record → List Bool → Type 0
  Leads w h marks = LeadsTo c scripts rs question w h marks

  module _ (w : Place) (h : List Record) (marks : List Bool) (leads : Leads w h marks) where
    same_by : (p : Proc) (o : Option Runner) → number_at_of w p o ≡ number_by c scripts h p o
    same_by p None = refl
    same_by p (Some r) =
        ap (λ (x : Setup). number_of_call (function_of x r) (position_at w p r)) leads.config_is
        ∙ ap (number_of_call (function_of c r)) (same_position c scripts rs question w h marks leads p r)

    same_reported : (e : Event) → number_reported w (Some e) ≡ number_after c scripts h e
    same_reported (event.Call p call) = ap (number_at_of w p) (same_runner c scripts rs question w h marks leads p) ∙ same_by p (runner_of (state_after c h) p)
    same_reported (event.Tick p) = refl
    same_reported (event.Ipi p) = refl

    -- an event that may happen is that of the record that is told of it
    same_event : (e : Event) → MayHappen c scripts rs h e → (step listed w.machine e).1.event ≡ e
    same_event e may = ap (λ (r : Record). r.event) (same_record c scripts rs question valid w h marks leads e may) ∙ step_event (state_after c h) e

    -- a step that can be made is one of an event by which the order goes on
    pub record Goes (s : ℕ) : Type 0 where
      pub event : Event
      pub event_is : event_of w s ≡ Some event
      pub order : IsOrder c scripts rs (h ++ (step listed w.machine event).1 ∷ [])

    goes_by : (s : ℕ) (u : Place) (e : Event) → event_of w s ≡ Some e → (b : Bool) → allows w.question w.seen (is_marked s) (sight_at (went w (is_marked s) (step listed w.machine e)) (step listed w.machine e).1) ≡ b →
        cond b (Some (went w (is_marked s) (step listed w.machine e))) None ≡ Some u → Goes s
    goes_by s u e is false never goes = cc
    goes_by s u e is true holds goes =
        let may = step_may c scripts rs question w h marks leads s e is in
        let more = leads_more c scripts rs question valid w h marks leads e may (is_marked s) (sym (same_allowed c scripts rs question valid w h marks leads e may (is_marked s)) ∙ holds) in
        record { event = e; event_is = is; order = more.order }

    goes_where : (s : ℕ) (u : Place) (o : Option Event) → event_of w s ≡ o → next_place w (is_marked s) o ≡ Some u → Goes s
    goes_where s u None is goes = cc
    goes_where s u (Some e) is goes = goes_by s u e is _ refl goes

    goes_on : (s : ℕ) (u : Place) → after w s ≡ Some u → Goes s
    unfolding after
    goes_on s u goes = goes_where s u (event_of w s) refl goes

  -- a step that makes the call of a number ends an order with it
  ends_with : (steps : List ℕ) (w : Place) (n : ℕ) → run after q steps ≡ Some w → IsReportedAt after number_at w n →
      (before : List Record) × (length before ≡ length steps) × EndsWithCall c scripts rs n before
  ends_with steps w n on last =
      let led = (runs_orders c scripts rs question valid).order steps w on in
      let h = led.0 in
      let marks = led.1 in
      let leads = led.4 in
      let made = goes_on w h marks leads last.step last.next last.goes in
      let may = step_may c scripts rs question w h marks leads last.step made.event made.event_is in (
        h,
        led.2,
        record {
          last = (step listed w.machine made.event).1;
          order = made.order;
          makes = ap (number_after c scripts h) (same_event w h marks leads made.event may) ∙ sym (same_reported w h marks leads made.event) ∙ sym (ap (number_reported w) made.event_is) ∙ last.report;
        },
      )

  -- what is made by steps of runs is made in orders
  pub made : (n : ℕ) → IsReported after number_at q n → IsMade c scripts rs n
  made n report = let ends = ends_with report.steps report.place n report.leads report.last in (ends.0, ends.2)

  pub made_within : (turns n : ℕ) → IsReportedWithin after number_at q turns n → IsMadeWithin c scripts rs turns n
  made_within turns n report =
      let ends = ends_with report.steps report.place n report.leads report.last in
      let long = ends.1 in
      let short = report.short in
      (ends.0, omega (arith, long, short), ends.2)

  -- ---- and the other way round

  -- an order that ends with a call is a run whose last step makes it
  pub record Run (n : ℕ) (before : List Record) : Type 0 where
    pub steps : List ℕ
    pub place : Place
    pub long : length steps ≡ length before
    pub leads : run after q steps ≡ Some place
    pub last : IsReportedAt after number_at place n

  module _ (free : lets_pass question ≡ true) where
    unmarked : (h : List Record) → IsMarked c rs question h (replicate (length h) false)
    unmarked h = record {
      as_many = length-replicate (length h) false;
      allowed = λ k r m get mark.
          let is : m ≡ false = no_mark (length h) k m mark in
          let sight = last_sight c rs (take (suc k) h) r in
          let before = seen (take k (replicate (length h) false)) in
          subst (λ b. allows question before b sight ≡ true) (sym is) (passes_by question before sight free);
    }

    goes_there : (w : Place) (s : ℕ) (e : Event) → w.question ≡ question → event_of w s ≡ Some e → is_marked s ≡ false → after w s ≡ Some (went w false (step listed w.machine e))
    unfolding after
    goes_there w s e asked here plain =
        let did = step listed w.machine e in
        let may : allows w.question w.seen false (sight_at (went w false did) did.1) ≡ true =
        ap (λ x. allows x w.seen false (sight_at (went w false did) did.1)) asked ∙ passes_by question w.seen (sight_at (went w false did) did.1) free in
        ap (next_place w (is_marked s)) here ∙ ap (λ b. allowed w b did) plain ∙ ap (λ b. cond b (Some (went w false did)) None) may

    run_of : (n : ℕ) (before : List Record) → EndsWithCall c scripts rs n before → Run n before
    run_of n before ends =
        let first = walk c scripts rs valid before (ends.last ∷ []) (origin c scripts rs []) [] (on_start c scripts rs valid) ends.order in
        let marks = replicate (length before) false in
        let r = order_steps c scripts rs question valid before marks first.on.1.order (unmarked before) in
        let w = r.1 in
        let leads = r.4 in
        let e = ends.last.event in
        let end = at_end c scripts rs question valid before [] ends.last in
        let may : MayHappen c scripts rs before e = subst (λ x. MayHappen c scripts rs x e) end.1 (ends.order.in_order (length before) ends.last end.0) in
        let found = may_step c scripts rs question w before marks leads e false may in
        record {
          steps = r.0;
          place = w;
          long = r.2;
          leads = r.3;
          last = record {
            step = found.0;
            next = went w false (step listed w.machine e);
            goes = goes_there w found.0 e leads.question_is found.1 found.2;
            report = ap (number_reported w) found.1 ∙ same_reported w before marks leads e ∙ ends.makes;
          };
        }

    pub answer : MadeAnswer after number_at q c scripts rs
    answer = record {
      made = made;
      report = λ n ends. let r = run_of n ends.0 ends.1 in record { steps = r.steps; place = r.place; leads = r.leads; last = r.last };
      made_within = made_within;
      report_within = λ turns n ends.
          let r = run_of n ends.0 ends.2 in
          let long = r.long in
          let short = ends.1 in
          record { steps = r.steps; place = r.place; short = omega (arith, long, short); leads = r.leads; last = r.last };
    }

-- ---- places with what is asked of every event from one on

module _ (lasting : List Lasting) (q : Place) where
  abbrev W : Place → Watched
  W w = watched lasting w

  last_down : (w : Place) (n : ℕ) → IsReportedAt watched_after watched_number (W w) n → IsReportedAt after number_at w n
  last_down w n last = let at = unwatched lasting (after w last.step) last.next last.goes in record { step = last.step; next = at.0; goes = at.1; report = last.report }

  last_up : (w : Place) (n : ℕ) → IsReportedAt after number_at w n → IsReportedAt watched_after watched_number (W w) n
  last_up w n last = record { step = last.step; next = W last.next; goes = ap (option_map W) last.goes; report = last.report }

  down : (steps : List ℕ) (v : Watched) (n : ℕ) → run watched_after (W q) steps ≡ Some v → IsReportedAt watched_after watched_number v n →
      (w : Place) × (run after q steps ≡ Some w) × IsReportedAt after number_at w n
  down steps v n leads last =
      let at = unwatched lasting (run after q steps) v (sym (run_watched lasting steps q) ∙ leads) in
      (at.0, at.1, last_down at.0 n (subst (λ x. IsReportedAt watched_after watched_number x n) (sym at.2) last))

  pub watched_made : (c : Setup) (scripts : List Steps) (rs : Rules) → MadeAnswer after number_at q c scripts rs → MadeAnswer watched_after watched_number (W q) c scripts rs
  watched_made c scripts rs law = record {
    made = λ n report.
        let at = down report.steps report.place n report.leads report.last in
        law.made n (record { steps = report.steps; place = at.0; leads = at.1; last = at.2 });
    report = λ n ends.
        let r = law.report n ends in
        record { steps = r.steps; place = W r.place; leads = run_watched lasting r.steps q ∙ ap (option_map W) r.leads; last = last_up r.place n r.last };
    made_within = λ turns n report.
        let at = down report.steps report.place n report.leads report.last in
        law.made_within turns n (record { steps = report.steps; place = at.0; short = report.short; leads = at.1; last = at.2 });
    report_within = λ turns n ends.
        let r = law.report_within turns n ends in
        record { steps = r.steps; place = W r.place; short = r.short; leads = run_watched lasting r.steps q ∙ ap (option_map W) r.leads; last = last_up r.place n r.last };
  }

pub made_answer : (c : Setup) (scripts : List Steps) (rs : Rules) → IsValid c → MadeAnswers c scripts rs
made_answer c scripts rs valid = record {
  asked = λ question free. answer c scripts rs question valid free;
  watched_so = λ lasting. watched_made lasting (origin c scripts rs []) c scripts rs (answer c scripts rs [] valid refl);
}
