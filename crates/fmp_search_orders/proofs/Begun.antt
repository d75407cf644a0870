-- What an answer over runs that begin with an order's steps says of the orders that go on from it.
use Rattle.std.proofs.Common.{◌≡◌, ℕ, ◌∙◌, Bool, true, false, cond, List, [], ◌∷◌, ◌++◌, length, take, Option, Some, None, refl, ap, sym, subst, arith, slice_get, append_assoc, map}
use Rattle.std.specs.Option.{option_and_then, option_map_or}
use Rattle.std.proofs.lemmas.Bool.{false≢true}
use Rattle.fmp_codes.specs.declared.records.Event.{Event}
use Rattle.fmp_codes.specs.declared.records.Record.{Record}
use Rattle.fmp_text_scripts.specs.Scripts.{Steps}
use Rattle.fmp_setup.specs.Setup.{Setup}
use Rattle.fmp_setup.specs.Valid.{IsValid}
use Rattle.fmp_rules.specs.World.{World}
use Rattle.fmp_rules.specs.Arrivals.{numbered}
use Rattle.fmp_rules.specs.Boot.{booted}
use Rattle.fmp_rules.specs.Step.{step, answers}
use Rattle.fmp_rules.proofs.Replays.{step_event}
use Rattle.fmp_kernel_order.specs.Queues.{Queues, listed}
use Rattle.fmp_smp_histories.specs.Histories.{events_of, state_after}
use Rattle.fmp_smp_histories.proofs.Histories.{after_more, events_more}
use Rattle.fmp_search.specs.Runs.{run}
use Rattle.fmp_search.specs.Guides.{Follows, NoneWithinAlong, NoneEverAlong, IsShortestAlong}
use Rattle.fmp_search_pattern.specs.declared.question.Step.{Step}
use Rattle.fmp_search_pattern.specs.Sights.{Sight}
use Rattle.fmp_search_pattern.specs.Questions.{allows, seen}
use Rattle.fmp_search_orders.specs.declared.rules.Rules.{Rules}
use Rattle.fmp_search_orders.specs.Orders.{MayHappen, AreInOrder, IsOrder}
use Rattle.fmp_search_orders.specs.Places.{Place, origin, event_of, is_marked, went, sight_at, next_place, after, report_of, report, records}
use Rattle.fmp_search_orders.specs.Laws.{LeadsTo, is_seen}
use Rattle.fmp_search_orders.specs.Begun.{GoesOn, NoneShowsFrom, NoneShowsWithinFrom, IsShortestShowFrom, choice_of, choices_of, BegunAnswer}
use Rattle.fmp_search_orders.proofs.Longer.{same_record, same_allowed, leads_more}
use Rattle.fmp_search_orders.proofs.Runs.{leads_origin, at_end, choice_event, is_first, order_steps, runs_orders, step_may}
use Rattle.fmp_search_orders.proofs.Answered.{seen_there, all_seen}

-- steps that follow a history follow what it begins with
follows_part : (begun rest : List Record) (steps : List ℕ) → Follows (choices_of (begun ++ rest)) steps → Follows (choices_of begun) steps
follows_part [] rest steps so = tt
follows_part (r ∷ begun) rest [] so = so
follows_part (r ∷ begun) rest (s ∷ steps) so = (so.0, follows_part begun rest steps so.1)

module _ (c : Setup) (scripts : List Steps) (rs : Rules) (question : List Step) (valid : IsValid c) where
  abbrev Leads : Place → List Record → List Bool → Type 0
  Leads w h marks = LeadsTo c scripts rs question w h marks

  -- a step of an event that may happen, in a run that goes on
  step_after : (s : ℕ) (steps : List ℕ) (w w' : Place) (g : List Record) (gm : List Bool) (leads : Leads w g gm) (e : Event) → MayHappen c scripts rs g e →
      event_of w s ≡ Some e → run after w (s ∷ steps) ≡ Some w' →
      (x : Place) × (marks : List Bool) × Leads x (g ++ (step listed w.machine e).1 ∷ []) marks × (run after x steps ≡ Some w')
      × (records w (s ∷ steps) ≡ (step listed w.machine e).1 ∷ records x steps)
  unfolding after report
  step_after s steps w w' g gm leads e may here on =
      let got = go (allows w.question w.seen mark (sight_at (went w mark did) did.1)) refl
      (subst (λ (o : Option Event). option_and_then (λ r. run after r steps) (next_place w mark o) ≡ Some w') here on) in
      (got.0, got.1, got.2, got.3, ap (λ (o : Option Event). report_of w o ++ option_map_or (λ r. records r steps) (next_place w mark o) []) here ∙ got.4)
    where
      mark : Bool
      mark = is_marked s

      did : World Queues × Record
      did = step listed w.machine e

      go : (b : Bool) → allows w.question w.seen mark (sight_at (went w mark did) did.1) ≡ b →
          option_and_then (λ r. run after r steps) (cond b (Some (went w mark did)) None) ≡ Some w' →
          (x : Place) × (marks : List Bool) × Leads x (g ++ did.1 ∷ []) marks × (run after x steps ≡ Some w')
          × (report_of w (Some e) ++ option_map_or (λ r. records r steps) (cond b (Some (went w mark did)) None) [] ≡ did.1 ∷ records x steps)
      go false never on' = cc
      go true holds on' = (
        went w mark did,
        gm ++ mark ∷ [],
        leads_more c scripts rs question valid w g gm leads e may mark (sym (same_allowed c scripts rs question valid w g gm leads e may mark) ∙ holds),
        on',
        refl,
      )

  -- what is told along a run of the steps of an order's events begins with its records
  begins : (es : List Event) (steps : List ℕ) (w w' : Place) (g : List Record) (gm : List Bool) (h : List Record) → Leads w g gm → run after w steps ≡ Some w' →
      g ++ answers numbered (state_after c g) es ≡ h → AreInOrder c scripts rs h → Follows (map choice_of es) steps →
      (rest : List Record) × (answers numbered (state_after c g) es ++ rest ≡ records w steps)
  begins [] steps w w' g gm h leads on is in_order so = (records w steps, refl)
  begins (e ∷ es) [] w w' g gm h leads on is in_order so = absurd so
  begins (e ∷ es) (s ∷ steps) w w' g gm h leads on is in_order so =
      let state = state_after c g in
      let r = (step numbered state e).1 in
      let rest = answers numbered (step numbered state e).0 es in
      let end = at_end c scripts rs question valid g rest r in
      let at : slice_get h (length g) ≡ Some r = rw (← is) end.0 in
      let before : take (length g) h ≡ g = rw (← is) end.1 in
      let event : r.event ≡ e = step_event state e in
      let may : MayHappen c scripts rs g e = subst (λ x. MayHappen c scripts rs g x) event (subst (λ x. MayHappen c scripts rs x r.event) before (in_order (length g) r at)) in
      let here : event_of w s ≡ Some e = choice_event c scripts rs question w g gm leads e s may so.0 in
      let did = step listed w.machine e in
      let report : did.1 ≡ r = same_record c scripts rs question valid w g gm leads e may in
      let got = step_after s steps w w' g gm leads e may here on in
      let more = subst (λ x. Leads got.0 (g ++ x ∷ []) got.1) report got.2 in
      let longer : (g ++ r ∷ []) ++ answers numbered (state_after c (g ++ r ∷ [])) es ≡ h =
      ap (λ x. (g ++ r ∷ []) ++ answers numbered x es) (after_more c g e r event) ∙ append_assoc g (r ∷ []) rest ∙ is in
      let last = begins es steps got.0 w' (g ++ r ∷ []) got.1 h more got.3 longer in_order so.1 in (
        last.0,
        ap (λ x. r ∷ (answers numbered x es ++ last.0)) (sym (after_more c g e r event)) ∙ ap (λ x. r ∷ x) last.1 ∙ ap (λ x. x ∷ records got.0 steps) (sym report)
            ∙ sym got.4,
      )

  module _ (begun : List Record) (order : IsOrder c scripts rs begun) where
    goes_along : (h : List Record) (steps : List ℕ) → GoesOn begun h → Follows (choices_of h) steps → Follows (choices_of begun) steps
    goes_along h steps goes so = follows_part begun goes.0 steps (subst (λ x. Follows (choices_of x) steps) (sym goes.1) so)

    none_within : (n : ℕ) → NoneWithinAlong after is_seen (origin c scripts rs question) (choices_of begun) n → NoneShowsWithinFrom c scripts rs question begun n
    none_within n none h whole goes few shows =
        let got = order_steps c scripts rs question valid h shows.0 whole shows.1 in
        let long = got.2 in
        false≢true (sym (none got.0 got.1 (goes_along h got.0 goes got.5) (omega (arith, long, few)) got.3) ∙ seen_there c scripts rs question valid got.1 h shows.0 got.4 shows.2)

    none_ever : NoneEverAlong after is_seen (origin c scripts rs question) (choices_of begun) → NoneShowsFrom c scripts rs question begun
    none_ever none h whole goes shows = none_within (length h) (λ steps w so few leads. none steps w so leads) h whole goes (omega arith) shows

    found_order : (steps : List ℕ) → IsShortestAlong after is_seen (origin c scripts rs question) (choices_of begun) steps →
        (h : List Record) × (length h ≡ length steps) × (h ≡ records (origin c scripts rs question) steps) × IsShortestShowFrom c scripts rs question begun h
    unfolding state_after
    found_order steps found =
        let q = origin c scripts rs question in
        let got = (runs_orders c scripts rs question valid).order steps found.place found.leads in
        let start = begins (events_of begun) steps q found.place [] [] begun (leads_origin c scripts rs question valid) found.leads (sym order.run.answers) order.in_order found.follows in
        let long = got.2 in (
          got.0,
          got.2,
          got.3,
          record {
            order = got.4.order;
            goes_on = (start.0, ap (λ x. x ++ start.0) order.run.answers ∙ start.1 ∙ sym got.3);
            shows = (got.1, got.4.marked, all_seen c scripts rs question valid found.place got.0 got.1 got.4 found.is_wanted);
            shortest = λ g whole goes shows.
                let other = order_steps c scripts rs question valid g shows.0 whole shows.1 in
                let less = found.shortest other.0 other.1 (goes_along g other.0 goes other.5) other.3 (seen_there c scripts rs question valid other.1 g shows.0 other.4 shows.2) in
                let as_long = other.2 in
                omega (arith, long, less, as_long);
          },
        )

    pub begun_answer : BegunAnswer c scripts rs question begun
    begun_answer = record { never = none_ever; within = none_within; found = found_order }

-- ---- a walk along the events of a history, with a question of no step, at which no event is refused

same_last : (h : List Record) (a b : Record) → h ++ a ∷ [] ≡ h ++ b ∷ [] → a ≡ b
same_last [] a b e = cc
same_last (x ∷ h) a b e = same_last h a b cc

module _ (c : Setup) (scripts : List Steps) (rs : Rules) (valid : IsValid c) where
  -- a place to which a history leads that is an order
  abbrev pub OnOrder : Place → List Record → Type 0
  OnOrder w h = (marks : List Bool) × LeadsTo c scripts rs [] w h marks

  pub on_start : OnOrder (origin c scripts rs []) []
  on_start = ([], leads_origin c scripts rs [] valid)

  -- no event is refused
  pub passed : (n : ℕ) (text : Sight) → allows [] n false text ≡ true
  unfolding allows
  passed n text = refl

  -- an event that may happen is that of the record that is told of it
  pub on_event : (w : Place) (h : List Record) → OnOrder w h → (s : ℕ) (e : Event) → event_of w s ≡ Some e → (step listed w.machine e).1.event ≡ e
  on_event w h on s e here =
      let may = step_may c scripts rs [] w h on.0 on.1 s e here in
      ap (λ (r : Record). r.event) (same_record c scripts rs [] valid w h on.0 on.1 e may) ∙ step_event (state_after c h) e

  -- one event more that may happen
  pub on_more : (w : Place) (h : List Record) → OnOrder w h → (s : ℕ) (e : Event) → event_of w s ≡ Some e →
      OnOrder (went w false (step listed w.machine e)) (h ++ (step listed w.machine e).1 ∷ [])
  on_more w h on s e here =
      let may = step_may c scripts rs [] w h on.0 on.1 s e here in
      (on.0 ++ false ∷ [], leads_more c scripts rs [] valid w h on.0 on.1 e may false (passed (seen on.0) _))

  -- and where an order goes on by a record, it is what is told there of an event that may happen
  pub on_next : (w : Place) (h : List Record) → OnOrder w h → (r : Record) → IsOrder c scripts rs (h ++ r ∷ []) →
      (event_of w (choice_of r.event).step ≡ Some r.event) × (r ≡ (step listed w.machine r.event).1)
  on_next w h on r order =
      let e = r.event in
      let report = (step listed w.machine e).1 in
      let end = at_end c scripts rs [] valid h [] r in
      let may : MayHappen c scripts rs h e = subst (λ x. MayHappen c scripts rs x e) end.1 (order.in_order (length h) r end.0) in
      let here : event_of w (choice_of e).step ≡ Some e = choice_event c scripts rs [] w h on.0 on.1 e (choice_of e).step may (is_first (choice_of e) (choice_of e).step refl) in
      let more = on_more w h on (choice_of e).step e here in
      let event : report.event ≡ e = on_event w h on (choice_of e).step e here in
      let events : events_of (h ++ report ∷ []) ≡ events_of (h ++ r ∷ []) = events_more h report ∙ ap (λ x. events_of h ++ x ∷ []) event ∙ sym (events_more h r) in
      let same : h ++ r ∷ [] ≡ h ++ report ∷ [] = order.run.answers ∙ ap (answers numbered (booted c)) (sym events) ∙ sym more.1.order.run.answers in
      (here, same_last h r report same)
