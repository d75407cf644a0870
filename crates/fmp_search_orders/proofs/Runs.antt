-- Runs over places and orders of events.
use Rattle.std.proofs.Common.{◌≡◌, ℕ, zero, suc, ◌+◌, ◌-◌, ◌*◌, ◌/◌, ◌%◌, ◌<◌, ◌≤◌, ◌==◌, ◌∙◌, Bool, true, false, ◌&&◌, ◌||◌, not, cond, List, [], ◌∷◌, ◌++◌, length, take, Option, Some, None, ◌⊎◌, inl, inr, refl, ap, sym, subst, arith, rules, slice_index, slice_get, append_assoc, append-nil, map}
use Rattle.std.specs.Prelude.{nat_lt, nat_le, is_some}
use Rattle.std.specs.Option.{option_and_then, option_map_or}
use Rattle.std.proofs.lemmas.Grind.{common_steps}
use Rattle.std.proofs.lemmas.Bool.{cases_Bool, eq-eqb, eqb-true}
use Rattle.std.proofs.lemmas.List.Elements.{All-nil}
use Rattle.std.proofs.lemmas.Nat.{div-mul-add}
use Rattle.std.proofs.Math.Nat.{mul-add-mod_self_right}
use Rattle.std.proofs.Math.Bool.{or-true}
use Rattle.fmp_codes.specs.Numbers.{as_proc}
use Rattle.fmp_codes.specs.Records.{processor_of}
use Rattle.fmp_codes.specs.declared.numbers.Proc.{Proc}
use Rattle.fmp_codes.specs.declared.records.Event.{Event}
use Rattle.fmp_codes.specs.declared.records.Event.TheVariants as event
use Rattle.fmp_codes.specs.declared.records.Runner.{Runner}
use Rattle.fmp_codes.specs.declared.records.Runner.TheVariants as runner
use Rattle.fmp_codes.specs.declared.records.Record.{Record}
use Rattle.fmp_codes.proofs.Same.{processors_same}
use Rattle.fmp_codes.proofs.Counters.{zeros}
use Rattle.fmp_text_scripts.specs.Scripts.{Steps}
use Rattle.fmp_setup.specs.Setup.{Setup}
use Rattle.fmp_setup.specs.Valid.{IsValid}
use Rattle.fmp_rules.specs.World.{World, processor, runner_of, is_held}
use Rattle.fmp_rules.specs.Arrivals.{numbered}
use Rattle.fmp_rules.specs.Step.{step, answers}
use Rattle.fmp_rules.proofs.Replays.{step_event}
use Rattle.fmp_kernel_order.specs.Queues.{Queues, listed}
use Rattle.fmp_law_lists.proofs.Boots.{boot_stands}
use Rattle.fmp_smp_histories.specs.Histories.{events_of, state_after}
use Rattle.fmp_smp_histories.proofs.Histories.{after_more}
use Rattle.fmp_smp_histories.specs.Positions.{task_position, handler_position}
use Rattle.fmp_smp_histories.specs.Scripted.{next_call, asked_at, position_of, is_asked}
use Rattle.fmp_search.specs.declared.guided.Choice.{Choice}
use Rattle.fmp_search.specs.Runs.{run}
use Rattle.fmp_search.specs.Guides.{is_of, Follows}
use Rattle.fmp_search_pattern.specs.declared.question.Step.{Step}
use Rattle.fmp_search_pattern.specs.Questions.{allows, seen}
use Rattle.fmp_search_orders.specs.declared.rules.Rules.{Rules}
use Rattle.fmp_search_orders.specs.Orders.{counts_ticks, counted, may_tick, is_busy, idled, keeps_pace, MayHappen, AreInOrder, IsOrder}
use Rattle.fmp_search_orders.specs.Shown.{last_sight, IsMarked}
use Rattle.fmp_search_orders.specs.Places.{Place, origin, position_at, is_asked_at, is_busy_at, call_of, count_at, event_at, event_of, is_marked, went, sight_at, allowed, next_place, after, report_of, report, records}
use Rattle.fmp_search_orders.specs.Laws.{LeadsTo, RunsAreOrders}
use Rattle.fmp_search_orders.specs.Begun.{choice_at, choice_of, choices_of}
use Rattle.fmp_search_orders.proofs.Alike.{may_tick_same}
use Rattle.fmp_search_orders.proofs.Longer.{counts_shifted, same_busy, same_record, same_allowed, leads_more}

pub no_count : (b : Bool) → ◌≡◌ {A = ℕ} (cond b 0 0) 0
no_count true = refl
no_count false = refl

-- where all runs begin shows the empty history
pub leads_origin : (c : Setup) (scripts : List Steps) (rs : Rules) (question : List Step) → IsValid c → LeadsTo c scripts rs question (origin c scripts rs question) [] []
unfolding state_after task_position handler_position
leads_origin c scripts rs question valid = record {
  config_is = refl;
  scripts_are = refl;
  rules_are = refl;
  question_is = refl;
  order = record {
    run = record { answers = refl; on = All-nil (λ (e : Event). (processor_of e).number ≤ c.processors) };
    in_order = λ k r at. cc;
  };
  marked = record { as_many = refl; allowed = λ k r m at mark_at. cc };
  stands = boot_stands c valid.few_tasks;
  tasks_placed = λ i small. zeros 64 i;
  handlers_placed = λ i small. zeros 8 i;
  taken_are = record {
    less = 0;
    limited = λ some. refl;
    are = λ p here time. let none = zeros 8 (p.number - 1) in let zero_count = no_count (counts_ticks rs) in omega (arith, none, zero_count);
  };
  idled_are = λ i small. zeros 8 i ∙ sym (no_count (is_some rs.pace));
  seen_is = refl;
  sized = (refl, refl, refl, refl);
}

-- ---- one of two steps

pub is_first : (c : Choice) (s : ℕ) → s ≡ c.step → is_of c s ≡ true
is_first c s is = ap (λ b. b || (c.other == s)) (eq-eqb c.step s (sym is))

is_other : (c : Choice) (s : ℕ) → s ≡ c.other → is_of c s ≡ true
is_other c s is = ap (λ b. (c.step == s) || b) (eq-eqb c.other s (sym is)) ∙ or-true (c.step == s)

-- ---- what may happen at a place is what may happen after a history that leads there

module _ (c : Setup) (scripts : List Steps) (rs : Rules) (question : List Step) (w : Place) (h : List Record) (marks : List Bool) (leads : LeadsTo c scripts rs question w h marks) where
  pub same_runner : (p : Proc) → runner_of w.machine p ≡ runner_of (state_after c h) p
  same_runner p = ap (λ (x : World Queues). runner_of x p) leads.stands.same

  same_asked : (p : Proc) → is_asked_at w p ≡ is_asked (state_after c h) p
  same_asked p = ap (λ (x : World Queues). (processor x p).latch && not (is_held x p)) leads.stands.same

  same_prompt : (p : Proc) → (w.rules.prompt && is_asked_at w p) ≡ (rs.prompt && is_asked (state_after c h) p)
  same_prompt p = ap (λ (x : Rules). x.prompt && is_asked_at w p) leads.rules_are ∙ ap (λ b. rs.prompt && b) (same_asked p)

  same_spurious : (p : Proc) → (w.rules.spurious || is_asked_at w p) ≡ (rs.spurious || is_asked (state_after c h) p)
  same_spurious p = ap (λ (x : Rules). x.spurious || is_asked_at w p) leads.rules_are ∙ ap (λ b. rs.spurious || b) (same_asked p)

  handler_place : (p : Proc) → slice_index w.handlers (p.number - 1) ≡ handler_position c scripts p.number h
  handler_place p =
      let least = p.least in
      let most = p.most in
      let back : p.number - 1 + 1 ≡ p.number = omega (arith, least) in
      leads.handlers_placed (p.number - 1) (omega (arith, least, most)) ∙ ap (λ n. handler_position c scripts n h) back

  pub same_position : (p : Proc) (r : Runner) → position_at w p r ≡ position_of c scripts r p h
  same_position p (runner.Task t) =
      let least = t.least in
      let most = t.most in
      let back : t.number - 1 + 1 ≡ t.number = omega (arith, least) in
      leads.tasks_placed (t.number - 1) (omega (arith, least, most)) ∙ ap (λ n. task_position c scripts n h) back
  same_position p (runner.Alarm a) = handler_place p
  same_position p (runner.Cyclic y) = handler_place p

  -- the call of who runs, where nothing has to come before it
  same_call : (p : Proc) (o : Option Runner) → (rs.prompt && is_asked (state_after c h) p) ≡ false → call_of w p o ≡ next_call c scripts h p o
  same_call p None free = refl
  same_call p (Some r) free =
      ap (λ b. cond b None (Some (event.Call p (asked_at w.config w.scripts r (position_at w p r))))) (same_prompt p ∙ free)
      ∙ ap (λ (x : Setup). Some (event.Call p (asked_at x w.scripts r (position_at w p r)))) leads.config_is
      ∙ ap (λ (x : List Steps). Some (event.Call p (asked_at c x r (position_at w p r)))) leads.scripts_are
      ∙ ap (λ n. Some (event.Call p (asked_at c scripts r n))) (same_position p r)

  -- a call that is held back by a request is none
  no_call : (p : Proc) (o : Option Runner) → (rs.prompt && is_asked (state_after c h) p) ≡ true → call_of w p o ≡ None
  no_call p None held = refl
  no_call p (Some r) held = ap (λ b. cond b None (Some (event.Call p (asked_at w.config w.scripts r (position_at w p r))))) (same_prompt p ∙ held)

  idled_same : (p : Proc) → slice_index w.idled (p.number - 1) ≡ idled c rs h p.number
  idled_same p =
      let least = p.least in
      let most = p.most in
      let back : p.number - 1 + 1 ≡ p.number = omega (arith, least) in
      leads.idled_are (p.number - 1) (omega (arith, least, most)) ∙ ap (idled c rs h) back

  same_pace : (p : Proc) → keeps_pace w.rules.pace (is_busy_at w p) (slice_index w.idled (p.number - 1)) ≡ keeps_pace rs.pace (is_busy (state_after c h) p) (idled c rs h p.number)
  same_pace p =
      ap (λ (x : Rules). keeps_pace x.pace (is_busy_at w p) (slice_index w.idled (p.number - 1))) leads.rules_are
      ∙ ap (λ b. keeps_pace rs.pace b (slice_index w.idled (p.number - 1))) (same_busy w (state_after c h) leads.stands p)
      ∙ ap (keeps_pace rs.pace (is_busy (state_after c h) p)) (idled_same p)

  same_count : (p : Proc) → p.number ≤ c.processors → may_tick w.config w.rules (count_at w) p ≡ may_tick c rs (counted rs h) p
  same_count p here =
      ap (λ (x : Setup). may_tick x w.rules (count_at w) p) leads.config_is
      ∙ ap (λ (x : Rules). may_tick c x (count_at w) p) leads.rules_are
      ∙ may_tick_same c rs (count_at w) (counted rs h) (counts_shifted c rs w h leads.taken_are) p here

  abbrev may_tick_at : Proc → Bool
  may_tick_at p = may_tick c rs (counted rs h) p && keeps_pace rs.pace (is_busy (state_after c h) p) (idled c rs h p.number)

  same_tick : (p : Proc) → p.number ≤ c.processors → (may_tick w.config w.rules (count_at w) p && keeps_pace w.rules.pace (is_busy_at w p) (slice_index w.idled (p.number - 1))) ≡ may_tick_at p
  same_tick p here =
      ap (λ b. b && keeps_pace w.rules.pace (is_busy_at w p) (slice_index w.idled (p.number - 1))) (same_count p here)
      ∙ ap (λ b. may_tick c rs (counted rs h) p && b) (same_pace p)

  -- the call of who runs may happen
  call_may : (p : Proc) (o : Option Runner) (e : Event) → o ≡ runner_of (state_after c h) p → p.number ≤ c.processors →
      (rs.prompt && is_asked (state_after c h) p) ≡ false → next_call c scripts h p o ≡ Some e → MayHappen c scripts rs h e
  call_may p None e is here free at = cc
  call_may p (Some r) e is here free at =
      let same : event.Call p (asked_at c scripts r (position_of c scripts r p h)) ≡ e = cc in
      subst (λ x. MayHappen c scripts rs h x) same (here, (free, rw (← is) refl))

  none_some : {A : Type 0} (x : A) → None ≡ Some x → ⊥
  none_some x is = cc

  call_either : (p : Proc) (o : Option Runner) (e : Event) → o ≡ runner_of (state_after c h) p → p.number ≤ c.processors → call_of w p o ≡ Some e →
      ((rs.prompt && is_asked (state_after c h) p) ≡ true) ⊎ ((rs.prompt && is_asked (state_after c h) p) ≡ false) → MayHappen c scripts rs h e
  call_either p o e is here at (inl held) = absurd (none_some e (sym (no_call p o held) ∙ at))
  call_either p o e is here at (inr free) = call_may p o e is here free (sym (same_call p o free) ∙ at)

  some_if : (b : Bool) (e x : Event) → cond b (Some x) None ≡ Some e → (b ≡ true) × (x ≡ e)
  some_if true e x at = (refl, cc)
  some_if false e x at = cc

  event_may : (p : Proc) (k : ℕ) (e : Event) → p.number ≤ c.processors → event_at w p k ≡ Some e → MayHappen c scripts rs h e
  event_may p zero e here at =
      call_either p (runner_of w.machine p) e (same_runner p) here at (cases_Bool (rs.prompt && is_asked (state_after c h) p))
  event_may p (suc zero) e here at =
      let done = some_if _ e (event.Ipi p) at in
      subst (λ x. MayHappen c scripts rs h x) done.1 (here, sym (same_spurious p) ∙ done.0)
  event_may p (suc (suc k)) e here at =
      let done = some_if _ e (event.Tick p) at in
      subst (λ x. MayHappen c scripts rs h x) done.1 (here, sym (same_tick p here) ∙ done.0)

  -- the event of a step may happen
  pub step_may : (s : ℕ) (e : Event) → event_of w s ≡ Some e → MayHappen c scripts rs h e
  step_may s e at = go (nat_lt (s / 6) w.config.processors) refl at
    where
      go : (b : Bool) → nat_lt (s / 6) w.config.processors ≡ b → cond b (event_at w (as_proc (s / 6 + 1)) (s % 6 % 3)) None ≡ Some e → MayHappen c scripts rs h e
      go true low is =
          let count : w.config.processors ≡ c.processors = ap (λ (x : Setup). x.processors) leads.config_is in
          let lt : s / 6 < w.config.processors = search (rules, low) in
          event_may (as_proc (s / 6 + 1)) (s % 6 % 3) e (grind (arith, count, lt)) is
      go false low is = cc

  at_place : (s i k : ℕ) (p : Proc) → s / 6 ≡ i → s % 6 % 3 ≡ k → nat_lt i w.config.processors ≡ true → as_proc (i + 1) ≡ p → event_of w s ≡ event_at w p k
  at_place s i k p whole part low is = rw (whole, part, low, is) refl

  -- the steps of a processor
  at_step : (p : Proc) (j k : ℕ) (m : Bool) → j < 6 → j % 6 ≡ j → j % 3 ≡ k → nat_le 3 j ≡ m → p.number ≤ c.processors →
      (event_of w ((p.number - 1) * 6 + j) ≡ event_at w p k) × (is_marked ((p.number - 1) * 6 + j) ≡ m)
  at_step p j k m small part kind mark here =
      let least = p.least in
      let most = p.most in
      let count : w.config.processors ≡ c.processors = ap (λ (x : Setup). x.processors) leads.config_is in
      let lt : p.number - 1 < w.config.processors = omega (arith, least, here, count) in
      let number : (as_proc (p.number - 1 + 1)).number ≡ p.number = omega (arith, least, most) in
      let rest : ((p.number - 1) * 6 + j) % 6 ≡ j = mul-add-mod_self_right (p.number - 1) 6 j ∙ part in (
        at_place ((p.number - 1) * 6 + j) (p.number - 1) k p (div-mul-add (p.number - 1) 6 j small) (ap (λ n. n % 3) rest ∙ kind) (search (rules, lt)) (processors_same (as_proc (p.number - 1 + 1)) p number),
        ap (nat_le 3) rest ∙ mark,
      )

  call_there : (p : Proc) (e : Event) → (rs.prompt && is_asked (state_after c h) p) ≡ false → next_call c scripts h p (runner_of (state_after c h) p) ≡ Some e → event_at w p 0 ≡ Some e
  call_there p e free next = same_call p (runner_of w.machine p) free ∙ ap (next_call c scripts h p) (same_runner p) ∙ next

  ipi_there : (p : Proc) → (rs.spurious || is_asked (state_after c h) p) ≡ true → event_at w p 1 ≡ Some (event.Ipi p)
  ipi_there p asked = ap (λ b. cond b (Some (event.Ipi p)) None) (same_spurious p ∙ asked)

  tick_there : (p : Proc) → p.number ≤ c.processors → may_tick_at p ≡ true → event_at w p 2 ≡ Some (event.Tick p)
  tick_there p here may = ap (λ b. cond b (Some (event.Tick p)) None) (same_tick p here ∙ may)

  step_of : (p : Proc) (j k : ℕ) (m : Bool) (e : Event) → j < 6 → j % 6 ≡ j → j % 3 ≡ k → nat_le 3 j ≡ m → p.number ≤ c.processors → event_at w p k ≡ Some e →
      (s : ℕ) × (event_of w s ≡ Some e) × (is_marked s ≡ m) × (s ≡ (p.number - 1) * 6 + j)
  step_of p j k m e small part kind mark here at =
      let there = at_step p j k m small part kind mark here in
      ((p.number - 1) * 6 + j, there.0 ∙ at, there.1, refl)

  -- a step of one of the two numbers
  abbrev StepOf : Event → Bool → Type 0
  StepOf e m = (s : ℕ) × (event_of w s ≡ Some e) × (is_marked s ≡ m) × (is_of (choice_of e) s ≡ true)

  unmarked : (p : Proc) (k : ℕ) (e : Event) → choice_of e ≡ choice_at p k → (s : ℕ) × (event_of w s ≡ Some e) × (is_marked s ≡ false) × (s ≡ (p.number - 1) * 6 + k) → StepOf e false
  unmarked p k e is got = (got.0, got.1, got.2, ap (λ c. is_of c got.0) is ∙ is_first (choice_at p k) got.0 got.3)

  marked : (p : Proc) (k : ℕ) (e : Event) → choice_of e ≡ choice_at p k → (s : ℕ) × (event_of w s ≡ Some e) × (is_marked s ≡ true) × (s ≡ (p.number - 1) * 6 + (k + 3)) → StepOf e true
  marked p k e is got = let at = got.3 in (got.0, got.1, got.2, ap (λ c. is_of c got.0) is ∙ is_other (choice_at p k) got.0 (omega (arith, at)))

  -- and each event that may happen is that of a step of its choice, with a mark or without
  pub may_step : (e : Event) (m : Bool) → MayHappen c scripts rs h e → StepOf e m
  may_step (event.Call p call) false may = unmarked p 0 _ refl (step_of p 0 0 false _ (omega arith) refl refl refl may.0 (call_there p _ may.1.0 may.1.1))
  may_step (event.Call p call) true may = marked p 0 _ refl (step_of p 3 0 true _ (omega arith) refl refl refl may.0 (call_there p _ may.1.0 may.1.1))
  may_step (event.Ipi p) false may = unmarked p 1 _ refl (step_of p 1 1 false _ (omega arith) refl refl refl may.0 (ipi_there p may.1))
  may_step (event.Ipi p) true may = marked p 1 _ refl (step_of p 4 1 true _ (omega arith) refl refl refl may.0 (ipi_there p may.1))
  may_step (event.Tick p) false may = unmarked p 2 _ refl (step_of p 2 2 false _ (omega arith) refl refl refl may.0 (tick_there p may.0 may.1))
  may_step (event.Tick p) true may = marked p 2 _ refl (step_of p 5 2 true _ (omega arith) refl refl refl may.0 (tick_there p may.0 may.1))

  either_step : (p : Proc) (k s : ℕ) (o : Option Event) → event_of w ((p.number - 1) * 6 + k) ≡ o → event_of w ((p.number - 1) * 6 + (k + 3)) ≡ o →
      is_of (choice_at p k) s ≡ true → event_of w s ≡ o
  either_step p k s o first other is = go ((p.number - 1) * 6 + k == s) refl is
    where
      go : (b : Bool) → ((p.number - 1) * 6 + k == s) ≡ b → (b || ((p.number - 1) * 6 + k + 3 == s)) ≡ true → event_of w s ≡ o
      go true e h = subst (λ n. event_of w n ≡ o) (eqb-true ((p.number - 1) * 6 + k) s e) first
      go false e h =
          let same = eqb-true ((p.number - 1) * 6 + k + 3) s h in
          subst (λ n. event_of w n ≡ o) (omega (arith, same)) other

  -- each step of the choice of an event that may happen has this event
  pub choice_event : (e : Event) (s : ℕ) → MayHappen c scripts rs h e → is_of (choice_of e) s ≡ true → event_of w s ≡ Some e
  choice_event (event.Call p call) s may is =
      either_step p 0 s _ (at_step p 0 0 false (omega arith) refl refl refl may.0).0 (at_step p 3 0 true (omega arith) refl refl refl may.0).0 is ∙ call_there p _ may.1.0 may.1.1
  choice_event (event.Ipi p) s may is =
      either_step p 1 s _ (at_step p 1 1 false (omega arith) refl refl refl may.0).0 (at_step p 4 1 true (omega arith) refl refl refl may.0).0 is ∙ ipi_there p may.1
  choice_event (event.Tick p) s may is =
      either_step p 2 s _ (at_step p 2 2 false (omega arith) refl refl refl may.0).0 (at_step p 5 2 true (omega arith) refl refl refl may.0).0 is ∙ tick_there p may.0 may.1

-- ---- runs

module _ (c : Setup) (scripts : List Steps) (rs : Rules) (question : List Step) (valid : IsValid c) where
  abbrev pub Leads : Place → List Record → List Bool → Type 0
  Leads w h marks = LeadsTo c scripts rs question w h marks

  -- a history of so many records, which is this one, leads to a place
  abbrev pub Led : Place → List Record → ℕ → Type 0
  Led w is n = (h : List Record) × (marks : List Bool) × (length h ≡ n) × (h ≡ is) × Leads w h marks

  abbrev Following : List ℕ → Place → Type 0
  Following steps w' =
      (x : Place) (g : List Record) (marks : List Bool) → Leads x g marks → run after x steps ≡ Some w' → Led w' (g ++ records x steps) (length g + length steps)

  -- what is told after a step, of which it is known where it leads
  abbrev report_following : List ℕ → Option Place → List Record
  report_following steps o = option_map_or (λ r. records r steps) o []

  -- one step, and what is known of those after it
  step_leads : (s : ℕ) (steps : List ℕ) (w w' : Place) (h : List Record) (marks : List Bool) → Leads w h marks → Following steps w' →
      (o : Option Event) → event_of w s ≡ o → option_and_then (λ r. run after r steps) (next_place w (is_marked s) o) ≡ Some w' →
      Led w' (h ++ (report_of w o ++ report_following steps (next_place w (is_marked s) o))) (length h + length (s ∷ steps))
  step_leads s steps w w' h marks leads following None is on = cc
  step_leads s steps w w' h marks leads following (Some e) is on = go (allows w.question w.seen mark (sight_at (went w mark did) did.1)) refl on
    where
      mark : Bool
      mark = is_marked s

      did : World Queues × Record
      did = step listed w.machine e

      may : MayHappen c scripts rs h e
      may = step_may c scripts rs question w h marks leads s e is

      go : (b : Bool) → allows w.question w.seen mark (sight_at (went w mark did) did.1) ≡ b →
          option_and_then (λ r. run after r steps) (cond b (Some (went w mark did)) None) ≡ Some w' →
          Led w' (h ++ (did.1 ∷ report_following steps (cond b (Some (went w mark did)) None))) (length h + length (s ∷ steps))
      go false never on' = cc
      go true holds on' =
          let more = leads_more c scripts rs question valid w h marks leads e may mark (sym (same_allowed c scripts rs question valid w h marks leads e may mark) ∙ holds) in
          let rest = following (went w mark did) (h ++ did.1 ∷ []) (marks ++ mark ∷ []) more on' in
          let long = rest.2 in
          (rest.0, rest.1, grind (arith, common_steps, long), rest.3 ∙ append_assoc h (did.1 ∷ []) (records (went w mark did) steps), rest.4)

  -- a run over places from one to which a history leads
  pub run_leads : (steps : List ℕ) (w w' : Place) (h : List Record) (marks : List Bool) → Leads w h marks → run after w steps ≡ Some w' →
      Led w' (h ++ records w steps) (length h + length steps)
  unfolding after report
  run_leads [] w w' h marks leads on =
      let same : w ≡ w' = cc in
      (h, marks, omega arith, sym (append-nil h), subst (λ x. Leads x h marks) same leads)
  run_leads (s ∷ steps) w w' h marks leads on =
      step_leads s steps w w' h marks leads (λ x g ms leads' on'. run_leads steps x w' g ms leads' on') (event_of w s) refl on

  -- what stands after a part of a list
  pub at_end : {A : Type 0} (g rest : List A) (r : A) → (slice_get (g ++ r ∷ rest) (length g) ≡ Some r) × (take (length g) (g ++ r ∷ rest) ≡ g) × (take (suc (length g)) (g ++ r ∷ rest) ≡ g ++ r ∷ [])
  at_end [] rest r = (refl, refl, refl)
  at_end (x ∷ g) rest r = let more = at_end g rest r in (more.0, ap (λ l. x ∷ l) more.1, ap (λ l. x ∷ l) more.2)

  -- the step of an event that is marked so
  one_step : (w : Place) (g : List Record) (marks : List Bool) (leads : Leads w g marks) (e : Event) (may : MayHappen c scripts rs g e) (m : Bool) →
      allows question (seen marks) m (last_sight c rs (g ++ (step listed w.machine e).1 ∷ []) (step listed w.machine e).1) ≡ true →
      (s : ℕ) × (after w s ≡ Some (went w m (step listed w.machine e))) × (is_of (choice_of e) s ≡ true)
  unfolding after
  one_step w g marks leads e may m allowed_there =
      let did = step listed w.machine e in
      let one = may_step c scripts rs question w g marks leads e m may in
      let here = same_allowed c scripts rs question valid w g marks leads e may m ∙ allowed_there in
      (one.0, ap (next_place w (is_marked one.0)) one.1 ∙ ap (λ b. allowed w b did) one.2 ∙ ap (λ b. cond b (Some (went w m did)) None) here, one.3)

  -- an order whose first part leads to a place is a run over places from there
  order_runs : (es : List Event) (ms : List Bool) (w : Place) (g : List Record) (gm : List Bool) (h : List Record) (hm : List Bool) → Leads w g gm →
      g ++ answers numbered (state_after c g) es ≡ h → gm ++ ms ≡ hm → length ms ≡ length es → AreInOrder c scripts rs h → IsMarked c rs question h hm →
      (steps : List ℕ) × (w' : Place) × (length steps ≡ length es) × (run after w steps ≡ Some w') × Leads w' h hm × Follows (map choice_of es) steps
  order_runs [] [] w g gm h hm leads is marks_are many in_order marked =
      let same : g ≡ h = sym (append-nil g) ∙ is in
      let same_marks : gm ≡ hm = sym (append-nil gm) ∙ marks_are in
      ([], w, refl, refl, subst (λ x. Leads w h x) same_marks (subst (λ x. Leads w x gm) same leads), tt)
  order_runs [] (m ∷ ms) w g gm h hm leads is marks_are many in_order marked = absurd (grind (arith, common_steps, many))
  order_runs (e ∷ es) [] w g gm h hm leads is marks_are many in_order marked = absurd (grind (arith, common_steps, many))
  order_runs (e ∷ es) (m ∷ ms) w g gm h hm leads is marks_are many in_order marked =
      let state = state_after c g in
      let r = (step numbered state e).1 in
      let rest = answers numbered (step numbered state e).0 es in
      let end = at_end g rest r in
      let mark_end = at_end gm ms m in
      let as_many = leads.marked.as_many in
      let at : slice_get h (length g) ≡ Some r = rw (← is) end.0 in
      let before : take (length g) h ≡ g = rw (← is) end.1 in
      let up_to : take (suc (length g)) h ≡ g ++ r ∷ [] = rw (← is) end.2 in
      let mark_at : slice_get hm (length g) ≡ Some m = rw (← as_many) (rw (← marks_are) mark_end.0) in
      let marks_before : take (length g) hm ≡ gm = rw (← as_many) (rw (← marks_are) mark_end.1) in
      let event : r.event ≡ e = step_event state e in
      let may : MayHappen c scripts rs g e = subst (λ x. MayHappen c scripts rs g x) event (subst (λ x. MayHappen c scripts rs x r.event) before (in_order (length g) r at)) in
      let did = step listed w.machine e in
      let report : did.1 ≡ r = same_record c scripts rs question valid w g gm leads e may in
      let allowed_at : allows question (seen (take (length g) hm)) m (last_sight c rs (take (suc (length g)) h) r) ≡ true = marked.allowed (length g) r m at mark_at in
      let allowed_then : allows question (seen gm) m (last_sight c rs (g ++ r ∷ []) r) ≡ true =
      subst (λ x. allows question (seen gm) m (last_sight c rs x r) ≡ true) up_to (subst (λ x. allows question (seen x) m (last_sight c rs (take (suc (length g)) h) r) ≡ true) marks_before allowed_at) in
      let allowed_here : allows question (seen gm) m (last_sight c rs (g ++ did.1 ∷ []) did.1) ≡ true =
      subst (λ (x : Record). allows question (seen gm) m (last_sight c rs (g ++ x ∷ []) x) ≡ true) (sym report) allowed_then in
      let one = one_step w g gm leads e may m allowed_here in
      let more = subst (λ x. Leads (went w m did) (g ++ x ∷ []) (gm ++ m ∷ [])) report (leads_more c scripts rs question valid w g gm leads e may m allowed_here) in
      let longer : (g ++ r ∷ []) ++ answers numbered (state_after c (g ++ r ∷ [])) es ≡ h =
      ap (λ x. (g ++ r ∷ []) ++ answers numbered x es) (after_more c g e r event) ∙ append_assoc g (r ∷ []) rest ∙ is in
      let marks_longer : (gm ++ m ∷ []) ++ ms ≡ hm = append_assoc gm (m ∷ []) ms ∙ marks_are in
      let last = order_runs es ms (went w m did) (g ++ r ∷ []) (gm ++ m ∷ []) h hm more longer marks_longer (grind (arith, common_steps, many)) in_order marked in
      let leads_on : run after w (one.0 ∷ last.0) ≡ Some last.1 = rw one.1 last.3 in
      (one.0 ∷ last.0, last.1, ap suc last.2, leads_on, last.4, (one.2, last.5))

  events_long : (h : List Record) → length (events_of h) ≡ length h
  events_long h = grind (arith, common_steps)

  -- an order with these marks is a run over places, along the steps of its events
  pub order_steps : (h : List Record) (marks : List Bool) → IsOrder c scripts rs h → IsMarked c rs question h marks →
      (steps : List ℕ) × (w : Place) × (length steps ≡ length h) × (run after (origin c scripts rs question) steps ≡ Some w) × Leads w h marks × Follows (choices_of h) steps
  unfolding state_after
  order_steps h marks order marked =
      let many = marked.as_many in
      let got = order_runs (events_of h) marks (origin c scripts rs question) [] [] h marks (leads_origin c scripts rs question valid) (sym order.run.answers) refl (many ∙ sym (events_long h)) order.in_order marked in
      (got.0, got.1, got.2 ∙ events_long h, got.3, got.4, got.5)

  pub runs_orders : RunsAreOrders c scripts rs question
  runs_orders = record {
    order = λ steps w on.
        let got = run_leads steps (origin c scripts rs question) w [] [] (leads_origin c scripts rs question valid) on in
        let long = got.2 in
        (got.0, got.1, omega (arith, long), got.3, got.4);
    steps = λ h marks order marked. let got = order_steps h marks order marked in (got.0, got.1, got.2, got.3, got.4);
  }
