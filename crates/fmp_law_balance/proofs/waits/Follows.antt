-- What a record tells of an event follows from what the event did.
use Rattle.std.proofs.Common.{◌≡◌, ℕ, ◌≤◌, ◌==◌, Bool, true, false, ◌||◌, ◌&&◌, ℤ, [], ◌∷◌, length, refl, sym, ap, ◌∙◌, subst, Option, Some, None}
use Rattle.std.specs.Prelude.{All, if◌then◌else◌, is_some, is_none, option_map}
use Rattle.std.specs.Option.{option_or}
use Rattle.std.proofs.lemmas.Bool.{cond_both, cond-false, false≢true}
use Rattle.std.proofs.lemmas.List.Elements.{All-nil, All-cons}
use Rattle.std.proofs.Math.Bool.{or-false}
use Rattle.fmp_codes.specs.declared.numbers.Proc.{Proc}
use Rattle.fmp_codes.specs.declared.numbers.Task.{Task}
use Rattle.fmp_codes.specs.declared.calls.Call.{Call}
use Rattle.fmp_codes.specs.declared.codes.Code.{Code}
use Rattle.fmp_codes.specs.declared.codes.Code.TheVariants as code
use Rattle.fmp_codes.specs.declared.records.Answer.TheVariants as answer
use Rattle.fmp_codes.specs.declared.records.Event.{Event}
use Rattle.fmp_codes.specs.declared.records.Event.TheVariants as event
use Rattle.fmp_codes.specs.declared.records.Record.{Record}
use Rattle.fmp_codes.proofs.Same.{processors_same}
use Rattle.fmp_rules.specs.Effects.{Effect}
use Rattle.fmp_rules.specs.declared.machine.Processor.{Processor}
use Rattle.fmp_rules.specs.declared.machine.TaskRecord.{TaskRecord}
use Rattle.fmp_rules.specs.declared.machine.Wait.{Wait}
use Rattle.fmp_rules.specs.World.{World, item, with_item, no_processor, no_task, task, processor, runner_of}
use Rattle.fmp_rules.specs.Ordering.{Ordering, begin_wait}
use Rattle.fmp_rules.specs.Tasks.{make_ready}
use Rattle.fmp_rules.specs.Rows.{plain, refused, done_or_wait, wait_for}
use Rattle.fmp_rules.specs.Arguments.{caller, is_zero, ticks_of}
use Rattle.fmp_law_safety.specs.Safe.{IsNumberOf, Safe}
use Rattle.fmp_law_safety.proofs.Calls.{FromTask}
use Rattle.fmp_law_safety.proofs.KeepsTasks.{MayRunOn, may_run_parts}
use Rattle.fmp_law_safety.proofs.Listed.{not_past}
use Rattle.fmp_law_balance.specs.Accepted.{is_accepted}
use Rattle.fmp_law_balance.specs.Queues.{is_task}
use Rattle.fmp_law_balance.proofs.Called.{refuses, not_accepted}
use Rattle.fmp_law_balance.proofs.Shapes.{Few}
use Rattle.fmp_law_balance.proofs.Steps.{report as record_of}
use Rattle.fmp_setup.specs.Setup.{Setup}
use Rattle.fmp_law_balance.specs.Waits.Meanings.{after_tick}
use Rattle.fmp_law_balance.specs.Waits.Asked.{OpenWait, asked}
use Rattle.fmp_law_balance.specs.Waits.Waits.{is_tick_for, migrates, assigned_by, assigned_after, lasts, OpenWaits, after_record, terminates}
use Rattle.fmp_law_balance.specs.Waits.Releases.{EndsOpenWait, Fits, NoneTwice}
use Rattle.fmp_law_balance.proofs.waits.Named.{eqb_sym, caller_runs, HasOpen, open_of}
use Rattle.fmp_law_balance.proofs.waits.Words.{SameCounts, KeptAs, IsKept, counts_task, counts_wait, report_kept, report_ended, report_begun}

-- there are at most so many of each, a place for the ticks left of each task, and the timer is as configured
pub record Sound {Q : Type 0} (config : Setup) (w : World Q) : Type 0 where
  pub few : Few w
  pub few_eventflags : length w.eventflags ≤ 32
  pub few_tasks : length w.tasks ≤ 64
  pub waits_left : length w.waits_left ≡ length w.tasks
  pub timer : w.timer ≡ config.timer

-- a wait lasts as it is where no tick is taken that counts for it, and its task is not migrated
pub lasts_same : (config : Setup) (t : Task) (r : Record) → ((q : Proc) → is_tick_for config.timer q r.answer r.event ≡ false) →
    ((q : Proc) → (if is_accepted r.answer then assigned_by config t (migrates t r.event) q else q) ≡ q) → (o : Option OpenWait) → option_map (lasts config t r) o ≡ o
lasts_same config t r no_tick there None = refl
lasts_same config t r no_tick there (Some o) =
    let with : Option ℕ → Proc → OpenWait = λ left q. record { wait = o.wait; left = left; assigned = q } in
    ap Some
    (ap (λ left. with left (assigned_after config t r o)) (cond-false (is_tick_for config.timer o.assigned r.answer r.event) (after_tick o.left) o.left (no_tick o.assigned))
    ∙ ap (with o.left) (there o.assigned))

-- the event terminates no task and migrates none
abbrev pub SparesTasks : Event → Type 0
SparesTasks e = (t : Task) → (terminates t e ≡ false) × (migrates t e ≡ None)

-- Who runs is active, is one of the tasks and does not wait.
module _ {Q : Type 0} (k : Ordering Q) (w : World Q) (p : Proc) (s : Safe k w) where
  pub running_may : (t : Task) → (processor w p).running ≡ Some t → MayRunOn p (task w t)
  running_may t e =
      let within : IsNumberOf w.processors p.number = (p.least, not_past (λ (c : Processor). is_some c.running) no_processor w.processors p.number p.least refl (ap is_some e)) in
      may_run_parts p (task w t) ((s.processors p within).runs t e)

  pub running_within : (t : Task) → (processor w p).running ≡ Some t → t.number ≤ length w.tasks
  running_within t e = not_past (λ (r : TaskRecord). r.active) no_task w.tasks t.number t.least refl (running_may t e).active

  pub running_waits_not : (t : Task) → (processor w p).running ≡ Some t → (task w t).wait ≡ None
  running_waits_not t e = go (task w t).wait (running_may t e).wait
    where
      go : (o : Option Wait) → is_none o ≡ true → o ≡ None
      go None h = refl
      go (Some x) h = absurd (false≢true h)

module _ {Q : Type 0} (config : Setup) (w : World Q) (pending : OpenWaits) where
  -- the record r tells the waits of v, where these were open in w, and its releases fit
  pub record Follows (v : World Q) (r : Record) : Type 0 where
    pub report : (t : Task) → IsKept config v t (after_record config pending r t)
    pub fits : All (EndsOpenWait config pending r) r.releases
    pub once : NoneTwice r.releases
    pub counts : SameCounts w v

  -- the same of a state that has the same tasks and waits
  pub follows_beside : (v u : World Q) (r : Record) → Follows v r → u.tasks ≡ v.tasks → u.waits_left ≡ v.waits_left → u.eventflags ≡ v.eventflags → u.timer ≡ v.timer → Follows u r
  follows_beside v u r h tasks left flags timer = record {
    report = λ t.
        subst (λ xs. IsKept config (record v { tasks = xs; waits_left = u.waits_left }) t (after_record config pending r t)) (sym tasks)
        (subst (λ xs. IsKept config (record v { waits_left = xs }) t (after_record config pending r t)) (sym left) (h.report t));
    fits = h.fits;
    once = h.once;
    counts = (ap length tasks ∙ h.counts.0, ap length left ∙ h.counts.1, ap length flags ∙ h.counts.2, timer ∙ h.counts.3);
  }

  -- nobody is released, and each wait lasts as it is
  pub stays : (v : World Q) (r : Record) → r.releases ≡ [] → ((t : Task) → after_record config pending r t ≡ pending t) → ((t : Task) → IsKept config v t (pending t)) → SameCounts w v → Follows v r
  stays v r none same report counts = record {
    report = λ t. subst (IsKept config v t) (sym (same t)) (report t);
    fits = subst (All (EndsOpenWait config pending r)) (sym none) (All-nil (EndsOpenWait config pending r));
    once = subst NoneTwice (sym none) tt;
    counts = counts;
  }

module _ {Q : Type 0} (config : Setup) (k : Ordering Q) (w : World Q) (pending : OpenWaits) (report : (t : Task) → IsKept config w t (pending t)) (p : Proc) where
  -- what holds of a call and of what it did
  abbrev pub CallFollows : Call → World Q × Effect → Type 0
  CallFollows c did = Follows config w pending did.0 (record_of (event.Call p c) (runner_of w p) did.1)

  -- a call that is refused
  pub refused_follows : (c : Call) (x : Code) → refuses x ≡ true → CallFollows c (w, refused x)
  refused_follows c x e =
      let r : Record = record_of (event.Call p c) (runner_of w p) (refused x) in
      let no : is_accepted r.answer ≡ false = not_accepted x e in
      stays config w pending w r refl
      (λ t.
      cond-false (is_accepted r.answer && terminates t r.event) None (option_map (lasts config t r) (pending t)) (ap (λ b. b && terminates t r.event) no)
      ∙ lasts_same config t r (λ q. refl) (λ q. cond-false (is_accepted r.answer) (assigned_by config t (migrates t r.event) q) q no) (pending t))
      report (refl, refl, refl, refl)

  -- the waits that an accepted call leaves alone
  pub done_lasts : (c : Call) (did : Effect) (value : Option ℤ) → did.answer ≡ answer.Done code.Accepted value → SparesTasks (event.Call p c) → (t : Task) →
      option_map (lasts config t (record_of (event.Call p c) (runner_of w p) did)) (pending t) ≡ pending t
  done_lasts c did value is apart t =
      lasts_same config t (record_of (event.Call p c) (runner_of w p) did) (λ q. refl)
      (λ q. ap (λ a. if is_accepted a then assigned_by config t (migrates t (event.Call p c)) q else q) is ∙ ap (λ to. assigned_by config t to q) (apart t).1) (pending t)

  -- an accepted call that leaves the waits alone
  pub done_follows : (c : Call) (v : World Q) (value lost : Option ℤ) → SparesTasks (event.Call p c) → ((t : Task) → IsKept config v t (pending t)) → SameCounts w v →
      CallFollows c (v, record { answer = answer.Done code.Accepted value; releases = []; lost = lost })
  done_follows c v value lost apart same counts =
      let did : Effect = record { answer = answer.Done code.Accepted value; releases = []; lost = lost } in
      let r : Record = record_of (event.Call p c) (runner_of w p) did in
      stays config w pending v r refl
      (λ t. cond-false (terminates t r.event) None (option_map (lasts config t r) (pending t)) (apart t).0 ∙ done_lasts c did value refl apart t) same counts

  -- one that changes one task, whose wait stays
  pub task_follows : (c : Call) (u : Task) (r : TaskRecord) (q : Q) (value : Option ℤ) → SparesTasks (event.Call p c) → KeptAs config u (pending u) r (item None w.waits_left u.number) →
      CallFollows c (record w { tasks = with_item w.tasks u.number r; order = q }, plain (answer.Done code.Accepted value))
  task_follows c u r q value apart here = done_follows c (record w { tasks = with_item w.tasks u.number r; order = q }) value None apart (report_kept config w pending report u r q here) (counts_task w u r q)

  -- one that releases a task that waits for this, where that fits
  pub release_follows : (c : Call) (u : Task) (x : Code) (value answered : Option ℤ) (y : Wait) → SparesTasks (event.Call p c) → (task w u).wait ≡ Some y →
      ((o : OpenWait) → o.wait ≡ y → Fits config o (event.Call p c) (answer.Done code.Accepted answered) (record { task = u; code = x; value = value })) →
      CallFollows c (make_ready k w u, record { answer = answer.Done code.Accepted answered; releases = record { task = u; code = x; value = value } ∷ []; lost = None })
  release_follows c u x value answered y apart waits fits =
      let was : HasOpen (pending u) y _ _ = open_of (pending u) (task w u).wait _ _ (report u).0 y waits in
      let did : Effect = record { answer = answer.Done code.Accepted answered; releases = record { task = u; code = x; value = value } ∷ []; lost = None } in
      let r : Record = record_of (event.Call p c) (runner_of w p) did in
      record {
        report = λ t.
            subst (λ b. IsKept config (make_ready k w u) t (if b then None else option_map (lasts config t r) (pending t)))
            (sym (ap (λ b. ((u.number == t.number) || false) || b) (apart t).0 ∙ or-false ((u.number == t.number) || false) ∙ or-false (u.number == t.number)))
            (subst (λ o. IsKept config (make_ready k w u) t (if u.number == t.number then None else o)) (sym (done_lasts c did answered refl apart t))
            (report_ended config w pending report u (record (task w u) { wait = None }) w.order refl refl t));
        fits = All-cons (EndsOpenWait config pending r) (record { task = u; code = x; value = value }) [] (was.what, was.is, fits was.what was.wait) (All-nil (EndsOpenWait config pending r));
        once = (refl, tt);
        counts = counts_wait w u (record (task w u) { wait = None }) None w.order;
      }

  -- Who makes a call.

  module _ (s : Safe k w) where
    module _ (sound : Sound config w) where
      -- the caller begins to wait for what it asked
      pub begins_follows : (c : Call) (x : Wait) (left : Option ℕ) → FromTask w p → asked p c ≡ Some (record { wait = x; left = left; assigned = p }) →
          CallFollows c (begin_wait k w (caller w p) x left, plain answer.Wait)
      begins_follows c x left from is =
          let u : Task = caller w p in
          let o : OpenWait = record { wait = x; left = left; assigned = p } in
          let may : MayRunOn p (task w u) = running_may k w p s u from.running in
          let within : u.number ≤ length w.tasks = running_within k w p s u from.running in
          let timed : u.number ≤ length w.waits_left = rw sound.waits_left within in
          let r : Record = record_of (event.Call p c) (runner_of w p) (plain answer.Wait) in
          let v : World Q = begin_wait k w u x left in
          record {
            report = λ t.
                subst (λ before. IsKept config v t (option_or (if is_task t (runner_of w p) then asked p c else None) before)) (sym (lasts_same config t r (λ q. refl) (λ q. refl) (pending t)))
                (subst (λ h. IsKept config v t (option_or (if is_task t h then asked p c else None) (pending t))) (sym (caller_runs w p from))
                (subst (λ h. IsKept config v t (option_or (if t.number == u.number then h else None) (pending t))) (sym is)
                (subst (λ b. IsKept config v t (option_or (if b then Some o else None) (pending t))) (eqb_sym u.number t.number)
                (report_begun config w pending report u (record (task w u) { wait = Some x }) o w.order refl (processors_same (task w u).assigned p may.assigned) refl within timed t))));
            fits = All-nil (EndsOpenWait config pending r);
            once = tt;
            counts = counts_wait w u (record (task w u) { wait = Some x }) left w.order;
          }

      -- what can be done at once is done, or else the caller waits
      pub done_or_waits_follow : (c : Call) (can : Bool) (effect : World Q × Effect) (x : Wait) (timeout : ℤ) → FromTask w p → asked p c ≡ Some (record { wait = x; left = ticks_of timeout; assigned = p }) →
          (can ≡ true → CallFollows c effect) → CallFollows c (done_or_wait k w p can effect x timeout)
      done_or_waits_follow c can effect x timeout from is at_once =
          cond_both can effect (wait_for k w (caller w p) x timeout) (CallFollows c) at_once
          (λ _. cond_both (is_zero timeout) _ _ (CallFollows c) (λ _. refused_follows c code.TimedOut refl) (λ _. begins_follows c x (ticks_of timeout) from is))
