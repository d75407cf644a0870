-- A tick releases tasks, and handlers become due.
use Rattle.std.proofs.Common.{◌≡◌, ℕ, true, false, ◌||◌, List, [], ◌∷◌, ◌++◌, refl, Option, Some, None}
use Rattle.std.specs.Prelude.{is_some, option_map}
use Rattle.std.specs.Option.{option_or}
use Rattle.std.proofs.lemmas.Bool.{both_ways, false≢true}
use Rattle.fmp_codes.specs.declared.numbers.Proc.{Proc}
use Rattle.fmp_codes.specs.declared.numbers.Task.{Task}
use Rattle.fmp_codes.specs.declared.numbers.Object.{Object}
use Rattle.fmp_codes.specs.declared.records.Runner.{Runner}
use Rattle.fmp_codes.specs.declared.records.Runner.TheVariants as runner
use Rattle.fmp_rules.specs.World.{World, item, first, processor, handler}
use Rattle.fmp_rules.specs.Objects.{cyclic}
use Rattle.fmp_rules.specs.Ordering.{Ordering}
use Rattle.fmp_rules.specs.Tasks.{make_ready}
use Rattle.fmp_rules.specs.TimeCalls.{with_cyclic_left, with_alarm_left}
use Rattle.fmp_rules.specs.Tick.{released, with_due, alarms_due, cyclics_due, expired, with_handlers_due}
use Rattle.fmp_law_safety.proofs.Items.{item_after}
use Rattle.fmp_law_safety.proofs.Rests.{rests_beside}
use Rattle.fmp_law_safety.proofs.Keeps.{Occupied, KeepsOthers, keeps_all, keeps_then}
use Rattle.fmp_law_safety.proofs.KeepsWords.{keeps_make_ready, keeps_after_release}
use Rattle.fmp_law_safety.proofs.TimeCalls.{period_in_range, keeps_cyclic_left, keeps_alarm_left}

last_there : (hs : List Runner) (h : Runner) → is_some (first (hs ++ h ∷ [])) ≡ true
last_there [] h = refl
last_there (x ∷ hs) h = refl

runner_due : (o r : Option Runner) → is_some o ≡ true → is_some (option_or o r) ≡ true
runner_due None r e = absurd (false≢true e)
runner_due (Some x) r e = refl

module _ {Q : Type 0} (p : Proc) where
  keeps_due : (w : World Q) (q : Proc) (h : Runner) → Occupied w p → KeepsOthers w (with_due w q h) p
  keeps_due w q h o =
      let hs : List Runner = item [] w.due q.number in
      record {
        processors = λ r d. refl;
        handlers = λ r d none.
            item_after [] w.due q.number (hs ++ h ∷ []) (λ (xs : List Runner). is_some (first xs) ≡ false → is_some (handler w r) ≡ false) r.number
            (λ i e. absurd (both_ways _ e (last_there hs h))) (λ e. e) none;
        count = refl;
        running = refl;
        others = λ t r d a. a;
        own = λ t e r a. a;
        occupied = record {
          held =
              item_after [] w.due q.number (hs ++ h ∷ [])
              (λ (xs : List Runner). (is_some (first xs) || (processor w p).locked || (processor w p).disabled) ≡ true → is_some (option_or (first xs) (option_map runner.Task (processor w p).running)) ≡ true)
              p.number (λ i e. runner_due (first (hs ++ h ∷ [])) _ (last_there hs h)) o.held;
          disabled = o.disabled;
        };
        rests = λ r.
            rests_beside w w.waits_left w.processors (with_due w q h).due w.cyclics w.cyclics_left w.alarms w.alarms_left w.holders r.in_range.cyclics r.in_range.alarms
            r.in_range.locked r.in_range.one_lock r;
        counts = λ r c. record { waits = c.waits; cyclics = c.cyclics; alarms = c.alarms };
      }

  keeps_alarms_due : (w : World Q) (os : List Object) → Occupied w p → KeepsOthers w (alarms_due w p os) p
  keeps_alarms_due w [] o = keeps_all w p o
  keeps_alarms_due w (a ∷ os) o =
      let u : World Q = with_due w p (runner.Alarm a) in
      let due = keeps_due w p (runner.Alarm a) o in
      let stopped = keeps_alarm_left u p due.occupied a None tt in
      keeps_then w p u _ refl due (keeps_then u p (with_alarm_left u a None) _ refl stopped (keeps_alarms_due (with_alarm_left u a None) os stopped.occupied))

  keeps_cyclics_due : (w : World Q) (os : List Object) → Occupied w p → KeepsOthers w (cyclics_due w p os) p
  keeps_cyclics_due w [] o = keeps_all w p o
  keeps_cyclics_due w (c ∷ os) o =
      let u : World Q = with_due w p (runner.Cyclic c) in
      let left : Option ℕ = Some (cyclic w c).setup.period in
      let due = keeps_due w p (runner.Cyclic c) o in
      let begins = keeps_cyclic_left u p due.occupied c left (λ r. period_in_range u r c) in
      keeps_then w p u _ refl due (keeps_then u p (with_cyclic_left u c left) _ refl begins (keeps_cyclics_due (with_cyclic_left u c left) os begins.occupied))

-- what each of several changes keeps, all of them keep
module _ {Q : Type 0} (p : Proc) (H : World Q → Type 0) where
  pub alarms_keep : ((w : World Q) (a : Object) → H w → H (with_alarm_left (with_due w p (runner.Alarm a)) a None)) → (w : World Q) (os : List Object) → H w → H (alarms_due w p os)
  alarms_keep one w [] h = h
  alarms_keep one w (a ∷ os) h = alarms_keep one (with_alarm_left (with_due w p (runner.Alarm a)) a None) os (one w a h)

  pub cyclics_keep : ((w : World Q) (c : Object) → H w → H (with_cyclic_left (with_due w p (runner.Cyclic c)) c (Some (cyclic w c).setup.period))) →
      (w : World Q) (os : List Object) → H w → H (cyclics_due w p os)
  cyclics_keep one w [] h = h
  cyclics_keep one w (c ∷ os) h = cyclics_keep one (with_cyclic_left (with_due w p (runner.Cyclic c)) c (Some (cyclic w c).setup.period)) os (one w c h)

  pub released_keep : (k : Ordering Q) → ((w : World Q) (t : Task) → H w → H (make_ready k w t)) → (w : World Q) (ts : List Task) → H w → H (released k w ts).0
  released_keep k one w [] h = h
  released_keep k one w (t ∷ ts) h = released_keep k one (make_ready k w t) ts (one w t h)

module _ {Q : Type 0} (p : Proc) where
  keeps_handlers_due : (w : World Q) → Occupied w p → KeepsOthers w (with_handlers_due w p) p
  unfolding with_handlers_due
  keeps_handlers_due w o =
      let os : List Object = expired w.alarms_left w.alarms in
      let alarms = keeps_alarms_due p w os o in
      keeps_then w p (alarms_due w p os) _ (alarms_keep p (λ (v : World Q). v.tasks ≡ w.tasks) (λ v a e. e) w os refl) alarms (keeps_cyclics_due p (alarms_due w p os) (expired w.cyclics_left w.cyclics) alarms.occupied)

  -- the releases and then the handlers
  pub keeps_released : (k : Ordering Q) (w : World Q) (ts : List Task) → Occupied w p → KeepsOthers w (with_handlers_due (released k w ts).0 p) p
  keeps_released k w [] o = keeps_handlers_due w o
  keeps_released k w (t ∷ ts) o = keeps_after_release k w p o t _ (keeps_released k (make_ready k w t) ts (keeps_make_ready k w p o t).occupied)
