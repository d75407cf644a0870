-- A tick leaves the objects alone.
use Rattle.std.proofs.Common.{ℕ, List, [], ◌∷◌, ◌++◌, refl, Option, Some, None}
use Rattle.std.specs.Prelude.{All}
use Rattle.std.proofs.lemmas.List.Elements.{All-nil, All-cons, All-append}
use Rattle.fmp_codes.specs.declared.numbers.Proc.{Proc}
use Rattle.fmp_codes.specs.declared.numbers.Task.{Task}
use Rattle.fmp_codes.specs.declared.numbers.Object.{Object}
use Rattle.fmp_codes.specs.declared.records.Runner.{Runner}
use Rattle.fmp_codes.specs.declared.records.Runner.TheVariants as runner
use Rattle.fmp_rules.specs.World.{World, item, with_item}
use Rattle.fmp_rules.specs.Objects.{cyclic}
use Rattle.fmp_rules.specs.Ordering.{Ordering}
use Rattle.fmp_rules.specs.Tasks.{make_ready}
use Rattle.fmp_rules.specs.TimeCalls.{with_cyclic_left, with_alarm_left}
use Rattle.fmp_rules.specs.Tick.{tick, ticked, counted_down, released, tasks_expired, expired, with_due, alarms_due, cyclics_due, with_handlers_due}
use Rattle.fmp_law_balance.proofs.Leaving.{IsHandler, Leaves, leaves_all, leaves_then, leaves_others, leaves_due, leaves_ready}

module _ {Q : Type 0} (k : Ordering Q) (w : World Q) (p : Proc) where
  leaves_released : (v : World Q) (ts : List Task) → Leaves v (released k v ts).0
  leaves_released v [] = leaves_all v
  leaves_released v (t ∷ ts) = leaves_then v (make_ready k v t) _ (leaves_ready k v t) (leaves_released (make_ready k v t) ts)

  more_handlers : (rs : List Runner) (h : Runner) → IsHandler h → All IsHandler rs → All IsHandler (rs ++ h ∷ [])
  more_handlers rs h is all = All-append IsHandler rs (h ∷ []) all (All-cons IsHandler h [] is (All-nil IsHandler))

  -- a handler becomes due, and its ticks left change
  leaves_with_due : (v : World Q) (n : ℕ) (h : Runner) (ns ms : List (Option ℕ)) → IsHandler h →
      Leaves v (record v { due = with_item v.due n (item [] v.due n ++ h ∷ []); cyclics_left = ns; alarms_left = ms })
  leaves_with_due v n h ns ms is =
      let u : World Q = record v { due = with_item v.due n (item [] v.due n ++ h ∷ []) } in
      leaves_then v u _ (leaves_due v n (item [] v.due n ++ h ∷ []) (more_handlers (item [] v.due n) h is))
      (leaves_others u u.processors u.holders u.eventflags u.cyclics ns u.alarms ms)

  leaves_alarms : (v : World Q) (os : List Object) → Leaves v (alarms_due v p os)
  leaves_alarms v [] = leaves_all v
  leaves_alarms v (a ∷ os) =
      leaves_then v _ _ (leaves_with_due v p.number (runner.Alarm a) v.cyclics_left (with_item v.alarms_left a.number None) tt)
      (leaves_alarms (with_alarm_left (with_due v p (runner.Alarm a)) a None) os)

  leaves_cyclics : (v : World Q) (os : List Object) → Leaves v (cyclics_due v p os)
  leaves_cyclics v [] = leaves_all v
  leaves_cyclics v (c ∷ os) =
      leaves_then v _ _ (leaves_with_due v p.number (runner.Cyclic c) (with_item v.cyclics_left c.number (Some (cyclic v c).setup.period)) v.alarms_left tt)
      (leaves_cyclics (with_cyclic_left (with_due v p (runner.Cyclic c)) c (Some (cyclic v c).setup.period)) os)

  leaves_handlers_due : (v : World Q) → Leaves v (with_handlers_due v p)
  unfolding with_handlers_due
  leaves_handlers_due v =
      let u : World Q = alarms_due v p (expired v.alarms_left v.alarms) in
      leaves_then v u _ (leaves_alarms v (expired v.alarms_left v.alarms)) (leaves_cyclics u (expired v.cyclics_left v.cyclics))

  leaves_counts : Leaves w (counted_down w p)
  unfolding counted_down
  leaves_counts = record { semaphores = refl; pools = refl; data_queues = refl; contents = refl; due = λ h. h; senders = λ t d x e. e }

  leaves_ticked : (v : World Q) → Leaves v (ticked k v p).0
  unfolding ticked
  leaves_ticked v =
      let ts : List Task = tasks_expired v.waits_left (k.timed v.order v.waits_left) in
      leaves_then v (released k v ts).0 _ (leaves_released v ts) (leaves_handlers_due (released k v ts).0)

  pub leaves_tick : Leaves w (tick k w p).0
  leaves_tick = leaves_then w (counted_down w p) _ leaves_counts (leaves_ticked (counted_down w p))
