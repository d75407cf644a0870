-- Whether a request is pending on a processor along a run, and what interrupts and ticks answer there.
use Rattle.std.proofs.Common.{◌≡◌, ℕ, suc, ◌≤◌, Bool, not, ◌&&◌, ◌||◌, List, [], ◌∷◌, length, arith, refl, sym, ap, ◌∙◌, subst}
use Rattle.std.specs.Prelude.{take, is_some}
use Rattle.fmp_codes.specs.declared.numbers.Proc.{Proc}
use Rattle.fmp_codes.specs.declared.records.Answer.{Answer}
use Rattle.fmp_codes.specs.declared.records.Event.{Event}
use Rattle.fmp_codes.specs.declared.records.Event.TheVariants as event
use Rattle.fmp_codes.specs.declared.records.Record.{Record}
use Rattle.fmp_codes.specs.declared.records.Runner.{Runner}
use Rattle.fmp_codes.specs.Records.{is_taken}
use Rattle.fmp_setup.specs.declared.setup.Timer.{Timer}
use Rattle.fmp_setup.specs.Setup.{Setup, has_time}
use Rattle.fmp_setup.specs.Valid.{IsValid}
use Rattle.fmp_rules.specs.World.{item, first, processor, handler, is_held}
use Rattle.fmp_rules.specs.Arrivals.{State, numbered}
use Rattle.fmp_rules.specs.Step.{step, replay, answers}
use Rattle.fmp_rules.specs.Boot.{booted}
use Rattle.fmp_rules.proofs.Replays.{answers_take}
use Rattle.fmp_law_safety.specs.Runs.{processor_of, AreOn}
use Rattle.fmp_law_safety.proofs.Listed.{numbered_lists}
use Rattle.fmp_law_safety.proofs.Stepping.{numbered_tops, safe_step}
use Rattle.fmp_law_safety.proofs.Booted.{count_booted}
use Rattle.fmp_law_balance.specs.Waits.Waits.{OpenWaits, nobody_waits, after_record}
use Rattle.fmp_law_balance.proofs.waits.Events.{event_reported}
use Rattle.fmp_law_records.proofs.counts.Ready.{Ready, ready_next, ready_at_boot, ready_after, prefix_on}
use Rattle.fmp_law_records.specs.Flags.{locked_by, disabled_by, AreFlagsReported}
use Rattle.fmp_law_records.specs.Due.{handlers_by, AreDueReported}
use Rattle.fmp_law_records.specs.Requests.{ProcessorReported, some_due, is_held_reported, is_held_back, pending_after, processor_after, processor_by, processor_at_boot, report_processor, IsRequestReported, SignalsFit}
use Rattle.fmp_law_records.proofs.Flags.{Marks}
use Rattle.fmp_law_records.proofs.FlagsRuns.{booted_marks, flags_after_all, flags_reported}
use Rattle.fmp_law_records.proofs.DueRuns.{due_after_all, due_reported}
use Rattle.fmp_law_records.proofs.Requests.{pending_step, interrupt_held, interrupt_taken, tick_held, tick_taken}

some_first : (ds : List Runner) → is_some (first ds) ≡ some_due ds
some_first [] = refl
some_first (h ∷ hs) = refl

module _ (c : Setup) (p : Proc) where
  -- what is told of the processor, part by part
  pub record ByParts (records : List Record) (x now : ProcessorReported) : Type 0 where
    pub handlers : now.handlers ≡ handlers_by c p records x.handlers
    pub locked : now.locked ≡ locked_by p records x.locked
    pub disabled : now.disabled ≡ disabled_by p records x.disabled

  pub by_parts : (records : List Record) (x : ProcessorReported) → ByParts records x (processor_by c p records x)
  by_parts [] x = record { handlers = refl; locked = refl; disabled = refl }
  by_parts (r ∷ rs) x = let h = by_parts rs (processor_after c p r x) in record { handlers = h.handlers; locked = h.locked; disabled = h.disabled }

  -- what holds a processor is told
  pub record HoldsReported (m : State) (x : ProcessorReported) : Type 0 where
    pub due : is_some (handler m p) ≡ some_due x.handlers.due
    pub locked : (processor m p).locked ≡ x.locked
    pub held : is_held m p ≡ is_held_reported x

  module _ (here : p.number ≤ c.processors) where
    held_parts : (m : State) (rs : List Record) → AreFlagsReported rs m p → AreDueReported c rs m p → HoldsReported m (report_processor c p rs)
    held_parts m rs flags handlers =
        let x : ProcessorReported = report_processor c p rs in
        let parts : ByParts rs (processor_at_boot c) x = by_parts rs (processor_at_boot c) in
        let due : is_some (handler m p) ≡ some_due x.handlers.due = some_first (item [] m.due p.number) ∙ ap some_due handlers ∙ sym (ap (λ h. some_due h.due) parts.handlers) in
        let locked : (processor m p).locked ≡ x.locked = flags.locked ∙ sym parts.locked in
        let disabled : (processor m p).disabled ≡ x.disabled = flags.disabled ∙ sym parts.disabled in
        record {
          due = due;
          locked = locked;
          held = ap (λ b. b || (processor m p).locked || (processor m p).disabled) due
              ∙ ap (λ b. some_due x.handlers.due || b || (processor m p).disabled) locked
              ∙ ap (λ b. some_due x.handlers.due || x.locked || b) disabled;
        }

    holds_reported : (es : List Event) → IsValid c → AreOn c.processors es → (n : ℕ) → HoldsReported (replay numbered (booted c) (take n es)) (report_processor c p (take n (answers numbered (booted c) es)))
    holds_reported es valid on n = held_parts _ _ (flags_reported c p es valid on n) (due_reported c p here es valid on n)

    pub holds_after_all : (es : List Event) → IsValid c → AreOn c.processors es → HoldsReported (replay numbered (booted c) es) (report_processor c p (answers numbered (booted c) es))
    holds_after_all es valid on = held_parts _ _ (flags_after_all c p es valid on) (due_after_all c p here es valid on)

    abbrev HeldBy : State → List Event → ProcessorReported → Type 0
    HeldBy m es x = (n : ℕ) → is_held (replay numbered m (take n es)) p ≡ is_held_reported (processor_by c p (take n (answers numbered m es)) x)

    pending_run : (pending : OpenWaits) (m : State) (es : List Event) (x : ProcessorReported) → Ready c pending m es → length m.processors ≡ c.processors → HeldBy m es x → (processor m p).latch ≡ x.pending →
        (processor (replay numbered m es) p).latch ≡ (processor_by c p (answers numbered m es) x).pending
    pending_run pending m [] x ready count held old = old
    pending_run pending m (e ∷ es) x ready count held old =
        let r : Record = (step numbered m e).1 in
        let within : (processor_of e).number ≤ length m.processors = ready.on 0 e (omega arith) in
        pending_run (after_record c pending r) (step numbered m e).0 es (processor_after c p r x) (ready_next c pending m e es ready)
        ((safe_step numbered numbered_tops numbered_lists m e ready.safe ((processor_of e).least, within)).count ∙ count) (λ n. held (suc n))
        (pending_step m p (rw count here) ready.safe e within ∙ ap (λ b. pending_after p r b (processor m p).latch) (held 1) ∙ ap (pending_after p r (is_held_reported (processor_after c p r x))) old)

    pending_after_all : (es : List Event) → IsValid c → AreOn c.processors es → IsRequestReported c (answers numbered (booted c) es) (replay numbered (booted c) es) p
    pending_after_all es valid on =
        pending_run nobody_waits (booted c) es (processor_at_boot c) (ready_at_boot c valid es on) (count_booted c) (λ n. (holds_reported es valid on n).held) (ap (λ (y : Marks). y.latch) (booted_marks c p))

    pub requests_reported : (events : List Event) → IsValid c → AreOn c.processors events → (n : ℕ) → IsRequestReported c (take n (answers numbered (booted c) events)) (replay numbered (booted c) (take n events)) p
    requests_reported events valid on n =
        subst (λ rs. IsRequestReported c rs (replay numbered (booted c) (take n events)) p) (answers_take n (booted c) events) (pending_after_all (take n events) valid (prefix_on n c.processors events on))

    -- what interrupts and ticks answer
    pub signals_fit : (events : List Event) → IsValid c → AreOn c.processors events → (e : Event) → SignalsFit c p (report_processor c p (answers numbered (booted c) events)) (step numbered (replay numbered (booted c) events) e).1
    signals_fit events valid on e =
        let m : State = replay numbered (booted c) events in
        let x : ProcessorReported = report_processor c p (answers numbered (booted c) events) in
        let latch : (processor m p).latch ≡ x.pending = pending_after_all events valid on in
        let timer : m.timer ≡ c.timer = (ready_after c valid events on).sound.timer in
        let h : HoldsReported m x = holds_after_all events valid on in
        let busy : ((processor m p).locked || is_some (handler m p)) ≡ (x.locked || some_due x.handlers.due) = ap (λ b. b || is_some (handler m p)) h.locked ∙ ap (λ b. x.locked || b) h.due in
        record {
          interrupt_held = λ is. at (event.Ipi p) is is_held_back (interrupt_held m p) ∙ h.held;
          interrupt_taken = λ is. at (event.Ipi p) is is_taken (interrupt_taken m p) ∙ ap (λ b. b && not (is_held m p)) latch ∙ ap (λ b. x.pending && not b) h.held;
          tick_held = λ is. at (event.Tick p) is is_held_back (tick_held m p) ∙ ap (λ (t : Timer). has_time t p && ((processor m p).locked || is_some (handler m p))) timer ∙ ap (λ b. has_time c.timer p && b) busy;
          tick_taken = λ is.
              at (event.Tick p) is is_taken (tick_taken m p) ∙ ap (λ (t : Timer). has_time t p && not ((processor m p).locked || is_some (handler m p))) timer ∙ ap (λ b. has_time c.timer p && not b) busy;
        }
      where
        at : (y : Event) → (step numbered (replay numbered (booted c) events) e).1.event ≡ y → (test : Answer → Bool) → {b : Bool} → test (step numbered (replay numbered (booted c) events) y).1.answer ≡ b → test (step numbered (replay numbered (booted c) events) e).1.answer ≡ b
        at y is test f = ap (λ z. test (step numbered (replay numbered (booted c) events) z).1.answer) (sym (event_reported numbered (replay numbered (booted c) events) e) ∙ is) ∙ f
