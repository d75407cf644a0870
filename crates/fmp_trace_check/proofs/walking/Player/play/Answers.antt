use Rattle.std.proofs.Common.{◌≡◌, ℕ, List, [], ◌∷◌, length, length-append, Some, refl, sym, ap, ◌∙◌, arith}
use Rattle.std.specs.Str.{bytes_eq}
use Rattle.fmp_codes.specs.declared.records.Event.{Event}
use Rattle.fmp_codes.specs.declared.records.Record.{Record}
use Rattle.fmp_rules.specs.Arrivals.{State, numbered}
use Rattle.fmp_rules.specs.Step.{step}
use Rattle.fmp_rules.proofs.Replays.{step_event}
use Rattle.fmp_trace.specs.Lines.{core_text, line_text}
use Rattle.fmp_trace_check.proofs.walking.Player.play.Goals as goal

pub put_core-requires : goal.put_core-requires
unfolding line_text
put_core-requires c =
    let empty = ap (λ (l : List ℕ). length l) c.clear.ensures in
    let short = c.line_is_short.ensures c.increase.new.self in
    let whole = length-append (core_text c.args.names.now c.increase.new.self c.step_recorded.new.report) (10 ∷ []) in
    omega (arith, empty, short, whole)

pub returns-then-not-tell_event-clause-same : goal.returns-then-not-tell_event-clause-same
returns-then-not-tell_event-clause-same c = rw (c.tell_event.ensures.none c.if-not-tell_event.true) refl

pub returns-then-not-tell_event-clause-own : goal.returns-then-not-tell_event-clause-own
returns-then-not-tell_event-clause-own c = rw (c.tell_event.ensures.none c.if-not-tell_event.true) c.clear.ensures

pub returns-then-not-tell_event-clause-state : goal.returns-then-not-tell_event-clause-state
returns-then-not-tell_event-clause-state c = rw (c.tell_event.ensures.none c.if-not-tell_event.true) refl

pub returns-clause-same : goal.returns-clause-same
returns-clause-same c =
    let number : c.increase.new.self ≡ c.args.n = c.increase.ensures ∙ c.requires.count in
    let report : c.step_recorded.new.report ≡ (step numbered c.args.self.now.plain.state c.tell_event.new.event).1 = ap (λ (p : State × Record). p.1) c.step_recorded.ensures.step in
    rw (c.tell_event.ensures.report c.if-not-tell_event.false, c.is_same.ensures, c.as_slice.ensures, c.put_core.ensures, c.clear.ensures, report)
    (ap (λ (i : ℕ). bytes_eq (core_text c.args.names.now i (step numbered c.args.self.now.plain.state c.tell_event.new.event).1) c.args.line.now) number)

pub returns-clause-own : goal.returns-clause-own
returns-clause-own c =
    let number : c.increase.new.self ≡ c.args.n = c.increase.ensures ∙ c.requires.count in
    let report : c.step_recorded.new.report ≡ (step numbered c.args.self.now.plain.state c.tell_event.new.event).1 = ap (λ (p : State × Record). p.1) c.step_recorded.ensures.step in
    rw (c.tell_event.ensures.report c.if-not-tell_event.false, c.put_core.ensures, c.clear.ensures, report)
    (ap (λ (i : ℕ). core_text c.args.names.now i (step numbered c.args.self.now.plain.state c.tell_event.new.event).1) number)

pub returns-clause-report : goal.returns-clause-report
returns-clause-report c = λ same.
    let report : c.step_recorded.new.report.event ≡ c.tell_event.new.event = ap (λ (p : State × Record). p.1.event) c.step_recorded.ensures.step ∙ step_event _ c.tell_event.new.event in
    c.tell_event.ensures.report c.if-not-tell_event.false ∙ ap (λ (e : Event). Some e) (sym report)

pub returns-clause-answer : goal.returns-clause-answer
returns-clause-answer c = λ same.
    let w = c.args.self.now.plain.state in
    let report : c.step_recorded.new.report.event ≡ c.tell_event.new.event = ap (λ (p : State × Record). p.1.event) c.step_recorded.ensures.step ∙ step_event _ c.tell_event.new.event in
    ap (λ (p : State × Record). p.1) c.step_recorded.ensures.step ∙ ap (λ (e : Event). (step numbered w e).1) (sym report)

pub returns-clause-state : goal.returns-clause-state
returns-clause-state c = rw (c.tell_event.ensures.report c.if-not-tell_event.false) (ap (λ (p : State × Record). p.0) c.step_recorded.ensures.step)
