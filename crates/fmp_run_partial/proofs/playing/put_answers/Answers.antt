use Rattle.std.proofs.Common.{◌≡◌, ℕ, ◌+◌, List, ◌∷◌, ◌++◌, length, sym, ap, ◌∙◌, arith}
use Rattle.fmp_codes.specs.declared.records.Event.{Event}
use Rattle.fmp_codes.specs.declared.records.Record.{Record}
use Rattle.fmp_names.specs.Names.{NameLists}
use Rattle.fmp_out.specs.Putting.{Adds, Owes, Putting}
use Rattle.fmp_rules.specs.Arrivals.{State, numbered}
use Rattle.fmp_rules.specs.Step.{answers, replay, step}
use Rattle.fmp_trace.specs.Lines.{line_text, lines_from}
use Rattle.fmp_trace_check.proofs.Owing.{one_put}
use Rattle.fmp_run_partial.proofs.playing.put_answers.Goals as goal

-- the machine plays the first of the events that are left
module _ (w after_it : State) (event : Event) (r : Record) (rest after : List Event)
    (split : rest ≡ event ∷ after) (plays : (after_it, r) ≡ step numbered w event) where
  one_answer : (names : NameLists) (n : ℕ) (all : List ℕ) (old between new : Putting) → Owes (lines_from names n (answers numbered w rest)) all old between
      → Adds (line_text names n r) between new → Owes (lines_from names (n + 1) (answers numbered after_it after)) all old new
  one_answer names n all old between new before put =
      one_put (lines_from names n (answers numbered w rest)) (line_text names n r) (lines_from names (n + 1) (answers numbered after_it after))
      all old between new
      (ap (λ (events : List Event). lines_from names n (answers numbered w events)) split
      ∙ ap (λ (did : State × Record). line_text names n did.1 ++ lines_from names (n + 1) (answers numbered did.0 after)) (sym plays)) before put

  one_state : replay numbered after_it after ≡ replay numbered w rest
  one_state = ap (λ (did : State × Record). replay numbered did.0 after) plays ∙ ap (replay numbered w) (sym split)

pub loop-event-preserved : goal.loop-event-preserved
loop-event-preserved c =
    let w = c.loop-event.plain.state in
    let after_it = c.step_into.new.self.state in
    let r = c.step_into.new.report in
    let split = c.in-Some.ensures.cases.0 in
    let plays = c.step_into.ensures.step in
    let long = ap length split in
    record {
      made = one_answer w after_it c.in-Some.event.now r c.loop-event.rest.now c.in-Some.after.now split plays c.args.names.now (c.loop-event.number + 1)
          (lines_from c.args.names.now 1 (answers numbered c.args.plain.now.state c.args.events.now)) c.args.out.now c.loop-event.out c.put_record.new.out
          c.loop-event.invariant.made c.put_record.ensures;
      state = one_state w after_it c.in-Some.event.now r c.loop-event.rest.now c.in-Some.after.now split plays ∙ c.loop-event.invariant.state;
      steps = omega (arith, c.loop-event.invariant.steps, c.step_into.ensures.steps, long);
      count = omega (arith, c.loop-event.invariant.count, long);
    }
