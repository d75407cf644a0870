use Rattle.std.proofs.Common.{◌≡◌, ◌≤◌, length, ap, sym, subst, ◌∙◌}
use Rattle.fmp_codes.specs.declared.records.Record.{Record}
use Rattle.fmp_rules.specs.Arrivals.{State, numbered}
use Rattle.fmp_rules.specs.Step.{step}
use Rattle.fmp_law_safety.specs.Runs.{processor_of}
use Rattle.fmp_law_safety.proofs.Listed.{numbered_lists}
use Rattle.fmp_law_safety.proofs.Stepping.{numbered_tops, safe_step}
use Rattle.fmp_run_view.specs.Moments.{Moment}
use Rattle.fmp_run_view.proofs.Ticked.{ticked_within}
use Rattle.fmp_run_view.proofs.player.Player.play.Goals as goal

pub invariant_of-self : goal.invariant_of-self
invariant_of-self c =
    let w = c.self.inside.plain.state in
    let same : w ≡ c.args.self.now.state = ap (λ (m : Moment). m.state) c.self.view_is in
    let on : (processor_of c.args.event).number ≤ length w.processors = subst (λ (s : State). (processor_of c.args.event).number ≤ length s.processors) (sym same) c.requires.on in
    let stays = safe_step numbered numbered_tops numbered_lists w c.args.event c.self.invariant.safe ((processor_of c.args.event).least, on) in
    let state_is : c.step_into.new.self.state ≡ (step numbered w c.args.event).0 = ap (λ (p : State × Record). p.0) c.step_into.ensures.step in
    record {
      safe = rw state_is stays.safe;
      ticks_are_events = rw (c.count_tick.ensures, c.step_into.ensures.steps) (ticked_within c.self.inside.ticks c.args.event _ c.self.inside.plain.steps c.self.invariant.ticks_are_events);
    }

pub returns-clause-processors : goal.returns-clause-processors
returns-clause-processors c =
    let w = c.self.inside.plain.state in
    let same : w ≡ c.args.self.now.state = ap (λ (m : Moment). m.state) c.self.view_is in
    let on : (processor_of c.args.event).number ≤ length w.processors = subst (λ (s : State). (processor_of c.args.event).number ≤ length s.processors) (sym same) c.requires.on in
    let stays = safe_step numbered numbered_tops numbered_lists w c.args.event c.self.invariant.safe ((processor_of c.args.event).least, on) in
    let state_is : c.step_into.new.self.state ≡ (step numbered w c.args.event).0 = ap (λ (p : State × Record). p.0) c.step_into.ensures.step in
    ap (λ (s : State). length s.processors) state_is ∙ stays.count ∙ ap (λ (s : State). length s.processors) same
