use Rattle.std.proofs.Common.{◌≡◌, ◌-◌, ◌+◌, ◌<◌, ◌^◌, ◌++◌, ◌∙◌, ℕ, List, length, map, take, ap, refl, subst, arith}
use Rattle.std.proofs.lemmas.Result.{on_ok_weaker}
use Rattle.fmp_bytes.specs.Bytes.{pieces_of}
use Rattle.fmp_rules.specs.Arrivals.{numbered}
use Rattle.fmp_rules.specs.Boot.{booted}
use Rattle.fmp_rules.specs.Step.{replay}
use Rattle.fmp_names.specs.Names.{AreValid}
use Rattle.fmp_show_state.specs.States.{state_text}
use Rattle.fmp_run_events.specs.Before.{after_lines, state_before}
use Rattle.fmp_run_events.proofs.Following.{records_played}
use Rattle.fmp_run_events.proofs.before.put_state_before.Goals as goal

pub returns : goal.returns
returns c = λ records prints.
    let config = c.args.config.now in
    let n = c.args.n - 1 in
    let names_valid = subst AreValid c.names-names.ensures.value c.validity.ensures in
    let few : 1 + length records < 2 ^ 64 = omega (arith, prints.few) in
    let at : after_lines config.names n (booted config) (pieces_of 10 c.args.trace.now) ≡ replay numbered (booted config) (map (λ r. r.event) (take n records)) =
    rw prints.prints.lines (records_played config.names 1 n (booted config) records names_valid prints.prints.fit few) in
    let text : state_text c.names-names.result.now c.machine.result.now ≡ state_before config records c.args.n = rw (c.names-names.ensures.value, c.machine.ensures, c.in_ok-plain.ensures, at) refl in
    on_ok_weaker c.put_state.result (λ is. is ∙ ap (λ (xs : List ℕ). c.args.out.now.items ++ xs) text) c.put_state.ensures
