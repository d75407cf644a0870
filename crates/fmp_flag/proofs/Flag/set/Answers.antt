use Rattle.std.proofs.Common.{◌≡◌, ℕ, List, map, sym, ap, subst, ◌∙◌}
use Rattle.std.specs.Prelude.{bit_or}
use Rattle.fmp_codes.specs.declared.numbers.Task.{Task}
use Rattle.fmp_waitq.specs.Queue.{task_of}
use Rattle.fmp_flag.specs.Eventflags.{EventflagState, served, bits_set, WaitsUnmet}
use Rattle.fmp_flag.proofs.Unmet.{unmet_bits_set}
use Rattle.fmp_flag.proofs.Flag.set.Goals as goal

pub returns-clause-unmet : goal.returns-clause-unmet
returns-clause-unmet c h =
    let s = c.args.self.now in
    let ws = c.args.wanted.now in
    let did : (c.serve.new.flag, c.serve.result.items) ≡ bits_set s ws c.args.bits =
    c.serve.ensures ∙ ap (served s ws (bit_or c.self.inside.pattern c.args.bits)) (c.as_slice.ensures.value ∙ c.list-tasks.ensures.tasks)
    ∙ ap (λ (r : EventflagState). served s ws (bit_or r.eventflag.pattern c.args.bits) (map task_of s.waiters)) c.self.view_is in
    subst (WaitsUnmet ws) (sym (ap (λ (d : EventflagState × List (Task × ℕ)). d.0) did)) (unmet_bits_set ws s c.args.bits h)
