use Rattle.std.proofs.Common.{◌≡◌, ℕ, ◌+◌, ◌-◌, None, length, get_or, sym, ap, ◌∙◌, arith}
use Rattle.fmp_codes.specs.Numbers.{as_proc}
use Rattle.fmp_step_words.proofs.EachProcessor.{numbers-tell}
use Rattle.fmp_plain_machine.specs.Tops.{top_among}
use Rattle.fmp_plain_machine.proofs.tops.Tasks.tops.Goals as goal

pub returns : goal.returns
returns c =
    let a = c.self.inside in
    let records = a.records.items in
    let ready = a.ready.items in
    let count = c.args.count in
    rw (← c.self.view_is)
    (c.new.ensures ∙ numbers-tell (top_among records ready (length records)) c.numbers.result count (omega (arith, c.numbers.ensures.count, c.requires))
    (λ k h.
    let place : (as_proc (k + 1)).number - 1 ≡ k = omega (arith, h, c.requires) in
    c.numbers.ensures.each k ∙ ap (λ (i : ℕ). get_or a.tops i None) (sym place) ∙ c.self.invariant.each (as_proc (k + 1))))
