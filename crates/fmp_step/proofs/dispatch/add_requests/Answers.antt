use Rattle.std.proofs.Common.{◌≡◌, true, false, Bool, subst, sym, ◌∙◌, length-append, arith}
use Rattle.fmp_codes.specs.declared.numbers.Proc.{Proc}
use Rattle.fmp_rules.specs.Step.{is_requested}
use Rattle.fmp_step.proofs.Processors.{filter-processors_to-taken, filter-processors_to-left}
use Rattle.fmp_step.proofs.dispatch.add_requests.Goals as goal
use Rattle.fmp_step.proofs.dispatch.add_requests.Goals.{then-is_requested, else-is_requested}

pub loop-index-preserved : goal.loop-index-preserved
loop-index-preserved g c = let W = g.M.Words in
    let tests : Proc → Bool = λ p. is_requested W.ordering c.args.before.now (W.world c.args.machine.now) c.args.q p in
    elim c.if-is_requested.branch [
      | then-is_requested w ↦
          let taken = subst (λ p. tests p ≡ true) c.from_index-p.ensures.value (sym c.is_requested.ensures ∙ w.if-is_requested.true) in
          record {
            count = rw (w.sent-is, w.push.ensures) (simp length-append (omega arith));
            made = rw (w.sent-is, w.push.ensures, c.loop-index.invariant.made, c.from_index-p.ensures.value) (sym (filter-processors_to-taken tests c.loop-index.index taken));
          }
      | else-is_requested w ↦
          let left = subst (λ p. tests p ≡ false) c.from_index-p.ensures.value (sym c.is_requested.ensures ∙ w.if-is_requested.false) in
          record {
            count = rw w.sent-is (omega arith);
            made = rw (w.sent-is, c.loop-index.invariant.made) (sym (filter-processors_to-left tests c.loop-index.index left));
          }
    ]
