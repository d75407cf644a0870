use Rattle.std.proofs.Common.{ℕ, nat_eq, false, sym, ap, ◌∙◌}
use Rattle.std.proofs.lemmas.Bool.{le-ltb}
use Rattle.std.proofs.lemmas.Nat.Bits.{shr_and_one}
use Rattle.fmp_mpf.proofs.Bits.{mark_at, mark_past}
use Rattle.fmp_mpf.proofs.marks.is_marked.Goals as goal

pub returns-then-block-lt64-clause-value : goal.returns-then-block-lt64-clause-value
returns-then-block-lt64-clause-value c = ap (λ (x : ℕ). nat_eq x 1) (shr_and_one c.args.word c.args.block) ∙ sym (mark_at c.args.word c.args.block false c.if-block-lt64.true)

pub returns-else-block-lt64-clause-value : goal.returns-else-block-lt64-clause-value
returns-else-block-lt64-clause-value c = le-ltb c.args.block 64 c.if-block-lt64.false ∙ sym (mark_past c.args.word c.args.block false c.if-block-lt64.false)
