use Rattle.std.proofs.Common.{◌≡◌, ◌<◌, ◌+◌, ℕ, Bool, true, false, List, length, get_or, Some, ap, sym, subst, ◌∙◌, arith}
use Rattle.std.proofs.lemmas.Grind.{common_steps}
use Rattle.std.proofs.lemmas.Option.{slice_get-get_or, get_or_from_slice_get}
use Rattle.fmp_search.specs.Forever.{is_bit, mark_at, test_of, EndsForEver}
use Rattle.fmp_search.proofs.Lasting.{found}
use Rattle.fmp_search.proofs.staying.run_over.Goals as goal

shut : (marks : List Bool) (i : ℕ) (d : Bool) → i < length marks → get_or marks i d ≡ false → mark_at marks i ≡ false
shut marks i d lt is = get_or_from_slice_get marks i false true (slice_get-get_or marks i d lt ∙ ap (λ (b : Bool). Some b) is)

pub returns-clause-right : goal.returns-clause-right
returns-clause-right g c =
    let after = g.W.Space.after in
    let q = g.W.Space.origin c.args.walker.now in
    let nodes = c.args.nodes.now in
    let edge = c.args.edge in
    let over = c.in_ok-steps.ensures in
    let sure = c.requires.sure.0 in
    let near = c.requires.sure.1 in
    let count = over.count in
    let steps : length c.in_ok-steps.steps.items ≡ length over.before + 1 = ap (λ (xs : List ℕ). length xs) over.is ∙ grind (arith, common_steps) in
    let to = sure.to in
    let long = c.requires.long in
    let lt : edge.to < length c.args.marks.now = omega (arith, to, long) in
    let free : mark_at c.args.marks.now edge.to ≡ false = shut c.args.marks.now edge.to _ lt c.if-marks-edge.false in
    let passed : is_bit edge.passes c.args.test ≡ true = sym c.is_bit.ensures ∙ c.if-not-is_bit.false in (
      omega arith,
      omega (arith, near, count, steps),
      subst (λ v. EndsForEver after (test_of g.W.Space.passes c.args.test) q v) (sym over.is)
          (found after (test_of g.W.Space.passes c.args.test) q nodes c.args.marks.now c.requires.closed edge.from edge.step over.before
          (record { few = sure.from; next = edge.to; near = sure.to; goes = sure.goes; passes = subst (λ m. is_bit m c.args.test ≡ true) sure.report passed; free = free }) over.leads),
    )

pub returns-clause-within : goal.returns-clause-within
returns-clause-within g c = λ passed free.
    let over = c.in_ok-steps.ensures in
    let count = over.count in
    let steps : length c.in_ok-steps.steps.items ≡ length over.before + 1 = ap (λ (xs : List ℕ). length xs) over.is ∙ grind (arith, common_steps) in
    omega (arith, count, steps)
