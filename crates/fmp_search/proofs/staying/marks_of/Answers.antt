use Rattle.std.proofs.Common.{◌≡◌, ◌∙◌, ◌++◌, ℕ, Bool, List, length, take, drop, sym, subst, arith}
use Rattle.std.proofs.lemmas.Grind.{common_steps}
use Rattle.fmp_search.specs.Forever.{test_of, AreClosed, AreEarned}
use Rattle.fmp_search.proofs.staying.marks_of.Goals as goal

first : (xs ys : List Bool) (n : ℕ) → n ≡ length xs → take n (xs ++ ys) ≡ xs
first xs ys n is = grind (arith, common_steps, is)

pub returns-clause-closed : goal.returns-clause-closed
returns-clause-closed g c =
    let marks = c.mark_test.new.marks in
    let long : c.in_ok-marks.marks.len ≡ length marks = sym (c.mark_test.ensures.long ∙ c.deref_mut.ensures.len) in
    subst (λ (ms : List Bool). AreClosed g.W.Space.after (test_of g.W.Space.passes c.args.test) (g.W.Space.origin c.args.walker.now) c.args.nodes.now ms)
    (sym (first marks (drop (length marks) c.in_ok-marks.marks.items) c.in_ok-marks.marks.len long)) c.mark_test.ensures.closed

pub returns-clause-earned : goal.returns-clause-earned
returns-clause-earned g c = λ all.
    let marks = c.mark_test.new.marks in
    let long : c.in_ok-marks.marks.len ≡ length marks = sym (c.mark_test.ensures.long ∙ c.deref_mut.ensures.len) in
    subst (λ (ms : List Bool). AreEarned g.W.Space.after (test_of g.W.Space.passes c.args.test) (g.W.Space.origin c.args.walker.now) c.args.nodes.now ms)
    (sym (first marks (drop (length marks) c.in_ok-marks.marks.items) c.in_ok-marks.marks.len long)) (c.mark_test.ensures.earned all)
