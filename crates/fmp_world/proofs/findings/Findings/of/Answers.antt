use Rattle.std.proofs.Common.{◌≡◌, ◌+◌, ◌∙◌, [], ◌∷◌, ◌++◌, length, rules, refl, ap, sym, arith, length-append}
use Rattle.std.proofs.lemmas.List.{append_assoc}
use Rattle.std.proofs.lemmas.List.Sums.{count_by-le-length}
use Rattle.fmp_smp_histories.specs.Counted as history
use Rattle.fmp_world.specs.Findings.{is_of_seat}
use Rattle.fmp_world.proofs.Found.{finds_more}
use Rattle.fmp_world.proofs.Receipts.{few_receipts}
use Rattle.fmp_world.proofs.findings.Findings.of.Goals as goal

pub loop-report-init : goal.loop-report-init
loop-report-init c = ([], refl, c.none-found.ensures _ _, refl)

pub take-requires-clause-passed : goal.take-requires-clause-passed
take-requires-clause-passed c = λ i small.
    let before = c.loop-report.invariant in
    let h = before.0 in
    let next : c.loop-report.replay ≡ c.next.new.report ∷ c.next.new.self = search rules in
    let passed = before.2.passed i small in
    let few = few_receipts (is_of_seat i) 1 h in
    let whole = ap length before.1 in
    let parts = length-append h c.loop-report.replay in
    let rest = ap length next in
    let fits = c.requires in
    omega arith

pub take-requires-clause-taken : goal.take-requires-clause-taken
take-requires-clause-taken c = λ i small.
    let before = c.loop-report.invariant in
    let h = before.0 in
    let next : c.loop-report.replay ≡ c.next.new.report ∷ c.next.new.self = search rules in
    let taken = before.2.taken i small in
    let few = count_by-le-length (history.is_taken_tick (i + 1)) h in
    let whole = ap length before.1 in
    let parts = length-append h c.loop-report.replay in
    let rest = ap length next in
    let fits = c.requires in
    omega arith

pub loop-report-preserved : goal.loop-report-preserved
loop-report-preserved c =
    let before = c.loop-report.invariant in
    let h = before.0 in
    let made = c.next.new.report in
    let next : c.loop-report.replay ≡ made ∷ c.next.new.self = search rules in
    let number : c.loop-report.number + 1 ≡ 1 + length h = omega (arith, before.3) in
    let takes = rw number at c.take.ensures in (
      h ++ made ∷ [],
      before.1 ∙ ap (λ x. h ++ x) next ∙ sym (append_assoc h (made ∷ []) c.next.new.self),
      finds_more h made c.loop-report.found c.take.new.self c.args.seats.now.cpus.items c.args.seats.now.clock before.2 takes,
      number ∙ omega (arith, length-append h (made ∷ [])),
    )
