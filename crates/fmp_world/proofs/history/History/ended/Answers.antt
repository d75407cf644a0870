use Rattle.std.proofs.lemmas.Bool.{true≢false}
use Rattle.std.proofs.Common.{◌≤◌, length, refl, inl, inr, sym, ◌∙◌}
use Rattle.fmp_world.specs.Turns.{is_full}
use Rattle.fmp_world.specs.Ends.{EndsQuiet}
use Rattle.fmp_world.proofs.Judging.{limit_some, some_limit, limit_quiet, fullness}
use Rattle.fmp_world.proofs.history.History.ended.Goals as goal

pub returns-in_default-clause-whole : goal.returns-in_default-clause-whole
returns-in_default-clause-whole c =
    let w = c.args.self.now in
    let same = rw c.processors.ensures.is at (c.in_default.ensures.within w.records c.requires) in
    (λ t. cc, λ p. same.1 p.0)

pub returns-then-not-all-clause-whole : goal.returns-then-not-all-clause-whole
returns-then-not-all-clause-whole c =
    let w = c.args.self.now in
    let within = rw c.processors.ensures.is at (c.in-Some.ensures.within w.records c.requires) in
    let all = rw (c.processors.ensures.is, c.timer.ensures) at (c.in-Some.ensures.all w.records c.requires) in (
      λ t. (within.0 refl, inr (limit_some (is_full w) c.limit.result (w.turns ≤ length w.records) (fullness w) c.limit.ensures t)),
      λ p. elim p.1 [
        | inl e ↦ let t = all.1 e.all_taken in cc
        | inr f ↦ some_limit (is_full w) c.limit.result (w.turns ≤ length w.records) (fullness w) c.limit.ensures f
      ],
    )

pub returns-then-not-all-clause-quiet : goal.returns-then-not-all-clause-quiet
returns-then-not-all-clause-quiet c =
    let w = c.args.self.now in
    let all = rw (c.processors.ensures.is, c.timer.ensures) at (c.in-Some.ensures.all w.records c.requires) in
    limit_quiet (is_full w) c.limit.result (EndsQuiet w.config c.args.ticks w.records) (λ e. let t = all.1 e.all_taken in cc) c.limit.ensures

pub returns-then-quiet-clause-whole : goal.returns-then-quiet-clause-whole
returns-then-quiet-clause-whole c =
    let w = c.args.self.now in
    let within = rw c.processors.ensures.is at (c.in-Some.ensures.within w.records c.requires) in
    let all = rw (c.processors.ensures.is, c.timer.ensures) at (c.in-Some.ensures.all w.records c.requires) in (
      λ t. (within.0 refl, inl (record { quiet = c.quiet.ensures.0 c.if-quiet.true; all_taken = all.0 c.if-not-all.false })),
      λ p. refl,
    )

pub returns-then-quiet-clause-quiet : goal.returns-then-quiet-clause-quiet
returns-then-quiet-clause-quiet c =
    let w = c.args.self.now in
    let all = rw (c.processors.ensures.is, c.timer.ensures) at (c.in-Some.ensures.all w.records c.requires) in
    (λ e. record { quiet = c.quiet.ensures.0 c.if-quiet.true; all_taken = all.0 c.if-not-all.false }, λ e. refl)

pub returns-clause-whole : goal.returns-clause-whole
returns-clause-whole c =
    let w = c.args.self.now in
    let within = rw c.processors.ensures.is at (c.in-Some.ensures.within w.records c.requires) in (
      λ t. (within.0 refl, inr (limit_some (is_full w) c.limit-2.result (w.turns ≤ length w.records) (fullness w) c.limit-2.ensures t)),
      λ p. elim p.1 [
        | inl e ↦ absurd (true≢false (sym (c.quiet.ensures.1 e.quiet) ∙ c.if-quiet.false))
        | inr f ↦ some_limit (is_full w) c.limit-2.result (w.turns ≤ length w.records) (fullness w) c.limit-2.ensures f
      ],
    )
