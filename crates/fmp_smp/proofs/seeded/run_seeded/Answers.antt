use Rattle.std.proofs.Common.{◌≡◌, ◌∙◌, Some, rules, refl, ap, sym, subst}
use Rattle.fmp_setup.specs.Valid.{IsValid}
use Rattle.fmp_smp.specs.Seeds.{IsInOrderOf}
use Rattle.fmp_smp.proofs.Following.{Carries, carries, follows_at_first}
use Rattle.fmp_smp.proofs.Seating.{seated_at_first}
use Rattle.fmp_smp.proofs.Turning.{ordered_in_turn}
use Rattle.fmp_smp.proofs.Wholes.{judged_config, judged_history, whole_at_end}
use Rattle.fmp_smp.proofs.seeded.run_seeded.Goals as goal

pub loop-alloc-init : goal.loop-alloc-init
loop-alloc-init c =
    rw (c.in_ok-world.ensures.world, c.new-rounds.ensures, c.seed_from_u64-numbers.ensures.same) (record {
      configured = refl;
      scripted = refl;
      room = refl;
      follows = follows_at_first c.args.seed c.args.config.now c.args.scripts.now c.args.ticks c.args.turns;
      seated = seated_at_first c.args.config.now c.args.scripts.now c.args.turns _ _ c.in_ok-world.ensures.cpus c.in_ok-world.ensures.clock;
    })

pub loop-alloc-preserved : goal.loop-alloc-preserved
loop-alloc-preserved c =
    let before = c.loop-alloc.invariant in
    let of_config : IsValid c.args.config.now = search rules in
    let valid : IsValid c.loop-alloc.world.config = subst IsValid (sym before.configured) of_config in
    let more : Carries c.args.seed c.args.ticks c.loop-alloc.world c.go_on.new.world c.go_on.new.rounds c.go_on.new.numbers =
    carries _ _ _ _ _ _ _ _ _ (search rules) valid before.follows c.go_on.ensures.goes in
    record {
      configured = more.config ∙ before.configured;
      scripted = more.scripted ∙ before.scripted;
      room = more.turns ∙ before.room;
      follows = more.follows;
      seated = c.go_on.ensures.seated;
    }

pub unwrap-requires : goal.unwrap-requires
unwrap-requires c =
    let before = c.loop-alloc.invariant in
    let of_config : IsValid c.args.config.now = search rules in
    let valid : IsValid c.loop-alloc.world.config = subst IsValid (sym before.configured) of_config in
    let end = whole_at_end _ _ _ _ _ _ _ _ _ _ _ _ _ _ (search rules) valid before.follows before.configured before.scripted before.room c.go_on.ensures.seated c.go_on.ensures.goes in
    c.finish-run.ensures.whole.1 end.0

pub returns-clause-order : goal.returns-clause-order
returns-clause-order c =
    let before = c.loop-alloc.invariant in
    let of_config : IsValid c.args.config.now = search rules in
    let valid : IsValid c.loop-alloc.world.config = subst IsValid (sym before.configured) of_config in
    let end = whole_at_end _ _ _ _ _ _ _ _ _ _ _ _ _ _ (search rules) valid before.follows before.configured before.scripted before.room c.go_on.ensures.seated c.go_on.ensures.goes in
    let is : c.finish-run.result ≡ Some c.unwrap.result = search rules in
    let same = ap (λ w. w.records) (judged_history c.finish-run.result c.unwrap.result _ c.finish-run.ensures.history is) in
    subst (IsInOrderOf c.args.seed c.args.config.now c.args.scripts.now c.args.ticks) (sym same) end.1

pub returns-clause-ticked : goal.returns-clause-ticked
returns-clause-ticked c =
    let valid : IsValid c.args.config.now = search rules in
    ordered_in_turn c.args.seed c.args.config.now c.args.scripts.now c.args.ticks _ valid (returns-clause-order c)

pub returns-clause-configured : goal.returns-clause-configured
returns-clause-configured c =
    let is : c.finish-run.result ≡ Some c.unwrap.result = search rules in
    judged_config c.finish-run.result c.unwrap.result c.args.config.now c.finish-run.ensures.configured is
