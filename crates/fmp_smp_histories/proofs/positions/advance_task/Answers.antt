use Rattle.fmp_smp_histories.proofs.Advancing.{released_room}
use Rattle.fmp_smp_histories.proofs.positions.advance_task.Goals as goal

pub advance_caller-requires : goal.advance_caller-requires
advance_caller-requires c =
    released_room c.args.config.now c.args.scripts.now c.args.positions.now _ c.args.made.now.releases c.release_all.ensures c.release_all.array_long c.requires
