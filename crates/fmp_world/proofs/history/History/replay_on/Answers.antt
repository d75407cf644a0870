use Rattle.fmp_world.proofs.Played.{added_all}
use Rattle.fmp_world.proofs.history.History.replay_on.Goals as goal

pub returns : goal.returns
returns c =
    let i = c.self.inside in
    rw (c.new.ensures, c.requires, c.deref.ensures.value, ← c.self.view_is) (added_all i.config.now i.scripts.now i.moves.items)
