use Rattle.fmp_world.proofs.history.History.last.Goals as goal

pub returns : goal.returns
returns c = rw (← c.self.view_is) c.self.invariant.0.stands
