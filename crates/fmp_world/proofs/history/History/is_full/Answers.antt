use Rattle.std.proofs.Common.{◌≡◌, [], length, ap, arith}
use Rattle.std.specs.Prelude.{nat_le}
use Rattle.fmp_world.specs.Moves.{played}
use Rattle.fmp_world.proofs.Played.{made_count}
use Rattle.fmp_world.proofs.history.History.is_full.Goals as goal

pub returns : goal.returns
returns c =
    let i = c.self.inside in
    let count = made_count i.config.now i.scripts.now [] i.moves.items c.self.invariant.1 in
    let same : c.len.result ≡ length (played i.config.now i.scripts.now i.moves.items) = omega arith in
    rw (← c.self.view_is) (ap (λ n. nat_le i.turns n) same)
