use Rattle.std.proofs.Common.{◌+◌, length, refl}
use Rattle.fmp_search_lines.proofs.Reached.{told_goal}
use Rattle.fmp_search_lines.proofs.goals.search_goal.Goals as goal

pub returns : goal.returns
returns g c =
    told_goal g.P.Player.plays c.args.lasts.now c.args.musts.now c.args.goal c.last_must-end.result (g.P.Player.begins c.args.player.now)
    c.last_must-end.ensures _ c.in_ok-walker.ensures (length c.args.lasts.now + 1) c.args.most c.in_ok-answer.answer refl c.in_ok-answer.ensures
