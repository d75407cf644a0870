use Rattle.std.proofs.Common.{ap, take, ◌∙◌}
use Rattle.fmp_text.proofs.Echoed.{taken_twice}
use Rattle.fmp_text.proofs.echo.Echo.keep.Goals as goal

pub returns-in-Some : goal.returns-in-Some
returns-in-Some c = λ some.
    let front = c.in-Some.ensures.cases in (
      c.if-not-is_own.false,
      ap (take c.args.length) front.same ∙ taken_twice c.args.length 32 c.args.text.now c.if-length-le-ROOM.true front.enough,
    )
