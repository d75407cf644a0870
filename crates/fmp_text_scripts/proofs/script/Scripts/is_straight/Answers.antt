use Rattle.std.proofs.Common.{◌∙◌, sym, subst}
use Rattle.fmp_text_scripts.specs.Scripts.{AreStraight}
use Rattle.fmp_text_scripts.proofs.Straight.{straight_all, all_straight}
use Rattle.fmp_text_scripts.proofs.script.Scripts.is_straight.Goals as goal

pub returns : goal.returns
returns c = (
  λ t. subst AreStraight c.self.view_is (straight_all c.self.inside.scripts.items (sym c.self.invariant.0 ∙ t)),
  λ straight. c.self.invariant.0 ∙ all_straight c.self.inside.scripts.items (subst AreStraight (sym c.self.view_is) straight),
)
