use Rattle.std.proofs.Common.{◌≡◌, ◌==◌, IsTrue, Some, sym, ◌∙◌, eqb-true}
use Rattle.fmp_time.specs.Left.{left_by}
use Rattle.fmp_time.proofs.Showing.{place_left}
use Rattle.fmp_time.proofs.differences.Differences.has_same_left.Goals as goal

pub returns-else-list-place : goal.returns-else-list-place
returns-else-list-place c =
    let at = c.in-Some-Some in (
      λ (h : IsTrue (at.list == at.place)). absurd (c.if-list-place.false (eqb-true at.list at.place h)),
      λ e.
          let same : Some (left_by (at.list, at.ticks)) ≡ Some (left_by (at.place, at.left)) = sym at.ensures.left ∙ e ∙ at.ensures'.left in
          let left : left_by (at.list, at.ticks) ≡ left_by (at.place, at.left) = cc in
          absurd (c.if-list-place.false (place_left at.list at.place at.ticks at.left at.ensures.list_in at.ensures'.list_in left)),
    )
