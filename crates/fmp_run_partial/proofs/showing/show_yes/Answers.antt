use Rattle.std.proofs.Common.{ℕ, List, Option}
use Rattle.std.proofs.lemmas.Result.{IfOk-weaker}
use Rattle.fmp_codes.specs.declared.records.Event.{Event}
use Rattle.fmp_setup.specs.Setup.{Setup}
use Rattle.fmp_run_partial.specs.Showing.{IsShown}
use Rattle.fmp_run_partial.specs.declared.showing.PartialShown.TheVariants as asked
use Rattle.fmp_run_partial.specs.declared.showing.Shown.{Shown}
use Rattle.fmp_run_partial.specs.declared.verdict.Found.TheVariants as found
use Rattle.fmp_run_partial.specs.declared.verdict.PartialVerdict.{PartialVerdict}
use Rattle.fmp_run_partial.proofs.showing.show_yes.Goals as goal

-- where all lines are the machine's, a page has the lines that are written in their order
as_filled : (c : Setup) (body : List ℕ) (lines : List (List ℕ)) (events : List Event) (order : Option (List ℕ)) (verdict : PartialVerdict) (s : Shown)
    → IsShown asked.Order c body lines events order found.Yes verdict s → IsShown asked.Filled c body lines events order found.Yes verdict s
as_filled c body lines events order verdict s is =
    record { verdict_is = is.verdict_is; is_empty = is.is_empty; text = is.text; pair = is.pair }

pub returns-in-Order : goal.returns-in-Order
returns-in-Order c = rw c.in-Order.is c.show_order.ensures

pub returns-in-Filled : goal.returns-in-Filled
returns-in-Filled c =
    rw c.in-Filled.is (IfOk-weaker c.show_order-in-Filled.result _ _ (λ s shown said read. as_filled _ _ _ _ _ _ s (shown said read)) c.show_order-in-Filled.ensures)
