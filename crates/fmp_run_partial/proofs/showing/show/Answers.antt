use Rattle.fmp_run_partial.proofs.showing.show.Goals as goal

pub returns-in-Yes : goal.returns-in-Yes
returns-in-Yes c = rw c.in-Yes.is c.show_yes.ensures

pub returns-in-No : goal.returns-in-No
returns-in-No c = rw c.in-No.is c.show_no.ensures
