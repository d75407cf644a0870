use Rattle.fmp_text.proofs.Fronted.{after_space, after_tab}
use Rattle.fmp_text.proofs.quick.after_blank.Goals as goal

pub returns-in-Some : goal.returns-in-Some
returns-in-Some c = after_space c.args.text.now c.in-Some.rest.now c.in-Some.ensures

pub returns-in-None : goal.returns-in-None
returns-in-None c = after_tab c.args.text.now c.after_byte-in-None.result c.after_byte-in-None.ensures
