use Rattle.std.proofs.Common.{◌∙◌, sym}
use Rattle.fmp_setup.proofs.Classes.{named_by}
use Rattle.fmp_setup.proofs.parts.Parts.has_class.Goals as goal

pub returns : goal.returns
returns c = rw c.deref.ensures.value at c.is_name_of_one.ensures ∙ sym (named_by c.args.name.now c.args.self.now.classes.items)
