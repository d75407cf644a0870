use Rattle.std.proofs.Common.{◌==◌, ◌∙◌, sym}
use Rattle.fmp_names.proofs.Listed.{list_any_map}
use Rattle.fmp_text_scripts.specs.Views.{steps_of}
use Rattle.fmp_text_scripts.proofs.script.has_script.Goals as goal

pub returns : goal.returns
returns c = c.has_one.ensures ∙ sym (list_any_map (λ s. s.function == c.args.function) steps_of c.args.scripts.now)
