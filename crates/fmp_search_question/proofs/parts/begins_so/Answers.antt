use Rattle.std.proofs.Common.{◌∙◌, ap, sym}
use Rattle.std.specs.Prelude.{codes}
use Rattle.std.specs.Str.{bytes_eq}
use Rattle.fmp_bytes.specs.Bytes.{space}
use Rattle.fmp_bytes.proofs.Cutting.{pieces_of-cut}
use Rattle.fmp_search_question.specs.Lasting as spec
use Rattle.fmp_search_question.proofs.parts.begins_so.Goals as goal

pub returns : goal.returns
returns c = c.is_word.ensures ∙ ap (λ w. bytes_eq w (codes "deadlock")) c.cut.ensures.prefix ∙ sym (ap spec.begins_so (pieces_of-cut space c.args.text.now))
