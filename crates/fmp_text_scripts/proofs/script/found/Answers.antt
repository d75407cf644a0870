use Rattle.std.proofs.Common.{◌==◌, ◌∙◌, ap, sym, slice_get, slice_index}
use Rattle.std.proofs.lemmas.List.Folds.{find_at}
use Rattle.fmp_text_scripts.proofs.script.found.Goals as goal

pub returns : goal.returns
returns c =
    let scripts = c.args.scripts.now in
    c.script_at.ensures ∙ ap (λ i. slice_get scripts (slice_index c.args.places.now i)) c.from.ensures ∙ ap (λ i. slice_get scripts i) c.requires ∙ sym (find_at (λ s. s.function == c.args.function) scripts)
