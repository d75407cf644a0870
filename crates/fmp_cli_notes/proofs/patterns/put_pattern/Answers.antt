use Rattle.std.proofs.Common.{◌∙◌, ◌++◌, ap, refl, sym}
use Rattle.fmp_out.specs.Putting.{Putting}
use Rattle.std.proofs.lemmas.Str.Ascii.{trim_ascii_is}
use Rattle.fmp_cli_notes.specs.Patterns.{pieces_text, trimmed}
use Rattle.fmp_cli_notes.proofs.patterns.put_pattern.Goals as goal

pub returns-in-Ok : goal.returns-in-Ok
unfolding trimmed
returns-in-Ok c =
    let put = c.put_pieces.ensures c.in-Ok.ensures.whole.0 in
    let new = ap (λ (words : Putting). words.bytes ++ pieces_text c.pieces.result.now) c.new-words.ensures in
    let text = c.in-Ok.ensures.whole.1 ∙ put.1 ∙ new ∙ ap pieces_text c.pieces.ensures in
    let trim = trim_ascii_is c.in-Ok.words.now c.trim_ascii.result.now _ refl c.trim_ascii.ensures.value in
    rw (sym text, sym trim) c.put.ensures
