use Rattle.std.proofs.Common.{◌∙◌, ◌++◌, ℕ, List, ap, sym}
use Rattle.std.specs.Prelude.{codes, decimal}
use Rattle.fmp_out.proofs.Puts.{both}
use Rattle.fmp_out.specs.Putting.{Putting}
use Rattle.fmp_cli_notes.specs.Staying.{lasting_text, line_from}
use Rattle.fmp_cli_notes.proofs.staying.tell_line.Goals as goal

pub returns : goal.returns
unfolding line_from
returns g c =
    let words = codes "fmpsim: from line " in
    let number = decimal c.from.result in
    let on = codes " on " in
    let what = lasting_text c.args.lasting.now in
    let new = c.new-line.result in
    let two = both words number new c.put.new.self c.put_number.new.self c.put.ensures c.put_number.ensures in
    let three = both (words ++ number) on new c.put_number.new.self c.put-2.new.self two c.put-2.ensures in
    let four = both (words ++ number ++ on) what new c.put-2.new.self c.put_lasting.new.out three c.put_lasting.ensures in
    let all = both (words ++ number ++ on ++ what) (codes " for ever") new c.put_lasting.new.out c.put-3.new.self four c.put-3.ensures in
    let text = words ++ number ++ on ++ what ++ codes " for ever" in
    rw (sym c.from.ensures) (λ whole.
    let told = c.note.ensures whole in
    let line = (all told.0).1 ∙ ap (λ (w : Putting). w.bytes ++ text) c.new-line.ensures in
    (told.1, told.2 ∙ ap (λ (xs : List ℕ). (g.N.Notes.told c.args.notes.now).bytes ++ (xs ++ codes "\n")) line))
