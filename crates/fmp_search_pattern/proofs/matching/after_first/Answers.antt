use Rattle.std.proofs.Common.{◌∙◌, ◌+◌, ◌-◌, length, drop, sym, ap, subst, arith, length-drop}
use Rattle.std.proofs.lemmas.List.{take_all}
use Rattle.memchr.specs.Find.{FindsNeedle}
use Rattle.fmp_search_pattern.specs.Matching as matching
use Rattle.fmp_search_pattern.proofs.Standing.{no_place, found_place}
use Rattle.fmp_search_pattern.proofs.matching.after_first.Goals as goal

pub returns-in-None : goal.returns-in-None
returns-in-None c pieces = no_place c.args.piece.now pieces c.args.text.now (subst (FindsNeedle c.args.text.now c.args.piece.now 0) c.in-None.is c.find.ensures)

pub returns-in-Some : goal.returns-in-Some
returns-in-Some c pieces =
    let found = subst (FindsNeedle c.args.text.now c.args.piece.now 0) c.in-Some.is c.find.ensures in
    let end = c.in-Some.place + length c.args.piece.now in
    let long = length-drop end c.args.text.now in
    found_place c.args.piece.now pieces c.args.text.now c.in-Some.place found
    ∙ ap (matching.stand pieces) (sym (take_all (length c.args.text.now - end) (drop end c.args.text.now) (omega (arith, long))))
