use Rattle.std.proofs.Common.{◌∙◌, ◌-◌, ◌<◌, [], ◌∷◌, ◌++◌, ℕ, List, ap, arith, get_or, length, map, sym, take}
use Rattle.std.proofs.lemmas.List.{map_push, take_more}
use Rattle.fmp_cli_notes.proofs.Known.{of_one_more}
use Rattle.fmp_cli_notes.proofs.unshown.tell_patterns.Goals as goal

pub loop-at-preserved : goal.loop-at-preserved
loop-at-preserved g c = λ whole.
    let patterns = c.args.patterns.now in
    let at = c.loop-at.at in
    let this = c.index-patterns-at.result in
    let bounds = c.args.bounds in
    let one = c.tell_searched.ensures whole in
    let some = c.loop-at.invariant (one.told whole).0 in
    let within : at < length patterns = omega arith in
    let words = ap (λ v. v.items) (sym c.index-patterns-at.is) ∙ sym c.as_slice.ensures.value in
    let pushed =
    ap (map (λ v. v.items)) (take_more patterns at this within)
    ∙ map_push (λ v. v.items) (take at patterns) (get_or patterns at this)
    ∙ ap (λ (w : List ℕ). map (λ v. v.items) (take at patterns) ++ w ∷ []) words in
    rw pushed (of_one_more c.args.about.asked.now c.args.searched.now bounds.turns.count (bounds.places.count - 1) (map (λ v. v.items) (take at patterns)) c.as_slice.result.now (g.N.Notes.told c.args.notes.now) (g.N.Notes.told c.loop-at.notes) (g.N.Notes.told c.tell_searched.new.notes) some one)
