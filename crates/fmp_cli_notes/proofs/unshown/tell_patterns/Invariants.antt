use Rattle.std.proofs.Common.{◌≡◌, ◌-◌, [], false, map, take}
use Rattle.fmp_cli_notes.specs.Judged.{TellsPatterns}
use Rattle.fmp_cli_notes.proofs.unshown.tell_patterns.Given as goal

-- what was told of those so far
abbrev pub invariant-loop-at : goal.invariant-loop-at
invariant-loop-at g l =
    (g.N.Notes.told l.notes).wanting ≡ false → TellsPatterns [] l.about.asked.now l.searched l.bounds.turns.count (l.bounds.places.count - 1)
    (map (λ it. it.items) (take l.at l.patterns)) (g.N.Notes.told l.fn.notes) (g.N.Notes.told l.notes)
