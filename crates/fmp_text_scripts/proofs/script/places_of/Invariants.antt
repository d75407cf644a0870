use Rattle.std.proofs.Common.{◌≡◌, length}
use Rattle.fmp_text_scripts.proofs.Found.{ArePlaces}
use Rattle.fmp_text_scripts.proofs.script.places_of.Given as goal

abbrev pub invariant-loop-function : goal.invariant-loop-function
invariant-loop-function l = (length l.places ≡ 256) × ArePlaces l.scripts l.places l.function
