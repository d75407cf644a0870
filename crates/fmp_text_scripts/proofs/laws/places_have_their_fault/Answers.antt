use Rattle.fmp_text_scripts.proofs.PlaceFaults.{place_has_fault}
use Rattle.fmp_text_scripts.proofs.laws.places_have_their_fault.Goals as goal

pub returns : goal.returns
returns c = place_has_fault
