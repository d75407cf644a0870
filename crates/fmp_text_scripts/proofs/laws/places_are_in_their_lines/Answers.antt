use Rattle.fmp_text_scripts.proofs.Ends.{place_within}
use Rattle.fmp_text_scripts.proofs.laws.places_are_in_their_lines.Goals as goal

pub returns : goal.returns
returns c = place_within
