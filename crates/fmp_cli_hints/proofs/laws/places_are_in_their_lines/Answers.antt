use Rattle.fmp_cli_hints.proofs.Ends.{event_within, refused_there}
use Rattle.fmp_cli_hints.proofs.laws.places_are_in_their_lines.Goals as goal

pub returns-clause-within : goal.returns-clause-within
returns-clause-within c = event_within

pub returns-clause-refused : goal.returns-clause-refused
returns-clause-refused c = refused_there
