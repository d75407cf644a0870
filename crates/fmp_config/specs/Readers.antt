-- What a reader holds.
use Rattle.std.specs.Prelude.{Bool, Option, Some, None, if◌then◌else◌}
use Rattle.fmp_config_statements.specs.Forms.{Form}
use Rattle.fmp_config.specs.declared.reader.Reader.{Reader}
use Rattle.fmp_config.specs.Drafted.{draft_of}
use Rattle.fmp_config.specs.Reading.{State}

-- a statement, while its tokens follow
abbrev pub form_in : Bool → Form → Option Form
form_in in_form form = if in_form then Some form else None

abbrev pub state_of : Reader → State
state_of r = record { draft = draft_of r.draft; form = form_in r.in_form r.form; directive = r.directive }
