-- What a word is of which there is something to tell.
use Rattle.std.specs.Prelude.{ℕ, List, Option, Some, None, option_map, find, if◌then◌else◌}
use Rattle.std.specs.List.{list_any}
use Rattle.std.specs.Option.{option_or}
use Rattle.std.specs.Str.{bytes_eq}
use Rattle.fmp_calls.specs.Table.{named}
use Rattle.fmp_cli_help.specs.declared.faults.TheConstants.{CONFIG_KINDS, TEXT_KINDS}
use Rattle.fmp_cli_help.specs.declared.listing.Subject.{Subject}
use Rattle.fmp_cli_help.specs.declared.listing.Subject.TheVariants.{Call, Statement, ConfigFault, TextFault, LeftOut, Word}
use Rattle.fmp_cli_help.specs.declared.words.TheConstants.{WORDS}
use Rattle.fmp_cli_help.specs.LeftOut.{is_left_out}
use Rattle.fmp_config_statements.specs.Faults as config
use Rattle.fmp_config_statements.specs.Table.{statement_of}
use Rattle.fmp_text.specs.Faults as text

-- the number of a fault, a name that is left out, or a word of the texts
unfoldable pub other_subject : List ℕ → Option Subject
other_subject word =
    option_or (option_map ConfigFault (find (λ kind. bytes_eq (config.code_of kind) word) CONFIG_KINDS)) (
    option_or (option_map TextFault (find (λ kind. bytes_eq (text.code_of kind) word) TEXT_KINDS)) (
    if is_left_out word then Some LeftOut else (if list_any (λ row. bytes_eq row.0.now word) WORDS then Some Word else None)))

-- a call, a statement, or one of these: the first of them that the word is
unfoldable pub subject_of : List ℕ → Option Subject
subject_of word = option_or (option_map Call (named word)) (option_or (option_map Statement (statement_of word)) (other_subject word))
