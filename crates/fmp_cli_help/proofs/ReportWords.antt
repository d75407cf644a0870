-- There is something to tell of each answer and each attribute.
use Rattle.std.proofs.Common.{◌≡◌, true, refl}
use Rattle.std.specs.Prelude.{is_some}
use Rattle.std.specs.Option.{option_map_or}
use Rattle.fmp_codes.specs.Codes.{name_of}
use Rattle.fmp_codes.specs.Records.{word_of}
use Rattle.fmp_codes.specs.declared.codes.Code.{Code}
use Rattle.fmp_codes.specs.declared.codes.Code.TheVariants as codes
use Rattle.fmp_codes.specs.declared.records.Answer.{Answer}
use Rattle.fmp_codes.specs.declared.records.Answer.TheVariants as answers
use Rattle.fmp_config_statements.specs.Attributes as attributes
use Rattle.fmp_config_statements.specs.Table as statements
use Rattle.fmp_config_statements.specs.declared.attributes.Attribute.{Attribute}
use Rattle.fmp_config_statements.specs.declared.attributes.Attribute.TheVariants as attribute
use Rattle.fmp_cli_help.specs.LeftOut.{is_left_out}
use Rattle.fmp_cli_help.specs.Listing.{subject_of, other_subject}

pub code_reported : (code : Code) → is_some (subject_of (name_of code)) ≡ true
unfolding subject_of other_subject is_left_out statements.statement_of
code_reported codes.Accepted = refl
code_reported _ = refl

pub answer_reported : (answer : Answer) → option_map_or (λ word. is_some (subject_of word)) (word_of answer) true ≡ true
unfolding subject_of other_subject is_left_out statements.statement_of
answer_reported (answers.Done code value) = refl
answer_reported answers.Wait = refl
answer_reported _ = refl

pub attribute_reported : (a : Attribute) → is_some (subject_of (attributes.text_of a)) ≡ true
unfolding subject_of other_subject is_left_out statements.statement_of
attribute_reported attribute.Null = refl
attribute_reported _ = refl
