-- The lists of the codes and of the answers that have a word have each of them.
use Rattle.std.proofs.Common.{◌≡◌, ℕ, List, Some, refl, lit<}
use Rattle.std.specs.Prelude.{Contains}
use Rattle.fmp_codes.specs.Codes.{all_codes}
use Rattle.fmp_codes.specs.Records.{word_of, worded}
use Rattle.fmp_codes.specs.declared.codes.Code.{Code}
use Rattle.fmp_codes.specs.declared.codes.Code.TheVariants.{Accepted, Parameter, Identifier, Context, IllegalUse, ObjectState, QueueOverflow, WaitReleased, TimedOut}
use Rattle.fmp_codes.specs.declared.records.Answer.{Answer}
use Rattle.fmp_codes.specs.declared.records.Answer.TheVariants as answers

pub code_listed : (code : Code) → Contains all_codes code
code_listed Accepted = (0, lit< tt, refl)
code_listed Parameter = (1, lit< tt, refl)
code_listed Identifier = (2, lit< tt, refl)
code_listed Context = (3, lit< tt, refl)
code_listed IllegalUse = (4, lit< tt, refl)
code_listed ObjectState = (5, lit< tt, refl)
code_listed QueueOverflow = (6, lit< tt, refl)
code_listed WaitReleased = (7, lit< tt, refl)
code_listed TimedOut = (8, lit< tt, refl)

pub worded_listed : (answer : Answer) (word : List ℕ) → word_of answer ≡ Some word → Contains worded answer
worded_listed (answers.Done code value) word e = absurd cc
worded_listed answers.Wait word e = (0, lit< tt, refl)
worded_listed answers.Spin word e = (1, lit< tt, refl)
worded_listed answers.Gone word e = (2, lit< tt, refl)
worded_listed answers.Idle word e = (3, lit< tt, refl)
worded_listed answers.Held word e = (4, lit< tt, refl)
worded_listed answers.Taken word e = (5, lit< tt, refl)
worded_listed answers.Nothing word e = (6, lit< tt, refl)
