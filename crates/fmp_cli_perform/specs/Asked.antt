-- How many questions about all orders end the program. What a configuration, scripts and the text of the questions have is known, or is not.
use Rattle.std.specs.Prelude.{◌≡◌, ◌⊎◌, ℕ, ◌-◌, Bool, true, false, List, Option, None, map, Result, IfOk}
use Rattle.std.specs.List.{All}
use Rattle.fmp_config.specs.Limits as config_limits
use Rattle.fmp_text.specs.Limits.{most_bytes}
use Rattle.fmp_search_question.specs.Lasting.{is_lasting}
use Rattle.fmp_cli.specs.declared.explore.ExploreRequest.{ExploreRequest}
use Rattle.fmp_cli_desk.specs.declared.ending.Ending.{Ending}
use Rattle.fmp_cli_desk.specs.Texts.{AreRead}
use Rattle.fmp_cli_questions.specs.Rows.{Row, rows_in}
use Rattle.fmp_cli_questions.specs.Answers.{judgement_of}
use Rattle.fmp_cli_questions.specs.declared.answers.Answer.{Answer}
use Rattle.fmp_cli_questions.specs.declared.answers.Answer.TheVariants.{NotWithin}
use Rattle.fmp_cli_questions.specs.declared.answers.Reply.{Reply}
use Rattle.fmp_cli_runs.specs.Asked.{rules_of}
use Rattle.fmp_cli_runs.specs.Replies.{RepliesLasting, RepliesSteps, status_of}
use Rattle.fmp_cli_runs.specs.declared.replies.Replied.{Replied}
use Rattle.fmp_run_texts.specs.declared.status.Status.{Status}
use Rattle.fmp_search_orders.specs.declared.rules.Rules.{Rules}
use Rattle.fmp_run_texts.specs.declared.status.Status.TheVariants as status

-- these were read of a configuration, of scripts and of many questions
pub record AreTexts (config scripts questions : Option (List ℕ)) (config_text script_text question_text : List ℕ) : Type 0 where
  pub config_read : AreRead config_limits.most_bytes config config_text
  pub scripts_read : AreRead most_bytes scripts script_text
  pub questions_read : AreRead most_bytes questions question_text

-- what a search replies to a question of what stays for ever, or of steps
abbrev pub RepliesBy : Bool → List ℕ → List ℕ → Rules → ℕ → ℕ → List ℕ → Bool → Replied → Type 0
RepliesBy true config_text script_text rules turns room question over = RepliesLasting config_text script_text question rules turns room
RepliesBy false config_text script_text rules turns room question over = RepliesSteps config_text script_text question rules turns room over

-- the answer to a question: that of a search for it, or nothing is known, where none was made
abbrev pub IsAnswer : List ℕ → List ℕ → ExploreRequest → List ℕ → Answer → Type 0
IsAnswer config_text script_text r question answer = (answer ≡ NotWithin 0)
    ⊎ ((over : Bool) × (reply : Replied)
    × RepliesBy (is_lasting question) config_text script_text (rules_of r) r.bounds.turns.count (r.bounds.places.count - 1) question over reply × (answer ≡ reply.answer))

-- these are replies to the questions of these rows, one to each
pub record AreReplies (config_text script_text : List ℕ) (r : ExploreRequest) (rows : List Row) (replies : List Reply) : Type 0 where
  pub each : map (λ reply. reply.row) replies ≡ rows
  pub answers : All (λ reply. IsAnswer config_text script_text r reply.row.question reply.answer) replies

-- whether all answers are as expected ends the program
pub record IsJudged (config_text script_text : List ℕ) (rows : List Row) (r : ExploreRequest) (s : Status) : Type 0 where
  pub replies : List Reply
  pub are : AreReplies config_text script_text r rows replies
  pub status : s ≡ status_of (judgement_of replies)

-- there is one to each question of a text that has no fault; else that is reported
pub record IsAnswered (config_text script_text question_text : List ℕ) (r : ExploreRequest) (s : Status) : Type 0 where
  pub rows : List Row
  pub are : rows_in question_text ≡ (rows, None)
  pub judged : IsJudged config_text script_text rows r s

abbrev pub AnswersAll : List ℕ → List ℕ → List ℕ → ExploreRequest → Status → Type 0
AnswersAll config_text script_text question_text r s = (s ≡ status.Usage) ⊎ (s ≡ status.Faulty) ⊎ IsAnswered config_text script_text question_text r s

-- over these three texts
pub record HasAsked (config scripts questions : Option (List ℕ)) (r : ExploreRequest) (s : Status) : Type 0 where
  pub config_text : List ℕ
  pub script_text : List ℕ
  pub question_text : List ℕ
  pub read : AreTexts config scripts questions config_text script_text question_text
  pub answers : AnswersAll config_text script_text question_text r s

-- or they could not be read, the output not be written, or memory was wanting
abbrev pub EndsAsking : Option (List ℕ) → Option (List ℕ) → Option (List ℕ) → ExploreRequest → Result Status Ending → Type 0
EndsAsking config scripts questions r result = IfOk result (HasAsked config scripts questions r)
