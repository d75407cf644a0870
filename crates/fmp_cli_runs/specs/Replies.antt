-- What is replied to a question about scripts.
use Rattle.std.specs.Prelude.{◌≡◌, ◌≢◌, ℕ, ◌==◌, Bool, true, false, List, [], Option, None, Some, count_by}
use Rattle.fmp_bytes.specs.Bytes.{line_feed}
use Rattle.fmp_names.specs.Names.{NameLists}
use Rattle.fmp_search_orders.specs.declared.rules.Rules.{Rules}
use Rattle.fmp_search_question.specs.declared.fault.QuestionFault.{QuestionFault}
use Rattle.fmp_search_question.specs.Lasting.{is_lasting}
use Rattle.fmp_run_texts.specs.declared.fault.RunFault.TheVariants.{Memory, Read, Write}
use Rattle.fmp_run_texts.specs.declared.status.Status.{Status}
use Rattle.fmp_run_texts.specs.declared.status.Status.TheVariants as status
use Rattle.fmp_run_texts.specs.Faults.{is_thread_fault}
use Rattle.fmp_run_explore.specs.declared.fault.ExploreFault.{ExploreFault}
use Rattle.fmp_run_explore.specs.declared.fault.ExploreFault.TheVariants.{Run}
use Rattle.fmp_run_explore.specs.declared.finding.Finding.{Finding}
use Rattle.fmp_run_explore.specs.declared.finding.Finding.TheVariants as finding
use Rattle.fmp_run_explore.specs.declared.searched.Outcome.{Outcome}
use Rattle.fmp_run_explore.specs.Explored.{IsEndedBy, IsExplored}
use Rattle.fmp_run_explore.specs.Faults.{IsConfigFault, IsFirstOfQuestion, IsScriptFault, OfRun, QuestionFaultOver}
use Rattle.fmp_run_explore.specs.Searched.{IsOfTexts}
use Rattle.fmp_run_forever.specs.declared.staying.Stayed.{Stayed}
use Rattle.fmp_run_forever.specs.declared.staying.Staying.{Staying}
use Rattle.fmp_run_forever.specs.declared.staying.Staying.TheVariants as staying
use Rattle.fmp_run_forever.specs.Asked.{IsFirstOfLasting}
use Rattle.fmp_run_forever.specs.Stayed.{IsExplored as IsStayedExplored}
use Rattle.fmp_cli_questions.specs.declared.answers.Answer.{Answer}
use Rattle.fmp_cli_questions.specs.declared.answers.Answer.TheVariants as answer
use Rattle.fmp_cli_questions.specs.declared.answers.Judgement.{Judgement}
use Rattle.fmp_cli_questions.specs.declared.answers.Judgement.TheVariants as judgement
use Rattle.fmp_cli_runs.specs.declared.replies.Replied.{Replied}

-- how many lines a trace has: each ends with a line feed
abbrev pub lines_in : List ℕ → ℕ
lines_in = count_by (λ byte. byte == line_feed)

-- the answer that is what was found of all orders, where this was written
abbrev pub answer_of : Finding → List ℕ → Answer
answer_of finding.Shown trace = answer.Shown (lines_in trace)
answer_of finding.Never trace = answer.Never
answer_of (finding.NotWithin n) trace = answer.NotWithin n
answer_of (finding.Wanting n) trace = answer.NotWithin n
answer_of (finding.Ended n) trace = answer.NotWithin n

-- likewise of what stays for ever
abbrev pub lasting_answer_of : Staying → List ℕ → Answer
lasting_answer_of (staying.Shortest number lines) trace = answer.Shown (lines_in trace)
lasting_answer_of (staying.Found number lines) trace = answer.Shown (lines_in trace)
lasting_answer_of staying.Never trace = answer.Never
lasting_answer_of (staying.NotWithin n) trace = answer.NotWithin n
lasting_answer_of (staying.Wanting n) trace = answer.NotWithin n
lasting_answer_of (staying.Ended n) trace = answer.NotWithin n

-- what was found is kept where no order shows the question
abbrev pub kept_of : Finding → Outcome → Option Outcome
kept_of finding.Never found = Some found
kept_of finding.Shown found = None
kept_of (finding.NotWithin n) found = None
kept_of (finding.Wanting n) found = None
kept_of (finding.Ended n) found = None

abbrev pub kept : Outcome → Option Outcome
kept found = kept_of found.finding found

-- The reply to a question of steps: what a search through all orders of the one text's machine, by the other's scripts, found of what the third asks.
pub record RepliesSteps (config_text script_text question_text : List ℕ) (rules : Rules) (turns room : ℕ) (over : Bool) (reply : Replied) : Type 0 where
  pub found : Outcome
  -- the search found this, and wrote what the reply has
  pub explored : IsExplored config_text script_text question_text rules turns room [] reply.trace.items found.finding
  pub searched : IsOfTexts config_text script_text question_text rules found.searched
  -- it knows less than was asked for, with room that is left, only where it was ended
  pub ended : IsEndedBy over found.finding
  -- and that is the answer
  pub answers : reply.answer ≡ answer_of found.finding reply.trace.items
  pub keeps : reply.outcome ≡ kept found

-- The reply to a question of what stays for ever, likewise.
pub record RepliesLasting (config_text script_text question_text : List ℕ) (rules : Rules) (turns room : ℕ) (reply : Replied) : Type 0 where
  pub found : Stayed
  pub explored : IsStayedExplored config_text script_text question_text rules turns room [] reply.trace.items found.asked.question.items found.staying
  pub answers : reply.answer ≡ lasting_answer_of found.staying reply.trace.items
  pub keeps : reply.outcome ≡ None

-- a fault of a question is the first one of its text, which asks of what stays for ever or of steps
abbrev pub IsFirstOf : Bool → List ℕ → NameLists → QuestionFault → ℕ → Type 0
IsFirstOf true text = IsFirstOfLasting text
IsFirstOf false text = IsFirstOfQuestion text

-- Why there is no reply.
pub record IsUnreplied (config_text script_text question_text : List ℕ) (fault : ExploreFault) : Type 0 where
  -- a fault of the configuration is its first one, and one of the scripts is theirs, over a configuration that has none
  pub config_fault : IsConfigFault config_text fault
  pub script_fault : IsScriptFault config_text script_text fault
  -- one of the question is its first one, for the names of a right configuration
  pub question_fault : QuestionFaultOver (IsFirstOf (is_lasting question_text) question_text) config_text fault
  -- no thread was started, so that none could fail
  pub no_thread_fault : OfRun (λ fault. is_thread_fault fault ≡ false) fault
  -- no read fails of a text in memory, and a write that fails is want of memory
  pub no_read_fault : fault ≢ Run Read
  pub no_write_fault : fault ≢ Run Write

-- the fault of a run that writes to memory alone, where a write fails for want of it
abbrev pub in_memory : ExploreFault → ExploreFault
in_memory (Run Write) = Run Memory
in_memory other = other

-- how answers end the program
abbrev pub status_of : Judgement → Status
status_of judgement.Right = status.Done
status_of judgement.Wrong = status.Different
status_of judgement.Unknown = status.Limit
