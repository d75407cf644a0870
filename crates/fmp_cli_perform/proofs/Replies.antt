-- Replies to questions.
use Rattle.std.proofs.Common.{◌≡◌, ℕ, ◌-◌, Bool, true, false, List, [], ◌∷◌, ◌++◌, refl, sym, ap, ◌∙◌, inr}
use Rattle.std.specs.Prelude.{Result, Ok, Err, IfOk}
use Rattle.std.proofs.lemmas.List.{map_push}
use Rattle.std.proofs.lemmas.List.Elements.{All-push}
use Rattle.fmp_search_question.specs.Lasting.{is_lasting}
use Rattle.fmp_cli.specs.declared.explore.ExploreRequest.{ExploreRequest}
use Rattle.fmp_cli_desk.specs.declared.ending.Ending.{Ending}
use Rattle.fmp_cli_desk.specs.Endings.{of_search}
use Rattle.fmp_cli_desk.specs.Runs.{settled}
use Rattle.fmp_cli_perform.specs.Asked.{AreReplies, IsAnswer, RepliesBy}
use Rattle.fmp_cli_questions.specs.Rows.{Row}
use Rattle.fmp_cli_questions.specs.declared.answers.Reply.{Reply}
use Rattle.fmp_cli_runs.specs.Asked.{rules_of}
use Rattle.fmp_cli_runs.specs.declared.replies.Replied.{Replied}
use Rattle.fmp_run_explore.specs.declared.fault.ExploreFault.{ExploreFault}

-- a reply to either kind of question is one to that which it is
replies_by : (lasting : Bool) (Replies : Bool → Type 0) → (lasting ≡ false → Replies false) → (lasting ≡ true → Replies true) → Replies lasting
replies_by true Replies steps lasting = lasting refl
replies_by false Replies steps lasting = steps refl

-- what a search replies is an answer
answer_of : (config_text script_text : List ℕ) (r : ExploreRequest) (over : Bool) (run : Result Replied ExploreFault) (ended : Result Replied Ending)
    → (is_lasting r.question.now ≡ false → IfOk run (RepliesBy false config_text script_text (rules_of r) r.bounds.turns.count (r.bounds.places.count - 1) r.question.now over))
    → (is_lasting r.question.now ≡ true → IfOk run (RepliesBy true config_text script_text (rules_of r) r.bounds.turns.count (r.bounds.places.count - 1) r.question.now over))
    → ended ≡ settled of_search run false → IfOk ended (λ reply. IsAnswer config_text script_text r r.question.now reply.answer)
answer_of config_text script_text r over (Ok reply) ended steps lasting is =
    let Replies : Bool → Type 0 =
    λ b. RepliesBy b config_text script_text (rules_of r) r.bounds.turns.count (r.bounds.places.count - 1) r.question.now over reply in
    rw (is) (inr (over, reply, replies_by (is_lasting r.question.now) Replies steps lasting, refl))
answer_of config_text script_text r over (Err fault) ended steps lasting is = rw (is) tt

pub answer_over : (config_text script_text : List ℕ) {config_read script_read : List ℕ} (r : ExploreRequest) (over : Bool) (run : Result Replied ExploreFault)
    (ended : Result Replied Ending) → config_read ≡ config_text → script_read ≡ script_text
    → (is_lasting r.question.now ≡ false → IfOk run (RepliesBy false config_read script_read (rules_of r) r.bounds.turns.count (r.bounds.places.count - 1) r.question.now over))
    → (is_lasting r.question.now ≡ true → IfOk run (RepliesBy true config_read script_read (rules_of r) r.bounds.turns.count (r.bounds.places.count - 1) r.question.now over))
    → ended ≡ settled of_search run false → IfOk ended (λ reply. IsAnswer config_text script_text r r.question.now reply.answer)
answer_over config_text script_text {config_read} {script_read} r over run ended same_config same_scripts steps lasting is =
    rw (sym same_config, sym same_scripts) (answer_of config_read script_read r over run ended steps lasting is)

-- one more
pub one_more : (config_text script_text : List ℕ) (r : ExploreRequest) (rows : List Row) (replies : List Reply) (row : Row) (reply : Reply)
    → AreReplies config_text script_text r rows replies → reply.row ≡ row → IsAnswer config_text script_text r row.question reply.answer
    → AreReplies config_text script_text r (rows ++ (row ∷ [])) (replies ++ (reply ∷ []))
one_more config_text script_text r rows replies row reply before is answer = record {
  each = map_push (λ x. x.row) replies reply ∙ ap (λ xs. xs ++ (reply.row ∷ [])) before.each ∙ ap (λ x. rows ++ (x ∷ [])) is;
  answers = All-push (λ x. IsAnswer config_text script_text r x.row.question x.answer) replies reply before.answers (rw (is) answer);
}
