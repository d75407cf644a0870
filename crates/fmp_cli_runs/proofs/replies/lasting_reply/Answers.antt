use Rattle.std.proofs.Common.{◌∙◌, ℕ, List, ap, refl, sym}
use Rattle.fmp_cli_runs.specs.Replies.{lasting_answer_of}
use Rattle.fmp_cli_runs.proofs.replies.lasting_reply.Goals as goal

pub returns-in-Ok-clause-replies : goal.returns-in-Ok-clause-replies
returns-in-Ok-clause-replies g c =
    record {
      found = c.in-Ok.found;
      explored = rw c.into_text.ensures
          (rw (
            c.in_ok-config.ensures,
            c.in_ok-scripts.ensures,
            c.new-output.ensures.0,
            c.search_of-asked.ensures.question,
            c.search_of-asked.ensures.rules,
            c.search_of-asked.ensures.bounds,
          ) at (c.in-Ok.ensures.writes.whole refl refl refl));
      answers = c.lasting_answer_of.ensures ∙ ap (λ (text : List ℕ). lasting_answer_of c.in-Ok.found.staying text) (c.text.ensures ∙ sym c.into_text.ensures);
      keeps = refl;
    }
