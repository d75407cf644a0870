use Rattle.std.proofs.Common.{◌∙◌, ℕ, List, ap, refl, sym}
use Rattle.fmp_cli_runs.specs.Replies.{answer_of}
use Rattle.fmp_cli_runs.proofs.replies.steps_reply.Goals as goal

pub returns-in-Ok-clause-replies : goal.returns-in-Ok-clause-replies
returns-in-Ok-clause-replies g c =
    record {
      found = c.in-Ok.found;
      explored = rw c.into_text.ensures
          (rw (
            c.in_ok-config.ensures,
            c.in_ok-scripts.ensures,
            c.new-output.ensures.0,
            c.search_of-asked.ensures.question,
            c.search_of-asked.ensures.rules,
            c.search_of-asked.ensures.bounds,
          ) at (c.in-Ok.ensures.writes.whole refl refl refl));
      searched = rw (c.in_ok-config.ensures, c.in_ok-scripts.ensures, c.search_of-asked.ensures.question, c.search_of-asked.ensures.rules) at (c.in-Ok.ensures.searched refl refl);
      ended = c.in-Ok.ensures.ended;
      answers = c.answer_of.ensures ∙ ap (λ (text : List ℕ). answer_of c.in-Ok.found.finding text) (c.text.ensures ∙ sym c.into_text.ensures);
      keeps = c.kept.ensures;
    }
