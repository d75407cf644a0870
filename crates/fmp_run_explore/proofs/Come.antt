-- How many steps of a question come, where no order shows all of them.
use Rattle.std.proofs.Common.{◌≡◌, ◌∙◌, ◌⊎◌, inl, inr, ℕ, ◌<◌, ◌≤◌, List, [], ◌∷◌, length, take, refl, ap, sym, subst, arith}
use Rattle.std.proofs.Math.Seq.{take-length}
use Rattle.std.proofs.lemmas.List.Elements.{All-nil}
use Rattle.fmp_codes.specs.Records.{processor_of}
use Rattle.fmp_codes.specs.declared.records.Event.{Event}
use Rattle.fmp_text_scripts.specs.Scripts.{Steps}
use Rattle.fmp_setup.specs.Setup.{Setup}
use Rattle.fmp_search_pattern.specs.declared.question.Step.{Step}
use Rattle.fmp_search_orders.specs.declared.rules.Rules.{Rules}
use Rattle.fmp_search_orders.specs.Shown.{NoneShows}
use Rattle.fmp_run_explore.specs.declared.finding.Finding.{Finding}
use Rattle.fmp_run_explore.specs.declared.finding.Finding.TheVariants as finding
use Rattle.fmp_run_explore.specs.Came.{SomeShows}
use Rattle.fmp_run_texts.specs.declared.status.Status.TheVariants.{Limit}
use Rattle.fmp_run_explore.specs.Explored.{Finds, status_of}

-- what was found does not say whether some order shows the question
pub is_unknown :
    (found : Finding) → ((n : ℕ) × (found ≡ finding.NotWithin n)) ⊎ (((n : ℕ) × (found ≡ finding.Wanting n)) ⊎ ((n : ℕ) × (found ≡ finding.Ended n))) →
    status_of found ≡ Limit
is_unknown found (inl within) = ap status_of within.1
is_unknown found (inr (inl wanting)) = ap status_of wanting.1
is_unknown found (inr (inr over)) = ap status_of over.1

module _ (c : Setup) (scripts : List Steps) (rules : Rules) where
  -- the order of no records shows a question without a step
  pub nothing_comes : SomeShows c scripts rules []
  nothing_comes = (
    [],
    record {
      run = record { answers = refl; on = All-nil (λ (e : Event). (processor_of e).number ≤ c.processors) };
      in_order = λ k r at. cc;
    },
    ([], record { as_many = refl; allowed = λ k r m at mark_at. cc }, refl),
  )

  -- so where none shows all steps, there is at least one, and what is searched for is between none of them and all
  pub begun : (question : List Step) (count : ℕ) → count ≡ length question → NoneShows c scripts rules question →
      record {
        come : SomeShows c scripts rules (take 0 question);
        none : NoneShows c scripts rules (take count question);
        apart : 0 < count;
        within : count ≤ length question;
      }
  begun [] count is none = absurd (none nothing_comes.0 nothing_comes.1 nothing_comes.2)
  begun (s ∷ question) count is none = record {
    come = nothing_comes;
    none = subst (NoneShows c scripts rules) (sym (ap (λ n. take n (s ∷ question)) is ∙ take-length (s ∷ question))) none;
    apart = omega (arith, is);
    within = omega (arith, is);
  }

  module _ (question : List Step) (turns room : ℕ) (text : List ℕ) (found : Finding) where
    -- what was found says that some order shows the question, or that none does
    pub some_shown : Finds c scripts rules question turns room text found → found ≡ finding.Shown → SomeShows c scripts rules question
    some_shown finds is =
        let shown = subst (Finds c scripts rules question turns room text) is finds in
        (shown.records, shown.shortest.order, shown.shortest.shows)

    pub none_shown : Finds c scripts rules question turns room text found → found ≡ finding.Never → NoneShows c scripts rules question
    none_shown finds is = (subst (Finds c scripts rules question turns room text) is finds).0
