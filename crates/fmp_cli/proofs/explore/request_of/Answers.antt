use Rattle.std.proofs.Common.{◌≡◌, ◌∙◌, ℕ, List, Option, None, Some, refl, ap, subst}
use Rattle.std.specs.Prelude.{is_some, option_map}
use Rattle.fmp_cli.specs.Explore.{IsBound, IsMemory, IsQuestion, IsTickLimit}
use Rattle.fmp_cli.proofs.explore.request_of.Goals as goal

some_mapped : {A B : Type 0} (f : A → B) (o : Option A) → is_some o ≡ is_some (option_map f o)
some_mapped f None = refl
some_mapped f (Some a) = refl

pub returns : goal.returns
returns c = record {
  config = c.text_in.ensures;
  scripts = c.text_in-2.ensures;
  question = subst (λ (o : Option (List ℕ)). IsQuestion o c.question_in.result.now) c.option_in-find.ensures c.question_in.ensures;
  find = c.option_in-find.ensures;
  most = c.flag_in.ensures;
  ticks = subst (λ (o : Option (List ℕ)). IsTickLimit o c.in_ok-ticks.ticks) c.option_in-limit.ensures c.in_ok-ticks.ensures;
  says_ticks = c.is_some.ensures ∙ some_mapped _ c.option_in-limit.result ∙ ap is_some c.option_in-limit.ensures;
  prompt = c.flag_in-2.ensures;
  drift = subst (λ (o : Option (List ℕ)). IsBound o c.in_ok-drift.drift) c.option_in.ensures c.in_ok-drift.ensures;
  pace = subst (λ (o : Option (List ℕ)). IsBound o c.in_ok-pace.pace) c.option_in-2.ensures c.in_ok-pace.ensures;
  spurious = c.flag_in-3.ensures;
  turns = c.in_ok-bounds.ensures.turns;
  says_turns = c.is_some-2.ensures ∙ some_mapped _ c.option_in-4.result ∙ ap is_some c.option_in-4.ensures;
  places = c.in_ok-bounds.ensures.places;
  says_places = c.is_some-3.ensures ∙ some_mapped _ c.option_in-room.result ∙ ap is_some c.option_in-room.ensures;
  memory = subst (λ (o : Option (List ℕ)). IsMemory o c.in_ok-memory.memory) c.option_in-size.ensures c.in_ok-memory.ensures;
  from = c.option_in-5.ensures;
  seconds = subst (λ (o : Option (List ℕ)). IsBound o c.in_ok-seconds.seconds) c.option_in-3.ensures c.in_ok-seconds.ensures;
  questions = c.option_in-6.ensures;
  tap = c.flag_in-4.ensures;
  junit = c.option_in-7.ensures;
  traces = c.option_in-8.ensures;
  progress = c.flag_in-5.ensures;
  context = c.flag_in-6.ensures;
}
