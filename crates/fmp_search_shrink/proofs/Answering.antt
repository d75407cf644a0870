-- What is seen in the answers to a list of events.
use Rattle.std.proofs.Common.{◌≡◌, ℕ, ◌+◌, ◌<◌, ◌^◌, Bool, true, false, cond, List, [], ◌∷◌, ◌++◌, length, refl, sym, ap, ◌∙◌, subst, arith}
use Rattle.std.specs.Prelude.{slice_index, replicate}
use Rattle.std.proofs.lemmas.List.Sums.{count_by-le-length}
use Rattle.fmp_codes.specs.declared.records.Event.{Event}
use Rattle.fmp_codes.specs.declared.records.Record.{Record}
use Rattle.fmp_codes.proofs.Counters.{zeros}
use Rattle.fmp_setup.specs.Setup.{Setup}
use Rattle.fmp_rules.specs.Arrivals.{State, numbered}
use Rattle.fmp_rules.specs.Boot.{booted}
use Rattle.fmp_rules.specs.Step.{step, answers, replay}
use Rattle.fmp_kernel_order.specs.Queues.{Queues}
use Rattle.fmp_rules.specs.World.{World}
use Rattle.fmp_rules.proofs.Replays.{step_event, replay_more, answers_more}
use Rattle.fmp_law_lists.specs.Stands.{Stands}
use Rattle.fmp_smp_histories.specs.Counted.{is_taken_tick, taken}
use Rattle.fmp_smp_histories.specs.Histories.{events_of, state_after}
use Rattle.fmp_search_pattern.specs.declared.question.Step.{Step}
use Rattle.fmp_search_orders.specs.declared.rules.Rules.{Rules}
use Rattle.fmp_search_orders.specs.Laws.{TakenAre}
use Rattle.fmp_search_orders.specs.Orders.{counted, counts_ticks}
use Rattle.fmp_search_orders.specs.Places.{moved_taken, origin}
use Rattle.fmp_search_orders.specs.Shown.{last_sight}
use Rattle.fmp_search_orders.specs.Sights.{sight}
use Rattle.fmp_search_orders.proofs.Alike.{sight_same}
use Rattle.fmp_search_orders.proofs.Longer.{counts_same, taken_moved}
use Rattle.fmp_search_orders.proofs.Runs.{no_count}
use Rattle.fmp_search_kernel.specs.Walked.{count_in}
use Rattle.fmp_search_shrink.specs.Seen.{AreNext, AreSeen, is_seen}
use Rattle.fmp_search_shrink.proofs.Seeing.{seen_after}

-- the records of answers are of the events
events_reported : (m : State) (es : List Event) → events_of (answers numbered m es) ≡ es
events_reported m [] = refl
events_reported m (e ∷ es) = let did = step numbered m e in ap (λ x. x ∷ events_of (answers numbered did.0 es)) (step_event m e) ∙ ap (λ l. e ∷ l) (events_reported did.0 es)

-- ---- the ticks that were taken

-- at boot none were
pub taken_at_boot : (rules : Rules) → TakenAre rules (replicate 8 0) []
taken_at_boot rules = λ i small. zeros 8 i ∙ sym (no_count (counts_ticks rules))

-- no more ticks were taken than there are records, so that there is room for one more
pub taken_within : (rules : Rules) (ns : List ℕ) (h : List Record) → TakenAre rules ns h → (counts_ticks rules ≡ true → length h + 1 < 2 ^ 32) → (i : ℕ) → i < 8 →
    slice_index ns i + 1 < 2 ^ 32
taken_within rules ns h are few i small = rw (are i small) (go (counts_ticks rules) few)
  where
    go : (b : Bool) → (b ≡ true → length h + 1 < 2 ^ 32) → cond b (taken (i + 1) h) 0 + 1 < 2 ^ 32
    go true few =
        let most = count_by-le-length (is_taken_tick (i + 1)) h in
        let room = few refl in
        omega (arith, most, room)
    go false few = omega arith

-- ---- one event more

module _ (c : Setup) (rules : Rules) (question : List Step) (given : List Event) (e : Event) where
  abbrev m : State
  m = replay numbered (booted c) given

  -- the records so far, and that of the event
  abbrev h : List Record
  h = answers numbered (booted c) given

  abbrev r : Record
  r = (step numbered m e).1

  last_state : state_after c (h ++ r ∷ []) ≡ (step numbered m e).0
  unfolding state_after
  last_state =
      ap (λ rs. replay numbered (booted c) (events_of rs)) (sym (answers_more (booted c) given e))
      ∙ ap (replay numbered (booted c)) (events_reported (booted c) (given ++ e ∷ []))
      ∙ replay_more (booted c) given e

  -- the ticks that were taken
  pub taken_next : (ns ms : List ℕ) (report : Record) → report ≡ r → ms ≡ moved_taken rules ns report.event report.answer → TakenAre rules ns h → length ns ≡ 8 →
      TakenAre rules ms (answers numbered (booted c) (given ++ e ∷ []))
  taken_next ns ms report is moved are long =
      let taken_is : ms ≡ moved_taken rules ns r.event r.answer = moved ∙ ap (λ (x : Record). moved_taken rules ns x.event x.answer) is in
      let there = subst (λ (l : List ℕ). TakenAre rules l (h ++ r ∷ [])) (sym taken_is) (taken_moved rules ns h r are long) in
      subst (λ rs. TakenAre rules ms rs) (sym (answers_more (booted c) given e)) there

  -- the kernel's lines are those of the model
  same_lines : (ns : List ℕ) (k : World Queues) (report : Record) → TakenAre rules ns (h ++ r ∷ []) → Stands k (step numbered m e).0 → report ≡ r →
      sight c rules (count_in ns) k report ≡ last_sight c rules (h ++ r ∷ []) r
  same_lines ns k report are stands is =
      let count = counted rules (h ++ r ∷ []) in
      sight_same c rules (count_in ns) count (counts_same rules (record (origin c [] rules question) { taken = ns }) (h ++ r ∷ []) are) k (step numbered m e).0 report stands
      ∙ ap (λ x. sight c rules count (step numbered m e).0 x) is
      ∙ ap (λ s. sight c rules count s r) (sym last_state)

  -- the numbers of steps that may have been seen in the answers
  pub seen_next : (ns : List ℕ) (k : World Queues) (report : Record) (numbers next : List Bool) → TakenAre rules ns (answers numbered (booted c) (given ++ e ∷ [])) →
      Stands k (step numbered m e).0 → report ≡ r → AreSeen c rules question h numbers → AreNext question (sight c rules (count_in ns) k report) numbers next →
      AreSeen c rules question (answers numbered (booted c) (given ++ e ∷ [])) next
  seen_next ns k report numbers next taken_are stands is before are =
      let longer = answers_more (booted c) given e in
      let lines = same_lines ns k report (subst (TakenAre rules ns) longer taken_are) stands is in
      subst (λ rs. AreSeen c rules question rs next) (sym longer)
      (seen_after c rules question h r numbers before next (λ n small. are n small ∙ ap (λ l. is_seen question l numbers n) lines))

  pub stands_next : (k : World Queues) → Stands k (step numbered m e).0 → Stands k (replay numbered (booted c) (given ++ e ∷ []))
  stands_next k stands = subst (Stands k) (sym (replay_more (booted c) given e)) stands
