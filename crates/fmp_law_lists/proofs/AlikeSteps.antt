-- The end of an event in states that agree: the same is told of it, and the states agree after it.
use Rattle.std.proofs.Common.{◌≡◌, ◌≤◌, ◌==◌, Bool, true, false, not, ◌&&◌, ◌||◌, List, [], ◌∷◌, length, map, filter, refl, sym, ap, ◌∙◌, subst, Option, None, arith}
use Rattle.std.specs.Prelude.{is_some, option_map, if◌then◌else◌}
use Rattle.std.specs.Option.{option_or}
use Rattle.std.specs.List.{range_with_len}
use Rattle.std.proofs.lemmas.Bool.{false≢true}
use Rattle.fmp_codes.specs.Numbers.{as_proc}
use Rattle.fmp_codes.specs.Records.{answer_record}
use Rattle.fmp_codes.specs.declared.numbers.Proc.{Proc}
use Rattle.fmp_codes.specs.declared.numbers.Task.{Task}
use Rattle.fmp_codes.specs.declared.calls.Call.{Call}
use Rattle.fmp_codes.specs.declared.records.Answer.TheVariants as answer
use Rattle.fmp_codes.specs.declared.records.Event.{Event}
use Rattle.fmp_codes.specs.declared.records.Event.TheVariants as event
use Rattle.fmp_codes.specs.declared.records.Record.{Record}
use Rattle.fmp_codes.specs.declared.records.Runner.TheVariants as runner
use Rattle.fmp_rules.specs.Effects.{Effect}
use Rattle.fmp_rules.specs.World.{World, processor, processors_of, runner_of, is_held, item, first, with_processor}
use Rattle.fmp_rules.specs.Ordering.{Ordering, top}
use Rattle.fmp_rules.specs.Rows.{called, check, plain}
use Rattle.fmp_rules.specs.Step.{is_same, changed_run, tops, is_requested, requests, latched, dispatched, settle, settled, before_event, unchanged, row_of, step}
use Rattle.fmp_law_footprint.specs.Cells.{Cell, ReadyOn, OfProcessor, LatchOf, DueOn, Shape, on}
use Rattle.fmp_law_footprint.specs.Shapes.{Frame}
use Rattle.fmp_law_footprint.specs.Footprints.{Within, IsLocal, Good, Moved, TellsTops}
use Rattle.fmp_law_footprint.specs.Words.{Each}
use Rattle.fmp_law_footprint.specs.CoversCalls.{CoversCall}
use Rattle.fmp_law_lists.specs.Reads.{Agree, ReadsCells, Own}
use Rattle.fmp_law_lists.specs.ReadsCalls.{ReadsCall}
use Rattle.fmp_law_lists.proofs.Agreeing.{if_alike, agree_processor}
use Rattle.fmp_law_lists.proofs.AlikeCalls.{call_alike}
use Rattle.fmp_law_lists.proofs.AlikeOthers.{row_alike}
use Rattle.fmp_law_footprint.proofs.Moves.{moves_all}
use Rattle.fmp_law_footprint.proofs.Calls.{moves_call}
use Rattle.fmp_rules.proofs.Runners.{same_as_itself}
use Rattle.fmp_law_safety.proofs.Settling.{top_before}
use Rattle.fmp_law_footprint.proofs.Steps.{each_proc}

-- lists of the same numbers, filtered alike
filter_alike : (f g : Proc → Bool) (xs : List Proc) → Each (λ p. f p ≡ g p) xs → filter f xs ≡ filter g xs
filter_alike f g [] h = refl
filter_alike f g (p ∷ xs) h = λ i. if h.0 i then p ∷ filter_alike f g xs h.1 i else filter_alike f g xs h.1 i

module _ {Q : Type 0} (Part : Cell → Type 0) (part : Q → (c : Cell) → Part c) (f : Cell → Bool) (Inside : Q → Type 0) (k : Ordering Q)
    (tells : TellsTops Part part (Within f) Inside k) (shape : Within f Shape → ⊥) (reads : ReadsCells Part part (Within f) k) where
  abbrev S : Cell → Type 0
  S = Within f

  abbrev Agrees : World Q → World Q → Type 0
  Agrees = Agree Part part S

  latched_alike : (v w : World Q) (ps : List Proc) → Agrees v w → Agrees (latched v ps) (latched w ps)
  latched_alike v w [] g = g
  latched_alike v w (p ∷ ps) g =
      latched_alike (with_processor v p (record (processor v p) { latch = true })) (with_processor w p (record (processor w p) { latch = true })) ps
      (agree_processor Part part S v w p (record (processor v p) { latch = true }) (record (processor w p) { latch = true }) (g.values (OfProcessor (on p)))
      (λ _. refl) g)

  module _ (q : Proc) (own : Own S q) where
    pub held_same : (v w : World Q) → Agrees v w → is_held v q ≡ is_held w q
    held_same v w g =
        let c = g.values (OfProcessor (on q)) own.processor in
        let due = g.values (DueOn (on q)) own.due in
        λ i. is_some (first (due i)) || (c i).locked || (c i).disabled

    dispatched_alike : (v w : World Q) → Agrees v w → Agrees (dispatched k v q) (dispatched k w q)
    dispatched_alike v w g =
        let c = g.values (OfProcessor (on q)) own.processor in
        let tops : top k v q ≡ top k w q = reads.top v.order w.order v.tasks w.tasks q own.ready g.parts in
        if_alike Agrees (is_held v q) (is_held w q) (held_same v w g) g
        (agree_processor Part part S v w q (record (processor v q) { running = top k v q; latch = false }) (record (processor w q) { running = top k w q; latch = false })
        (λ _ i. record (c i) { running = tops i }) (λ _. refl) g)

    pub runner_same : (v w : World Q) → Agrees v w → runner_of v q ≡ runner_of w q
    runner_same v w g =
        let c = g.values (OfProcessor (on q)) own.processor in
        let due = g.values (DueOn (on q)) own.due in
        λ i. option_or (first (due i)) (option_map runner.Task (c i).running)

    -- what an event of q did, from v to v' and from w to w'
    module _ (v v' w w' : World Q) (before : Agrees v w) (after : Agrees v' w') (good : Good Part part S Inside v) (moved : Moved Part part S Inside v v')
        (well : Good Part part S Inside w) (also : Moved Part part S Inside w w') where
      few : length v'.processors ≡ length w'.processors
      few = ap (λ (x : Frame). x.processors) after.shape

      calm : (x : Bool) (o u : Option Task) → (x && not (is_same o o)) ≡ (x && not (is_same u u))
      calm x o u = rw (same_as_itself o, same_as_itself u)

      requested_same : (p : Proc) → 1 ≤ p.number → p.number ≤ length v'.processors → is_requested k (tops k v) v' q p ≡ is_requested k (tops k w) w' q p
      requested_same p least most =
          let of_v : p.number ≤ length v.processors = rw (ap (λ (x : Frame). x.processors) (moved.leaves Shape shape)) at most in
          let of_w : p.number ≤ length w.processors = rw (ap (λ (x : Frame). x.processors) before.shape) at of_v in
          let tops_v = top_before k v p (least, of_v) in
          let tops_w = top_before k w p (least, of_w) in
          by (f (ReadyOn (on p))) refl tops_v tops_w
        where
          by : (b : Bool) → f (ReadyOn (on p)) ≡ b → item None (tops k v) p.number ≡ top k v p → item None (tops k w) p.number ≡ top k w p
              → is_requested k (tops k v) v' q p ≡ is_requested k (tops k w) w' q p
          by true e a b =
              let old : top k v p ≡ top k w p = reads.top v.order w.order v.tasks w.tasks p e before.parts in
              let new : top k v' p ≡ top k w' p = reads.top v'.order w'.order v'.tasks w'.tasks p e after.parts in
              λ i. not (p.number == q.number) && not (is_same ((a ∙ old ∙ sym b) i) (new i))
          by false e a b =
              let off : S (ReadyOn (on p)) → ⊥ = λ h. false≢true (sym e ∙ h) in
              let same_v : top k v' p ≡ top k v p = tells.top v v' p good moved off in
              let same_w : top k w' p ≡ top k w p = tells.top w w' p well also off in
              (λ i. not (p.number == q.number) && not (is_same (a i) (same_v i))) ∙ calm (not (p.number == q.number)) (top k v p) (top k w p)
              ∙ sym (λ i. not (p.number == q.number) && not (is_same (b i) (same_w i)))

      requests_same : requests k (tops k v) v' q ≡ requests k (tops k w) w' q
      requests_same =
          filter_alike (is_requested k (tops k v) v' q) (is_requested k (tops k w) w' q) (processors_of v')
          (each_proc (λ p. is_requested k (tops k v) v' q p ≡ is_requested k (tops k w) w' q p) (length v'.processors) 1 (length v'.processors) (omega arith)
          (omega arith) requested_same)
          ∙ ap (λ n. filter (is_requested k (tops k w) w' q) (map as_proc (range_with_len 1 n))) few

      settles_alike : Agrees (settle k (tops k v) v' q) (settle k (tops k w) w' q)
      settles_alike =
          subst (λ ps. Agrees (dispatched k (latched v' ps) q) (settle k (tops k w) w' q)) (sym requests_same)
          (dispatched_alike (latched v' (requests k (tops k w) w' q)) (latched w' (requests k (tops k w) w' q)) (latched_alike v' w' (requests k (tops k w) w' q) after))

      -- what is told at the end, and what stands then
      pub ends_alike : (e : Event) (x y : Effect) → x ≡ y
          → Agrees (settled k (before_event k v e q) (v', x)).0 (settled k (before_event k w e q) (w', y)).0 ×
          ((settled k (before_event k v e q) (v', x)).1 ≡ (settled k (before_event k w e q) (w', y)).1)
      unfolding settled before_event
      ends_alike e x y same =
          let was = before.values (OfProcessor (on q)) own.processor in
          let is = settles_alike.values (OfProcessor (on q)) own.processor in (
            settles_alike,
            λ i. record {
              event = e;
              runner = runner_same v w before i;
              answer = (same i).answer;
              releases = (same i).releases;
              lost = (same i).lost;
              run_change = changed_run (was i).running (is i).running;
              requests = requests_same i;
            },
          )

-- Events.

module _ {Q : Type 0} (Part : Cell → Type 0) (part : Q → (c : Cell) → Part c) (f : Cell → Bool) (Inside : Q → Type 0) (k : Ordering Q)
    (laws : IsLocal Part part (Within f) Inside k)
    (tells : TellsTops Part part (Within f) Inside k) (shape : Within f Shape → ⊥) (reads : ReadsCells Part part (Within f) k) (v w : World Q) (p : Proc)
    (own : Own (Within f) p)
    (good : Good Part part (Within f) Inside v) (well : Good Part part (Within f) Inside w) (g : Agree Part part (Within f) v w) where
  abbrev StepAlike : World Q × Record → World Q × Record → Type 0
  StepAlike d e = Agree Part part (Within f) d.0 e.0 × (d.1 ≡ e.1)

  pub call_step_alike : (c : Call) → ReadsCall k (Within f) w p c → (check v p (row_of k v p c) ≡ None → CoversCall k (Within f) v p c)
      → (check w p (row_of k w p c) ≡ None → CoversCall k (Within f) w p c) → StepAlike (step k v (event.Call p c)) (step k w (event.Call p c))
  unfolding unchanged
  call_step_alike c h covers also =
      let e = event.Call p c in
      let runners = runner_same Part part f Inside k tells shape reads p own v w g in
      let did = call_alike Part part (Within f) v w p own g _ _ (row_alike Part part (Within f) k reads v w p own g c h) in
      let moved = moves_call Part part (Within f) Inside k laws v p c covers good in
      let moved_too = moves_call Part part (Within f) Inside k laws w p c also well in
      if_alike StepAlike (is_some (runner_of v p)) (is_some (runner_of w p)) (ap is_some runners)
      (ends_alike Part part f Inside k tells shape reads p own v (called v p (row_of k v p c)).0 w (called w p (row_of k w p c)).0 g did.0 good moved well moved_too e
      (called v p (row_of k v p c)).1 (called w p (row_of k w p c)).1 did.1)
      (g, ap (λ o. answer_record e o answer.Idle) runners)

  pub ipi_alike : StepAlike (step k v (event.Ipi p)) (step k w (event.Ipi p))
  unfolding unchanged
  ipi_alike =
      let e = event.Ipi p in
      let runners = runner_same Part part f Inside k tells shape reads p own v w g in
      let latch = g.values (LatchOf (on p)) own.latch in
      if_alike StepAlike (is_held v p) (is_held w p) (held_same Part part f Inside k tells shape reads p own v w g)
      (g, ap (λ o. answer_record e o answer.Held) runners)
      (ends_alike Part part f Inside k tells shape reads p own v v w w g g good (moves_all Part part (Within f) Inside v good) well
      (moves_all Part part (Within f) Inside w well) e
      (plain (if (processor v p).latch then answer.Taken else answer.Nothing)) (plain (if (processor w p).latch then answer.Taken else answer.Nothing))
      (λ i. plain (if latch i then answer.Taken else answer.Nothing)))
