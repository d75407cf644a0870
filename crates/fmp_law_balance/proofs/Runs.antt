-- What was put into a data queue along a run.
use Rattle.std.proofs.Common.{◌≡◌, ℕ, suc, List, [], ◌∷◌, ◌++◌, length, flat_map, sym, ap, ◌∙◌}
use Rattle.std.specs.Prelude.{take}
use Rattle.std.proofs.lemmas.List.{append-nil, append_assoc}
use Rattle.fmp_codes.specs.declared.numbers.Object.{Object}
use Rattle.fmp_codes.specs.declared.records.Event.{Event}
use Rattle.fmp_codes.specs.declared.records.Record.{Record}
use Rattle.fmp_rules.specs.World.{World}
use Rattle.fmp_rules.specs.Objects.{values}
use Rattle.fmp_rules.specs.Ordering.{Ordering}
use Rattle.fmp_rules.specs.BufferCalls.{sent}
use Rattle.fmp_rules.specs.Step.{step, replay, answers}
use Rattle.fmp_law_safety.specs.Safe.{Safe}
use Rattle.fmp_law_balance.specs.Queues.{puts, out_by, put_by}
use Rattle.fmp_law_balance.proofs.Leaving.{AreHandlers}
use Rattle.fmp_law_balance.proofs.Queues.{WaitersWait, moves_step}
use Rattle.fmp_law_balance.proofs.Senders.{SentLast, sent_step}
use Rattle.fmp_law_balance.proofs.Shapes.{shape_step, Few, few_step}

module _ {Q : Type 0} (k : Ordering Q) (wait_there : WaitersWait k) where
  abbrev pub IsSafeLater : World Q → List Event → Type 0
  IsSafeLater w es = (n : ℕ) → Safe k (replay k w (take n es))

  pub queue_sums : (d : Object) (earlier : List Record) (w : World Q) (es : List Event) → length w.contents ≡ length w.data_queues → Few w → AreHandlers w.due → SentLast earlier w →
      IsSafeLater w es → values w d ++ puts d earlier (answers k w es) ≡ flat_map (out_by d) (answers k w es) ++ values (replay k w es) d
  queue_sums d earlier w [] count few due sent safe = append-nil (values w d)
  queue_sums d earlier w (e ∷ es) count few due sent safe =
      let v : World Q = (step k w e).0 in
      let r : Record = (step k w e).1 in
      let rs : List Record = answers k v es in
      let shape = shape_step k w e in
      let now : values w d ++ put_by d earlier r ≡ out_by d r ++ values v d =
      moves_step k wait_there earlier w (record { waits = (safe 0).waits; count = count; few = few.data_queues; sent = sent }) d e in
      let later : values v d ++ puts d (r ∷ earlier) rs ≡ flat_map (out_by d) rs ++ values (replay k v es) d =
      queue_sums d (r ∷ earlier) v es (shape.contents ∙ count ∙ ap length (sym shape.data_queues)) (few_step k w e few) (shape.due due) (sent_step k w (safe 0) due few.data_queues earlier sent e) (λ n. safe (suc n)) in
      sym (append_assoc (values w d) (put_by d earlier r) (puts d (r ∷ earlier) rs))
      ∙ ap (λ xs. xs ++ puts d (r ∷ earlier) rs) now
      ∙ append_assoc (out_by d r) (values v d) (puts d (r ∷ earlier) rs)
      ∙ ap (λ xs. out_by d r ++ xs) later
      ∙ sym (append_assoc (out_by d r) (flat_map (out_by d) rs) (values (replay k v es) d))
