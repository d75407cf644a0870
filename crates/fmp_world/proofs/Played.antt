-- Moves, and the records that they make again.
use Rattle.std.proofs.Common.{◌≡◌, ◌+◌, ◌≤◌, ◌∙◌, List, [], ◌∷◌, ◌++◌, length, drop, Option, Some, None, IsSome, refl, ap, sym, arith, inl, length-append}
use Rattle.std.proofs.lemmas.Grind.{fold-append}
use Rattle.std.proofs.lemmas.List.{append-nil, append_assoc}
use Rattle.std.proofs.Math.Seq.{drop-append_seam}
use Rattle.fmp_codes.specs.Records.{processor_of}
use Rattle.fmp_codes.specs.declared.records.Event.{Event}
use Rattle.fmp_codes.specs.declared.records.Event.TheVariants as event
use Rattle.fmp_codes.specs.declared.records.Record.{Record}
use Rattle.fmp_text_scripts.specs.Scripts.{Steps}
use Rattle.fmp_setup.specs.Setup.{Setup}
use Rattle.fmp_rules.specs.Arrivals.{numbered}
use Rattle.fmp_rules.specs.Step.{step}
use Rattle.fmp_world.specs.declared.history.Move.{Move}
use Rattle.fmp_world.specs.declared.history.Move.TheVariants.{Turn, Tick}
use Rattle.fmp_smp_histories.specs.Histories.{state_after}
use Rattle.fmp_world.specs.Moves.{mover_of, moved, recorded, played_one, played_from, added_by, AreMade}
use Rattle.fmp_smp_histories.specs.Scripted.{IsScripted}
use Rattle.fmp_world.proofs.Runs.{choice_on, choice_scripted}

module _ (c : Setup) (s : List Steps) where
  -- the event of a move is of its processor, and scripted
  pub moved_on : (h : List Record) (by : Move) (e : Event) → moved c s h by ≡ Some e → processor_of e ≡ mover_of by
  moved_on h (Turn p) e is = choice_on c s h p e is
  moved_on h (Tick p) e is = let same : e ≡ event.Tick p = cc in rw same refl

  pub moved_scripted : (h : List Record) (by : Move) (e : Event) → moved c s h by ≡ Some e → IsScripted c s h e
  moved_scripted h (Turn p) e is = choice_scripted c s h p e is
  moved_scripted h (Tick p) e is = let same : e ≡ event.Tick p = cc in rw same (inl tt)

  -- ---- one move more

  pub played_event : (h : List Record) (by : Move) (e : Event) → moved c s h by ≡ Some e → played_one c s h by ≡ h ++ (step numbered (state_after c h) e).1 ∷ []
  played_event h by e is = ap (recorded c h) is

  pub played_more : (h : List Record) (moves : List Move) (by : Move) → played_from c s h (moves ++ by ∷ []) ≡ played_one c s (played_from c s h moves) by
  unfolding played_from
  played_more h moves by = fold-append (played_one c s) h moves (by ∷ [])

  pub played_none : (h : List Record) → played_from c s h [] ≡ h
  unfolding played_from
  played_none h = refl

  pub made_more : (h : List Record) (moves : List Move) (by : Move) → AreMade c s h moves → (mover_of by).number ≤ c.processors
      → IsSome (moved c s (played_from c s h moves) by) → AreMade c s h (moves ++ by ∷ [])
  unfolding played_from
  made_more h [] by made on some = (on, some, tt)
  made_more h (m ∷ moves) by made on some = (made.0, made.1, made_more (played_one c s h m) moves by made.2 on some)

  -- ---- how many records moves make

  recorded_count : (h : List Record) (o : Option Event) → IsSome o → length (recorded c h o) ≡ length h + 1
  recorded_count h None some = cc
  recorded_count h (Some e) some = length-append h ((step numbered (state_after c h) e).1 ∷ [])

  pub made_count : (h : List Record) (moves : List Move) → AreMade c s h moves → length (played_from c s h moves) ≡ length h + length moves
  unfolding played_from
  made_count h [] made = omega arith
  made_count h (m ∷ moves) made =
      let rest = made_count (played_one c s h m) moves made.2 in
      let one = recorded_count h (moved c s h m) made.1 in
      omega (arith, rest, one)

  -- ---- the next record

  recorded_extends : (h : List Record) (o : Option Event) → (x : List Record) × (recorded c h o ≡ h ++ x)
  recorded_extends h None = ([], sym (append-nil h))
  recorded_extends h (Some e) = ((step numbered (state_after c h) e).1 ∷ [], refl)

  played_extends : (h : List Record) (moves : List Move) → (x : List Record) × (played_from c s h moves ≡ h ++ x)
  unfolding played_from
  played_extends h [] = ([], sym (append-nil h))
  played_extends h (m ∷ moves) =
      let one = recorded_extends h (moved c s h m) in
      let more = played_extends (played_one c s h m) moves in
      (one.0 ++ more.0, more.1 ∙ ap (λ y. y ++ more.0) one.1 ∙ append_assoc h one.0 more.0)

  pub added_none : (h : List Record) → added_by c s h [] ≡ []
  unfolding added_by played_from
  added_none h = ap (drop (length h)) (sym (append-nil h)) ∙ drop-append_seam h []

  added_after : (h : List Record) (r : Record) (moves : List Move)
      → drop (length h) (played_from c s (h ++ r ∷ []) moves) ≡ r ∷ drop (length (h ++ r ∷ [])) (played_from c s (h ++ r ∷ []) moves)
  added_after h r moves =
      let more = played_extends (h ++ r ∷ []) moves in
      let left : drop (length h) (played_from c s (h ++ r ∷ []) moves) ≡ r ∷ more.0 =
      ap (drop (length h)) (more.1 ∙ append_assoc h (r ∷ []) more.0) ∙ drop-append_seam h (r ∷ more.0) in
      let right : drop (length (h ++ r ∷ [])) (played_from c s (h ++ r ∷ []) moves) ≡ more.0 =
      ap (drop (length (h ++ r ∷ []))) more.1 ∙ drop-append_seam (h ++ r ∷ []) more.0 in
      left ∙ ap (λ x. r ∷ x) (sym right)

  pub added_next : (h : List Record) (m : Move) (moves : List Move) (e : Event) → moved c s h m ≡ Some e
      → added_by c s h (m ∷ moves) ≡ (step numbered (state_after c h) e).1 ∷ added_by c s (played_one c s h m) moves
  unfolding added_by played_from
  added_next h m moves e is =
      let one = played_event h m e is in
      rw one (added_after h (step numbered (state_after c h) e).1 moves)

  pub added_all : (moves : List Move) → added_by c s [] moves ≡ played_from c s [] moves
  unfolding added_by
  added_all moves = refl
