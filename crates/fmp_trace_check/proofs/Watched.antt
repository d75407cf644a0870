-- What a watcher is after the lines of a text is what it is after their events.
use Rattle.std.proofs.Common.{◌≡◌, ℕ, ◌+◌, ◌<◌, ◌^◌, List, [], ◌∷◌, length, map, Option, Some, None, refl, sym, ap, ◌∙◌, arith}
use Rattle.fmp_bytes.specs.Bytes.{cut_at, pieces_of}
use Rattle.fmp_bytes.proofs.Cutting.{pieces_of-cut}
use Rattle.fmp_codes.specs.declared.records.Event.{Event}
use Rattle.fmp_codes.specs.declared.records.Record.{Record}
use Rattle.fmp_rules.specs.Arrivals.{State, numbered}
use Rattle.fmp_rules.specs.Boot.{booted}
use Rattle.fmp_rules.specs.Step.{step}
use Rattle.fmp_names.specs.Names.{NameLists, AreValid}
use Rattle.fmp_setup.specs.Setup.{Setup}
use Rattle.fmp_trace.specs.Fits.{AllFit}
use Rattle.fmp_trace.specs.Heads.{event_of}
use Rattle.fmp_trace.specs.Lines.{core_text, lines_from}
use Rattle.fmp_trace.specs.Prints.{PrintsWithin}
use Rattle.fmp_trace.proofs.GuessedLines.{line_guessed}
use Rattle.fmp_trace.proofs.Headed.{guess-event}
use Rattle.fmp_trace.proofs.Numbered.{first_piece, only_piece}
use Rattle.fmp_trace.proofs.ReadTexts.{lines_pieces}
use Rattle.fmp_trace_check.specs.Walking.{following}
use Rattle.fmp_trace_check.specs.Watching.{Watches, watched_by, watched_from, watched_in, watched_one}

module _ {S : Type 0} (watch : Watches S) (names : NameLists) where
  watched_from-line : (w : State) (n : ℕ) (line rest : List ℕ) (s : S) → watched_from watch names w n (line ∷ pieces_of 10 rest) s
      ≡ watched_from watch names (following w (event_of names line)) (n + 1) (pieces_of 10 rest) (watched_one watch names w n (event_of names line) s)
  unfolding watched_from
  watched_from-line w n line rest s = rw (pieces_of-cut 10 rest) refl

  -- the first line that tells an event
  pub watched_after : (w : State) (n : ℕ) (text line rest : List ℕ) (e : Event) (s : S) → (cut_at 10 text).0 ≡ line → (cut_at 10 text).1 ≡ Some rest → event_of names line ≡ Some e
      → watched_from watch names w n (pieces_of 10 text) s ≡ watched_from watch names (step numbered w e).0 (n + 1) (pieces_of 10 rest) (watch s names n (step numbered w e).1 (step numbered w e).0)
  watched_after w n text line rest e s is_line cut report =
      ap (λ (lines : List (List ℕ)). watched_from watch names w n lines s) (first_piece text line rest is_line cut)
      ∙ watched_from-line w n line rest s
      ∙ ap (λ (t : Option Event). watched_from watch names (following w t) (n + 1) (pieces_of 10 rest) (watched_one watch names w n t s)) report

  pub watched_nowhere : (w : State) (n : ℕ) (text : List ℕ) (s : S) → (cut_at 10 text).1 ≡ None → watched_from watch names w n (pieces_of 10 text) s ≡ s
  unfolding watched_from
  watched_nowhere w n text s none = rw (only_piece text none) refl

  watched_none : (w : State) (n : ℕ) (s : S) → watched_from watch names w n (pieces_of 10 []) s ≡ watched_by watch names w n [] s
  unfolding watched_from watched_by pieces_of
  watched_none w n s = refl

  watched_by-cons : (w : State) (n : ℕ) (e : Event) (es : List Event) (s : S) → watched_by watch names w n (e ∷ es) s ≡ watched_by watch names (step numbered w e).0 (n + 1) es (watch s names n (step numbered w e).1 (step numbered w e).0)
  unfolding watched_by
  watched_by-cons w n e es s = refl

  watched_lines : AreValid names → (w : State) (n : ℕ) (rs : List Record) (s : S) → AllFit names rs → n + length rs < 2 ^ 64
      → watched_from watch names w n (pieces_of 10 (lines_from names n rs)) s ≡ watched_by watch names w n (map (λ r. r.event) rs) s
  watched_lines valid w n [] s fit few = watched_none w n s
  watched_lines valid w n (r ∷ rs) s fit few =
      let small : n < 2 ^ 64 = omega (arith, few) in
      let report : event_of names (core_text names n r) ≡ Some r.event = guess-event names (core_text names n r) r (line_guessed names r valid fit.0 n small) in
      let after = (step numbered w r.event).0 in
      ap (λ (lines : List (List ℕ)). watched_from watch names w n lines s) (lines_pieces names n r rs valid)
      ∙ watched_from-line w n (core_text names n r) (lines_from names (n + 1) rs) s
      ∙ ap (λ (t : Option Event). watched_from watch names (following w t) (n + 1) (pieces_of 10 (lines_from names (n + 1) rs)) (watched_one watch names w n t s)) report
      ∙ watched_lines valid after (n + 1) rs (watch s names n (step numbered w r.event).1 after) fit.1 (omega (arith, few))
      ∙ sym (watched_by-cons w n r.event (map (λ x. x.event) rs) s)

-- of a text that prints records
pub watched_text : {S : Type 0} (watch : Watches S) (c : Setup) (text : List ℕ) (records : List Record) (s : S) → AreValid c.names → PrintsWithin c.names text records
    → watched_in watch c text s ≡ watched_by watch c.names (booted c) 1 (map (λ r. r.event) records) s
watched_text watch c text records s valid prints =
    let few = prints.few in
    ap (λ (t : List ℕ). watched_in watch c t s) prints.prints.lines ∙ watched_lines watch c.names valid (booted c) 1 records s prints.prints.fit (omega (arith, few))
