-- What holds of the event of every line holds of every event that a scan finds.
use Rattle.std.proofs.Common.{◌≡◌, ℕ, ◌+◌, ◌==◌, Bool, true, false, List, [], ◌∷◌, ◌++◌, Option, Some, None, Result, Ok, Err, refl, subst}
use Rattle.std.specs.Prelude.{All, IfOk, IfSome, nat_lt, if◌then◌else◌}
use Rattle.std.proofs.lemmas.List.Elements.{All-cons, All-head, All-nil}
use Rattle.fmp_codes.specs.declared.records.Event.{Event}
use Rattle.fmp_names.specs.Names.{NameLists}
use Rattle.fmp_text.specs.declared.fault.TextKind.{TextKind}
use Rattle.fmp_text.specs.declared.scan.Scan.{Scan}
use Rattle.fmp_text.specs.Limits.{most_events}
use Rattle.fmp_text.specs.Lines.{is_skipped, line_event}
use Rattle.fmp_text.specs.Events.{Reading, ScansTo, after_line, at_end, reading_from, with_event}

module _ (names : NameLists) (P : Event → Type 0) (one : (line : List ℕ) (event : Event) → line_event names line ≡ Ok (Some event) → P event) where
  end_all : (cut skipped : Bool) (line : ℕ) (last : List ℕ) → is_skipped last ≡ skipped → All P (at_end cut line last).events
  end_all true skipped line last is = All-nil P
  end_all false true line last is = rw is (All-nil P)
  end_all false false line last is = rw is (All-nil P)

  event_all : (room : Bool) (line count : ℕ) (event : Event) (rest : Reading) → nat_lt count most_events ≡ room → P event → All P rest.events → All P (with_event line count event rest).events
  event_all true line count event rest is here following = rw is (All-cons P event rest.events here following)
  event_all false line count event rest is here following = rw is (All-nil P)

  line_all : (line count : ℕ) (said : Result (Option Event) TextKind) (without following : Reading) → ((event : Event) → said ≡ Ok (Some event) → P event) → All P without.events → All P following.events
      → All P (after_line line count said without following).events
  line_all line count (Ok None) without following here w b = w
  line_all line count (Ok (Some event)) without following here w b = event_all (nat_lt count most_events) line count event following refl (here event refl) b
  line_all line count (Err kind) without following here w b = All-nil P

  either_all : (test : Bool) (left right : Reading) → All P left.events → All P right.events → All P (if test then left else right).events
  either_all true left right a b = a
  either_all false left right a b = b

  reading_all : (cut : Bool) (lines count : ℕ) (begun bytes : List ℕ) → All P (reading_from names cut lines count begun bytes).events
  unfolding reading_from
  reading_all cut lines count begun [] = end_all cut (is_skipped begun) (lines + 1) begun refl
  reading_all cut lines count begun (byte ∷ bytes) = either_all (byte == 10) _ _
      (line_all (lines + 1) count (line_event names begun) _ _ (one begun) (reading_all cut (lines + 1) count [] bytes) (reading_all cut (lines + 1) (count + 1) [] bytes))
      (reading_all cut lines count (begun ++ byte ∷ []) bytes)

  pub scan_fits : (lines : ℕ) (bytes : List ℕ) (scan : Scan) → ScansTo names lines bytes scan → IfOk scan.said (λ found. IfSome found P)
  scan_fits lines bytes scan scans = go scan.said refl
    where
      go : (said : Result (Option Event) TextKind) → scan.said ≡ said → IfOk said (λ found. IfSome found P)
      go (Ok (Some event)) is =
          let found = rw is at (scans false 0 []) in
          All-head P event _ (subst (λ (r : Reading). All P r.events) found (reading_all false lines 0 [] (bytes ++ [])))
      go (Ok None) is = tt
      go (Err kind) is = tt
