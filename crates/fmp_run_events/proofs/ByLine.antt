-- A text that is read line by line without a fault is read so as a whole, too.
use Rattle.std.proofs.Common.{◌≡◌, ◌≢◌, ℕ, ◌+◌, Bool, true, false, List, [], ◌∷◌, ◌++◌, length, take, refl, ap, eqb, ltb, inl, inr}
use Rattle.std.specs.Prelude.{Option, Some, None, Result, Ok, Err}
use Rattle.std.proofs.lemmas.Bool.{cases_Bool, ltb-false}
use Rattle.std.proofs.lemmas.List.{take_all}
use Rattle.fmp_codes.specs.declared.records.Event.{Event}
use Rattle.fmp_names.specs.Names.{NameLists}
use Rattle.fmp_text.specs.declared.fault.TextKind.{TextKind}
use Rattle.fmp_text.specs.Events.{Reading, after_line, faultless, reading_by_line, reading_from, reading_of, with_event}
use Rattle.fmp_text.specs.Limits.{most_bytes, most_events}
use Rattle.fmp_text.specs.Lines.{line_event}

abbrev IsFaulty : Reading → Type 0
IsFaulty reading = reading.fault ≢ None

event_faulty : (line count : ℕ) (event : Event) (following : Reading) → IsFaulty following → IsFaulty (with_event line count event following)
event_faulty line count event following bad none =
    elim (cases_Bool (ltb count most_events)) [
      | inl room ↦ bad (rw room at none)
      | inr full ↦ let e = rw full at none in absurd cc
    ]

line_faulty : (line count : ℕ) (said : Result (Option Event) TextKind) (without following : Reading) → IsFaulty without → IsFaulty following
    → IsFaulty (after_line line count said without following)
line_faulty line count (Ok None) without following bad worse none = bad none
line_faulty line count (Ok (Some event)) without following bad worse none = event_faulty line count event following worse none
line_faulty line count (Err kind) without following bad worse none = absurd cc

-- a text that went on past its limit has a fault
cut_faulty : (names : NameLists) (lines count : ℕ) (begun bytes : List ℕ) → IsFaulty (reading_from names true lines count begun bytes)
unfolding reading_from
cut_faulty names lines count begun [] none = absurd cc
cut_faulty names lines count begun (byte ∷ bytes) none =
    elim (cases_Bool (eqb byte 10)) [
      | inl feed ↦
          line_faulty (lines + 1) count (line_event names begun) _ _ (cut_faulty names (lines + 1) count [] bytes) (cut_faulty names (lines + 1) (count + 1) [] bytes) (rw feed at none)
      | inr other ↦ cut_faulty names lines count (begun ++ byte ∷ []) bytes (rw other at none)
    ]

whole : (names : NameLists) (text : List ℕ) (events : List Event) (long : Bool) → ltb most_bytes (length text) ≡ long
    → reading_from names long 0 0 [] (take most_bytes text) ≡ faultless events → reading_of names text ≡ faultless events
unfolding reading_of
whole names text events true is e = absurd (cut_faulty names 0 0 [] (take most_bytes text) (ap (λ (r : Reading). r.fault) e))
whole names text events false is e =
    let all = take_all most_bytes text (ltb-false most_bytes (length text) is) in
    rw is (rw all at e)

pub whole_by_line : (names : NameLists) (text : List ℕ) (events : List Event) → reading_by_line names text ≡ faultless events → reading_of names text ≡ faultless events
unfolding reading_by_line
whole_by_line names text events e = whole names text events (ltb most_bytes (length text)) refl e

-- and the other way about
by_line : (names : NameLists) (text : List ℕ) (events : List Event) (long : Bool) → ltb most_bytes (length text) ≡ long
    → reading_of names text ≡ faultless events → reading_from names long 0 0 [] (take most_bytes text) ≡ faultless events
unfolding reading_of
by_line names text events true is e = let report = ap (λ (r : Reading). r.fault) (rw is at e) in absurd cc
by_line names text events false is e =
    let all = take_all most_bytes text (ltb-false most_bytes (length text) is) in
    rw all (rw is at e)

pub line_by_line : (names : NameLists) (text : List ℕ) (events : List Event) → reading_of names text ≡ faultless events → reading_by_line names text ≡ faultless events
unfolding reading_by_line
line_by_line names text events e = by_line names text events (ltb most_bytes (length text)) refl e
