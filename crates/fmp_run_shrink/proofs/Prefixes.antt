-- A list of events past its limit is judged the same from any prefix that is past it too.
use Rattle.std.proofs.Common.{◌≡◌, ◌∙◌, ℕ, ◌<◌, ◌≤◌, Bool, true, false, List, [], ◌++◌, length, Option, Some, None, refl, ap, sym, arith, length-append}
use Rattle.std.specs.Prelude.{nat_lt}
use Rattle.std.proofs.lemmas.Bool.{lt-ltb, ltb-true, ltb-false}
use Rattle.std.proofs.lemmas.List.{append-nil}
use Rattle.fmp_codes.specs.declared.records.Event.{Event}
use Rattle.fmp_names.specs.Names.{NameLists}
use Rattle.fmp_text.specs.Events.{Reading, faultless, fault_at, reading_of}
use Rattle.fmp_text.specs.Limits.{most_bytes}
use Rattle.fmp_text.specs.declared.fault.TextKind.TheVariants as text_kind

-- past the limit there is the one fault
too_long : (names : NameLists) (text : List ℕ) → most_bytes < length text → reading_of names text ≡ fault_at text_kind.TooMany 0
unfolding reading_of
too_long names text long = rw (lt-ltb most_bytes (length text) long) refl

pub reading_of-prefix : (names : NameLists) (all text rest : List ℕ) → all ≡ text ++ rest → (length text ≤ most_bytes → rest ≡ []) →
    reading_of names all ≡ reading_of names text
reading_of-prefix names all text rest split whole = go (nat_lt most_bytes (length text)) refl
  where
    go : (b : Bool) → nat_lt most_bytes (length text) ≡ b → reading_of names all ≡ reading_of names text
    go true is =
        let long : most_bytes < length text = ltb-true most_bytes (length text) is in
        let longer : most_bytes < length all = rw (split, length-append) (omega arith) in
        too_long names all longer ∙ sym (too_long names text long)
    go false is = ap (reading_of names) (split ∙ ap (λ xs. text ++ xs) (whole (ltb-false most_bytes (length text) is)) ∙ append-nil text)

-- what is accepted is within the limit
pub reading_of-ok : (names : NameLists) (text : List ℕ) (events : List Event) → reading_of names text ≡ faultless events → length text ≤ most_bytes
unfolding reading_of
reading_of-ok names text events is = go (nat_lt most_bytes (length text)) refl
  where
    go : (b : Bool) → nat_lt most_bytes (length text) ≡ b → length text ≤ most_bytes
    go true long =
        let bad = rw long at is in
        let fault = ap (λ (r : Reading). r.fault) bad in
        cc
    go false short = ltb-false most_bytes (length text) short
