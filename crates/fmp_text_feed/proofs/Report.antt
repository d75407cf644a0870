-- No fault that the bytes of a text have is want of memory.
use Rattle.std.proofs.Common.{◌≡◌, ℕ, ◌+◌, Bool, true, false, eqb, inl, inr, List, [], ◌∷◌, ◌++◌, Option, Some, None, Result, Ok, Err, refl, ap, ◌∙◌}
use Rattle.std.specs.Prelude.{nat_lt, length, take}
use Rattle.std.proofs.lemmas.Bool.{cases_Bool}
use Rattle.fmp_codes.specs.declared.records.Event.{Event}
use Rattle.fmp_codes.specs.declared.kinds.ArgumentKind.{ArgumentKind}
use Rattle.fmp_names.specs.Names.{NameLists, AreValid}
use Rattle.fmp_text.specs.declared.fault.TextFault.{TextFault}
use Rattle.fmp_text.specs.declared.fault.TextKind.{TextKind}
use Rattle.fmp_text.specs.declared.fault.TextKind.TheVariants.{BadByte, BadWord, WrongArguments, NumberOutOfRange, CutShort, TooMany, Memory}
use Rattle.fmp_text.specs.EventFaults.{ArgumentsFault, CoreFault, HappeningFault}
use Rattle.fmp_text.specs.Events.{Reading, after_line, at_end, fault_at, reading_by_line, reading_from}
use Rattle.fmp_text.specs.Limits.{most_bytes, most_events}
use Rattle.fmp_text.specs.Lines.{is_skipped, line_event}
use Rattle.fmp_text.proofs.EventFaults.{event_fault}

arguments_never : (names : NameLists) (kinds : List ArgumentKind) (tokens : List (List ℕ)) → ArgumentsFault names kinds tokens Memory → ⊥
arguments_never names [] tokens s = s
arguments_never names (kind ∷ kinds) [] s = s
arguments_never names (kind ∷ kinds) (token ∷ tokens) (inl s) = s.1
arguments_never names (kind ∷ kinds) (token ∷ tokens) (inr s) = arguments_never names kinds tokens s.1

happening_never : (names : NameLists) (text : List ℕ) → HappeningFault names text Memory → ⊥
happening_never names text (inl s) = absurd (let e : Memory ≡ BadWord = s.0 in cc)
happening_never names text (inr (inl s)) = absurd (let e : Memory ≡ WrongArguments = s.0 in cc)
happening_never names text (inr (inr (call, word, inl s))) = absurd (let e : Memory ≡ WrongArguments = s.0 in cc)
happening_never names text (inr (inr (call, word, inr s))) = arguments_never names _ s.0 s.2

core_never : (names : NameLists) (text : List ℕ) → CoreFault names text Memory → ⊥
core_never names text (inl s) = absurd (let e : Memory ≡ BadByte = s.0 in cc)
core_never names text (inr (line, inl s)) = absurd (let e : Memory ≡ BadWord = s.0 in cc)
core_never names text (inr (line, inr (word, inl s))) = absurd (let e : Memory ≡ NumberOutOfRange = s.0 in cc)
core_never names text (inr (line, inr (word, inr (processor, s)))) = happening_never names _ s

-- the fault of a reading, if there is one, is no want of memory
abbrev IsReported : Reading → Type 0
IsReported reading = (fault : TextFault) → reading.fault ≡ Some fault → fault.kind ≡ Memory → ⊥

report_at : (kind : TextKind) (line : ℕ) → (kind ≡ Memory → ⊥) → IsReported (fault_at kind line)
report_at kind line never fault is memory = never (let same : record { kind = kind; line = line } ≡ fault = cc in ap (λ (f : TextFault). f.kind) same ∙ memory)

end_reported : (cut : Bool) (line : ℕ) (last : List ℕ) → IsReported (at_end cut line last)
end_reported true line last = report_at TooMany 0 (λ e. absurd cc)
end_reported false line last =
    elim (cases_Bool (is_skipped last)) [
      | inl t ↦ λ fault is memory. absurd (let none = rw t at is in cc)
      | inr f ↦ rw f (report_at CutShort line (λ e. absurd cc))
    ]

line_reported : (line count : ℕ) (said : Result (Option Event) TextKind) (without following : Reading) → ((kind : TextKind) → said ≡ Err kind → kind ≡ Memory → ⊥) → IsReported without → IsReported following
    → IsReported (after_line line count said without following)
line_reported line count (Ok None) without following never before after = before
line_reported line count (Ok (Some event)) without following never before after =
    elim (cases_Bool (nat_lt count most_events)) [
      | inl t ↦ rw t after
      | inr f ↦ rw f (report_at TooMany line (λ e. absurd cc))
    ]
line_reported line count (Err kind) without following never before after = report_at kind line (never kind refl)

module _ (names : NameLists) (valid : AreValid names) where
  said_reported : (line : List ℕ) (kind : TextKind) → line_event names line ≡ Err kind → kind ≡ Memory → ⊥
  said_reported line kind is memory = core_never names _ (event_fault names line Memory valid (is ∙ ap (λ (k : TextKind). Err k) memory)).1

  from_reported : (bytes : List ℕ) (cut : Bool) (lines count : ℕ) (begun : List ℕ) → IsReported (reading_from names cut lines count begun bytes)
  unfolding reading_from
  from_reported [] cut lines count begun = end_reported cut (lines + 1) begun
  from_reported (b ∷ bytes) cut lines count begun =
      elim (cases_Bool (eqb b 10)) [
        | inl t ↦ rw t (line_reported (lines + 1) count (line_event names begun) _ _ (said_reported begun) (from_reported bytes cut (lines + 1) count []) (from_reported bytes cut (lines + 1) (count + 1) []))
        | inr f ↦ rw f (from_reported bytes cut lines count (begun ++ b ∷ []))
      ]

  pub never_memory : (text : List ℕ) (fault : TextFault) → (reading_by_line names text).fault ≡ Some fault → fault.kind ≡ Memory → ⊥
  unfolding reading_by_line
  never_memory text = from_reported (take most_bytes text) (nat_lt most_bytes (length text)) 0 0 []
