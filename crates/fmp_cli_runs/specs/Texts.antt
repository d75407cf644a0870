-- What a run sees of its texts.
use Rattle.std.specs.Prelude.{ℕ, Bool, List, Option, Some}
use Rattle.fmp_run_devices.specs.Ends.{Ends, SourceEnd, source_ends}

-- a text that is read: the bytes that it has left, where they are known, how many of its calls have failed, what they handed over, and whether the last one
-- answered that there is no more
pub record TextEnd : Type 0 where
  pub left : Option (List ℕ)
  pub failures : ℕ
  pub given : List ℕ
  pub ended : Bool

-- a text before and after, by what its trait says of it
abbrev pub text_ends : {S : Type 0} → (S → Option (List ℕ)) → (S → ℕ) → (S → List ℕ) → (S → Bool) → S → S → Ends TextEnd
text_ends left failures given ended old new =
    record {
      old = record { left = left old; failures = failures old; given = given old; ended = ended old };
      new = record { left = left new; failures = failures new; given = given new; ended = ended new };
    }

-- the same, where nobody asks what was handed over
abbrev pub source_of : Ends TextEnd → Ends SourceEnd
source_of text = source_ends (λ (end : TextEnd). end.left) (λ (end : TextEnd). end.failures) text.old text.new

-- it holds of the ends of a text in memory that had these bytes: of its reads none had failed
abbrev pub OverBytes : List ℕ → (Ends SourceEnd → Type 0) → Type 0
OverBytes bytes Holds = (after : SourceEnd) × Holds (record { old = record { left = Some bytes; failures = 0 }; new = after })
