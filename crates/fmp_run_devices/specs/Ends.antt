-- What a contract sees of a device before and after some calls.
use Rattle.std.specs.Prelude.{ℕ, List, Option, Some}

-- a source: the bytes that it has left, where they are known, and how many of its calls have failed
pub record SourceEnd : Type 0 where
  pub left : Option (List ℕ)
  pub failures : ℕ

-- a sink: the bytes that were written to it, where they are known, those of them that it holds back, and how many of its calls have failed
pub record SinkEnd : Type 0 where
  pub written : Option (List ℕ)
  pub buffered : List ℕ
  pub failures : ℕ

-- a device before and after
pub record Ends (A : Type 0) : Type 0 where
  pub old : A
  pub new : A

-- a source before and after, by what its trait says of it
abbrev pub source_ends : {S : Type 0} → (S → Option (List ℕ)) → (S → ℕ) → S → S → Ends SourceEnd
source_ends left failures old new = record { old = record { left = left old; failures = failures old }; new = record { left = left new; failures = failures new } }

-- a source of which so much was to come, and so much still is
abbrev pub passing_ends : {S : Type 0} → List ℕ → List ℕ → (S → ℕ) → S → S → Ends SourceEnd
passing_ends all rest failures old new = record { old = record { left = Some all; failures = failures old }; new = record { left = Some rest; failures = failures new } }

-- a sink
abbrev pub sink_ends : {S : Type 0} → (S → Option (List ℕ)) → (S → List ℕ) → (S → ℕ) → S → S → Ends SinkEnd
sink_ends written buffered failures old new =
    record {
      old = record { written = written old; buffered = buffered old; failures = failures old };
      new = record { written = written new; buffered = buffered new; failures = failures new };
    }
