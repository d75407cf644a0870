-- The verdict on a trace that was read up to its limit is the verdict on its text.
use Rattle.std.proofs.Common.{◌≡◌, ◌∙◌, ◌⊎◌, ℕ, ◌≤◌, List, ◌++◌, length, Ok, Err, ap, sym, subst, arith, inl, inr, length-append}
use Rattle.std.proofs.lemmas.List.{append-nil}
use Rattle.fmp_names.specs.Names.{NameLists}
use Rattle.fmp_text.specs.Events.{IsMemory}
use Rattle.fmp_text.specs.Limits.{most_bytes}
use Rattle.fmp_text.specs.declared.fault.TextFault.{TextFault}
use Rattle.fmp_trace.specs.Prints.{FaultAfter, FirstFault}
use Rattle.fmp_run_devices.specs.Devices.{ReadUpTo}

-- a text that is not too long is read whole
pub read_whole : {limit : ℕ} (all text rest : List ℕ) → ReadUpTo limit all text rest → length text ≤ limit → text ≡ all
read_whole all text rest read short = sym (read.prefix ∙ ap (λ (xs : List ℕ). text ++ xs) (read.whole short) ∙ append-nil text)

-- what was read of a text is no longer than it
pub read_length : (all text rest : List ℕ) → ReadUpTo most_bytes all text rest → length text ≤ length all
read_length all text rest read = rw (read.prefix, length-append) (omega arith)

-- the first fault of what was read of a trace is that of the trace
pub first_of_trace : (names : NameLists) (all text rest : List ℕ) (fault : TextFault) → ReadUpTo most_bytes all text rest → FirstFault names text fault → FirstFault names all fault
first_of_trace names all text rest fault read (inl (long, is)) = let short = read_length all text rest read in inl (omega (arith, long, short), is)
first_of_trace names all text rest fault read (inr following) = inr (subst (λ (t : List ℕ). FaultAfter names t fault) (read_whole all text rest read following.short) following)

pub first_or_memory : (names : NameLists) (all text rest : List ℕ) (fault : TextFault) → ReadUpTo most_bytes all text rest →
    FirstFault names text fault ⊎ IsMemory fault → FirstFault names all fault ⊎ IsMemory fault
first_or_memory names all text rest fault read (inl first) = inl (first_of_trace names all text rest fault read first)
first_or_memory names all text rest fault read (inr memory) = inr memory

-- what gives a value or fails so has failed, where it is an error
pub has_failed : {A B : Type 0} (a : A) (b : B) (Fails : Type 0) → (Ok a ≡ Err b) ⊎ Fails → Fails
has_failed a b Fails (inl e) = absurd (let gives = e in cc)
has_failed a b Fails (inr fails) = fails
