-- The verdict on a partial trace that was read up to its limit is the verdict on its text.
use Rattle.std.proofs.Common.{ℕ, List, subst, arith, inl, inr}
use Rattle.fmp_run_devices.specs.Devices.{ReadUpTo}
use Rattle.fmp_run_texts.proofs.JudgedTexts.{read_length, read_whole}
use Rattle.fmp_names.specs.Names.{NameLists}
use Rattle.fmp_text.specs.Limits.{most_bytes}
use Rattle.fmp_text.specs.declared.fault.TextFault.{TextFault}
use Rattle.fmp_run_partial.specs.Partials.{FirstFaultOfText, IsCrowded, IsFaultOfBody, IsFirstOfPartial}

-- the first fault of what was read of a partial trace is that of the trace
first_of_trace : (names : NameLists) (all text rest : List ℕ) (fault : TextFault) → ReadUpTo most_bytes all text rest → FirstFaultOfText names text fault → FirstFaultOfText names all fault
first_of_trace names all text rest fault read (inl (long, is)) = let short = read_length all text rest read in inl (omega (arith, long, short), is)
first_of_trace names all text rest fault read (inr (inl following)) = inr (inl (subst (λ (t : List ℕ). IsFaultOfBody names t fault) (read_whole all text rest read following.short) following))
first_of_trace names all text rest fault read (inr (inr crowded)) = inr (inr (subst (λ (t : List ℕ). IsCrowded names t fault) (read_whole all text rest read crowded.short) crowded))

pub first_or_memory : (names : NameLists) (all text rest : List ℕ) (fault : TextFault) → ReadUpTo most_bytes all text rest →
    IsFirstOfPartial names text fault → IsFirstOfPartial names all fault
first_or_memory names all text rest fault read (inl first) = inl (first_of_trace names all text rest fault read first)
first_or_memory names all text rest fault read (inr memory) = inr memory
