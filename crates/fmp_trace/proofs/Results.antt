-- What reading gives, as a result that may also be want of memory.
use Rattle.std.proofs.Common.{◌⊎◌, ℕ, inl, inr, List, Result, Ok, Err, IfOk, IfErr, sym, ◌∙◌}
use Rattle.fmp_codes.specs.declared.records.Record.{Record}
use Rattle.fmp_text.specs.declared.fault.TextFault.{TextFault}
use Rattle.fmp_text.specs.Events.{IsMemory}
use Rattle.fmp_trace.specs.Reading.{GivesOrFails, Fails}
use Rattle.fmp_names.specs.Names.{NameLists, AreValid}
use Rattle.fmp_trace.specs.Prints.{PrintsWithin, FirstFault}
use Rattle.fmp_trace.specs.Reading.{records_in}
use Rattle.fmp_trace.proofs.ReadTexts.{read_prints, prints_read, fault_is_first}

first_or_memory : (names : NameLists) (text : List ℕ) (fault : TextFault) → AreValid names → Fails fault (records_in names text) → FirstFault names text fault ⊎ IsMemory fault
first_or_memory names text fault valid (inl e) = inl (fault_is_first names text fault valid e)
first_or_memory names text fault valid (inr memory) = inr memory

module _ {X : Type 0} (view : X → List Record) (names : NameLists) (text : List ℕ) (valid : AreValid names) where
  pub is_printed : (result : Result X TextFault) → GivesOrFails view result (records_in names text) → IfOk result (λ v. PrintsWithin names text (view v))
  is_printed (Ok v) e = read_prints names text (view v) valid e
  is_printed (Err fault) e = tt

  pub is_complete : (result : Result X TextFault) → GivesOrFails view result (records_in names text) → (records : List Record) → PrintsWithin names text records → GivesOrFails view result (Ok records)
  is_complete (Ok v) e records prints = sym (prints_read names text records valid prints) ∙ e
  is_complete (Err fault) (inl e) records prints = inl (sym (prints_read names text records valid prints) ∙ e)
  is_complete (Err fault) (inr memory) records prints = inr memory

  pub is_first : (result : Result X TextFault) → GivesOrFails view result (records_in names text) → IfErr result (λ fault. FirstFault names text fault ⊎ IsMemory fault)
  is_first (Ok v) e = tt
  is_first (Err fault) e = first_or_memory names text fault valid e
