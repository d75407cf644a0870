-- The first fault of a text that is too long is that of its prefix, so no more of it need be read.
use Rattle.std.proofs.Common.{◌≡◌, ℕ, ◌<◌, ◌≤◌, Bool, true, false, nat_lt, List, [], ◌++◌, length, Err, refl, sym, ap, subst, ◌∙◌, inl, inr, arith, append-nil, length-append}
use Rattle.std.proofs.lemmas.Bool.{lt-ltb, ltb-true, ltb-false}
use Rattle.fmp_config_statements.specs.declared.fault.ConfigKind.TheVariants.{TooMany}
use Rattle.fmp_config_statements.specs.Faults.{Fault, fault_of_line}
use Rattle.fmp_config.specs.declared.fault.ConfigFault.{ConfigFault}
use Rattle.fmp_config.specs.Limits.{most_bytes}
use Rattle.fmp_config.specs.Faults.{FaultIs, IsFirstFault, IsReported}
use Rattle.fmp_config.specs.Reading.{config_in}

refused : (text : List ℕ) → most_bytes < length text → config_in text ≡ Err (fault_of_line TooMany 0)
unfolding config_in
refused text long = let test = lt-ltb most_bytes (length text) long in rw test refl

module _ (all text rest : List ℕ) (split : all ≡ text ++ rest) (whole : length text ≤ most_bytes → rest ≡ []) (report : ConfigFault) where
  long_prefix : most_bytes < length text → FaultIs report (config_in text) → FaultIs report (config_in all)
  long_prefix long (fault, gives, is) =
      let same : fault ≡ fault_of_line TooMany 0 = let e = refused text long in cc in
      let longer : most_bytes < length all = rw split (omega (arith, long, length-append text rest)) in
      (fault_of_line TooMany 0, refused all longer, subst (λ (f : Fault). IsReported report f) same is)

  same_text : length text ≤ most_bytes → text ≡ all
  same_text short = sym (split ∙ ap (λ (r : List ℕ). text ++ r) (whole short) ∙ append-nil text)

  by_length : (b : Bool) → nat_lt most_bytes (length text) ≡ b → FaultIs report (config_in text) → FaultIs report (config_in all)
  by_length true test is = long_prefix (ltb-true most_bytes (length text) test) is
  by_length false test is = subst (λ (t : List ℕ). FaultIs report (config_in t)) (same_text (ltb-false most_bytes (length text) test)) is

  -- the first fault of what was read of a text is that of the text, where all of it was read or too much
  pub IsFirstFault-prefix : IsFirstFault text report → IsFirstFault all report
  IsFirstFault-prefix (inl is) = inl (by_length (nat_lt most_bytes (length text)) refl is)
  IsFirstFault-prefix (inr memory) = inr memory
