-- No line of a trace that is the machine's own differs.
use Rattle.std.proofs.Common.{◌≡◌, ℕ, ◌+◌, true, List, [], ◌∷◌, ◌++◌, refl, sym, ap, ◌∙◌}
use Rattle.std.specs.Str.{bytes_eq}
use Rattle.std.proofs.lemmas.List.{append_cancel_right}
use Rattle.std.proofs.lemmas.Slice.Eq.{bytes_eq-Decides}
use Rattle.fmp_bytes.specs.Bytes.{pieces_of}
use Rattle.fmp_codes.specs.declared.records.Record.{Record}
use Rattle.fmp_trace_check.specs.Checking.{cores_from, own_lines, own_text}
use Rattle.fmp_trace_check.specs.Differences.{differences, differences_from}
use Rattle.fmp_trace_check.proofs.CheckedTexts.{cores_pieces, report}
use Rattle.fmp_rules.specs.Boot.{booted}
use Rattle.fmp_names.specs.Names.{AreValid}
use Rattle.fmp_setup.specs.Setup.{Setup}
use Rattle.fmp_trace.specs.Prints.{PrintsWithin}

none_from : (n : ℕ) (lines : List (List ℕ)) → differences_from n lines lines ≡ []
none_from n [] = refl
none_from n (line ∷ lines) = let same : bytes_eq line line ≡ true = (bytes_eq-Decides line line).1 refl in rw same (none_from (n + 1) lines)

pub none_differs : (c : Setup) (text : List ℕ) (records : List Record) → AreValid c.names → PrintsWithin c.names text records → text ≡ own_text c records → differences c records ≡ []
none_differs c text records valid prints own =
    let given : pieces_of 10 text ≡ cores_from c.names 1 records ++ [] ∷ [] = ap (pieces_of 10) prints.prints.lines ∙ cores_pieces c.names 1 records valid in
    let owned : pieces_of 10 text ≡ own_lines c records ++ [] ∷ [] = ap (pieces_of 10) own ∙ cores_pieces c.names 1 (report (booted c) records) valid in
    let same : cores_from c.names 1 records ≡ own_lines c records = append_cancel_right (cores_from c.names 1 records) (own_lines c records) ([] ∷ []) (sym given ∙ owned) in
    ap (λ (lines : List (List ℕ)). differences_from 1 lines (own_lines c records)) same ∙ none_from 1 (own_lines c records)
