-- Guessing what the pieces of a line say one after the other, as a loop does.
use Rattle.std.proofs.Common.{◌≡◌, ℕ, List, [], ◌∷◌, ◌++◌, Option, Some, None, refl, sym, ◌∙◌}
use Rattle.fmp_codes.specs.declared.numbers.Proc.{Proc}
use Rattle.fmp_codes.specs.declared.records.Record.{Record}
use Rattle.fmp_bytes.specs.Bytes.{cut_at, pieces_of}
use Rattle.fmp_bytes.proofs.Cutting.{pieces_left, pieces_of-cut}
use Rattle.fmp_names.specs.Names.{NameLists}
use Rattle.fmp_trace.specs.Guess.{with_word, with_words}
use Rattle.fmp_trace.specs.GuessParts.{request_in, requests_in}

module _ (names : NameLists) (least : ℕ) (made : List Proc) (text : List ℕ) (total : Option (List Proc)) (so_far : requests_in names least made (pieces_of 44 text) ≡ total) where
  pub one_request : (p : Proc) → request_in names least (cut_at 44 text).0 ≡ Some p → requests_in names p.number (made ++ p ∷ []) (pieces_left 44 (cut_at 44 text).1) ≡ total
  one_request p here =
      let one : requests_in names least made (pieces_of 44 text) ≡ requests_in names p.number (made ++ p ∷ []) (pieces_left 44 (cut_at 44 text).1) = rw (pieces_of-cut 44 text, here) refl in
      sym one ∙ so_far

  pub no_request : request_in names least (cut_at 44 text).0 ≡ None → None ≡ total
  no_request here =
      let one : requests_in names least made (pieces_of 44 text) ≡ None = rw (pieces_of-cut 44 text, here) refl in
      sym one ∙ so_far

module _ (names : NameLists) (r : Record) (text : List ℕ) (total : Option Record) (so_far : with_words names r (pieces_of 32 text) ≡ total) where
  pub one_word : (next : Record) → with_word names r (cut_at 32 text).0 ≡ Some next → with_words names next (pieces_left 32 (cut_at 32 text).1) ≡ total
  one_word next here =
      let one : with_words names r (pieces_of 32 text) ≡ with_words names next (pieces_left 32 (cut_at 32 text).1) = rw (pieces_of-cut 32 text, here) refl in
      sym one ∙ so_far

  pub no_word : with_word names r (cut_at 32 text).0 ≡ None → None ≡ total
  no_word here =
      let one : with_words names r (pieces_of 32 text) ≡ None = rw (pieces_of-cut 32 text, here) refl in
      sym one ∙ so_far
