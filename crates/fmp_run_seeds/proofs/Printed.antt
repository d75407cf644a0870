-- The lines of one record more.
use Rattle.std.proofs.Common.{◌≡◌, ◌∙◌, ℕ, ◌+◌, List, [], ◌∷◌, ◌++◌, length, ap, sym, arith, append_assoc}
use Rattle.std.proofs.lemmas.List.{append-nil}
use Rattle.fmp_codes.specs.declared.records.Record.{Record}
use Rattle.fmp_names.specs.Names.{NameLists}
use Rattle.fmp_trace.specs.Lines.{line_text, lines_from}

pub line_more : (names : NameLists) (n : ℕ) (h : List Record) (r : Record) → lines_from names n (h ++ r ∷ []) ≡ lines_from names n h ++ line_text names (n + length h) r
line_more names n [] r =
    let at : n ≡ n + 0 = omega arith in
    append-nil (line_text names n r) ∙ ap (λ (k : ℕ). line_text names k r) at
line_more names n (x ∷ h) r =
    let at : n + 1 + length h ≡ n + length (x ∷ h) = omega arith in
    ap (λ (l : List ℕ). line_text names n x ++ l) (line_more names (n + 1) h r)
    ∙ sym (append_assoc (line_text names n x) (lines_from names (n + 1) h) (line_text names (n + 1 + length h) r))
    ∙ ap (λ (k : ℕ). (line_text names n x ++ lines_from names (n + 1) h) ++ line_text names k r) at
