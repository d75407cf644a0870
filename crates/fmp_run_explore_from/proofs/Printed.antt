-- What lines tell at the front of a text.
use Rattle.std.proofs.Common.{◌≡◌, ◌∙◌, ℕ, ◌+◌, ◌<◌, ◌^◌, List, [], ◌∷◌, ◌++◌, length, length-append, append_assoc, Option, Some, refl, ap, sym, arith}
use Rattle.fmp_bytes.specs.Bytes.{cut_at}
use Rattle.fmp_bytes.proofs.Cutting.{cut_at-append}
use Rattle.fmp_codes.specs.declared.records.Record.{Record}
use Rattle.fmp_names.specs.Names.{NameLists, AreValid}
use Rattle.fmp_trace.specs.Fits.{FitsNames, AllFit}
use Rattle.fmp_trace.specs.Guess.{guess}
use Rattle.fmp_trace.specs.Heads.{event_of}
use Rattle.fmp_trace.specs.Lines.{core_text, line_text, lines_from}
use Rattle.fmp_trace.proofs.GuessedLines.{line_guessed}
use Rattle.fmp_trace.proofs.Headed.{guess-event}
use Rattle.fmp_trace.proofs.ReadTexts.{lines-cons}
use Rattle.fmp_trace.proofs.Unended.{line_is}

-- the lines of records after those of others
pub lines-append : (names : NameLists) (n : ℕ) (a b : List Record) → lines_from names n (a ++ b) ≡ lines_from names n a ++ lines_from names (n + length a) b
lines-append names n [] b = let same : n ≡ n + 0 = omega arith in ap (λ (k : ℕ). lines_from names k b) same
lines-append names n (r ∷ a) b =
    let count : (n + 1) + length a ≡ n + length (r ∷ a) = omega arith in
    ap (λ (text : List ℕ). line_text names n r ++ text) (lines-append names (n + 1) a b ∙ ap (λ (k : ℕ). lines_from names (n + 1) a ++ lines_from names k b) count)
    ∙ sym (append_assoc (line_text names n r) (lines_from names (n + 1) a) (lines_from names (n + length (r ∷ a)) b))

-- the first line of a text that begins with it
pub line_cut : (names : NameLists) (n : ℕ) (r : Record) (text rest : List ℕ) → AreValid names → text ≡ line_text names n r ++ rest → cut_at 10 text ≡ (core_text names n r, Some rest)
line_cut names n r text rest valid is = ap (cut_at 10) (is ∙ lines-cons names n r rest) ∙ cut_at-append 10 (core_text names n r) rest (line_is names valid n r)

-- tells the event of its record
pub line_event : (names : NameLists) (n : ℕ) (r : Record) → AreValid names → n < 2 ^ 64 → FitsNames names r → event_of names (core_text names n r) ≡ Some r.event
line_event names n r valid small fits = guess-event names (core_text names n r) r (line_guessed names r valid fits n small)

-- what follows it is shorter
pub line_shorter : (names : NameLists) (n : ℕ) (r : Record) (text rest : List ℕ) → text ≡ line_text names n r ++ rest → length rest < length text
line_shorter names n r text rest is =
    let long = ap length (is ∙ lines-cons names n r rest) in
    omega (arith, long, length-append (core_text names n r) (10 ∷ rest))

-- two lines at the front of one text are of one record
pub same_line : (names : NameLists) (n : ℕ) (r s : Record) (rest other : List ℕ) → AreValid names → n < 2 ^ 64 → FitsNames names r → FitsNames names s
    → line_text names n r ++ rest ≡ line_text names n s ++ other → (r ≡ s) × (rest ≡ other)
same_line names n r s rest other valid small fr fs e =
    let both : ◌≡◌ {A = List ℕ × Option (List ℕ)} (core_text names n r, Some rest) (core_text names n s, Some other) =
    sym (line_cut names n r (line_text names n r ++ rest) rest valid refl) ∙ line_cut names n s (line_text names n r ++ rest) other valid e in
    let core : core_text names n r ≡ core_text names n s = ap (λ (p : List ℕ × Option (List ℕ)). p.0) both in
    let rest_some : ◌≡◌ {A = Option (List ℕ)} (Some rest) (Some other) = ap (λ (p : List ℕ × Option (List ℕ)). p.1) both in
    let found : ◌≡◌ {A = Option Record} (Some r) (Some s) = sym (line_guessed names r valid fr n small) ∙ ap (guess names) core ∙ line_guessed names s valid fs n small in
    let first : r ≡ s = cc in
    let following : rest ≡ other = cc in
    (first, following)

-- as many lines at the front of one text are of the same records
pub same_lines : (names : NameLists) (n : ℕ) (a b : List Record) (rest other : List ℕ) → AreValid names → AllFit names a → AllFit names b → n + length a < 2 ^ 64
    → length a ≡ length b → lines_from names n a ++ rest ≡ lines_from names n b ++ other → (a ≡ b) × (rest ≡ other)
same_lines names n [] [] rest other valid fa fb few long e = (refl, e)
same_lines names n [] (s ∷ b) rest other valid fa fb few long e = absurd (omega (arith, long))
same_lines names n (r ∷ a) [] rest other valid fa fb few long e = absurd (omega (arith, long))
same_lines names n (r ∷ a) (s ∷ b) rest other valid fa fb few long e =
    let laid : line_text names n r ++ (lines_from names (n + 1) a ++ rest) ≡ line_text names n s ++ (lines_from names (n + 1) b ++ other) =
    sym (append_assoc (line_text names n r) (lines_from names (n + 1) a) rest) ∙ e ∙ append_assoc (line_text names n s) (lines_from names (n + 1) b) other in
    let one = same_line names n r s (lines_from names (n + 1) a ++ rest) (lines_from names (n + 1) b ++ other) valid (omega (arith, few)) fa.0 fb.0 laid in
    let others = same_lines names (n + 1) a b rest other valid fa.1 fb.1 (omega (arith, few)) (omega (arith, long)) one.1 in
    let first = one.0 in
    let second = others.0 in
    (rw (first, second) refl, others.1)
