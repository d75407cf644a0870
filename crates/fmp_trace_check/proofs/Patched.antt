-- Replacing the lines that differ makes the machine's own lines.
use Rattle.std.proofs.Common.{◌≡◌, ℕ, ◌+◌, ◌≤◌, true, false, eqb, inl, inr, List, [], ◌∷◌, length, refl, sym, ap, ◌∙◌, arith}
use Rattle.std.specs.Prelude.{map}
use Rattle.std.specs.Str.{bytes_eq}
use Rattle.std.proofs.lemmas.Bool.{cases_Bool, eq-eqb, ne_eqb}
use Rattle.std.proofs.lemmas.Slice.Eq.{bytes_eq-Decides}
use Rattle.fmp_codes.specs.declared.records.Record.{Record}
use Rattle.fmp_rules.specs.Boot.{booted}
use Rattle.fmp_rules.proofs.Replays.{length-answers}
use Rattle.fmp_setup.specs.Setup.{Setup}
use Rattle.fmp_names.specs.Names.{NameLists}
use Rattle.fmp_trace_check.specs.Checking.{cores_from, own_lines}
use Rattle.fmp_trace_check.specs.Differences.{Difference, differences_from, differences, patched_from}
use Rattle.fmp_trace_check.proofs.CheckedTexts.{report}

-- the first difference among lines from line n on stands at n or after it
abbrev StartAt : ℕ → List Difference → Type 0
StartAt n [] = Unit {0}
StartAt n (d ∷ ds) = n ≤ d.number

start_before : (n : ℕ) (ds : List Difference) → StartAt (n + 1) ds → StartAt n ds
start_before n [] at = tt
start_before n (d ∷ ds) at = omega (arith, at)

starts : (n : ℕ) (lines others : List (List ℕ)) → StartAt n (differences_from n lines others)
starts n [] others = tt
starts n (line ∷ lines) [] = tt
starts n (line ∷ lines) (own ∷ others) =
    elim (cases_Bool (bytes_eq own line)) [
      | inl t ↦ rw t (start_before n (differences_from (n + 1) lines others) (starts (n + 1) lines others))
      | inr f ↦ rw f (omega arith)
    ]

-- a line before the first difference stays
stays : (n : ℕ) (ds : List Difference) (line : List ℕ) (lines : List (List ℕ)) → StartAt (n + 1) ds → patched_from n ds (line ∷ lines) ≡ line ∷ patched_from (n + 1) ds lines
stays n [] line [] at = refl
stays n [] line (next ∷ lines) at = refl
stays n (d ∷ ds) line lines at = let other : eqb d.number n ≡ false = ne_eqb d.number n (λ e. omega (arith, at, e)) in rw other refl

patched_lines : (n : ℕ) (lines others : List (List ℕ)) → length lines ≡ length others → patched_from n (differences_from n lines others) lines ≡ others
patched_lines n [] [] same = refl
patched_lines n [] (own ∷ others) same = absurd (omega (arith, same))
patched_lines n (line ∷ lines) [] same = absurd (omega (arith, same))
patched_lines n (line ∷ lines) (own ∷ others) same =
    let rest = patched_lines (n + 1) lines others (omega (arith, same)) in
    elim (cases_Bool (bytes_eq own line)) [
      | inl t ↦ rw t (stays n (differences_from (n + 1) lines others) line lines (starts (n + 1) lines others)
          ∙ ap (λ (l : List ℕ). l ∷ patched_from (n + 1) (differences_from (n + 1) lines others) lines) (sym ((bytes_eq-Decides own line).0 t)) ∙ ap (λ (ls : List (List ℕ)). own ∷ ls) rest)
      | inr f ↦ let here : eqb n n ≡ true = eq-eqb n n refl in rw (f, here) (ap (λ (ls : List (List ℕ)). own ∷ ls) rest)
    ]

length-cores : (names : NameLists) (n : ℕ) (rs : List Record) → length (cores_from names n rs) ≡ length rs
length-cores names n [] = refl
length-cores names n (r ∷ rs) = let rest = length-cores names (n + 1) rs in omega (arith, rest)

length-events : (rs : List Record) → length (map (λ (r : Record). r.event) rs) ≡ length rs
length-events [] = refl
length-events (r ∷ rs) = let rest = length-events rs in omega (arith, rest)

pub patched_own : (c : Setup) (records : List Record) → patched_from 1 (differences c records) (cores_from c.names 1 records) ≡ own_lines c records
patched_own c records =
    let many = length-cores c.names 1 records in
    let own = length-cores c.names 1 (report (booted c) records) in
    let answered = length-answers (booted c) (map (λ (r : Record). r.event) records) in
    let events = length-events records in
    patched_lines 1 (cores_from c.names 1 records) (own_lines c records) (many ∙ sym (own ∙ answered ∙ events))
