-- What a comment passes over leaves what is read as it is.
use Rattle.std.proofs.Common.{◌≡◌, ◌≢◌, ℕ, zero, suc, ◌-◌, ◌<◌, ◌≤◌, true, List, [], ◌∷◌, length, take, drop, slice_index, refl, ap, ◌∙◌, sym, arith}
use Rattle.std.proofs.lemmas.Bool.{ne_eqb}
use Rattle.fmp_bytes.proofs.Cutting.{take-to_end}
use Rattle.memchr.specs.Find.{is_byte2}
use Rattle.fmp_config_statements.specs.declared.modes.Mode.{Mode}
use Rattle.fmp_config_statements.specs.declared.modes.Mode.TheVariants as modes
use Rattle.fmp_config_statements.specs.declared.modes.Place.{Place}
use Rattle.fmp_config_statements.specs.declared.modes.Place.TheVariants as places
use Rattle.fmp_config_statements.specs.declared.modes.Step.TheVariants.{Pass}
use Rattle.fmp_config_statements.specs.Steps.{step_of, in_line_comment, line_after}
use Rattle.fmp_config_statements.specs.Lexing.{lexed}

-- a byte that leaves what stands before it, and the line, as they are
abbrev pub IsQuiet : Mode → ℕ → Type 0
IsQuiet mode b = (line : ℕ) (rest : List ℕ) → (Pass mode ≡ step_of mode line b rest) × (line_after line b ≡ line)

passed_over : (mode : Mode) (line : ℕ) (bytes : List ℕ) (n : ℕ) → n ≤ length bytes → ((j : ℕ) → j < n → IsQuiet mode (slice_index bytes j)) → lexed mode line bytes ≡ lexed mode line (drop n bytes)
unfolding lexed
passed_over mode line bytes zero few quiet = refl
passed_over mode line [] (suc n) few quiet = absurd (omega (arith, few))
passed_over mode line (b ∷ bytes) (suc n) few quiet =
    let first = quiet 0 (omega arith) line bytes in
    let one : lexed mode line (b ∷ bytes) ≡ lexed mode line bytes = rw (← first.0, first.1) refl in
    one ∙ passed_over mode line bytes n (omega (arith, few)) (λ j low. quiet (suc j) (omega (arith, low)))

line_quiet : (place : Place) (b : ℕ) → b ≢ 10 → b ≢ 92 → IsQuiet (modes.LineComment place) b
unfolding step_of in_line_comment
line_quiet places.LineStart b feed back line rest = (rw (ne_eqb b 10 feed) refl, rw (ne_eqb b 10 feed) refl)
line_quiet places.Code b feed back line rest = (rw (ne_eqb b 10 feed) refl, rw (ne_eqb b 10 feed) refl)
line_quiet places.Directive b feed back line rest = (rw (ne_eqb b 10 feed, ne_eqb b 92 back) refl, rw (ne_eqb b 10 feed) refl)

block_quiet : (place : Place) (began b : ℕ) → b ≢ 10 → b ≢ 42 → IsQuiet (modes.Block place began) b
unfolding step_of
block_quiet place began b feed star line rest = (rw (ne_eqb b 42 star) refl, rw (ne_eqb b 10 feed) refl)

-- neither of two bytes stands below a place
abbrev IsClear : ℕ → ℕ → List ℕ → ℕ → Type 0
IsClear a b bytes n = (j : ℕ) → 0 ≤ j → j < n → is_byte2 a b (slice_index bytes j) ≡ true → ⊥

not_first : (a b : ℕ) (bytes : List ℕ) (n j : ℕ) → IsClear a b bytes n → j < n → is_byte2 a b a ≡ true → slice_index bytes j ≢ a
not_first a b bytes n j clear low is e = clear j (omega arith) low (ap (is_byte2 a b) e ∙ is)

not_second : (a b : ℕ) (bytes : List ℕ) (n j : ℕ) → IsClear a b bytes n → j < n → is_byte2 a b b ≡ true → slice_index bytes j ≢ b
not_second a b bytes n j clear low is e = clear j (omega arith) low (ap (is_byte2 a b) e ∙ is)

pub past_line : (place : Place) (line : ℕ) (bytes : List ℕ) (n : ℕ) → n ≤ length bytes → IsClear 10 92 bytes n
    → lexed (modes.LineComment place) line bytes ≡ lexed (modes.LineComment place) line (take (length bytes - n) (drop n bytes))
past_line place line bytes n few clear =
    passed_over (modes.LineComment place) line bytes n few
    (λ j low. line_quiet place (slice_index bytes j) (not_first 10 92 bytes n j clear low refl) (not_second 10 92 bytes n j clear low refl)) ∙ ap (lexed (modes.LineComment place) line) (sym (take-to_end bytes n))

pub past_star : (place : Place) (began line : ℕ) (bytes : List ℕ) (n : ℕ) → n ≤ length bytes → IsClear 10 42 bytes n
    → lexed (modes.Block place began) line bytes ≡ lexed (modes.Block place began) line (take (length bytes - n) (drop n bytes))
past_star place began line bytes n few clear =
    passed_over (modes.Block place began) line bytes n few
    (λ j low. block_quiet place began (slice_index bytes j) (not_first 10 42 bytes n j clear low refl) (not_second 10 42 bytes n j clear low refl)) ∙ ap (lexed (modes.Block place began) line) (sym (take-to_end bytes n))
