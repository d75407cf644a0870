-- The words at the head of a line.
use Rattle.std.proofs.Common.{◌≡◌, ℕ, ◌+◌, ◌-◌, ◌≤◌, true, false, not, List, [], ◌∷◌, length, take, drop, Option, Some, None, Bor, IfSome, eqb, refl, sym, ap, subst, ◌∙◌, arith}
use Rattle.std.specs.Prelude.{slice_index}
use Rattle.std.specs.List.{list_all}
use Rattle.std.specs.Option.{option_copied}
use Rattle.std.proofs.lemmas.Bool.{and_parts, ne_eqb}
use Rattle.std.proofs.lemmas.List.{take_all}
use Rattle.std.proofs.lemmas.Fmt.{decimal_digit}
use Rattle.fmp_codes.specs.declared.numbers.Proc.{Proc}
use Rattle.fmp_codes.specs.declared.records.Event.TheVariants as events
use Rattle.fmp_bytes.specs.Bytes.{following, cut_at, is_of}
use Rattle.fmp_bytes.proofs.Cutting.{pieces_of-cut, pieces_left, cut_at-append, cut_at-parts, apart-pieces_of}
use Rattle.fmp_bytes.proofs.Spelled.{after_is}
use Rattle.fmp_names.specs.Names.{NameLists}
use Rattle.fmp_text.specs.Lines.{processor_numbered}
use Rattle.fmp_trace.specs.Heads.{event_at, event_of, event_on}
use Rattle.fmp_trace.proofs.GuessedValues.{processor_guessed}

-- the first byte and the others
pub head_tail : (text : List ℕ) → 1 ≤ length text → text ≡ slice_index text 0 ∷ take (length text - 1) (drop 1 text)
head_tail [] some = absurd (omega (arith, some))
head_tail (b ∷ bytes) some = ap (λ (r : List ℕ). b ∷ r) (sym (take_all (length (b ∷ bytes) - 1) bytes (omega arith)))

-- what follows a byte
pub after_some : (byte : ℕ) (text : List ℕ) (found : Option (Bor (List ℕ))) → option_copied found ≡ following byte text → IfSome found (λ rest. text ≡ byte ∷ rest.now)
after_some byte text (Some rest) e = after_is byte text rest.now (sym e)
after_some byte text None e = tt

-- what follows the first blank of a text follows it where the text begins with that blank, and where it begins with another byte
pub cut_here : (text rest : List ℕ) → text ≡ 32 ∷ rest → (cut_at 32 text).1 ≡ Some rest
cut_here text rest parts = ap (λ (t : List ℕ). (cut_at 32 t).1) parts ∙ ap (λ (cut : List ℕ × Option (List ℕ)). cut.1) (cut_at-append 32 [] rest refl)

-- nor is there any in what stands before it
apart : (text : List ℕ) → list_all (λ b. not (eqb b 32)) (cut_at 32 text).0 ≡ true
apart text = (and_parts (list_all (λ b. not (eqb b 32)) (cut_at 32 text).0) (list_all (list_all (λ b. not (eqb b 32))) (pieces_left 32 (cut_at 32 text).1))
    (subst (λ (pieces : List (List ℕ)). list_all (list_all (λ b. not (eqb b 32))) pieces ≡ true) (pieces_of-cut 32 text) (apart-pieces_of 32 text))).0

pub cut_after : (b : ℕ) (text more rest : List ℕ) → text ≡ b ∷ more → eqb b 32 ≡ false → (cut_at 32 more).1 ≡ Some rest → (cut_at 32 text).1 ≡ Some rest
cut_after b text more rest parts other cut =
    ap (λ (t : List ℕ). (cut_at 32 t).1) (parts ∙ ap (λ (t : List ℕ). b ∷ t) (cut_at-parts 32 more rest cut))
    ∙ ap (λ (cut : List ℕ × Option (List ℕ)). cut.1) (cut_at-append 32 (b ∷ (cut_at 32 more).0) rest (rw other (apart more)))

-- the processor of a digit
pub digit_processor : (names : NameLists) (p : Proc) (digit : ℕ) → digit ≡ 48 + p.number → p.number ≤ names.processors → processor_numbered names (digit ∷ []) ≡ Some p
digit_processor names p digit is most =
    let high = p.most in
    ap (λ (b : ℕ). processor_numbered names (b ∷ [])) is
    ∙ ap (processor_numbered names) (sym (decimal_digit p.number (omega (arith, high))))
    ∙ processor_guessed names p most

-- a processor of one digit, the word of the runner, and the event
pub headed : (names : NameLists) (p : Proc) (text first after_digit runner event : List ℕ) (digit : ℕ) → text ≡ 80 ∷ first → first ≡ digit ∷ after_digit → after_digit ≡ 32 ∷ runner
    → processor_numbered names (digit ∷ []) ≡ Some p → digit ≡ 48 + p.number → (cut_at 32 runner).1 ≡ Some event → event_on names text ≡ event_at names p event
unfolding event_on following
headed names p text first after_digit runner event digit is_text is_first is_after is_p is_digit cut =
    let other : eqb digit 32 ≡ false = ne_eqb digit 32 (λ e. omega (arith, e, is_digit)) in
    let whole : first ≡ digit ∷ 32 ∷ runner = is_first ∙ ap (λ (t : List ℕ). digit ∷ t) is_after in
    let parts : cut_at 32 first ≡ (digit ∷ [], Some runner) = ap (cut_at 32) whole ∙ cut_at-append 32 (digit ∷ []) runner (rw other refl) in
    rw (is_text, parts, is_p, cut) refl

-- a tick
pub ticks : (names : NameLists) (p : Proc) (text rest : List ℕ) → text ≡ 116 ∷ 105 ∷ 99 ∷ 107 ∷ 32 ∷ rest → event_at names p text ≡ Some (events.Tick p)
unfolding event_at is_of
ticks names p text rest parts = rw parts refl

-- the line after its number
pub lined : (names : NameLists) (line text : List ℕ) → (cut_at 32 line).1 ≡ Some text → event_of names line ≡ event_on names text
unfolding event_of
lined names line text cut = rw cut refl
