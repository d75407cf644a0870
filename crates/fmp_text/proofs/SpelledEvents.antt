-- An event's line is read exactly where it is spelled.
use Rattle.std.proofs.Common.{◌≡◌, ℕ, ◌+◌, ◌<◌, ◌≤◌, ◌^◌, Bool, true, false, not, ◌&&◌, cond, leb, inl, inr, List, [], ◌∷◌, ◌++◌, length, take, Option, Some, None, Result, Ok, Err, refl, sym, ap, subst, ◌∙◌, arith, decimal}
use Rattle.std.specs.Prelude.{codes}
use Rattle.std.specs.List.{list_all, prefix_len}
use Rattle.std.specs.Char.{is_digit}
use Rattle.std.specs.Option.{ok_or, option_map_or}
use Rattle.std.specs.Str.{bytes_eq}
use Rattle.std.proofs.lemmas.Bool.{cases_Bool, and_parts, and_from, le-leb, leb-true}
use Rattle.std.proofs.lemmas.Slice.Eq.{bytes_eq-Decides}
use Rattle.std.proofs.lemmas.Fmt.{decimal_is_IsNumeral, decimal-digits_value}
use Rattle.std.proofs.Math.Seq.{drop-append-add}
use Rattle.std.proofs.lemmas.Option.{cond_some}
use Rattle.fmp_codes.specs.Numbers.{as_proc}
use Rattle.fmp_codes.specs.declared.numbers.Proc.{Proc}
use Rattle.fmp_codes.specs.declared.records.Event.{Event}
use Rattle.fmp_codes.specs.declared.records.Event.TheVariants as events
use Rattle.fmp_bytes.specs.declared.classes.Class.TheVariants.{Blank, Word, Line}
use Rattle.fmp_bytes.specs.Bytes.{is_of, prefix, after, following}
use Rattle.fmp_bytes.specs.Numerals.{are_digits, is_zero_led, magnitude_of}
use Rattle.fmp_bytes.proofs.Prefixes.{prefix-append, prefix-after, after-stops, list_all-take_while, stops-cons, stops-all, list_all-weaker, list_all-both}
use Rattle.fmp_bytes.proofs.Included.{line-argument, argument-word, not_word-blank, word-digit}
use Rattle.fmp_bytes.proofs.Spelled.{own, after_is, following-same, list_all-digits, are_digits-from, digits_from, not_zero_led, zero_alone, decimal_alone, magnitude_of-small, magnitude_of-some}
use Rattle.fmp_text.specs.declared.fault.TextKind.{TextKind}
use Rattle.fmp_text.specs.declared.fault.TextKind.TheVariants.{BadByte, BadWord, NumberOutOfRange, WrongArguments}
use Rattle.fmp_names.specs.Names.{NameLists, AreValid}
use Rattle.fmp_calls.specs.Table.{text_of}
use Rattle.fmp_text.specs.Reading.{call_at}
use Rattle.fmp_text.specs.Lines.{in_processors, digits_of, processor_numbered, processor_in, alone, event_of, event_at, event_in}
use Rattle.fmp_text.specs.Grammar.{AreBlank, SpellsCall}
use Rattle.fmp_text.specs.TextGrammar.{IsAlone, OnProcessor, SpellsEvent}
use Rattle.fmp_bytes.proofs.Tokens.{identifier_bytes}
use Rattle.fmp_calls.proofs.Matched.{no_tick, no_ipi, is_identifier-text_of}
use Rattle.fmp_bytes.proofs.Parsed.{ok_or_parts, tested_ok, bind_parts}
use Rattle.fmp_text.proofs.SpelledCalls.{not-word, call_at-spelled, call_at_is_spelled, word_of_call, line_of_call, blanks_in_line}

-- ---- the processor

-- what is known of a processor's word
pub record IsProcessorWord (names : NameLists) (word : List ℕ) (processor : Proc) : Type 0 where
  pub number : ℕ
  pub least : 1 ≤ number
  pub most : number ≤ names.processors
  pub is_number : processor ≡ as_proc number
  pub parts : word ≡ 80 ∷ decimal number

-- the digits of a decimal number
digits_are : (n : ℕ) → n < 2 ^ 64 → are_digits 10 (decimal n) ≡ true
digits_are n lt = let numeral = decimal_is_IsNumeral n lt in are_digits-from 10 (decimal n) numeral.0.0 numeral.0.1

word_bytes : (n : ℕ) → n < 2 ^ 64 → list_all (is_of Word) (80 ∷ decimal n) ≡ true
unfolding is_of
word_bytes n lt =
    let numeral = decimal_is_IsNumeral n lt in
    and_from (is_of Word 80) (list_all (is_of Word) (decimal n)) refl (list_all-weaker (λ b. is_digit b 10) (is_of Word) (λ b h. word-digit 10 b (omega arith) h) (decimal n) (list_all-digits 10 (decimal n) numeral.0.1))

pub processor_read : (names : NameLists) (n : ℕ) → 1 ≤ n → n ≤ names.processors → names.processors ≤ 8 → processor_in names (80 ∷ decimal n) ≡ Ok (as_proc n)
unfolding processor_in digits_of processor_numbered in_processors
processor_read names n least most few =
    let lt : n < 2 ^ 64 = omega (arith, most, few) in
    let digits = digits_are n lt in
    let led = not_zero_led (decimal n) (decimal_alone n lt) in
    let numeral = decimal_is_IsNumeral n lt in
    let size : magnitude_of 10 (decimal n) ≡ Some n = magnitude_of-small 10 (decimal n) (omega (arith, numeral.1, lt)) ∙ ap (λ (m : ℕ). Some m) numeral.1 in
    let low = le-leb 1 n least in let high = le-leb n names.processors most in
    rw (following-same 80 (decimal n), digits, led, size, low, high) refl

pub digits_parts : (word digits : List ℕ) (found : Option (List ℕ)) → following 80 word ≡ found → option_map_or (λ ds. cond (are_digits 10 ds) (Some ds) None) found None ≡ Some digits → (word ≡ 80 ∷ digits) × (are_digits 10 digits ≡ true)
digits_parts word digits None h e = absurd cc
digits_parts word digits (Some ds) h e =
    elim (cases_Bool (are_digits 10 ds)) [
      | inl t ↦ let e2 = rw t at e in let same : ds ≡ digits = cc in (after_is 80 word ds h ∙ ap (λ (d : List ℕ). 80 ∷ d) same, ap (are_digits 10) (sym same) ∙ t)
      | inr f ↦ let e2 = rw f at e in absurd cc
    ]

number_parts : (most : ℕ) (found : Option ℕ) (processor : Proc) → in_processors most found ≡ Some processor → (n : ℕ) × (found ≡ Some n) × (1 ≤ n) × (n ≤ most) × (processor ≡ as_proc n)
unfolding in_processors
number_parts most None processor e = absurd cc
number_parts most (Some n) processor e =
    let t = cond_some (leb 1 n && leb n most) (as_proc n) processor e in
    let p = and_parts (leb 1 n) (leb n most) t.0 in
    (n, refl, leb-true 1 n p.0, leb-true n most p.1, sym t.1)

zero_led_parts : (led : Bool) (read : Result Proc TextKind) (processor : Proc) → cond led (Err NumberOutOfRange) read ≡ Ok processor → (led ≡ false) × (read ≡ Ok processor)
zero_led_parts true read processor e = absurd cc
zero_led_parts false read processor e = (refl, e)

pub processor_spelled : (names : NameLists) (word : List ℕ) (processor : Proc) → processor_in names word ≡ Ok processor → IsProcessorWord names word processor
unfolding processor_in digits_of processor_numbered
processor_spelled names word processor e =
    let p = bind_parts (ok_or (digits_of word) BadWord) _ processor e in
    let d = digits_parts word p.0 (following 80 word) refl (ok_or_parts (digits_of word) BadWord p.0 p.1) in
    let z = zero_led_parts (is_zero_led p.0) (ok_or (processor_numbered names p.0) NumberOutOfRange) processor p.2 in
    let n = number_parts names.processors (magnitude_of 10 p.0) processor (ok_or_parts (processor_numbered names p.0) NumberOutOfRange processor z.1) in
    let m = magnitude_of-some 10 p.0 n.0 n.1 in
    let digits = digits_from 10 p.0 d.1 in
    let canonical = decimal-digits_value own p.0 digits.1 digits.0 (zero_alone p.0 digits.0 z.0) (omega (arith, m)) in
    record { number = n.0; least = n.2; most = n.3; is_number = n.4; parts = d.0 ∙ ap (λ (ds : List ℕ). 80 ∷ ds) (sym canonical ∙ ap decimal m.1) }

-- ---- what is spelled is read

prefix_len-more : (p : ℕ → Bool) (xs ys : List ℕ) → list_all p xs ≡ true → prefix_len p (xs ++ ys) ≡ length xs + prefix_len p ys
prefix_len-more p [] ys all = omega arith
prefix_len-more p (x ∷ xs) ys all =
    let parts = and_parts (p x) (list_all p xs) all in
    let first = parts.0 in
    rw first (omega (arith, prefix_len-more p xs ys parts.1))

-- blanks more in front are skipped with the others
after-blanks : (between rest : List ℕ) → AreBlank between → after Blank (between ++ rest) ≡ after Blank rest
after-blanks between rest blank = rw (prefix_len-more (is_of Blank) between rest blank) (drop-append-add between rest (prefix_len (is_of Blank) rest))

after-none : (text : List ℕ) → prefix_len (is_of Blank) text ≡ 0 → after Blank text ≡ text
after-none text none = rw none refl

pub blanks_stop : (between rest : List ℕ) → AreBlank between → 1 ≤ length between → prefix_len (is_of Word) (between ++ rest) ≡ 0
blanks_stop [] rest blank apart = absurd (omega (arith, apart))
blanks_stop (b ∷ between) rest blank apart = stops-cons (is_of Word) b (between ++ rest) (not_word-blank b (and_parts (is_of Blank b) (list_all (is_of Blank) between) blank).0)

pub line_of_words : (bytes : List ℕ) → list_all (is_of Word) bytes ≡ true → list_all (is_of Line) bytes ≡ true
line_of_words bytes words = list_all-weaker (is_of Word) (is_of Line) (λ b h. line-argument b (argument-word b h)) bytes words

module _ (names : NameLists) (processor : Proc) (Happens : List ℕ → Type 0) (text : List ℕ) (valid : AreValid names) (s : OnProcessor names processor Happens text) where
  small : s.number < 2 ^ 64
  small = omega (arith, s.most, valid.most)

  -- what follows the blanks before the processor
  skipped : after Blank text ≡ (80 ∷ decimal s.number) ++ (s.between ++ s.rest)
  unfolding is_of
  skipped = ap (after Blank) s.parts ∙ (prefix-append Blank s.before (80 ∷ (decimal s.number ++ (s.between ++ s.rest))) s.before_blank (stops-cons (is_of Blank) 80 (decimal s.number ++ (s.between ++ s.rest)) refl)).1

  line_of_event : list_all (is_of Line) s.rest ≡ true → list_all (is_of Line) text ≡ true
  line_of_event rest =
      let following = list_all-both (is_of Line) s.between s.rest (blanks_in_line s.between s.between_blank) rest in
      let word = list_all-both (is_of Line) (80 ∷ decimal s.number) (s.between ++ s.rest) (line_of_words (80 ∷ decimal s.number) (word_bytes s.number small)) following in
      ap (list_all (is_of Line)) s.parts ∙ list_all-both (is_of Line) s.before (80 ∷ (decimal s.number ++ (s.between ++ s.rest))) (blanks_in_line s.before s.before_blank) word

  on_processor_read : (event : Event) → list_all (is_of Line) s.rest ≡ true → event_of names processor (after Blank s.rest) ≡ Ok event → event_in names text ≡ Ok event
  unfolding event_in event_at
  on_processor_read event rest happens =
      let line = line_of_event rest in
      let whole = prefix-append Word (80 ∷ decimal s.number) (s.between ++ s.rest) (word_bytes s.number small) (blanks_stop s.between s.rest s.between_blank s.apart) in
      let word : prefix Word (after Blank text) ≡ 80 ∷ decimal s.number = ap (prefix Word) skipped ∙ whole.0 in
      let rest_is : after Blank (after Word (after Blank text)) ≡ after Blank s.rest = ap (λ (t : List ℕ). after Blank (after Word t)) skipped ∙ ap (after Blank) whole.1 ∙ after-blanks s.between s.rest s.between_blank in
      let read : processor_in names (prefix Word (after Blank text)) ≡ Ok processor = ap (processor_in names) word ∙ processor_read names s.number s.least s.most valid.most ∙ ap (λ (p : Proc). Ok p) (sym s.is_number) in
      rw (line, read, rest_is) happens

-- a word alone
alone_read : (word rest : List ℕ) (h : IsAlone word rest) → list_all (is_of Word) word ≡ true → prefix_len (is_of Blank) (word ++ h.following) ≡ 0 → (prefix Word (after Blank rest) ≡ word) × (after Word (after Blank rest) ≡ h.following) × (list_all (is_of Line) rest ≡ true)
alone_read word rest h words starts =
    let stop = stops-all (is_of Word) h.following (list_all-weaker (is_of Blank) (λ b. not (is_of Word b)) not-word h.following h.after_blank) in
    let whole = prefix-append Word word h.following words stop in
    let here : after Blank rest ≡ word ++ h.following = ap (after Blank) h.parts ∙ after-none (word ++ h.following) starts in
    (ap (prefix Word) here ∙ whole.0, ap (after Word) here ∙ whole.1, ap (list_all (is_of Line)) h.parts ∙ list_all-both (is_of Line) word h.following (line_of_words word words) (blanks_in_line h.following h.after_blank))

pub event_in-spelled : (names : NameLists) (text : List ℕ) (event : Event) → AreValid names → SpellsEvent names text event → event_in names text ≡ Ok event
unfolding event_of is_of
event_in-spelled names text (events.Tick processor) valid s =
    let a = alone_read (codes "tick") s.rest s.happens refl (stops-cons (is_of Blank) 116 (105 ∷ 99 ∷ 107 ∷ s.happens.following) refl) in
    let word = a.0 in let follows = a.1 in let blank = s.happens.after_blank in
    on_processor_read names processor (IsAlone (codes "tick")) text valid s (events.Tick processor) a.2 (rw (word, follows, blank) refl)
event_in-spelled names text (events.Ipi processor) valid s =
    let a = alone_read (codes "ipi") s.rest s.happens refl (stops-cons (is_of Blank) 105 (112 ∷ 105 ∷ s.happens.following) refl) in
    let word = a.0 in let follows = a.1 in let blank = s.happens.after_blank in
    on_processor_read names processor (IsAlone (codes "ipi")) text valid s (events.Ipi processor) a.2 (rw (word, follows, blank) refl)
event_in-spelled names text (events.Call processor call) valid s =
    let word = word_of_call names s.rest call s.happens in
    let read = call_at-spelled names s.rest call valid s.happens in
    let tick = no_tick call in let ipi = no_ipi call in
    on_processor_read names processor (λ rest. SpellsCall names rest call) text valid s (events.Call processor call) (line_of_call names s.rest call valid s.happens) (rw (word, tick, ipi, read) refl)

-- ---- what is read is spelled

-- the rest after the processor's word, where it begins with a word, has a blank before it
no_blank : (t between : List ℕ) → 1 ≤ length (prefix Word (after Blank (after Word t))) → prefix Blank (after Word t) ≡ between → 1 ≤ length between
no_blank t [] word e =
    let same : after Blank (after Word t) ≡ after Word t = ap (λ (f : List ℕ). f ++ after Blank (after Word t)) (sym e) ∙ prefix-after Blank (after Word t) in
    let none : prefix_len (is_of Word) (after Blank (after Word t)) ≡ 0 = ap (prefix_len (is_of Word)) same ∙ after-stops Word t in
    let empty : prefix Word (after Blank (after Word t)) ≡ [] = ap (λ (n : ℕ). take n (after Blank (after Word t))) none in
    absurd (omega (arith, word, ap length empty))
no_blank t (b ∷ between) word e = omega arith

pub blank_between : (t : List ℕ) → 1 ≤ length (prefix Word (after Blank (after Word t))) → 1 ≤ length (prefix Blank (after Word t))
blank_between t word = no_blank t (prefix Blank (after Word t)) word refl

on_processor_spelled : (names : NameLists) (text : List ℕ) (processor : Proc) (Happens : List ℕ → Type 0) → processor_in names (prefix Word (after Blank text)) ≡ Ok processor
    → Happens (after Blank (after Word (after Blank text))) → 1 ≤ length (prefix Word (after Blank (after Word (after Blank text)))) → OnProcessor names processor Happens text
on_processor_spelled names text processor Happens read happens word =
    let w = processor_spelled names (prefix Word (after Blank text)) processor read in
    let t : List ℕ = after Blank text in
    let whole : text ≡ prefix Blank text ++ (80 ∷ (decimal w.number ++ (prefix Blank (after Word (after Blank text)) ++ after Blank (after Word (after Blank text))))) =
    sym (prefix-after Blank text) ∙ ap (λ (r : List ℕ). prefix Blank text ++ r) (sym (prefix-after Word (after Blank text)) ∙ ap (λ (f : List ℕ). f ++ after Word (after Blank text)) w.parts ∙ ap (λ (r : List ℕ). (80 ∷ decimal w.number) ++ r) (sym (prefix-after Blank (after Word (after Blank text))))) in
    record {
      before = prefix Blank text;
      number = w.number;
      between = prefix Blank (after Word (after Blank text));
      rest = after Blank (after Word (after Blank text));
      before_blank = list_all-take_while (is_of Blank) text;
      least = w.least;
      most = w.most;
      is_number = w.is_number;
      apart = blank_between (after Blank text) word;
      between_blank = list_all-take_while (is_of Blank) (after Word (after Blank text));
      happens = happens;
      parts = whole;
    }

-- a word with blanks after it
alone_spelled : (word text : List ℕ) (event found : Event) → bytes_eq (prefix Word text) word ≡ true → alone event (after Word text) ≡ Ok found → IsAlone word text × (event ≡ found) × (length (prefix Word text) ≡ length word)
alone_spelled word text event found e read =
    let same = (bytes_eq-Decides (prefix Word text) word).0 e in
    let t = tested_ok (list_all (is_of Blank) (after Word text)) (Ok event) WrongArguments found read in
    let is_found : event ≡ found = let e2 = t.1 in cc in
    (record { following = after Word text; after_blank = t.0; parts = sym (prefix-after Word text) ∙ ap (λ (f : List ℕ). f ++ after Word text) same }, is_found, ap length same)

happens_spelled : (names : NameLists) (text : List ℕ) (processor : Proc) (event : Event) → processor_in names (prefix Word (after Blank text)) ≡ Ok processor
    → event_of names processor (after Blank (after Word (after Blank text))) ≡ Ok event → SpellsEvent names text event
unfolding event_of
happens_spelled names text processor event read e =
    let rest : List ℕ = after Blank (after Word (after Blank text)) in
    elim (cases_Bool (bytes_eq (prefix Word (after Blank (after Word (after Blank text)))) (codes "tick"))) [
      | inl t ↦
          let a = alone_spelled (codes "tick") (after Blank (after Word (after Blank text))) (events.Tick processor) event t (rw t at e) in
          subst (SpellsEvent names text) a.1 (on_processor_spelled names text processor (IsAlone (codes "tick")) read a.0 (omega (arith, a.2)))
      | inr f ↦
          elim (cases_Bool (bytes_eq (prefix Word (after Blank (after Word (after Blank text)))) (codes "ipi"))) [
            | inl t ↦
                let a = alone_spelled (codes "ipi") (after Blank (after Word (after Blank text))) (events.Ipi processor) event t (rw (f, t) at e) in
                subst (SpellsEvent names text) a.1 (on_processor_spelled names text processor (IsAlone (codes "ipi")) read a.0 (omega (arith, a.2)))
            | inr g ↦
                let b = bind_parts (call_at names (after Blank (after Word (after Blank text)))) (λ call. Ok (events.Call processor call)) event (rw (f, g) at e) in
                let same : events.Call processor b.0 ≡ event = let e2 = b.2 in cc in
                let here = after-none (after Blank (after Word (after Blank text))) (after-stops Blank (after Word (after Blank text))) in
                let spelled = call_at_is_spelled names (after Blank (after Word (after Blank text))) b.0 (ap (call_at names) here ∙ b.1) in
                let word : prefix Word (after Blank (after Word (after Blank text))) ≡ text_of b.0 = ap (prefix Word) (sym here) ∙ word_of_call names (after Blank (after Word (after Blank text))) b.0 spelled in
                subst (SpellsEvent names text) same (on_processor_spelled names text processor (λ r. SpellsCall names r b.0) read spelled (omega (arith, ap length word, (identifier_bytes (text_of b.0) (is_identifier-text_of b.0)).0)))
          ]
    ]

pub event_is_spelled : (names : NameLists) (text : List ℕ) (event : Event) → event_in names text ≡ Ok event → SpellsEvent names text event
unfolding event_in event_at
event_is_spelled names text event e =
    let t = tested_ok (list_all (is_of Line) text) _ BadByte event e in
    let p = bind_parts (processor_in names (prefix Word (after Blank text))) (λ processor. event_of names processor (after Blank (after Word (after Blank text)))) event t.1 in
    happens_spelled names text p.0 event p.1 p.2

-- an event's line holds only the bytes of lines
pub line_of_spelled : (names : NameLists) (text : List ℕ) (event : Event) → AreValid names → SpellsEvent names text event → list_all (is_of Line) text ≡ true
unfolding event_in
line_of_spelled names text event valid s = (tested_ok (list_all (is_of Line) text) _ BadByte event (event_in-spelled names text event valid s)).0

-- and is not to be skipped
pub event_begins : (names : NameLists) (text : List ℕ) (event : Event) → SpellsEvent names text event → (before : List ℕ) × (rest : List ℕ) × AreBlank before × (text ≡ before ++ (80 ∷ rest))
event_begins names text (events.Tick processor) s = (s.before, decimal s.number ++ (s.between ++ s.rest), s.before_blank, s.parts)
event_begins names text (events.Ipi processor) s = (s.before, decimal s.number ++ (s.between ++ s.rest), s.before_blank, s.parts)
event_begins names text (events.Call processor call) s = (s.before, decimal s.number ++ (s.between ++ s.rest), s.before_blank, s.parts)
