-- A line of a script text is read exactly where it is spelled.
use Rattle.std.proofs.Common.{◌≡◌, ◌≢◌, ℕ, ℤ, ◌≤◌, ◌^◌, ◌==◌, Bool, true, false, not, ◌&&◌, ◌||◌, get_or, slice_index, eqb, ltb, ◌⊎◌, inl, inr, List, [], ◌∷◌, ◌++◌, length, Option, Some, None, Result, Ok, Err, cond, refl, sym, ap, subst, ◌∙◌, ◌-◌, leb, arith, append_assoc, length-append}
use Rattle.std.specs.Prelude.{codes}
use Rattle.std.specs.List.{list_all, prefix_len}
use Rattle.std.specs.Option.{ok_or}
use Rattle.std.specs.Str.{bytes_eq}
use Rattle.std.proofs.lemmas.Bool.{cases_Bool, and_parts, false≢true, eqb-true, ltb-true, lt-ltb}
use Rattle.std.proofs.lemmas.List.{append-nil}
use Rattle.std.proofs.lemmas.Option.{slice_get_within, get_or_from_slice_get}
use Rattle.std.proofs.lemmas.Slice.Eq.{bytes_eq-Decides}
use Rattle.fmp_codes.specs.declared.calls.Call.{Call}
use Rattle.fmp_codes.specs.declared.calls.Call.TheVariants as calls
use Rattle.fmp_codes.specs.declared.calls.TaskCall.TheVariants as task
use Rattle.fmp_codes.specs.declared.calls.SyncCall.TheVariants as sync
use Rattle.fmp_codes.specs.declared.calls.BufferCall.TheVariants as buffer
use Rattle.fmp_codes.specs.declared.calls.TimeCall.TheVariants as time
use Rattle.fmp_codes.specs.declared.calls.SystemCall.TheVariants as system
use Rattle.fmp_codes.specs.declared.calls.SpinCall.TheVariants as spin
use Rattle.fmp_bytes.specs.declared.classes.Class.{Class}
use Rattle.fmp_bytes.specs.Spelling.{SpellsNumber}
use Rattle.std.specs.Prelude.{is_some, find}
use Rattle.std.proofs.lemmas.List.{take_at}
use Rattle.fmp_bytes.specs.declared.classes.Class.TheVariants.{Argument, Blank, Word, Line}
use Rattle.fmp_bytes.specs.Bytes.{is_of, prefix, after, following, colon, is_identifier}
use Rattle.fmp_bytes.specs.Numerals.{signed_of}
use Rattle.fmp_bytes.specs.Numerals.{number_of as numeral}
use Rattle.fmp_bytes.specs.Results.{◌>>=◌}
use Rattle.fmp_text.specs.declared.fault.TextKind.{TextKind}
use Rattle.fmp_bytes.proofs.Spelled.{number_of-spelled, number_is_spelled, following-same, after_is}
use Rattle.fmp_bytes.proofs.Words.{is_word}
use Rattle.fmp_codes.specs.Codes as code
use Rattle.fmp_codes.specs.declared.codes.Code.{Code}
use Rattle.fmp_codes.specs.declared.codes.Code.TheVariants.{Accepted, Parameter, Identifier, Context, IllegalUse, ObjectState, QueueOverflow, WaitReleased, TimedOut}
use Rattle.fmp_bytes.proofs.Prefixes.{prefix-append, prefix-after, after-stops, list_all-take_while, stops-cons, stops-append, stops-all, list_all-weaker, list_all-both, list_all-parts}
use Rattle.fmp_bytes.proofs.Included.{argument-word, line-argument, not_argument-blank, not_blank-argument}
use Rattle.fmp_bytes.proofs.Parsed.{ok_or_parts, tested_ok, bind_parts}
use Rattle.fmp_bytes.proofs.Tokens.{identifier_bytes, identifier_words, number_bytes}
use Rattle.fmp_calls.specs.Table.{text_of}
use Rattle.fmp_calls.proofs.Matched.{is_identifier-text_of}
use Rattle.fmp_codes.specs.declared.kinds.NameKind.TheVariants.{Function}
use Rattle.fmp_names.specs.Names.{NameLists, AreValid, name_of, number_of, is_name}
use Rattle.fmp_names.proofs.Listed.{list_all-at}
use Rattle.fmp_names.proofs.Placed.{numbered, number_of-name_of, name_of-number_of}
use Rattle.fmp_text.specs.declared.fault.TextKind.TheVariants.{BadByte, NumberOutOfRange, UnknownName, WrongArguments}
use Rattle.fmp_text.specs.Reading.{call_in}
use Rattle.fmp_text.specs.Lines.{is_skipped, without_return}
use Rattle.fmp_text.specs.Grammar.{AreBlank}
use Rattle.fmp_text.specs.TextGrammar.{Ended, SpellsNothing}
use Rattle.fmp_text.proofs.SpelledCalls.{not-word, call_in-spelled, call_is_spelled, word_of_call, line_of_call, blanks_in_line}
use Rattle.fmp_text.proofs.SpelledEvents.{blanks_stop, blank_between, line_of_words}
use Rattle.fmp_text.proofs.SpelledTexts.{after_first, ended, nothing_read, nothing_spelled, skipped_parts, without_return-cases}
use Rattle.fmp_text_scripts.specs.declared.line.Said.{Said}
use Rattle.fmp_text_scripts.specs.declared.line.Said.TheVariants as said
use Rattle.fmp_text_scripts.specs.declared.ways.Pattern.{Pattern}
use Rattle.fmp_text_scripts.specs.declared.ways.Pattern.TheVariants as pattern
use Rattle.fmp_text_scripts.specs.Lines.{name_in, label_in, function_in, begins, ends, asks, is_taken, code_in, value_in, pattern_of, valued, goal_in, turned, turn_with, turn_in, turns, goes, stands, other_said, are_line, said_by, said_in}
use Rattle.fmp_text_scripts.specs.ScriptGrammar.{SpellsHead, SpellsEnd, SpellsStep, SpellsLabel, SpellsGoal, SpellsAnswer, SpellsOn, SpellsPart, IsLine}
use Rattle.fmp_text_scripts.specs.Sources.{Part, Asks, Stands, Jumps}

-- ---- the first word of a text

word_begins : (word rest : List ℕ) → list_all (is_of Word) word ≡ true → 1 ≤ length word → prefix_len (is_of Blank) (word ++ rest) ≡ 0
word_begins [] rest words some = absurd (omega (arith, some))
word_begins (b ∷ word) rest words some =
    stops-cons (is_of Blank) b (word ++ rest) (not_blank-argument b (argument-word b (and_parts (is_of Word b) (list_all (is_of Word) word) words).0))

-- blanks, a word, and what follows it
pub first_word_of : (before word rest text : List ℕ) → AreBlank before → list_all (is_of Word) word ≡ true → 1 ≤ length word → prefix_len (is_of Word) rest ≡ 0 → text ≡ before ++ (word ++ rest)
    → (prefix Word (after Blank text) ≡ word) × (after Word (after Blank text) ≡ rest)
first_word_of before word rest text blank words some stops parts =
    let here : after Blank text ≡ word ++ rest = ap (after Blank) parts ∙ (prefix-append Blank before (word ++ rest) blank (word_begins word rest words some)).1 in
    let whole = prefix-append Word word rest words stops in
    (ap (prefix Word) here ∙ whole.0, ap (after Word) here ∙ whole.1)

pub blanks_no_word : (rest : List ℕ) → AreBlank rest → prefix_len (is_of Word) rest ≡ 0
blanks_no_word rest blank = stops-all (is_of Word) rest (list_all-weaker (is_of Blank) (λ b. not (is_of Word b)) not-word rest blank)

-- a line that begins with a word is not to be skipped
pub word_stays : (text : List ℕ) → 1 ≤ length (prefix Word (after Blank text)) → is_skipped text ≡ false
unfolding is_of
word_stays text some =
    elim (cases_Bool (is_skipped text)) [
      | inl t ↦
          elim (skipped_parts text t) [
            | inl blank ↦
                let none : after Blank text ≡ [] = ap (after Blank) (sym (append-nil text)) ∙ (prefix-append Blank text [] blank refl).1 in
                absurd (omega (arith, some, ap (λ (l : List ℕ). length (prefix Word l)) none))
            | inr comment ↦
                let rest : after Blank text ≡ 35 ∷ comment.rest = ap (after Blank) comment.parts ∙ after_first comment.before 35 comment.rest comment.before_blank refl in
                absurd (omega (arith, some, ap (λ (l : List ℕ). length (prefix Word l)) rest))
          ]
      | inr f ↦ f
    ]

-- ---- what is spelled is read

script_words : list_all (is_of Word) (codes "script") ≡ true
unfolding is_of
script_words = refl

end_words : list_all (is_of Word) (codes "end") ≡ true
unfolding is_of
end_words = refl

on_words : list_all (is_of Word) (codes "on") ≡ true
unfolding is_of
on_words = refl

goto_words : list_all (is_of Word) (codes "goto") ≡ true
unfolding is_of
goto_words = refl

-- ---- the bytes of a line

abbrev may_stand : ℕ → Bool
may_stand b = is_of Line b || b == colon

line_bytes : (xs : List ℕ) → list_all (is_of Line) xs ≡ true → are_line xs ≡ true
line_bytes xs all = list_all-weaker (is_of Line) may_stand (λ b t. rw t refl) xs all

blank_bytes : (xs : List ℕ) → AreBlank xs → are_line xs ≡ true
blank_bytes xs blank = line_bytes xs (blanks_in_line xs blank)

word_bytes : (xs : List ℕ) → list_all (is_of Word) xs ≡ true → are_line xs ≡ true
word_bytes xs words = line_bytes xs (line_of_words xs words)

line_kept : (core : List ℕ) → are_line core ≡ true → without_return core ≡ core
unfolding is_of
line_kept core line =
    elim (without_return-cases core) [
      | inl t ↦
          let parts = and_parts (ltb 0 (length core)) (eqb (slice_index core (length core - 1)) 13) t.0 in
          let last : get_or core (length core - 1) 0 ≡ 13 = eqb-true (get_or core (length core - 1) 0) 13 parts.1 in
          let here = list_all-at may_stand core (length core - 1) 0 (omega (arith, ltb-true 0 (length core) parts.0)) line in
          absurd (false≢true (ap may_stand (sym last) ∙ here))
      | inr f ↦ f.1
    ]

get_or-last : (xs : List ℕ) (y d : ℕ) → get_or (xs ++ y ∷ []) (length xs) d ≡ y
get_or-last [] y d = refl
get_or-last (x ∷ xs) y d = get_or-last xs y d

without_return-push : (core : List ℕ) → without_return (core ++ (13 ∷ [])) ≡ core
unfolding without_return
without_return-push core =
    let len : length (core ++ (13 ∷ [])) - 1 ≡ length core = omega (arith, length-append core (13 ∷ [])) in
    let some = lt-ltb 0 (length (core ++ (13 ∷ []))) (omega (arith, length-append core (13 ∷ []))) in
    let last : slice_index (core ++ (13 ∷ [])) (length core) ≡ 13 = get_or-last core 13 0 in
    rw (some, len, last) (take_at core (13 ∷ []) (length core) refl)

core_kept : (core line : List ℕ) → Ended core line → are_line core ≡ true → without_return line ≡ core
core_kept core line (inl e) bytes = ap without_return e ∙ line_kept core bytes
core_kept core line (inr e) bytes = ap without_return e ∙ without_return-push core

-- what is known of a text that says something
pub record IsSaying (names : NameLists) (inside : Bool) (text : List ℕ) (what : Said) : Type 0 where
  pub line : are_line text ≡ true
  pub some : 1 ≤ length (prefix Word (after Blank text))
  pub says : said_by names inside text ≡ Ok (Some what)

saying_read : (names : NameLists) (inside : Bool) (line core : List ℕ) (what : Said) → Ended core line → IsSaying names inside core what → said_in names inside line ≡ Ok (Some what)
unfolding said_in
saying_read names inside line core what end s =
    let same = core_kept core line end s.line in
    let stays = word_stays core s.some in
    let bytes = s.line in
    rw (same, stays, bytes) s.says

function_name : (names : NameLists) (f : ℕ) (name : List ℕ) → AreValid names → name_of names Function f ≡ Some name → is_identifier name ≡ true
unfolding is_name
function_name names f name valid is =
    let place = numbered names Function f name is in
    let inside = slice_get_within names.functions (f - 1) name place.1 in
    let same = get_or_from_slice_get names.functions (f - 1) name [] place.1 in
    let here = list_all-at is_name names.functions (f - 1) [] inside valid.function_names in
    (and_parts (is_identifier name) (leb (length name) 64) (rw same at here)).0

head_says : (names : NameLists) (text : List ℕ) (f : ℕ) → AreValid names → SpellsHead names text f → IsSaying names false text (said.Opens f)
unfolding said_by begins function_in name_in
head_says names text f valid s =
    let p = s.padded in
    let name : List ℕ = s.name in
    let rest : List ℕ = s.between ++ (name ++ p.following) in
    let identifier = function_name names f name valid s.is_name in
    let words = identifier_words name identifier in
    let parts : text ≡ p.before ++ (codes "script" ++ rest) = p.parts ∙ ap (λ (l : List ℕ). p.before ++ l) (append_assoc (codes "script") (s.between ++ name) p.following ∙ ap (λ (l : List ℕ). codes "script" ++ l) (append_assoc s.between name p.following)) in
    let first = first_word_of p.before (codes "script") rest text p.before_blank script_words (omega arith) (blanks_stop s.between (name ++ p.following) s.between_blank s.apart) parts in
    let second = first_word_of s.between name p.following rest s.between_blank words (identifier_bytes name identifier).0 (blanks_no_word p.following p.after_blank) refl in
    let word = first.0 in let follows = first.1 in let inner = second.0 in let following = second.1 in
    let blank = p.after_blank in let number = number_of-name_of names Function f name valid s.is_name in
    record {
      line = ap are_line parts ∙ list_all-both may_stand p.before (codes "script" ++ rest) (blank_bytes p.before p.before_blank)
          (list_all-both may_stand (codes "script") rest (word_bytes (codes "script") script_words)
          (list_all-both may_stand s.between (name ++ p.following) (blank_bytes s.between s.between_blank)
          (list_all-both may_stand name p.following (word_bytes name words) (blank_bytes p.following p.after_blank))));
      some = omega (arith, ap length word);
      says = rw (word, follows, inner, following, identifier, blank, number) refl;
    }

end_says : (names : NameLists) (text : List ℕ) → SpellsEnd text → IsSaying names true text said.Closes
unfolding said_by ends
end_says names text p =
    let first = first_word_of p.before (codes "end") p.following text p.before_blank end_words (omega arith) (blanks_no_word p.following p.after_blank) p.parts in
    let word = first.0 in let follows = first.1 in let blank = p.after_blank in
    record {
      line = ap are_line p.parts ∙ list_all-both may_stand p.before (codes "end" ++ p.following) (blank_bytes p.before p.before_blank)
          (list_all-both may_stand (codes "end") p.following (word_bytes (codes "end") end_words) (blank_bytes p.following p.after_blank));
      some = omega (arith, ap length word);
      says = rw (word, follows, blank) refl;
    }

-- the name of a call is none of the other words
record IsOther (call : Call) : Type 0 where
  no_script : bytes_eq (text_of call) (codes "script") ≡ false
  no_end : bytes_eq (text_of call) (codes "end") ≡ false
  no_return : call ≢ calls.RetHdr → bytes_eq (text_of call) (codes "ret_hdr") ≡ false
  no_on : bytes_eq (text_of call) (codes "on") ≡ false
  no_goto : bytes_eq (text_of call) (codes "goto") ≡ false

other_word : (call : Call) → IsOther call
other_word calls.RetHdr = record { no_script = refl; no_end = refl; no_return = λ n. absurd (n refl); no_on = refl; no_goto = refl }
other_word (calls.Task task.ExtTsk) = record { no_script = refl; no_end = refl; no_return = λ n. refl; no_on = refl; no_goto = refl }
other_word (calls.Sync (sync.SigSem x)) = record { no_script = refl; no_end = refl; no_return = λ n. refl; no_on = refl; no_goto = refl }
other_word (calls.Buffer (buffer.GetMpf x)) = record { no_script = refl; no_end = refl; no_return = λ n. refl; no_on = refl; no_goto = refl }
other_word (calls.Time (time.StaCyc x)) = record { no_script = refl; no_end = refl; no_return = λ n. refl; no_on = refl; no_goto = refl }
other_word (calls.System system.GetTid) = record { no_script = refl; no_end = refl; no_return = λ n. refl; no_on = refl; no_goto = refl }
other_word (calls.Spin (spin.LocSpn x)) = record { no_script = refl; no_end = refl; no_return = λ n. refl; no_on = refl; no_goto = refl }
other_word _ = record { no_script = refl; no_end = refl; no_return = λ n. refl; no_on = refl; no_goto = refl }

-- after the name of a call stands no colon: its line has none
no_colon : (xs : List ℕ) → list_all (is_of Line) xs ≡ true → following colon xs ≡ None
unfolding following is_of
no_colon [] line = refl
no_colon (b ∷ xs) line =
    elim (cases_Bool (eqb b 58)) [
      | inl t ↦
          let bad = and_parts (is_of Line b) (list_all (is_of Line) xs) line in
          absurd (false≢true (ap (is_of Line) (sym (eqb-true b 58 t)) ∙ bad.0))
      | inr f ↦ rw f refl
    ]

after_line_bytes : (class : Class) (xs : List ℕ) → list_all (is_of Line) xs ≡ true → list_all (is_of Line) (after class xs) ≡ true
after_line_bytes class xs line = (list_all-parts (is_of Line) (prefix class xs) (after class xs) (ap (list_all (is_of Line)) (prefix-after class xs) ∙ line)).1

step_says : (names : NameLists) (text : List ℕ) (call : Call) → AreValid names → SpellsStep names text call → IsSaying names true text (said.Asks call)
unfolding said_by asks
step_says names text call valid s =
    let word = word_of_call names text call s.0 in
    let other = other_word call in
    let a = other.no_script in let b = other.no_end in let c = other.no_return s.1 in let d = other.no_on in let e = other.no_goto in
    let read = call_in-spelled names text call valid s.0 in
    let line = line_of_call names text call valid s.0 in
    let none : following colon (after Blank (after Word (after Blank text))) ≡ None = no_colon _ (after_line_bytes Blank _ (after_line_bytes Word _ (after_line_bytes Blank text line))) in
    record {
      line = line_bytes text line;
      some = omega (arith, (identifier_bytes (text_of call) (is_identifier-text_of call)).0, ap length word);
      says = rw (word, a, b, c, d, e, none, read) refl;
    }

-- ---- labels and jumps

or_false : (a b : Bool) → (a || b) ≡ false → (a ≡ false) × (b ≡ false)
or_false true b e = absurd cc
or_false false b e = (refl, e)

-- what a name is not that a label may have
pub record IsFree (name : List ℕ) : Type 0 where
  pub no_script : bytes_eq name (codes "script") ≡ false
  pub no_end : bytes_eq name (codes "end") ≡ false
  pub no_return : bytes_eq name (codes "ret_hdr") ≡ false
  pub no_on : bytes_eq name (codes "on") ≡ false
  pub no_goto : bytes_eq name (codes "goto") ≡ false

pub free_parts : (name : List ℕ) → is_taken name ≡ false → IsFree name
free_parts name e =
    let a = or_false (bytes_eq name (codes "script")) (bytes_eq name (codes "end") || (bytes_eq name (codes "ret_hdr") || (bytes_eq name (codes "on") || bytes_eq name (codes "goto")))) e in
    let b = or_false (bytes_eq name (codes "end")) (bytes_eq name (codes "ret_hdr") || (bytes_eq name (codes "on") || bytes_eq name (codes "goto"))) a.1 in
    let c = or_false (bytes_eq name (codes "ret_hdr")) (bytes_eq name (codes "on") || bytes_eq name (codes "goto")) b.1 in
    let d = or_false (bytes_eq name (codes "on")) (bytes_eq name (codes "goto")) c.1 in
    record { no_script = a.0; no_end = b.0; no_return = c.0; no_on = d.0; no_goto = d.1 }

colon_stops : (between rest : List ℕ) → AreBlank between → prefix_len (is_of Word) (between ++ (58 ∷ rest)) ≡ 0
unfolding is_of
colon_stops between rest blank = stops-append (is_of Word) between 58 rest (list_all-weaker (is_of Blank) (λ b. not (is_of Word b)) not-word between blank) refl

blank_no_colon : is_of Blank 58 ≡ false
unfolding is_of
blank_no_colon = refl

colon_stands : are_line (58 ∷ []) ≡ true
unfolding is_of
colon_stands = refl

label_says : (names : NameLists) (text name : List ℕ) → SpellsLabel text name → IsSaying names true text (said.Stands name)
unfolding said_by stands
label_says names text name s =
    let p = s.padded in
    let rest : List ℕ = s.between ++ (58 ∷ p.following) in
    let words = identifier_words name s.is_name.0 in
    let parts : text ≡ p.before ++ (name ++ rest) =
    p.parts ∙ ap (λ (l : List ℕ). p.before ++ l) (append_assoc name (s.between ++ (58 ∷ [])) p.following ∙ ap (λ (l : List ℕ). name ++ l) (append_assoc s.between (58 ∷ []) p.following)) in
    let first = first_word_of p.before name rest text p.before_blank words (identifier_bytes name s.is_name.0).0 (colon_stops s.between p.following s.between_blank) parts in
    let free = free_parts name s.is_name.1 in
    let word = first.0 in let follows = first.1 in
    let a = free.no_script in let b = free.no_end in let c = free.no_return in let d = free.no_on in let e = free.no_goto in
    let there : following colon (after Blank (after Word (after Blank text))) ≡ Some p.following =
    ap (λ (l : List ℕ). following colon (after Blank l)) follows ∙ ap (following colon) (after_first s.between 58 p.following s.between_blank blank_no_colon) ∙ following-same 58 p.following in
    let identifier = s.is_name.0 in let blank = p.after_blank in
    record {
      line = ap are_line parts ∙ list_all-both may_stand p.before (name ++ rest) (blank_bytes p.before p.before_blank)
          (list_all-both may_stand name rest (word_bytes name words)
          (list_all-both may_stand s.between (58 ∷ p.following) (blank_bytes s.between s.between_blank) (list_all-both may_stand (58 ∷ []) p.following colon_stands (blank_bytes p.following p.after_blank))));
      some = omega (arith, (identifier_bytes name s.is_name.0).0, ap length word);
      says = rw (there, word, a, b, c, d, e, identifier, blank) refl;
    }

-- what is known of a goal that is spelled
record IsGoal (text name : List ℕ) : Type 0 where
  word : prefix Word (after Blank text) ≡ codes "goto"
  read : label_in (after Word (after Blank text)) ≡ Ok name
  line : are_line text ≡ true

goal_read : (text name : List ℕ) → SpellsGoal text name → IsGoal text name
unfolding label_in name_in
goal_read text name s =
    let p = s.padded in
    let rest : List ℕ = s.between ++ (name ++ p.following) in
    let words = identifier_words name s.is_name.0 in
    let parts : text ≡ p.before ++ (codes "goto" ++ rest) =
    p.parts ∙ ap (λ (l : List ℕ). p.before ++ l) (append_assoc (codes "goto") (s.between ++ name) p.following ∙ ap (λ (l : List ℕ). codes "goto" ++ l) (append_assoc s.between name p.following)) in
    let first = first_word_of p.before (codes "goto") rest text p.before_blank goto_words (omega arith) (blanks_stop s.between (name ++ p.following) s.between_blank s.apart) parts in
    let second = first_word_of s.between name p.following rest s.between_blank words (identifier_bytes name s.is_name.0).0 (blanks_no_word p.following p.after_blank) refl in
    let follows = first.1 in let inner = second.0 in let after_name = second.1 in
    let identifier = s.is_name.0 in let blank = p.after_blank in let free = s.is_name.1 in
    record {
      word = first.0;
      read = rw (follows, inner, after_name, identifier, blank, free) refl;
      line = ap are_line parts ∙ list_all-both may_stand p.before (codes "goto" ++ rest) (blank_bytes p.before p.before_blank)
          (list_all-both may_stand (codes "goto") rest (word_bytes (codes "goto") goto_words)
          (list_all-both may_stand s.between (name ++ p.following) (blank_bytes s.between s.between_blank)
          (list_all-both may_stand name p.following (word_bytes name words) (blank_bytes p.following p.after_blank))));
    }

goto_says : (names : NameLists) (text name : List ℕ) → SpellsGoal text name → IsSaying names true text (said.Jumps pattern.Any name)
unfolding said_by goes
goto_says names text name s =
    let g = goal_read text name s in
    let word = g.word in let read = g.read in
    record {
      line = g.line;
      some = omega (arith, ap length word);
      says = rw (word, read) refl;
    }

-- ---- answers

-- a code's name is a word that is read as the code
pub record IsCode (c : Code) : Type 0 where
  pub words : list_all (is_of Word) (code.name_of c) ≡ true
  pub some : 1 ≤ length (code.name_of c)
  pub reads : pattern_of (code.name_of c) ≡ Ok (pattern.Coded c)
  pub identifier : is_identifier (code.name_of c) ≡ true
  pub code_is : code_in (code.name_of c) ≡ Some c

pub code_read : (c : Code) → IsCode c
unfolding is_of pattern_of code_in
code_read Accepted = record { words = refl; some = omega arith; reads = refl; identifier = refl; code_is = refl }
code_read Parameter = record { words = refl; some = omega arith; reads = refl; identifier = refl; code_is = refl }
code_read Identifier = record { words = refl; some = omega arith; reads = refl; identifier = refl; code_is = refl }
code_read Context = record { words = refl; some = omega arith; reads = refl; identifier = refl; code_is = refl }
code_read IllegalUse = record { words = refl; some = omega arith; reads = refl; identifier = refl; code_is = refl }
code_read ObjectState = record { words = refl; some = omega arith; reads = refl; identifier = refl; code_is = refl }
code_read QueueOverflow = record { words = refl; some = omega arith; reads = refl; identifier = refl; code_is = refl }
code_read WaitReleased = record { words = refl; some = omega arith; reads = refl; identifier = refl; code_is = refl }
code_read TimedOut = record { words = refl; some = omega arith; reads = refl; identifier = refl; code_is = refl }

refused_words : list_all (is_of Word) (codes "refused") ≡ true
unfolding is_of
refused_words = refl

refused_read : pattern_of (codes "refused") ≡ Ok pattern.Refused
unfolding is_of pattern_of
refused_read = refl

number_line : (number : List ℕ) (negative : Bool) (n : ℕ) → SpellsNumber number negative n → list_all (is_of Argument) number ≡ true
number_line number negative n s = (number_bytes number (ap is_some (number_of-spelled number negative n s))).1

-- blanks in front of a text that begins with a blank
blank_front : (before rest : List ℕ) → AreBlank before → 1 ≤ length before → following colon (before ++ rest) ≡ None
unfolding following is_of
blank_front [] rest blank some = absurd (omega (arith, some))
blank_front (b ∷ before) rest blank some =
    elim (cases_Bool (eqb b 58)) [
      | inl t ↦ absurd (false≢true (ap (is_of Blank) (sym (eqb-true b 58 t)) ∙ (and_parts (is_of Blank b) (list_all (is_of Blank) before) blank).0))
      | inr f ↦ rw f refl
    ]

no_argument : (before rest : List ℕ) → AreBlank before → 1 ≤ length before → prefix_len (is_of Argument) (before ++ rest) ≡ 0
no_argument [] rest blank some = absurd (omega (arith, some))
no_argument (b ∷ before) rest blank some = stops-cons (is_of Argument) b (before ++ rest) (not_argument-blank b (and_parts (is_of Blank b) (list_all (is_of Blank) before) blank).0)

-- what is read after `on`
record IsTurn (text : List ℕ) (answer : Pattern) (name : List ℕ) : Type 0 where
  read : turn_in text ≡ Ok (Some (said.Jumps answer name))
  line : are_line text ≡ true

-- an answer that has no value
word_turn : (between word rest : List ℕ) (answer : Pattern) (name : List ℕ) → AreBlank between → 1 ≤ length between → list_all (is_of Word) word ≡ true → 1 ≤ length word → pattern_of word ≡ Ok answer
    → (g : SpellsGoal rest name) → 1 ≤ length g.padded.before → IsTurn (between ++ (word ++ rest)) answer name
unfolding turn_in goal_in
word_turn between word rest answer name blank apart words some reads g goal_apart =
    let p = g.padded in
    let front : rest ≡ p.before ++ ((codes "goto" ++ (g.between ++ name)) ++ p.following) = p.parts in
    let stops : prefix_len (is_of Word) rest ≡ 0 = ap (prefix_len (is_of Word)) front ∙ blanks_stop p.before ((codes "goto" ++ (g.between ++ name)) ++ p.following) p.before_blank goal_apart in
    let none : following colon rest ≡ None = ap (following colon) front ∙ blank_front p.before ((codes "goto" ++ (g.between ++ name)) ++ p.following) p.before_blank goal_apart in
    let first = first_word_of between word rest (between ++ (word ++ rest)) blank words some stops refl in
    let goal = goal_read rest name g in
    let a = first.0 in let b = first.1 in let c = goal.word in let d = goal.read in
    record {
      read = rw (a, b, none, reads, c, d) refl;
      line = list_all-both may_stand between (word ++ rest) (blank_bytes between blank) (list_all-both may_stand word rest (word_bytes word words) goal.line);
    }

-- and one that has
valued_turn : (between number rest : List ℕ) (c : Code) (v : ℤ) (negative : Bool) (n : ℕ) (name : List ℕ) → AreBlank between → 1 ≤ length between → SpellsNumber number negative n → signed_of (2 ^ 63) negative n ≡ Some v
    → (g : SpellsGoal rest name) → 1 ≤ length g.padded.before → IsTurn (between ++ ((code.name_of c ++ (58 ∷ number)) ++ rest)) (pattern.Valued c v) name
unfolding turn_in goal_in valued value_in
valued_turn between number rest c v negative n name blank apart spelled is_value g goal_apart =
    let p = g.padded in
    let front : rest ≡ p.before ++ ((codes "goto" ++ (g.between ++ name)) ++ p.following) = p.parts in
    let stops : prefix_len (is_of Argument) rest ≡ 0 = ap (prefix_len (is_of Argument)) front ∙ no_argument p.before ((codes "goto" ++ (g.between ++ name)) ++ p.following) p.before_blank goal_apart in
    let arguments = number_line number negative n spelled in
    let whole = prefix-append Argument number rest arguments stops in
    let is = code_read c in
    let word = code.name_of c in
    let text : (code.name_of c ++ (58 ∷ number)) ++ rest ≡ code.name_of c ++ (58 ∷ (number ++ rest)) = append_assoc (code.name_of c) (58 ∷ number) rest in
    let first = first_word_of between (code.name_of c) (58 ∷ (number ++ rest)) (between ++ ((code.name_of c ++ (58 ∷ number)) ++ rest)) blank is.words is.some (colon_stops [] (number ++ rest) refl)
    (ap (λ (l : List ℕ). between ++ l) text) in
    let goal = goal_read rest name g in
    let a = first.0 in let b = first.1 in let there = following-same 58 (number ++ rest) in let q = whole.0 in let r = whole.1 in
    let identifier = is.identifier in let code_is = is.code_is in let read = number_of-spelled number negative n spelled in
    let e = goal.word in let f = goal.read in
    record {
      read = rw (a, b, there, q, r, identifier, code_is, read, is_value, e, f) refl;
      line = list_all-both may_stand between ((word ++ (58 ∷ number)) ++ rest) (blank_bytes between blank)
          (list_all-both may_stand (word ++ (58 ∷ number)) rest
          (list_all-both may_stand word (58 ∷ number) (word_bytes word is.words) (list_all-both may_stand (58 ∷ []) number colon_stands (line_bytes number (list_all-weaker (is_of Argument) (is_of Line) line-argument number arguments)))) goal.line);
    }

turn_read : (answer : Pattern) (between token rest name : List ℕ) → SpellsAnswer token answer → AreBlank between → 1 ≤ length between → (g : SpellsGoal rest name) → 1 ≤ length g.padded.before
    → IsTurn (between ++ (token ++ rest)) answer name
turn_read pattern.Any between token rest name is blank apart g goal_apart = absurd is
turn_read pattern.Refused between token rest name is blank apart g goal_apart =
    subst (λ (t : List ℕ). IsTurn (between ++ (t ++ rest)) pattern.Refused name) (sym is) (word_turn between (codes "refused") rest pattern.Refused name blank apart refused_words (omega arith) refused_read g goal_apart)
turn_read (pattern.Coded c) between token rest name is blank apart g goal_apart =
    let read = code_read c in
    subst (λ (t : List ℕ). IsTurn (between ++ (t ++ rest)) (pattern.Coded c) name) (sym is) (word_turn between (code.name_of c) rest (pattern.Coded c) name blank apart read.words read.some read.reads g goal_apart)
turn_read (pattern.Valued c v) between token rest name (number, negative, n, spelled, value, is) blank apart g goal_apart =
    subst (λ (t : List ℕ). IsTurn (between ++ (t ++ rest)) (pattern.Valued c v) name) (sym is) (valued_turn between number rest c v negative n name blank apart spelled value g goal_apart)

on_says : (names : NameLists) (text : List ℕ) (answer : Pattern) (name : List ℕ) → SpellsOn text answer name → IsSaying names true text (said.Jumps answer name)
unfolding said_by turns
on_says names text answer name s =
    let t = turn_read answer s.between s.token s.rest name s.is_answer s.between_blank s.apart s.goal s.goal_apart in
    let after_on : List ℕ = s.between ++ (s.token ++ s.rest) in
    let first = first_word_of s.before (codes "on") after_on text s.before_blank on_words (omega arith) (blanks_stop s.between (s.token ++ s.rest) s.between_blank s.apart) s.parts in
    let word = first.0 in let follows = first.1 in let read = t.read in
    record {
      line = ap are_line s.parts ∙ list_all-both may_stand s.before (codes "on" ++ after_on) (blank_bytes s.before s.before_blank) (list_all-both may_stand (codes "on") after_on (word_bytes (codes "on") on_words) t.line);
      some = omega (arith, ap length word);
      says = rw (word, follows, read) refl;
    }

-- what a part says
abbrev pub said_of : Part → Said
said_of (Asks call) = said.Asks call
said_of (Stands name) = said.Stands name
said_of (Jumps answer name) = said.Jumps answer name

pub part_says : (names : NameLists) (text : List ℕ) (part : Part) → AreValid names → SpellsPart names text part → IsSaying names true text (said_of part)
part_says names text (Asks call) valid s = step_says names text call valid s
part_says names text (Stands name) valid s = label_says names text name s
part_says names text (Jumps pattern.Any name) valid s = goto_says names text name s
part_says names text (Jumps pattern.Refused name) valid s = on_says names text pattern.Refused name s
part_says names text (Jumps (pattern.Coded c) name) valid s = on_says names text (pattern.Coded c) name s
part_says names text (Jumps (pattern.Valued c v) name) valid s = on_says names text (pattern.Valued c v) name s

pub head_read : (names : NameLists) (line : List ℕ) (f : ℕ) → AreValid names → IsLine (λ text. SpellsHead names text f) line → said_in names false line ≡ Ok (Some (said.Opens f))
head_read names line f valid s = saying_read names false line s.0 (said.Opens f) s.1 (head_says names s.0 f valid s.2)

pub end_read : (names : NameLists) (line : List ℕ) → IsLine SpellsEnd line → said_in names true line ≡ Ok (Some said.Closes)
end_read names line s = saying_read names true line s.0 said.Closes s.1 (end_says names s.0 s.2)

pub part_read : (names : NameLists) (line : List ℕ) (part : Part) → AreValid names → IsLine (λ text. SpellsPart names text part) line → said_in names true line ≡ Ok (Some (said_of part))
part_read names line part valid s = saying_read names true line s.0 (said_of part) s.1 (part_says names s.0 part valid s.2)

pub skipped_read : (names : NameLists) (inside : Bool) (line : List ℕ) → SpellsNothing line → said_in names inside line ≡ Ok None
unfolding said_in
skipped_read names inside line s = let skipped = nothing_read line s in rw skipped refl

-- ---- what is read is spelled

-- what a text says, and where
abbrev pub Says : NameLists → Bool → List ℕ → Option Said → Type 0
Says names inside text None = ⊥
Says names inside text (Some (said.Opens f)) = (inside ≡ false) × SpellsHead names text f
Says names inside text (Some (said.Asks call)) = (inside ≡ true) × SpellsPart names text (Asks call)
Says names inside text (Some (said.Stands name)) = (inside ≡ true) × SpellsPart names text (Stands name)
Says names inside text (Some (said.Jumps answer name)) = (inside ≡ true) × SpellsPart names text (Jumps answer name)
Says names inside text (Some said.Closes) = (inside ≡ true) × SpellsEnd text

begins_parts : (names : NameLists) (inside : Bool) (rest : List ℕ) (found : Option Said) → begins names inside rest ≡ Ok found → (f : ℕ) × (inside ≡ false) × (function_in names rest ≡ Ok f) × (Some (said.Opens f) ≡ found)
unfolding begins
begins_parts names true rest found e = absurd cc
begins_parts names false rest found e = let b = bind_parts (function_in names rest) (λ f. Ok (Some (said.Opens f))) found e in (b.0, refl, b.1, (let e2 = b.2 in cc))

ends_parts : (inside : Bool) (rest : List ℕ) (found : Option Said) → ends inside rest ≡ Ok found → (inside ≡ true) × AreBlank rest × (Some said.Closes ≡ found)
unfolding ends
ends_parts false rest found e = absurd cc
ends_parts true rest found e = let t = tested_ok (list_all (is_of Blank) rest) (Ok (Some said.Closes)) WrongArguments found e in (refl, t.0, (let e2 = t.1 in cc))

asks_parts : (names : NameLists) (inside : Bool) (text : List ℕ) (found : Option Said) → asks names inside text ≡ Ok found → (call : Call) × (inside ≡ true) × (call_in names text ≡ Ok call) × (Some (said.Asks call) ≡ found)
unfolding asks
asks_parts names false text found e = absurd cc
asks_parts names true text found e = let b = bind_parts (call_in names text) (λ call. Ok (Some (said.Asks call))) found e in (b.0, refl, b.1, (let e2 = b.2 in cc))

-- what is known of the name after `script`
record IsNamed (names : NameLists) (rest : List ℕ) (f : ℕ) : Type 0 where
  identifier : is_identifier (prefix Word (after Blank rest)) ≡ true
  blank : AreBlank (after Word (after Blank rest))
  is_name : name_of names Function f ≡ Some (prefix Word (after Blank rest))

named_parts : (names : NameLists) (rest : List ℕ) (f : ℕ) → function_in names rest ≡ Ok f → IsNamed names rest f
unfolding function_in name_in
named_parts names rest f e =
    let b = bind_parts (name_in rest) (λ name. ok_or (number_of names Function name) UnknownName) f e in
    let t = tested_ok (is_identifier (prefix Word (after Blank rest)) && list_all (is_of Blank) (after Word (after Blank rest))) (Ok (prefix Word (after Blank rest))) WrongArguments b.0 b.1 in
    let both = and_parts (is_identifier (prefix Word (after Blank rest))) (list_all (is_of Blank) (after Word (after Blank rest))) t.0 in
    let same : prefix Word (after Blank rest) ≡ b.0 = let e2 = t.1 in cc in
    let number = ok_or_parts (number_of names Function b.0) UnknownName f b.2 in
    record { identifier = both.0; blank = both.1; is_name = name_of-number_of names Function f (prefix Word (after Blank rest)) (ap (number_of names Function) same ∙ number) }

-- a text by its blanks, its first word, and what follows
pub by_word : (text word : List ℕ) → prefix Word (after Blank text) ≡ word → text ≡ prefix Blank text ++ (word ++ after Word (after Blank text))
by_word text word is =
    sym (prefix-after Blank text) ∙ ap (λ (r : List ℕ). prefix Blank text ++ r) (sym (prefix-after Word (after Blank text)) ∙ ap (λ (w : List ℕ). w ++ after Word (after Blank text)) is)

head_spelled : (names : NameLists) (text : List ℕ) (f : ℕ) → prefix Word (after Blank text) ≡ codes "script" → function_in names (after Word (after Blank text)) ≡ Ok f → SpellsHead names text f
head_spelled names text f word e =
    let rest : List ℕ = after Word (after Blank text) in
    let s = named_parts names (after Word (after Blank text)) f e in
    let name : List ℕ = prefix Word (after Blank rest) in
    let following : List ℕ = after Word (after Blank rest) in
    let inner : rest ≡ prefix Blank rest ++ (name ++ following) = by_word rest name refl in
    let some = (identifier_bytes (prefix Word (after Blank (after Word (after Blank text)))) s.identifier).0 in
    record {
      between = prefix Blank rest;
      name = name;
      apart = blank_between (after Blank text) (omega (arith, some));
      between_blank = list_all-take_while (is_of Blank) rest;
      is_name = s.is_name;
      padded = record {
        before = prefix Blank text;
        following = following;
        before_blank = list_all-take_while (is_of Blank) text;
        after_blank = s.blank;
        parts = by_word text (codes "script") word ∙ ap (λ (l : List ℕ). prefix Blank text ++ l) (ap (λ (l : List ℕ). codes "script" ++ l) (inner ∙ sym (append_assoc (prefix Blank rest) name following)) ∙ sym (append_assoc (codes "script") (prefix Blank rest ++ name) following));
      };
    }

end_spelled : (text : List ℕ) → prefix Word (after Blank text) ≡ codes "end" → AreBlank (after Word (after Blank text)) → SpellsEnd text
end_spelled text word blank = record {
  before = prefix Blank text;
  following = after Word (after Blank text);
  before_blank = list_all-take_while (is_of Blank) text;
  after_blank = blank;
  parts = by_word text (codes "end") word;
}

step_spelled : (names : NameLists) (text : List ℕ) (call : Call) → bytes_eq (prefix Word (after Blank text)) (codes "ret_hdr") ≡ false → call_in names text ≡ Ok call → SpellsStep names text call
step_spelled names text call other read =
    let spelled = call_is_spelled names text call read in
    (spelled, λ is. false≢true (sym other ∙ (bytes_eq-Decides (prefix Word (after Blank text)) (codes "ret_hdr")).1 (word_of_call names text call spelled ∙ ap text_of is)))

-- ---- labels and jumps

-- what is known of one name with blanks around
name_parts : (text name : List ℕ) → name_in text ≡ Ok name → (is_identifier name ≡ true) × AreBlank (after Word (after Blank text)) × (prefix Word (after Blank text) ≡ name)
unfolding name_in
name_parts text name e =
    let t = tested_ok (is_identifier (prefix Word (after Blank text)) && list_all (is_of Blank) (after Word (after Blank text))) (Ok (prefix Word (after Blank text))) WrongArguments name e in
    let both = and_parts (is_identifier (prefix Word (after Blank text))) (list_all (is_of Blank) (after Word (after Blank text))) t.0 in
    let same : prefix Word (after Blank text) ≡ name = let e2 = t.1 in cc in
    (ap is_identifier (sym same) ∙ both.0, both.1, same)

free_ok : (taken : Bool) (a name : List ℕ) → cond taken (Err UnknownName) (Ok a) ≡ Ok name → (taken ≡ false) × (a ≡ name)
free_ok true a name e = absurd cc
free_ok false a name e = (refl, cc)

label_parts : (text name : List ℕ) → label_in text ≡ Ok name → (name_in text ≡ Ok name) × (is_taken name ≡ false)
unfolding label_in
label_parts text name e =
    let b = bind_parts (name_in text) (λ n. cond (is_taken n) (Err UnknownName) (Ok n)) name e in
    let f = free_ok (is_taken b.0) b.0 name b.2 in
    (b.1 ∙ ap (λ (n : List ℕ). Ok n) f.1, ap is_taken (sym f.1) ∙ f.0)

goal_from : (text name : List ℕ) → prefix Word (after Blank text) ≡ codes "goto" → label_in (after Word (after Blank text)) ≡ Ok name → SpellsGoal text name
goal_from text name word e =
    let rest : List ℕ = after Word (after Blank text) in
    let l = label_parts (after Word (after Blank text)) name e in
    let n = name_parts (after Word (after Blank text)) name l.0 in
    let after_name : List ℕ = after Word (after Blank rest) in
    let inner : rest ≡ prefix Blank rest ++ (name ++ after_name) = by_word rest name n.2 in
    let some = (identifier_bytes name n.0).0 in
    record {
      between = prefix Blank rest;
      apart = blank_between (after Blank text) (omega (arith, some, ap length n.2));
      between_blank = list_all-take_while (is_of Blank) rest;
      is_name = (n.0, l.1);
      padded = record {
        before = prefix Blank text;
        following = after_name;
        before_blank = list_all-take_while (is_of Blank) text;
        after_blank = n.1;
        parts = by_word text (codes "goto") word ∙ ap (λ (l : List ℕ). prefix Blank text ++ l) (ap (λ (l : List ℕ). codes "goto" ++ l) (inner ∙ sym (append_assoc (prefix Blank rest) name after_name)) ∙ sym (append_assoc (codes "goto") (prefix Blank rest ++ name) after_name));
      };
    }

goal_parts : (text name : List ℕ) → goal_in text ≡ Ok name → (prefix Word (after Blank text) ≡ codes "goto") × (label_in (after Word (after Blank text)) ≡ Ok name)
unfolding goal_in
goal_parts text name e =
    let t = tested_ok (bytes_eq (prefix Word (after Blank text)) (codes "goto")) (label_in (after Word (after Blank text))) WrongArguments name e in
    (is_word (prefix Word (after Blank text)) (codes "goto") t.0, t.1)

-- an answer is followed by blanks
no_blank : (t front : List ℕ) → 1 ≤ length (prefix Word (after Blank (after Argument t))) → prefix Blank (after Argument t) ≡ front → 1 ≤ length front
no_blank t (b ∷ front) some is = omega arith
no_blank t [] some is =
    let whole : after Blank (after Argument t) ≡ after Argument t = ap (λ (l : List ℕ). l ++ after Blank (after Argument t)) (sym is) ∙ prefix-after Blank (after Argument t) in
    absurd (no_word (after Argument t) (after-stops Argument t) (omega (arith, some, ap (λ (l : List ℕ). length (prefix Word l)) whole)))
  where
    no_word : (xs : List ℕ) → prefix_len (is_of Argument) xs ≡ 0 → 1 ≤ length (prefix Word xs) → ⊥
    no_word [] stops some = omega (arith, some)
    no_word (x ∷ xs) stops some =
        elim (cases_Bool (is_of Argument x)) [
          | inl t ↦ let bad = rw t at stops in omega (arith, bad)
          | inr f ↦
              elim (cases_Bool (is_of Word x)) [
                | inl t ↦ false≢true (sym f ∙ argument-word x t)
                | inr g ↦ omega (arith, (let bad = rw g at some in bad))
              ]
        ]

found_test : {A : Type 0} (p : A → Bool) (xs : List A) (x : A) → find p xs ≡ Some x → p x ≡ true
found_test p [] x e = absurd cc
found_test p (y ∷ xs) x e =
    elim (cases_Bool (p y)) [
      | inl t ↦ let e2 = rw t at e in let same : y ≡ x = cc in ap p (sym same) ∙ t
      | inr f ↦ found_test p xs x (rw f at e)
    ]

pub code_word : (word : List ℕ) (c : Code) → code_in word ≡ Some c → word ≡ code.name_of c
unfolding code_in
code_word word c e = sym (is_word (code.name_of c) word (found_test (λ x. bytes_eq (code.name_of x) word) code.all_codes c e))

identifier_kept : {A : Type 0} (b : Bool) (r : Result A TextKind) (x : A) → cond (not b) (Err WrongArguments) r ≡ Ok x → (b ≡ true) × (r ≡ Ok x)
identifier_kept true r x e = (refl, e)
identifier_kept false r x e = absurd cc

pattern_is : (word : List ℕ) (answer : Pattern) → pattern_of word ≡ Ok answer → (is_identifier word ≡ true) × SpellsAnswer word answer
unfolding pattern_of
pattern_is word answer e =
    let k = identifier_kept (is_identifier word) (cond (bytes_eq word (codes "refused")) (Ok pattern.Refused) (ok_or (code_in word) UnknownName >>= λ c. Ok (pattern.Coded c))) answer e in
    (k.0, by (bytes_eq word (codes "refused")) refl k.1)
  where
    by : (b : Bool) → bytes_eq word (codes "refused") ≡ b → cond b (Ok pattern.Refused) (ok_or (code_in word) UnknownName >>= λ c. Ok (pattern.Coded c)) ≡ Ok answer → SpellsAnswer word answer
    by true is e2 = let same : pattern.Refused ≡ answer = cc in subst (SpellsAnswer word) same (is_word word (codes "refused") is)
    by false is e2 =
        let b = bind_parts (ok_or (code_in word) UnknownName) (λ c. Ok (pattern.Coded c)) answer e2 in
        let same : pattern.Coded b.0 ≡ answer = let e3 = b.2 in cc in
        subst (SpellsAnswer word) same (code_word word b.0 (ok_or_parts (code_in word) UnknownName b.0 b.1))

-- what is known of a value
pub record IsNumber (text : List ℕ) (v : ℤ) : Type 0 where
  pub negative : Bool
  pub magnitude : ℕ
  pub spelled : SpellsNumber text negative magnitude
  pub in_range : signed_of (2 ^ 63) negative magnitude ≡ Some v

led_ok : (led : Bool) (r : Result ℕ TextKind) (m : ℕ) → cond led (Err NumberOutOfRange) r ≡ Ok m → (led ≡ false) × (r ≡ Ok m)
led_ok true r m e = absurd cc
led_ok false r m e = (refl, e)

pub value_is : (text : List ℕ) (v : ℤ) → value_in text ≡ Ok v → IsNumber text v
unfolding value_in
value_is text v e =
    let b = bind_parts (ok_or (numeral text) WrongArguments) (λ n. (cond n.zero_led (Err NumberOutOfRange) (ok_or n.magnitude NumberOutOfRange) >>= λ m. ok_or (signed_of (2 ^ 63) n.negative m) NumberOutOfRange)) v e in
    let d = bind_parts (cond b.0.zero_led (Err NumberOutOfRange) (ok_or b.0.magnitude NumberOutOfRange)) (λ m. ok_or (signed_of (2 ^ 63) b.0.negative m) NumberOutOfRange) v b.2 in
    let l = led_ok b.0.zero_led (ok_or b.0.magnitude NumberOutOfRange) d.0 d.1 in
    record {
      negative = b.0.negative;
      magnitude = d.0;
      spelled = number_is_spelled text b.0 d.0 (ok_or_parts (numeral text) WrongArguments b.0 b.1) l.0 (ok_or_parts b.0.magnitude NumberOutOfRange d.0 l.1);
      in_range = ok_or_parts (signed_of (2 ^ 63) b.0.negative d.0) NumberOutOfRange v d.2;
    }

-- what a code and a value spell
record IsValued (word text : List ℕ) (answer : Pattern) : Type 0 where
  code_is : Code
  value : ℤ
  identifier : is_identifier word ≡ true
  name : word ≡ code.name_of code_is
  number : IsNumber text value
  answer_is : pattern.Valued code_is value ≡ answer

valued_is : (word text : List ℕ) (answer : Pattern) → valued word text ≡ Ok answer → IsValued word text answer
unfolding valued
valued_is word text answer e =
    let k = identifier_kept (is_identifier word) (ok_or (code_in word) UnknownName >>= λ c. value_in text >>= λ v. Ok (pattern.Valued c v)) answer e in
    let b = bind_parts (ok_or (code_in word) UnknownName) (λ c. value_in text >>= λ v. Ok (pattern.Valued c v)) answer k.1 in
    let d = bind_parts (value_in text) (λ v. Ok (pattern.Valued b.0 v)) answer b.2 in
    record {
      code_is = b.0;
      value = d.0;
      identifier = k.0;
      name = code_word word b.0 (ok_or_parts (code_in word) UnknownName b.0 b.1);
      number = value_is text d.0 d.1;
      answer_is = let e3 = d.2 in cc;
    }

-- what is known of what follows `on`
record IsTurned (text : List ℕ) (found : Option Said) : Type 0 where
  token : List ℕ
  rest : List ℕ
  answer : Pattern
  name : List ℕ
  apart : 1 ≤ length (prefix Word (after Blank text))
  is_answer : SpellsAnswer token answer
  goal : SpellsGoal rest name
  goal_apart : 1 ≤ length goal.padded.before
  found_is : Some (said.Jumps answer name) ≡ found
  parts : text ≡ prefix Blank text ++ (token ++ rest)

turned_parts : (answer : Result Pattern TextKind) (rest : List ℕ) (found : Option Said) → turned answer rest ≡ Ok found
    → (a : Pattern) × (name : List ℕ) × (answer ≡ Ok a) × (goal_in rest ≡ Ok name) × (Some (said.Jumps a name) ≡ found)
turned_parts answer rest found e =
    let b = bind_parts answer (λ a. goal_in rest >>= λ name. Ok (Some (said.Jumps a name))) found e in
    let d = bind_parts (goal_in rest) (λ name. Ok (Some (said.Jumps b.0 name))) found b.2 in
    (b.0, d.0, b.1, d.1, (let e2 = d.2 in cc))

turn_by : (text : List ℕ) (found : Option Said) (word rest : List ℕ) → prefix Word (after Blank text) ≡ word → after Word (after Blank text) ≡ rest → (o : Option (List ℕ)) → following colon rest ≡ o
    → turn_with word rest o ≡ Ok found → IsTurned text found
unfolding goal_from
turn_by text found word rest is_word is_rest None is e2 =
    let t = turned_parts (pattern_of word) rest found e2 in
    let p = pattern_is word t.0 t.2 in
    let g = goal_parts rest t.1 t.3 in
    record {
      token = word;
      rest = rest;
      answer = t.0;
      name = t.1;
      apart = omega (arith, (identifier_bytes word p.0).0, ap length is_word);
      is_answer = p.1;
      goal = goal_from rest t.1 g.0 g.1;
      goal_apart = subst (λ (l : List ℕ). 1 ≤ length (prefix Blank l)) is_rest (blank_between (after Blank text) (subst (λ (l : List ℕ). 1 ≤ length (prefix Word (after Blank l))) (sym is_rest) (omega (arith, ap length g.0))));
      found_is = t.4;
      parts = by_word text word is_word ∙ ap (λ (l : List ℕ). prefix Blank text ++ (word ++ l)) is_rest;
    }
turn_by text found word rest is_word is_rest (Some more) is e2 =
    let t = turned_parts (valued word (prefix Argument more)) (after Argument more) found e2 in
    let v = valued_is word (prefix Argument more) t.0 t.2 in
    let g = goal_parts (after Argument more) t.1 t.3 in
    let number : List ℕ = prefix Argument more in
    let spelled : SpellsAnswer (word ++ (58 ∷ number)) (pattern.Valued v.code_is v.value) =
    (number, v.number.negative, v.number.magnitude, v.number.spelled, v.number.in_range, ap (λ (w : List ℕ). w ++ (58 ∷ number)) v.name) in
    let inner : rest ≡ 58 ∷ (number ++ after Argument more) = after_is 58 rest more is ∙ ap (λ (l : List ℕ). 58 ∷ l) (sym (prefix-after Argument more)) in
    record {
      token = word ++ (58 ∷ number);
      rest = after Argument more;
      answer = t.0;
      name = t.1;
      apart = omega (arith, (identifier_bytes word v.identifier).0, ap length is_word);
      is_answer = subst (SpellsAnswer (word ++ (58 ∷ number))) v.answer_is spelled;
      goal = goal_from (after Argument more) t.1 g.0 g.1;
      goal_apart = no_blank more (prefix Blank (after Argument more)) (omega (arith, ap length g.0)) refl;
      found_is = t.4;
      parts = by_word text word is_word ∙ ap (λ (l : List ℕ). prefix Blank text ++ (word ++ l)) is_rest ∙ ap (λ (l : List ℕ). prefix Blank text ++ l) (ap (λ (l : List ℕ). word ++ l) inner ∙ sym (append_assoc word (58 ∷ number) (after Argument more)));
    }

turn_spelled : (text : List ℕ) (found : Option Said) → turn_in text ≡ Ok found → IsTurned text found
unfolding turn_in
turn_spelled text found e = turn_by text found (prefix Word (after Blank text)) (after Word (after Blank text)) refl refl (following colon (after Word (after Blank text))) refl e

on_spelled : (names : NameLists) (text : List ℕ) (found : Option Said) → prefix Word (after Blank text) ≡ codes "on" → IsTurned (after Word (after Blank text)) found → Says names true text found
on_spelled names text found word t = subst (Says names true text) t.found_is (refl, by t.answer t.is_answer)
  where
    turned_off : (answer : Pattern) → SpellsAnswer t.token answer → SpellsOn text answer t.name
    turned_off answer is = record {
      before = prefix Blank text;
      between = prefix Blank (after Word (after Blank text));
      token = t.token;
      rest = t.rest;
      before_blank = list_all-take_while (is_of Blank) text;
      between_blank = list_all-take_while (is_of Blank) (after Word (after Blank text));
      apart = blank_between (after Blank text) t.apart;
      is_answer = is;
      goal = t.goal;
      goal_apart = t.goal_apart;
      parts = by_word text (codes "on") word ∙ ap (λ (l : List ℕ). prefix Blank text ++ (codes "on" ++ l)) t.parts;
    }

    by : (answer : Pattern) → SpellsAnswer t.token answer → SpellsPart names text (Jumps answer t.name)
    by pattern.Any is = absurd is
    by pattern.Refused is = turned_off pattern.Refused is
    by (pattern.Coded c) is = turned_off (pattern.Coded c) is
    by (pattern.Valued c v) is = turned_off (pattern.Valued c v) is

turns_parts : (inside : Bool) (text : List ℕ) (found : Option Said) → turns inside text ≡ Ok found → (inside ≡ true) × IsTurned text found
unfolding turns
turns_parts false text found e = absurd cc
turns_parts true text found e = (refl, turn_spelled text found e)

goes_parts : (inside : Bool) (text : List ℕ) (found : Option Said) → goes inside text ≡ Ok found → (name : List ℕ) × (inside ≡ true) × (label_in text ≡ Ok name) × (Some (said.Jumps pattern.Any name) ≡ found)
unfolding goes
goes_parts false text found e = absurd cc
goes_parts true text found e = let b = bind_parts (label_in text) (λ name. Ok (Some (said.Jumps pattern.Any name))) found e in (b.0, refl, b.1, (let e2 = b.2 in cc))

stands_parts : (inside : Bool) (name text : List ℕ) (found : Option Said) → stands inside name text ≡ Ok found → (inside ≡ true) × (is_identifier name ≡ true) × AreBlank text × (Some (said.Stands name) ≡ found)
unfolding stands
stands_parts false name text found e = absurd cc
stands_parts true name text found e =
    let t = tested_ok (is_identifier name && list_all (is_of Blank) text) (Ok (Some (said.Stands name))) WrongArguments found e in
    let both = and_parts (is_identifier name) (list_all (is_of Blank) text) t.0 in
    (refl, both.0, both.1, (let e2 = t.1 in cc))

label_spelled : (text rest : List ℕ) → is_identifier (prefix Word (after Blank text)) ≡ true → is_taken (prefix Word (after Blank text)) ≡ false → AreBlank rest
    → following colon (after Blank (after Word (after Blank text))) ≡ Some rest → SpellsLabel text (prefix Word (after Blank text))
label_spelled text rest identifier free blank there =
    let word : List ℕ = prefix Word (after Blank text) in
    let follows : List ℕ = after Word (after Blank text) in
    let inner : follows ≡ prefix Blank follows ++ (58 ∷ rest) = sym (prefix-after Blank follows) ∙ ap (λ (l : List ℕ). prefix Blank follows ++ l) (after_is 58 (after Blank follows) rest there) in
    record {
      between = prefix Blank follows;
      between_blank = list_all-take_while (is_of Blank) follows;
      is_name = (identifier, free);
      padded = record {
        before = prefix Blank text;
        following = rest;
        before_blank = list_all-take_while (is_of Blank) text;
        after_blank = blank;
        parts = by_word text word refl
            ∙ ap (λ (l : List ℕ). prefix Blank text ++ l) (ap (λ (l : List ℕ). word ++ l) (inner ∙ sym (append_assoc (prefix Blank follows) (58 ∷ []) rest)) ∙ sym (append_assoc word (prefix Blank follows ++ (58 ∷ [])) rest));
      };
    }

other_spelled : (names : NameLists) (inside : Bool) (text : List ℕ) (found : Option Said) → is_taken (prefix Word (after Blank text)) ≡ false → bytes_eq (prefix Word (after Blank text)) (codes "ret_hdr") ≡ false
    → (o : Option (List ℕ)) → following colon (after Blank (after Word (after Blank text))) ≡ o → other_said names inside text o ≡ Ok found → Says names inside text found
other_spelled names inside text found free other None is e =
    let p = asks_parts names inside text found e in
    subst (Says names inside text) p.3 (p.1, step_spelled names text p.0 other p.2)
other_spelled names inside text found free other (Some rest) is e =
    let p = stands_parts inside (prefix Word (after Blank text)) rest found e in
    subst (Says names inside text) p.3 (p.0, label_spelled text rest p.1 free p.2 is)

pub text_spelled : (names : NameLists) (inside : Bool) (text : List ℕ) (found : Option Said) → said_by names inside text ≡ Ok found → Says names inside text found
unfolding said_by
text_spelled names inside text found e =
    let word : List ℕ = prefix Word (after Blank text) in
    elim (cases_Bool (bytes_eq (prefix Word (after Blank text)) (codes "script"))) [
      | inl t ↦
          let p = begins_parts names inside (after Word (after Blank text)) found (rw t at e) in
          subst (Says names inside text) p.3 (p.1, head_spelled names text p.0 ((bytes_eq-Decides (prefix Word (after Blank text)) (codes "script")).0 t) p.2)
      | inr f ↦
          elim (cases_Bool (bytes_eq (prefix Word (after Blank text)) (codes "end"))) [
            | inl t ↦
                let p = ends_parts inside (after Word (after Blank text)) found (rw (f, t) at e) in
                subst (Says names inside text) p.2 (p.0, end_spelled text ((bytes_eq-Decides (prefix Word (after Blank text)) (codes "end")).0 t) p.1)
            | inr g ↦
                elim (cases_Bool (bytes_eq (prefix Word (after Blank text)) (codes "ret_hdr"))) [
                  | inl t ↦ let bad = rw (f, g, t) at e in absurd cc
                  | inr h ↦
                      elim (cases_Bool (bytes_eq (prefix Word (after Blank text)) (codes "on"))) [
                        | inl t ↦
                            let p = turns_parts inside (after Word (after Blank text)) found (rw (f, g, h, t) at e) in
                            subst (λ (b : Bool). Says names b text found) (sym p.0) (on_spelled names text found (is_word word (codes "on") t) p.1)
                        | inr i ↦
                            elim (cases_Bool (bytes_eq (prefix Word (after Blank text)) (codes "goto"))) [
                              | inl t ↦
                                  let p = goes_parts inside (after Word (after Blank text)) found (rw (f, g, h, i, t) at e) in
                                  subst (Says names inside text) p.3 (p.1, goal_from text p.0 (is_word word (codes "goto") t) p.2)
                              | inr j ↦
                                  let free : is_taken (prefix Word (after Blank text)) ≡ false = rw (f, g, h, i, j) refl in
                                  other_spelled names inside text found free h (following colon (after Blank (after Word (after Blank text)))) refl (rw (f, g, h, i, j) at e)
                            ]
                      ]
                ]
          ]
    ]

-- what a line is that says this, or nothing
abbrev pub LineSays : NameLists → Bool → List ℕ → Option Said → Type 0
LineSays names inside line found = ((found ≡ None) × SpellsNothing line) ⊎ ((core : List ℕ) × Ended core line × Says names inside core found)

pub line_is_spelled : (names : NameLists) (inside : Bool) (line : List ℕ) (found : Option Said) → said_in names inside line ≡ Ok found → LineSays names inside line found
unfolding said_in
line_is_spelled names inside line found e =
    elim (cases_Bool (is_skipped (without_return line))) [
      | inl t ↦ let e2 = rw t at e in let none : found ≡ None = cc in inl (none, nothing_spelled line t)
      | inr f ↦
          let t = tested_ok (are_line (without_return line)) (said_by names inside (without_return line)) BadByte found (rw f at e) in
          inr (without_return line, ended line, text_spelled names inside (without_return line) found t.1)
    ]
