-- The first byte that does not fit is one of the line, or its end: what is left there is an end of the line.
use Rattle.std.proofs.Common.{◌≡◌, ℕ, Bool, true, false, cond, List, [], ◌∷◌, take, Option, Some, None, Result, Ok, Err, refl, sym, codes}
use Rattle.std.specs.List.{list_all, prefix_len}
use Rattle.std.specs.Option.{ok_or}
use Rattle.std.specs.Str.{bytes_eq}
use Rattle.std.proofs.lemmas.List.{take-append-drop}
use Rattle.fmp_bytes.specs.declared.classes.Class.TheVariants.{Argument, Blank, Word, Line}
use Rattle.fmp_bytes.specs.Bytes.{is_of, after, following, colon, is_identifier}
use Rattle.fmp_bytes.specs.Results.{◌>>=◌}
use Rattle.fmp_bytes.proofs.Spelled.{after_is}
use Rattle.fmp_calls.specs.Table.{named}
use Rattle.fmp_codes.specs.declared.calls.Call.{Call}
use Rattle.fmp_codes.specs.declared.kinds.NameKind.TheVariants.{Function}
use Rattle.fmp_names.specs.Names.{NameLists, number_of}
use Rattle.fmp_text.specs.declared.fault.TextKind.{TextKind}
use Rattle.fmp_text.specs.declared.fault.TextKind.TheVariants as kinds
use Rattle.fmp_text.specs.declared.fault.TextKind.TheVariants.{BadByte, BadWord, TooMany, UnknownName, WrongArguments}
use Rattle.fmp_text.specs.EventFaults.{first_word, following_word}
use Rattle.fmp_text.specs.Lines.{without_return}
use Rattle.fmp_text.specs.Places.{IsEnd, call_after}
use Rattle.fmp_text.specs.Places.{Place as CallPlace}
use Rattle.fmp_text.proofs.Ends.{chained, skipped, call_within}
use Rattle.fmp_text.proofs.Ends.{IsWithin as IsCallWithin}
use Rattle.fmp_text.proofs.Ends.{Whatever as AnyCall}
use Rattle.fmp_text_scripts.specs.declared.line.Said.{Said}
use Rattle.fmp_text_scripts.specs.declared.line.Said.TheVariants as said
use Rattle.fmp_text_scripts.specs.declared.misfit.Wanted.{Wanted}
use Rattle.fmp_text_scripts.specs.declared.misfit.Wanted.TheVariants as wants
use Rattle.fmp_text_scripts.specs.declared.ways.Pattern.{Pattern}
use Rattle.fmp_text_scripts.specs.declared.ways.Pattern.TheVariants as pattern
use Rattle.fmp_text_scripts.specs.Lines.{are_line, is_taken, may_stand, pattern_of, value_in}
use Rattle.fmp_text_scripts.specs.Places.{Place, fault_at, faults_at, ending, name_in, begins, label_in, goal_in, coded, valued, turned, turn_with, turn_in, stands, asked, asks, other_said, said_by}
use Rattle.fmp_text_scripts.specs.Refusals.{after_line, unfit, refused, placed, place}

-- ---- reading that stops within a text

-- the place, if there is one, is in the text
abbrev IsWithin : {A : Type 0} → List ℕ → Result A Place → Type 0
IsWithin text (Ok a) = Unit {0}
IsWithin text (Err place) = IsEnd place.rest text

bound : {A B : Type 0} (text : List ℕ) (r : Result A Place) (f : A → Result B Place) → IsWithin text r → ((a : A) → IsWithin text (f a)) → IsWithin text (r >>= f)
bound text (Ok a) f p q = q a
bound text (Err place) f p q = p

chosen : {A : Type 0} (text : List ℕ) (b : Bool) (x y : Result A Place) → IsWithin text x → IsWithin text y → IsWithin text (cond b x y)
chosen text true x y p q = p
chosen text false x y p q = q

found : {A : Type 0} (text : List ℕ) (o : Option A) (place : Place) → IsEnd place.rest text → IsWithin text (ok_or o place)
found text (Some a) place p = tt
found text None place p = p

told : {A : Type 0} (text rest : List ℕ) (wanted : Wanted) (r : Result A TextKind) → IsEnd rest text → IsWithin text (faults_at rest wanted r)
told text rest wanted (Ok a) p = tt
told text rest wanted (Err kind) p = p

-- in a text that is the end of another
outer : {A : Type 0} (text line : List ℕ) (r : Result A Place) → IsEnd text line → IsWithin text r → IsWithin line r
outer text line (Ok a) p q = tt
outer text line (Err place) p q = chained place.rest text line q p

-- what follows the first word
behind : (text : List ℕ) → IsEnd (following_word text) text
behind text = chained (following_word text) (after Blank text) text (skipped Word (after Blank text)) (skipped Blank text)

-- what follows a colon
past : (text rest : List ℕ) → following colon text ≡ Some rest → IsEnd rest text
past text rest is = (colon ∷ [], after_is colon text rest is)

-- ---- a line

ending_within : (text : List ℕ) → IsWithin text (ending text)
unfolding ending
ending_within text = chosen text (list_all (is_of Blank) text) (Ok tt) _ tt (skipped Blank text)

name_within : (wanted : Wanted) (text : List ℕ) → IsWithin text (name_in wanted text)
unfolding name_in
name_within wanted text =
    chosen text (is_identifier (first_word text)) (ending (following_word text) >>= λ end. Ok (first_word text)) _
    (bound text (ending (following_word text)) (λ end. Ok (first_word text)) (outer (following_word text) text (ending (following_word text)) (behind text) (ending_within (following_word text))) (λ end. tt)) (skipped Blank text)

begins_within : (names : NameLists) (text : List ℕ) → IsWithin text (begins names text)
unfolding begins
begins_within names text =
    bound text (name_in wants.Function text) (λ name. ok_or (number_of names Function name) (fault_at UnknownName (after Blank text) wants.Function) >>= λ f. Ok (said.Opens f)) (name_within wants.Function text)
    (λ name. bound text (ok_or (number_of names Function name) (fault_at UnknownName (after Blank text) wants.Function)) (λ f. Ok (said.Opens f)) (found text (number_of names Function name) _ (skipped Blank text)) (λ f. tt))

label_within : (text : List ℕ) → IsWithin text (label_in text)
unfolding label_in
label_within text =
    bound text (name_in wants.LabelName text) (λ name. cond (is_taken name) (Err (fault_at UnknownName (after Blank text) wants.LabelName)) (Ok name)) (name_within wants.LabelName text)
    (λ name. chosen text (is_taken name) (Err (fault_at UnknownName (after Blank text) wants.LabelName)) (Ok name) (skipped Blank text) tt)

goal_within : (text : List ℕ) → IsWithin text (goal_in text)
unfolding goal_in
goal_within text =
    chosen text (bytes_eq (first_word text) (codes "goto")) (label_in (following_word text)) _ (outer (following_word text) text (label_in (following_word text)) (behind text) (label_within (following_word text))) (skipped Blank text)

turned_within : (text rest : List ℕ) (answer : Result Pattern Place) → IsEnd rest text → IsWithin text answer → IsWithin text (turned answer rest)
turned_within text rest answer p q =
    bound text answer (λ a. goal_in rest >>= λ name. Ok (said.Jumps a name)) q (λ a. bound text (goal_in rest) (λ name. Ok (said.Jumps a name)) (outer rest text (goal_in rest) p (goal_within rest)) (λ name. tt))

valued_within : (text value : List ℕ) → IsEnd value text → IsWithin text (valued text value)
unfolding valued
valued_within text value p =
    bound text (faults_at (after Blank text) wants.Answered (coded (first_word text))) _ (told text (after Blank text) wants.Answered (coded (first_word text)) (skipped Blank text))
    (λ c. bound text (faults_at value wants.AnsweredValue (value_in _)) (λ v. Ok (pattern.Valued c v)) (told text value wants.AnsweredValue (value_in _) p) (λ v. tt))

turn_within : (text : List ℕ) → IsWithin text (turn_in text)
unfolding turn_in
turn_within text = by (following colon (following_word text)) refl
  where
    by : (o : Option (List ℕ)) → following colon (following_word text) ≡ o → IsWithin text (turn_with text o)
    by None is = turned_within text (following_word text) (faults_at (after Blank text) wants.Answered (pattern_of (first_word text))) (behind text) (told text (after Blank text) wants.Answered (pattern_of (first_word text)) (skipped Blank text))
    by (Some value) is =
        let p = chained value (following_word text) text (past (following_word text) value is) (behind text) in
        turned_within text (after Argument value) (valued text value) (chained (after Argument value) value text (skipped Argument value) p) (valued_within text value p)

stands_within : (text rest : List ℕ) → IsEnd rest text → IsWithin text (stands text rest)
unfolding stands
stands_within text rest p =
    chosen text (is_identifier (first_word text)) (ending rest >>= λ end. Ok (said.Stands (first_word text))) _
    (bound text (ending rest) (λ end. Ok (said.Stands (first_word text))) (outer rest text (ending rest) p (ending_within rest)) (λ end. tt)) (skipped Blank text)

asks_within : (names : NameLists) (text : List ℕ) → IsWithin text (asks names text)
unfolding asks
asks_within names text =
    chosen text (list_all (is_of Line) text) (ok_or (named (first_word text)) (fault_at BadWord (after Blank text) wants.Step) >>= λ call. asked (call_after names call (following_word text))) _
    (bound text (ok_or (named (first_word text)) (fault_at BadWord (after Blank text) wants.Step)) (λ call. asked (call_after names call (following_word text))) (found text (named (first_word text)) _ (skipped Blank text))
    (λ call. outer (following_word text) text (asked (call_after names call (following_word text))) (behind text) (step (call_after names call (following_word text)) (call_within names call (following_word text)))))
    (skipped Line text)
  where
    step : (read : Result Call CallPlace) → IsCallWithin AnyCall (following_word text) read → IsWithin (following_word text) (asked read)
    step (Ok call) p = tt
    step (Err place) p = p

said_within : (names : NameLists) (text : List ℕ) → IsWithin text (said_by names text)
unfolding said_by
said_within names text =
    chosen text (bytes_eq (first_word text) (codes "script")) (begins names rest) _ (outer rest text (begins names rest) (behind text) (begins_within names rest))
    (chosen text (bytes_eq (first_word text) (codes "end")) (ending rest >>= λ end. Ok said.Closes) _ (bound text (ending rest) (λ end. Ok said.Closes) (outer rest text (ending rest) (behind text) (ending_within rest)) (λ end. tt))
    (chosen text (bytes_eq (first_word text) (codes "on")) (turn_in rest) _ (outer rest text (turn_in rest) (behind text) (turn_within rest))
    (chosen text (bytes_eq (first_word text) (codes "goto")) (label_in rest >>= λ name. Ok (said.Jumps pattern.Any name)) _
    (bound text (label_in rest) (λ name. Ok (said.Jumps pattern.Any name)) (outer rest text (label_in rest) (behind text) (label_within rest)) (λ name. tt)) (other (following colon (after Blank rest)) refl))))
  where
    rest : List ℕ
    rest = following_word text

    other : (o : Option (List ℕ)) → following colon (after Blank rest) ≡ o → IsWithin text (other_said names text o)
    other None is = asks_within names text
    other (Some label) is = stands_within text label (chained label rest text (chained label (after Blank rest) rest (past (after Blank rest) label is) (skipped Blank rest)) (behind text))

unfit_within : (text : List ℕ) (s : Said) → IsEnd (unfit text s).rest text
unfit_within text (said.Opens f) = chained (after Blank (following_word text)) (following_word text) text (skipped Blank (following_word text)) (behind text)
unfit_within text (said.Asks call) = skipped Blank text
unfit_within text (said.Stands name) = skipped Blank text
unfit_within text (said.Jumps answer name) = skipped Blank text
unfit_within text said.Closes = skipped Blank text

refused_within : (text : List ℕ) (read : Result Said Place) → IsWithin text read → IsEnd (refused text read).rest text
refused_within text (Ok s) p = unfit_within text s
refused_within text (Err place) p = p

placed_within : (names : NameLists) (fault : TextKind) (text : List ℕ) → IsEnd (placed names fault text).rest text
placed_within names BadWord text = skipped Blank text
placed_within names BadByte text = refused_within text (said_by names text) (said_within names text)
placed_within names UnknownName text = refused_within text (said_by names text) (said_within names text)
placed_within names WrongArguments text = refused_within text (said_by names text) (said_within names text)
placed_within names kinds.NumberOutOfRange text = refused_within text (said_by names text) (said_within names text)
placed_within names kinds.CutShort text = refused_within text (said_by names text) (said_within names text)
placed_within names TooMany text = refused_within text (said_by names text) (said_within names text)
placed_within names kinds.Memory text = refused_within text (said_by names text) (said_within names text)

pub place_within : (names : NameLists) (fault : TextKind) (line : List ℕ) → IsEnd (place names fault line).rest (without_return line)
unfolding place
place_within names fault line = by (are_line (without_return line))
  where
    core : List ℕ
    core = without_return line

    by : (fitting : Bool) → IsEnd (cond fitting (placed names fault core) (fault_at BadByte (after_line core) wants.LineByte)).rest core
    by true = placed_within names fault core
    by false = (take (prefix_len may_stand core) core, sym (take-append-drop (prefix_len may_stand core) core))
