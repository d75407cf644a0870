-- Reading a line up to the first byte that does not fit says what reading it says, or has its fault.
use Rattle.std.proofs.Common.{◌≡◌, ℕ, Bool, true, false, cond, not, ◌&&◌, ◌||◌, List, Option, Some, None, Result, Ok, Err, refl, sym, ap, ◌∙◌, codes}
use Rattle.std.specs.List.{list_all}
use Rattle.std.specs.Option.{ok_or}
use Rattle.std.specs.Str.{bytes_eq}
use Rattle.std.proofs.lemmas.Bool.{false≢true}
use Rattle.std.proofs.lemmas.Slice.Eq.{bytes_eq-Decides}
use Rattle.fmp_bytes.specs.declared.classes.Class.TheVariants.{Argument, Blank, Line}
use Rattle.fmp_bytes.specs.Bytes.{is_of, prefix, after, following, colon, is_identifier}
use Rattle.fmp_bytes.specs.Results.{◌>>=◌}
use Rattle.fmp_calls.specs.Table.{named}
use Rattle.fmp_codes.specs.declared.calls.Call.{Call}
use Rattle.fmp_codes.specs.declared.kinds.NameKind.TheVariants.{Function}
use Rattle.fmp_names.specs.Names.{NameLists, number_of}
use Rattle.fmp_text.specs.declared.fault.TextKind.{TextKind}
use Rattle.fmp_text.specs.declared.fault.TextKind.TheVariants.{BadByte, BadWord, UnknownName, WrongArguments}
use Rattle.fmp_text.specs.EventFaults.{first_word, following_word}
use Rattle.fmp_text.specs.Lines.{is_skipped, without_return}
use Rattle.fmp_text.specs.Reading.{named_call, call_at, call_in}
use Rattle.fmp_text.specs.Reading.{call_after as read_call_after}
use Rattle.fmp_text.specs.Places.{call_after}
use Rattle.fmp_text.specs.Places.{Place as CallPlace}
use Rattle.fmp_text.proofs.PlacedFaults.{call_same}
use Rattle.fmp_text.proofs.PlacedFaults.{fault_of as fault_of_call}
use Rattle.fmp_text_scripts.specs.declared.line.Said.{Said}
use Rattle.fmp_text_scripts.specs.declared.line.Said.TheVariants as said
use Rattle.fmp_text_scripts.specs.declared.misfit.Wanted.{Wanted}
use Rattle.fmp_text_scripts.specs.declared.misfit.Wanted.TheVariants as wants
use Rattle.fmp_text_scripts.specs.declared.ways.Pattern.{Pattern}
use Rattle.fmp_text_scripts.specs.declared.ways.Pattern.TheVariants as pattern
use Rattle.fmp_text_scripts.specs.Lines as lines
use Rattle.fmp_text_scripts.specs.Lines.{code_in, is_taken, pattern_of, value_in}
use Rattle.fmp_text_scripts.specs.Places.{Place, fault_at, faults_at, ending, name_in, begins, label_in, goal_in, coded, valued, turned, turn_with, turn_in, stands, asked, asks, other_said, said_by}
use Rattle.fmp_text_scripts.specs.Refusals.{is_misplaced}

-- the fault alone
abbrev pub fault_of : {A : Type 0} → Result A Place → Result A TextKind
fault_of (Ok a) = Ok a
fault_of (Err place) = Err place.kind

kept : {A : Type 0} (rest : List ℕ) (wanted : Wanted) (r : Result A TextKind) → fault_of (faults_at rest wanted r) ≡ r
kept rest wanted (Ok a) = refl
kept rest wanted (Err kind) = refl

-- reading that goes on alike
bound : {A B : Type 0} (r : Result A Place) (s : Result A TextKind) (f : A → Result B Place) (g : A → Result B TextKind) → fault_of r ≡ s → ((a : A) → fault_of (f a) ≡ g a) → fault_of (r >>= f) ≡ (s >>= g)
bound (Ok a) s f g e same = same a ∙ ap (λ (r : Result _ TextKind). r >>= g) e
bound (Err place) s f g e same = ap (λ (r : Result _ TextKind). r >>= g) e

missing : {A : Type 0} (o : Option A) (kind : TextKind) (rest : List ℕ) (wanted : Wanted) → fault_of (ok_or o (fault_at kind rest wanted)) ≡ ok_or o kind
missing (Some a) kind rest wanted = refl
missing None kind rest wanted = refl

-- what is said of a line that says something
abbrev pub saying : Result Said Place → Result (Option Said) TextKind
saying (Ok s) = Ok (Some s)
saying (Err place) = Err place.kind

says : {A : Type 0} (r : Result A Place) (s : Result A TextKind) (f : A → Result Said Place) (g : A → Result (Option Said) TextKind) → fault_of r ≡ s → ((a : A) → saying (f a) ≡ g a) → saying (r >>= f) ≡ (s >>= g)
says (Ok a) s f g e same = same a ∙ ap (λ (r : Result _ TextKind). r >>= g) e
says (Err place) s f g e same = ap (λ (r : Result _ TextKind). r >>= g) e

-- ---- names

named_alone : (identifier blank : Bool) (text rest : List ℕ) (name : List ℕ) (wanted : Wanted)
    → fault_of (cond identifier (cond blank (Ok tt) (Err (fault_at WrongArguments rest wants.LineEnd)) >>= λ (end : Unit {0}). Ok name) (Err (fault_at WrongArguments text wanted))) ≡ cond (identifier && blank) (Ok name) (Err WrongArguments)
named_alone true true text rest name wanted = refl
named_alone true false text rest name wanted = refl
named_alone false blank text rest name wanted = refl

name_same : (wanted : Wanted) (text : List ℕ) → fault_of (name_in wanted text) ≡ lines.name_in text
unfolding name_in lines.name_in ending
name_same wanted text = named_alone (is_identifier (first_word text)) (list_all (is_of Blank) (following_word text)) (after Blank text) (after Blank (following_word text)) (first_word text) wanted

label_same : (text : List ℕ) → fault_of (label_in text) ≡ lines.label_in text
unfolding label_in lines.label_in
label_same text = bound (name_in wants.LabelName text) (lines.name_in text) _ (λ name. cond (is_taken name) (Err UnknownName) (Ok name)) (name_same wants.LabelName text) (λ name. free (is_taken name) name)
  where
    free : (taken : Bool) (name : List ℕ) → fault_of (cond taken (Err (fault_at UnknownName (after Blank text) wants.LabelName)) (Ok name)) ≡ cond taken (Err UnknownName) (Ok name)
    free true name = refl
    free false name = refl

goal_same : (text : List ℕ) → fault_of (goal_in text) ≡ lines.goal_in text
unfolding goal_in lines.goal_in
goal_same text = by (bytes_eq (first_word text) (codes "goto"))
  where
    by : (goto : Bool) → fault_of (cond goto (label_in (following_word text)) (Err (fault_at WrongArguments (after Blank text) wants.Goal))) ≡ cond goto (lines.label_in (following_word text)) (Err WrongArguments)
    by true = label_same (following_word text)
    by false = refl

-- ---- what a line says

begins_same : (names : NameLists) (text : List ℕ) → saying (begins names text) ≡ lines.begins names false text
unfolding begins lines.begins lines.function_in
begins_same names text = by (name_in wants.Function text) (lines.name_in text) (name_same wants.Function text)
  where
    found : (o : Option ℕ) → saying (ok_or o (fault_at UnknownName (after Blank text) wants.Function) >>= λ f. Ok (said.Opens f)) ≡ (ok_or o UnknownName >>= λ f. Ok (Some (said.Opens f)))
    found (Some f) = refl
    found None = refl

    by : (r : Result (List ℕ) Place) (s : Result (List ℕ) TextKind) → fault_of r ≡ s
        → saying (r >>= λ name. ok_or (number_of names Function name) (fault_at UnknownName (after Blank text) wants.Function) >>= λ f. Ok (said.Opens f)) ≡ ((s >>= λ name. ok_or (number_of names Function name) UnknownName) >>= λ f. Ok (Some (said.Opens f)))
    by (Ok name) s e = rw (sym e) (found (number_of names Function name))
    by (Err place) s e = rw (sym e) refl

ends_same : (text : List ℕ) → saying (ending text >>= λ end. Ok said.Closes) ≡ lines.ends true text
unfolding ending lines.ends
ends_same text = by (list_all (is_of Blank) text)
  where
    by : (blank : Bool) → saying (cond blank (Ok tt) (Err (fault_at WrongArguments (after Blank text) wants.LineEnd)) >>= λ (end : Unit {0}). Ok said.Closes) ≡ cond blank (Ok (Some said.Closes)) (Err WrongArguments)
    by true = refl
    by false = refl

turned_same : (answer : Result Pattern Place) (read : Result Pattern TextKind) (rest : List ℕ) → fault_of answer ≡ read → saying (turned answer rest) ≡ lines.turned read rest
turned_same answer read rest e =
    says answer read (λ a. goal_in rest >>= λ name. Ok (said.Jumps a name)) (λ a. lines.goal_in rest >>= λ name. Ok (Some (said.Jumps a name))) e
    (λ a. says (goal_in rest) (lines.goal_in rest) (λ name. Ok (said.Jumps a name)) (λ name. Ok (Some (said.Jumps a name))) (goal_same rest) (λ name. refl))

valued_same : (text value : List ℕ) → fault_of (valued text value) ≡ lines.valued (first_word text) (prefix Argument value)
unfolding valued lines.valued coded
valued_same text value = by (is_identifier (first_word text)) (code_in (first_word text))
  where
    by : (identifier : Bool) (o : Option _) → fault_of (faults_at (after Blank text) wants.Answered (cond (not identifier) (Err WrongArguments) (ok_or o UnknownName)) >>= λ c. faults_at value wants.AnsweredValue (value_in (prefix Argument value)) >>= λ v. Ok (pattern.Valued c v))
        ≡ cond (not identifier) (Err WrongArguments) (ok_or o UnknownName >>= λ c. value_in (prefix Argument value) >>= λ v. Ok (pattern.Valued c v))
    by false o = refl
    by true None = refl
    by true (Some c) = bound (faults_at value wants.AnsweredValue (value_in (prefix Argument value))) (value_in (prefix Argument value)) (λ v. Ok (pattern.Valued c v)) (λ v. Ok (pattern.Valued c v)) (kept value wants.AnsweredValue (value_in (prefix Argument value))) (λ v. refl)

turn_same : (text : List ℕ) → saying (turn_in text) ≡ lines.turns true text
unfolding turn_in lines.turns lines.turn_in
turn_same text = by (following colon (following_word text))
  where
    by : (o : Option (List ℕ)) → saying (turn_with text o) ≡ lines.turn_with (first_word text) (following_word text) o
    by None = turned_same (faults_at (after Blank text) wants.Answered (pattern_of (first_word text))) (pattern_of (first_word text)) (following_word text) (kept (after Blank text) wants.Answered (pattern_of (first_word text)))
    by (Some value) = turned_same (valued text value) (lines.valued (first_word text) (prefix Argument value)) (after Argument value) (valued_same text value)

goes_same : (text : List ℕ) → saying (label_in text >>= λ name. Ok (said.Jumps pattern.Any name)) ≡ lines.goes true text
unfolding lines.goes
goes_same text = says (label_in text) (lines.label_in text) (λ name. Ok (said.Jumps pattern.Any name)) (λ name. Ok (Some (said.Jumps pattern.Any name))) (label_same text) (λ name. refl)

stands_same : (text rest : List ℕ) → saying (stands text rest) ≡ lines.stands true (first_word text) rest
unfolding stands lines.stands ending
stands_same text rest = by (is_identifier (first_word text)) (list_all (is_of Blank) rest)
  where
    by : (identifier blank : Bool) → saying (cond identifier (cond blank (Ok tt) (Err (fault_at WrongArguments (after Blank rest) wants.LineEnd)) >>= λ (end : Unit {0}). Ok (said.Stands (first_word text))) (Err (fault_at WrongArguments (after Blank text) wants.LabelName)))
        ≡ cond (identifier && blank) (Ok (Some (said.Stands (first_word text)))) (Err WrongArguments)
    by true true = refl
    by true false = refl
    by false blank = refl

asks_same : (names : NameLists) (text : List ℕ) → saying (asks names text) ≡ lines.asks names true text
unfolding asks lines.asks call_in call_at named_call
asks_same names text = by (list_all (is_of Line) text) (named (first_word text))
  where
    step : (read : Result Call CallPlace) (call : Result Call TextKind) → fault_of_call read ≡ call → saying (asked read) ≡ (call >>= λ c. Ok (Some (said.Asks c)))
    step (Ok call) s e = rw (sym e) refl
    step (Err place) s e = rw (sym e) refl

    by : (fitting : Bool) (o : Option Call) → saying (cond fitting (ok_or o (fault_at BadWord (after Blank text) wants.Step) >>= λ call. asked (call_after names call (following_word text))) (Err (fault_at BadByte (after Line text) wants.LineByte)))
        ≡ (cond fitting (ok_or o BadWord >>= λ call. read_call_after names call (following_word text)) (Err BadByte) >>= λ c. Ok (Some (said.Asks c)))
    by false o = refl
    by true None = refl
    by true (Some call) = step (call_after names call (following_word text)) (read_call_after names call (following_word text)) (call_same names call (following_word text))

-- ---- by the first word

other_same : (names : NameLists) (text : List ℕ) (o : Option (List ℕ)) → saying (other_said names text o) ≡ lines.other_said names true text o
other_same names text None = asks_same names text
other_same names text (Some rest) = stands_same text rest

-- outside of a script nothing but `script` is read
outside : (names : NameLists) (text : List ℕ) (o : Option (List ℕ)) → lines.other_said names false text o ≡ Err BadWord
unfolding lines.asks lines.stands
outside names text None = refl
outside names text (Some rest) = refl

pub misplaced_is_refused : (names : NameLists) (inside : Bool) (text : List ℕ) → is_misplaced inside (first_word text) ≡ true → lines.said_by names inside text ≡ Err BadWord
unfolding lines.said_by lines.begins lines.ends lines.turns lines.goes
misplaced_is_refused names inside text = by inside (bytes_eq (first_word text) (codes "script")) (bytes_eq (first_word text) (codes "end")) (bytes_eq (first_word text) (codes "ret_hdr")) (bytes_eq (first_word text) (codes "on")) (bytes_eq (first_word text) (codes "goto")) refl refl
  where
    rest : List ℕ
    rest = following_word text

    by : (inside a b c d e : Bool) → bytes_eq (first_word text) (codes "end") ≡ b → bytes_eq (first_word text) (codes "ret_hdr") ≡ c → cond a inside (not inside || c) ≡ true
        → cond a (lines.begins names inside rest) (cond b (lines.ends inside rest) (cond c (Err BadWord) (cond d (lines.turns inside rest) (cond e (lines.goes inside rest) (lines.other_said names inside text (following colon (after Blank rest))))))) ≡ Err BadWord
    by true true b c d e ends returns p = refl
    by false true b c d e ends returns p = absurd (false≢true p)
    by false false true c d e ends returns p = refl
    by false false false true d e ends returns p = refl
    by false false false false true e ends returns p = refl
    by false false false false false true ends returns p = refl
    by false false false false false false ends returns p = outside names text (following colon (after Blank rest))
    by true false false true d e ends returns p = refl
    by true false b false d e ends returns p = absurd (false≢true p)
    by true false true true d e ends returns p =
        let word : first_word text ≡ codes "end" = (bytes_eq-Decides (first_word text) (codes "end")).0 ends in
        absurd (false≢true (ap (λ (w : List ℕ). bytes_eq w (codes "ret_hdr")) (sym word) ∙ returns))

pub said_same : (names : NameLists) (inside : Bool) (text : List ℕ) → is_misplaced inside (first_word text) ≡ false → saying (said_by names text) ≡ lines.said_by names inside text
unfolding said_by lines.said_by
said_same names inside text = by inside (bytes_eq (first_word text) (codes "script")) (bytes_eq (first_word text) (codes "end")) (bytes_eq (first_word text) (codes "ret_hdr")) (bytes_eq (first_word text) (codes "on")) (bytes_eq (first_word text) (codes "goto"))
  where
    rest : List ℕ
    rest = following_word text

    by : (inside a b c d e : Bool) → cond a inside (not inside || c) ≡ false
        → saying (cond a (begins names rest) (cond b (ending rest >>= λ end. Ok said.Closes) (cond d (turn_in rest) (cond e (label_in rest >>= λ name. Ok (said.Jumps pattern.Any name)) (other_said names text (following colon (after Blank rest)))))))
        ≡ cond a (lines.begins names inside rest) (cond b (lines.ends inside rest) (cond c (Err BadWord) (cond d (lines.turns inside rest) (cond e (lines.goes inside rest) (lines.other_said names inside text (following colon (after Blank rest)))))))
    by false true b c d e p = begins_same names rest
    by true true b c d e p = absurd (false≢true (sym p))
    by false false b c d e p = absurd (false≢true (sym p))
    by true false b true d e p = absurd (false≢true (sym p))
    by true false true false d e p = ends_same rest
    by true false false false true e p = turn_same rest
    by true false false false false true p = goes_same rest
    by true false false false false false p = other_same names text (following colon (after Blank rest))

-- ---- a whole line

pub line_misplaced : (names : NameLists) (inside : Bool) (line core : List ℕ) → core ≡ without_return line → is_skipped core ≡ false → lines.are_line core ≡ true → is_misplaced inside (first_word core) ≡ true → lines.said_in names inside line ≡ Err BadWord
unfolding lines.said_in
line_misplaced names inside line core is unskipped fitting word =
    let refused = misplaced_is_refused names inside core word in
    rw (sym is, unskipped, fitting, refused) refl

pub line_read : (names : NameLists) (inside : Bool) (line core : List ℕ) (read : Result Said Place) → core ≡ without_return line → is_skipped core ≡ false → lines.are_line core ≡ true → is_misplaced inside (first_word core) ≡ false
    → said_by names core ≡ read → saying read ≡ lines.said_in names inside line
unfolding lines.said_in
line_read names inside line core read is unskipped fitting word said =
    let same = sym (said_same names inside core word) in
    rw (sym is, unskipped, fitting, same) (ap saying (sym said))
