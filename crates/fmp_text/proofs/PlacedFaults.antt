-- Reading up to the first byte that does not fit has the fault of reading, where it stops.
use Rattle.std.proofs.Common.{◌≡◌, ℕ, Bool, true, false, cond, eqb, inl, inr, List, [], ◌∷◌, length, Option, Some, None, Result, Ok, Err, refl, sym, ap, subst, ◌∙◌, codes}
use Rattle.std.specs.List.{list_all}
use Rattle.std.specs.Option.{ok_or}
use Rattle.std.specs.Str.{bytes_eq}
use Rattle.std.proofs.lemmas.Bool.{cases_Bool, eq-eqb, eqb-true}
use Rattle.fmp_bytes.specs.declared.classes.Class.TheVariants.{Blank, Word, Line}
use Rattle.fmp_bytes.specs.Bytes.{is_of, prefix, after}
use Rattle.fmp_bytes.specs.Results.{◌>>=◌}
use Rattle.fmp_calls.specs.Table.{is_bare, kinds_of, call_of, named}
use Rattle.fmp_codes.specs.declared.calls.Call.{Call}
use Rattle.fmp_codes.specs.declared.kinds.ArgumentKind.{ArgumentKind}
use Rattle.fmp_codes.specs.declared.numbers.Proc.{Proc}
use Rattle.fmp_codes.specs.declared.records.Event.{Event}
use Rattle.fmp_codes.specs.declared.records.Event.TheVariants as events
use Rattle.fmp_names.specs.Names.{NameLists}
use Rattle.fmp_text.specs.declared.fault.TextKind.{TextKind}
use Rattle.fmp_text.specs.declared.fault.TextKind.TheVariants.{BadWord, WrongArguments}
use Rattle.fmp_text.specs.declared.misfit.Wanted.{Wanted}
use Rattle.fmp_text.specs.declared.misfit.Wanted.TheVariants.{CallEnd, LineEnd}
use Rattle.fmp_text.specs.Argument.{arguments_after, value_at}
use Rattle.fmp_text.specs.Reading.{named_call, values_at, call_with, call_after, call_at, call_in}
use Rattle.fmp_text.specs.Lines.{alone, event_of, event_at, event_in, is_skipped, line_event, processor_in, without_return}
use Rattle.fmp_text.specs.Places.{Place, fault_at, faults_at, ending, formed, value, values}
use Rattle.fmp_text.specs.Places.{call_after as placed_call, call_at as placed_call_at, alone as placed_alone, event_of as placed_event_of}
use Rattle.fmp_text.specs.Places.{event_at as placed_event_at, event_in as placed_event_in, line_event as placed_line_event}
use Rattle.fmp_text.proofs.EventFaults.{form_read, form_is}
use Rattle.fmp_text.proofs.Formed.{IsOfForm, tokens_of, formed_of_form, formed_is, formed_goes}

-- the fault alone
abbrev pub fault_of : {A : Type 0} → Result A Place → Result A TextKind
fault_of (Ok a) = Ok a
fault_of (Err place) = Err place.kind

placed : {A : Type 0} (rest : List ℕ) (wanted : Wanted) (r : Result A TextKind) → fault_of (faults_at rest wanted r) ≡ r
placed rest wanted (Ok a) = refl
placed rest wanted (Err kind) = refl

-- reading that goes on alike
bound : {A B : Type 0} (r : Result A Place) (s : Result A TextKind) (f : A → Result B Place) (g : A → Result B TextKind) → fault_of r ≡ s → ((a : A) → fault_of (f a) ≡ g a) → fault_of (r >>= f) ≡ (s >>= g)
bound (Ok a) s f g e same = same a ∙ ap (λ (r : Result _ TextKind). r >>= g) e
bound (Err place) s f g e same = ap (λ (r : Result _ TextKind). r >>= g) e

-- what is not there
missing : {A : Type 0} (o : Option A) (kind : TextKind) (rest : List ℕ) (wanted : Wanted) → fault_of (ok_or o (fault_at kind rest wanted)) ≡ ok_or o kind
missing (Some a) kind rest wanted = refl
missing None kind rest wanted = refl

-- one of two
chosen : {A : Type 0} (b : Bool) (x y : Result A Place) (u v : Result A TextKind) → fault_of x ≡ u → fault_of y ≡ v → fault_of (cond b x y) ≡ cond b u v
chosen true x y u v p q = p
chosen false x y u v p q = q

-- ---- a call

values_same : (names : NameLists) (call : Call) (kinds : List ArgumentKind) (texts : List (List ℕ)) → fault_of (values names call kinds texts) ≡ values_at names kinds (tokens_of texts)
unfolding value
values_same names call [] texts = refl
values_same names call (kind ∷ kinds) [] = refl
values_same names call (kind ∷ kinds) (text ∷ texts) =
    bound (value names call kind text) (value_at names kind _) (λ first. values names call kinds texts >>= λ others. Ok (first ∷ others)) (λ first. values_at names kinds (tokens_of texts) >>= λ others. Ok (first ∷ others)) (placed text _ _)
    (λ first. bound (values names call kinds texts) (values_at names kinds (tokens_of texts)) (λ others. Ok (first ∷ others)) (λ others. Ok (first ∷ others)) (values_same names call kinds texts) (λ others. refl))

-- what has not the form is refused
refused : (names : NameLists) (call : Call) (text : List ℕ) (place : Place) → formed call text ≡ Err place → call_after names call text ≡ Err WrongArguments
unfolding call_after call_with
refused names call text place is = by (arguments_after 4 (is_bare call) text) refl
  where
    by : (found : Option (List (List ℕ))) → arguments_after 4 (is_bare call) text ≡ found → (ok_or found WrongArguments >>= λ tokens. call_with names call tokens) ≡ Err WrongArguments
    by None none = refl
    by (Some tokens) some =
        elim (cases_Bool (eqb (length tokens) (length (kinds_of call)))) [
          | inl t ↦
              let goes = formed_goes call tokens text (form_is call tokens text some (eqb-true (length tokens) (length (kinds_of call)) t)).0 in
              let one = goes.1 in absurd cc
          | inr f ↦ rw f refl
        ]

-- what has it is read on
formed_read : (names : NameLists) (call : Call) (text : List ℕ) (starts : List (List ℕ)) → formed call text ≡ Ok starts
    → call_after names call text ≡ (values_at names (kinds_of call) (tokens_of starts) >>= λ list. ok_or (call_of call list) WrongArguments)
unfolding call_after call_with
formed_read names call text starts is =
    let form = formed_is call text starts is in
    let tokens = form_read call (tokens_of starts) text form in
    let test = eq-eqb (length (tokens_of starts)) (length (kinds_of call)) form.0 in
    rw (tokens, test) refl

pub call_same : (names : NameLists) (call : Call) (text : List ℕ) → fault_of (placed_call names call text) ≡ call_after names call text
unfolding placed_call
call_same names call text = by (formed call text) refl
  where
    by : (found : Result (List (List ℕ)) Place) → formed call text ≡ found → fault_of (found >>= λ texts. values names call (kinds_of call) texts >>= λ list. ok_or (call_of call list) (fault_at WrongArguments text (CallEnd call))) ≡ call_after names call text
    by (Ok starts) is =
        bound (values names call (kinds_of call) starts) (values_at names (kinds_of call) (tokens_of starts)) (λ list. ok_or (call_of call list) (fault_at WrongArguments text (CallEnd call))) (λ list. ok_or (call_of call list) WrongArguments)
        (values_same names call (kinds_of call) starts) (λ list. missing (call_of call list) WrongArguments text _)
        ∙ sym (formed_read names call text starts is)
    by (Err place) is =
        let kind : place.kind ≡ WrongArguments = subst (λ (r : Result (List (List ℕ)) Place). IsOfForm r) is (formed_of_form call text) in
        ap (λ (k : TextKind). Err k) kind ∙ sym (refused names call text place is)

pub call_at_same : (names : NameLists) (text : List ℕ) → fault_of (placed_call_at names text) ≡ call_at names text
unfolding placed_call_at call_at named_call
call_at_same names text =
    bound (ok_or (named (prefix Word text)) _) (ok_or (named (prefix Word text)) BadWord) (λ call. placed_call names call (after Word text)) (λ call. call_after names call (after Word text)) (missing (named (prefix Word text)) BadWord text _)
    (λ call. call_same names call (after Word text))

-- ---- a line

alone_same : (event : Event) (rest : List ℕ) → fault_of (placed_alone event rest) ≡ alone event rest
unfolding ending
alone_same event rest = by (list_all (is_of Blank) rest)
  where
    by : (b : Bool) → fault_of (cond b (Ok (tt {0})) (Err (fault_at WrongArguments (after Blank rest) LineEnd)) >>= λ end. Ok event) ≡ cond b (Ok event) (Err WrongArguments)
    by true = refl
    by false = refl

event_of_same : (names : NameLists) (processor : Proc) (text : List ℕ) → fault_of (placed_event_of names processor text) ≡ event_of names processor text
unfolding placed_event_of event_of
event_of_same names processor text =
    chosen (bytes_eq (prefix Word text) (codes "tick")) (placed_alone (events.Tick processor) (after Word text)) _ (alone (events.Tick processor) (after Word text)) _ (alone_same (events.Tick processor) (after Word text))
    (chosen (bytes_eq (prefix Word text) (codes "ipi")) (placed_alone (events.Ipi processor) (after Word text)) _ (alone (events.Ipi processor) (after Word text)) _ (alone_same (events.Ipi processor) (after Word text))
    (bound (placed_call_at names text) (call_at names text) (λ call. Ok (events.Call processor call)) (λ call. Ok (events.Call processor call)) (call_at_same names text) (λ call. refl)))

event_at_same : (names : NameLists) (text : List ℕ) → fault_of (placed_event_at names text) ≡ event_at names text
unfolding placed_event_at event_at
event_at_same names text =
    let rest = after Blank (after Word text) in
    bound (faults_at text _ (processor_in names (prefix Word text))) (processor_in names (prefix Word text)) (λ processor. placed_event_of names processor rest) (λ processor. event_of names processor rest)
    (placed text _ (processor_in names (prefix Word text))) (λ processor. event_of_same names processor rest)

event_in_same : (names : NameLists) (line : List ℕ) → fault_of (placed_event_in names line) ≡ event_in names line
unfolding placed_event_in event_in
event_in_same names line = chosen (list_all (is_of Line) line) (placed_event_at names (after Blank line)) _ (event_at names (after Blank line)) _ (event_at_same names (after Blank line)) refl

pub line_same : (names : NameLists) (line : List ℕ) → fault_of (placed_line_event names line) ≡ line_event names line
unfolding placed_line_event line_event
line_same names line =
    chosen (is_skipped (without_return line)) (Ok None) _ (Ok None) _ refl
    (bound (placed_event_in names (without_return line)) (event_in names (without_return line)) (λ event. Ok (Some event)) (λ event. Ok (Some event)) (event_in_same names (without_return line)) (λ event. refl))

-- ---- what functions return

pub call_read : (names : NameLists) (bytes : List ℕ) (read : Result Call Place) → list_all (is_of Line) bytes ≡ true → placed_call_at names (after Blank bytes) ≡ read → fault_of read ≡ call_in names bytes
unfolding call_in
call_read names bytes read line is = rw line (ap fault_of (sym is) ∙ call_at_same names (after Blank bytes))

pub line_read : (names : NameLists) (line : List ℕ) (event : Event) → is_skipped (without_return line) ≡ false → placed_event_in names (without_return line) ≡ Ok event → line_event names line ≡ Ok (Some event)
unfolding line_event
line_read names line event said is = let read = sym (event_in_same names (without_return line)) ∙ ap fault_of is in rw (said, read) refl

pub line_refused : (names : NameLists) (line : List ℕ) (place : Place) → is_skipped (without_return line) ≡ false → placed_event_in names (without_return line) ≡ Err place → line_event names line ≡ Err place.kind
unfolding line_event
line_refused names line place said is = let read = sym (event_in_same names (without_return line)) ∙ ap fault_of is in rw (said, read) refl
