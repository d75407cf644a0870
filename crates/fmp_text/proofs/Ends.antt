-- The first byte that does not fit is one of the line, or its end: what is left there is an end of the line.
use Rattle.std.proofs.Common.{◌≡◌, ℕ, zero, suc, ◌+◌, Bool, true, false, cond, List, [], ◌∷◌, ◌++◌, take, Option, Some, None, Result, Ok, Err, refl, sym, ap, subst, ◌∙◌, append_assoc, codes}
use Rattle.std.specs.List.{list_all, prefix_len}
use Rattle.std.specs.Option.{ok_or}
use Rattle.std.specs.Str.{bytes_eq}
use Rattle.std.proofs.lemmas.List.{take-append-drop}
use Rattle.fmp_bytes.specs.declared.classes.Class.{Class}
use Rattle.fmp_bytes.specs.declared.classes.Class.TheVariants.{Blank, Word, Argument, Line}
use Rattle.fmp_bytes.specs.Bytes.{is_of, prefix, after, following}
use Rattle.fmp_bytes.specs.Results.{◌>>=◌}
use Rattle.fmp_bytes.proofs.Spelled.{after_is}
use Rattle.fmp_calls.specs.Table.{is_bare, kinds_of, call_of, named}
use Rattle.fmp_codes.specs.declared.calls.Call.{Call}
use Rattle.fmp_codes.specs.declared.kinds.ArgumentKind.{ArgumentKind}
use Rattle.fmp_codes.specs.declared.numbers.Proc.{Proc}
use Rattle.fmp_codes.specs.declared.records.Event.{Event}
use Rattle.fmp_codes.specs.declared.records.Event.TheVariants as events
use Rattle.fmp_names.specs.Names.{NameLists}
use Rattle.fmp_text.specs.declared.fault.TextKind.{TextKind}
use Rattle.fmp_text.specs.declared.fault.TextKind.TheVariants.{WrongArguments}
use Rattle.fmp_text.specs.declared.misfit.Wanted.{Wanted}
use Rattle.fmp_text.specs.declared.misfit.Wanted.TheVariants.{CallEnd, LineEnd, Mark}
use Rattle.fmp_text.specs.Argument.{is_argument, value_at}
use Rattle.fmp_text.specs.Lines.{is_skipped, processor_in, without_return}
use Rattle.fmp_text.specs.Places.{Place, IsEnd, fault_at, faults_at, mark, start, argument, arguments, ending, enclosed, formed, value, values, call_after, call_at, alone, event_of, event_at, event_in, line_event}

pub whole : (l : List ℕ) → IsEnd l l
whole l = ([], refl)

pub chained : (a b c : List ℕ) → IsEnd a b → IsEnd b c → IsEnd a c
chained a b c p q = (q.0 ++ p.0, q.1 ∙ (ap (λ (l : List ℕ). q.0 ++ l) p.1 ∙ sym (append_assoc q.0 p.0 a)))

pub skipped : (class : Class) (l : List ℕ) → IsEnd (after class l) l
skipped class l = (take (prefix_len (is_of class) l) l, sym (take-append-drop (prefix_len (is_of class) l) l))

-- ---- reading that stops within a text

-- what is read is so, or the place is in the text
abbrev pub IsWithin : {A : Type 0} → (A → Type 0) → List ℕ → Result A Place → Type 0
IsWithin Is text (Ok a) = Is a
IsWithin Is text (Err place) = IsEnd place.rest text

abbrev pub Whatever : {A : Type 0} → A → Type 0
Whatever a = Unit {0}

bound : {A B : Type 0} (Is : A → Type 0) (Then : B → Type 0) (text : List ℕ) (r : Result A Place) (f : A → Result B Place) → IsWithin Is text r → ((a : A) → Is a → IsWithin Then text (f a)) → IsWithin Then text (r >>= f)
bound Is Then text (Ok a) f p q = q a p
bound Is Then text (Err place) f p q = p

chosen : {A : Type 0} (Is : A → Type 0) (text : List ℕ) (b : Bool) (x y : Result A Place) → IsWithin Is text x → IsWithin Is text y → IsWithin Is text (cond b x y)
chosen Is text true x y p q = p
chosen Is text false x y p q = q

found : {A : Type 0} (text : List ℕ) (o : Option A) (kind : TextKind) (rest : List ℕ) (wanted : Wanted) → IsEnd rest text → IsWithin Whatever text (ok_or o (fault_at kind rest wanted))
found text (Some a) kind rest wanted p = tt
found text None kind rest wanted p = p

placed : {A : Type 0} (text rest : List ℕ) (wanted : Wanted) (r : Result A TextKind) → IsEnd rest text → IsWithin Whatever text (faults_at rest wanted r)
placed text rest wanted (Ok a) p = tt
placed text rest wanted (Err kind) p = p

-- in a text that is the end of another
outer : {A : Type 0} (Is : A → Type 0) (text line : List ℕ) (r : Result A Place) → IsEnd text line → IsWithin Is text r → IsWithin Is line r
outer Is text line (Ok a) p q = q
outer Is text line (Err place) p q = chained place.rest text line q p

-- what is left is an end of the text
abbrev Leaves : List ℕ → Result (List ℕ) Place → Type 0
Leaves text r = IsWithin (λ rest. IsEnd rest text) text r

-- from an end of the text on
further : (rest text : List ℕ) (r : Result (List ℕ) Place) → IsEnd rest text → Leaves rest r → Leaves text r
further rest text (Ok left) p q = chained left rest text q p
further rest text (Err place) p q = chained place.rest rest text q p

-- ---- a call

mark_within : (call : Call) (byte : ℕ) (text : List ℕ) → Leaves text (mark call byte text)
unfolding mark
mark_within call byte text = by (following byte (after Blank text)) refl
  where
    by : (o : Option (List ℕ)) → following byte (after Blank text) ≡ o → Leaves text (ok_or o (fault_at WrongArguments (after Blank text) (Mark call byte)))
    by (Some rest) is = chained rest (after Blank text) text (byte ∷ [], after_is byte (after Blank text) rest is) (skipped Blank text)
    by None is = skipped Blank text

start_within : (call : Call) (n : ℕ) (text : List ℕ) → Leaves text (start call n text)
start_within call zero text = skipped Blank text
start_within call (suc i) text =
    bound (λ rest. IsEnd rest text) (λ rest. IsEnd rest text) text (mark call 44 text) (λ rest. Ok (after Blank rest)) (mark_within call 44 text) (λ rest p. chained (after Blank rest) rest text (skipped Blank rest) p)

argument_within : (call : Call) (kind : ArgumentKind) (text : List ℕ) → Leaves text (argument call kind text)
unfolding argument
argument_within call kind text = chosen (λ rest. IsEnd rest text) text (is_argument (prefix Argument text)) (Ok (after Argument text)) _ (skipped Argument text) (whole text)

-- each is an end of the text
abbrev AreEnds : List ℕ → List (List ℕ) → Type 0
AreEnds text [] = Unit {0}
AreEnds text (rest ∷ others) = IsEnd rest text × AreEnds text others

abbrev AreRead : List ℕ → List (List ℕ) × List ℕ → Type 0
AreRead text read = AreEnds text read.0 × IsEnd read.1 text

arguments_within : (call : Call) (n : ℕ) (kinds : List ArgumentKind) (rest text : List ℕ) → IsEnd rest text → IsWithin (AreRead text) text (arguments call n kinds rest)
arguments_within call n [] rest text p = (tt, p)
arguments_within call n (kind ∷ kinds) rest text p =
    bound (λ first. IsEnd first text) (AreRead text) text (start call n rest) (λ first. argument call kind first >>= λ after. arguments call (n + 1) kinds after >>= λ others. Ok (first ∷ others.0, others.1)) (further rest text (start call n rest) p (start_within call n rest))
    (λ first q. bound (λ after. IsEnd after text) (AreRead text) text (argument call kind first) (λ after. arguments call (n + 1) kinds after >>= λ others. Ok (first ∷ others.0, others.1)) (further first text (argument call kind first) q (argument_within call kind first))
    (λ after s. bound (AreRead text) (AreRead text) text (arguments call (n + 1) kinds after) (λ others. Ok (first ∷ others.0, others.1)) (arguments_within call (n + 1) kinds after text s) (λ others t. ((q, t.0), t.1))))

ending_within : (wanted : Wanted) (rest text : List ℕ) → IsEnd rest text → IsWithin Whatever text (ending wanted rest)
unfolding ending
ending_within wanted rest text p = chosen Whatever text (list_all (is_of Blank) rest) (Ok tt) _ tt (chained (after Blank rest) rest text (skipped Blank rest) p)

enclosed_within : (call : Call) (kinds : List ArgumentKind) (text : List ℕ) → IsWithin (AreEnds text) text (enclosed call kinds text)
unfolding enclosed
enclosed_within call kinds text =
    bound (λ inner. IsEnd inner text) (AreEnds text) text (mark call 40 text) _ (mark_within call 40 text)
    (λ inner p. bound (AreRead text) (AreEnds text) text (arguments call 0 kinds inner) (λ read. mark call 41 read.1 >>= λ rest. ending (CallEnd call) rest >>= λ end. Ok read.0) (arguments_within call 0 kinds inner text p)
    (λ read q. bound (λ rest. IsEnd rest text) (AreEnds text) text (mark call 41 read.1) (λ rest. ending (CallEnd call) rest >>= λ end. Ok read.0) (further read.1 text (mark call 41 read.1) q.1 (mark_within call 41 read.1))
    (λ rest s. bound Whatever (AreEnds text) text (ending (CallEnd call) rest) (λ end. Ok read.0) (ending_within (CallEnd call) rest text s) (λ end t. q.0))))

formed_within : (call : Call) (text : List ℕ) → IsWithin (AreEnds text) text (formed call text)
unfolding formed
formed_within call text =
    chosen (AreEnds text) text (is_bare call) (ending (CallEnd call) text >>= λ end. Ok []) (enclosed call (kinds_of call) text)
    (bound Whatever (AreEnds text) text (ending (CallEnd call) text) (λ end. Ok []) (ending_within (CallEnd call) text text (whole text)) (λ end t. tt)) (enclosed_within call (kinds_of call) text)

values_within : (names : NameLists) (call : Call) (kinds : List ArgumentKind) (texts : List (List ℕ)) (text : List ℕ) → AreEnds text texts → IsWithin Whatever text (values names call kinds texts)
unfolding value
values_within names call [] texts text p = tt
values_within names call (kind ∷ kinds) [] text p = tt
values_within names call (kind ∷ kinds) (one ∷ texts) text p =
    bound Whatever Whatever text (value names call kind one) (λ first. values names call kinds texts >>= λ others. Ok (first ∷ others)) (placed text one _ (value_at names kind (prefix Argument one)) p.0)
    (λ first q. bound Whatever Whatever text (values names call kinds texts) (λ others. Ok (first ∷ others)) (values_within names call kinds texts text p.1) (λ others s. tt))

pub call_within : (names : NameLists) (call : Call) (text : List ℕ) → IsWithin Whatever text (call_after names call text)
unfolding call_after
call_within names call text =
    bound (AreEnds text) Whatever text (formed call text) _ (formed_within call text)
    (λ texts p. bound Whatever Whatever text (values names call (kinds_of call) texts) (λ list. ok_or (call_of call list) (fault_at _ text _)) (values_within names call (kinds_of call) texts text p) (λ list q. found text (call_of call list) _ text _ (whole text)))

call_at_within : (names : NameLists) (text : List ℕ) → IsWithin Whatever text (call_at names text)
unfolding call_at
call_at_within names text =
    bound Whatever Whatever text (ok_or (named (prefix Word text)) _) (λ call. call_after names call (after Word text)) (found text (named (prefix Word text)) _ text _ (whole text))
    (λ call p. outer Whatever (after Word text) text (call_after names call (after Word text)) (skipped Word text) (call_within names call (after Word text)))

-- ---- a line

alone_within : (event : Event) (rest text : List ℕ) → IsEnd rest text → IsWithin Whatever text (alone event rest)
alone_within event rest text p = bound Whatever Whatever text (ending LineEnd rest) (λ end. Ok event) (ending_within LineEnd rest text p) (λ end q. tt)

event_of_within : (names : NameLists) (processor : Proc) (text : List ℕ) → IsWithin Whatever text (event_of names processor text)
unfolding event_of
event_of_within names processor text =
    chosen Whatever text (bytes_eq (prefix Word text) (codes "tick")) (alone (events.Tick processor) (after Word text)) _ (alone_within (events.Tick processor) (after Word text) text (skipped Word text))
    (chosen Whatever text (bytes_eq (prefix Word text) (codes "ipi")) (alone (events.Ipi processor) (after Word text)) _ (alone_within (events.Ipi processor) (after Word text) text (skipped Word text))
    (bound Whatever Whatever text (call_at names text) (λ call. Ok (events.Call processor call)) (call_at_within names text) (λ call p. tt)))

event_at_within : (names : NameLists) (text : List ℕ) → IsWithin Whatever text (event_at names text)
unfolding event_at
event_at_within names text =
    let rest = after Blank (after Word text) in
    bound Whatever Whatever text (faults_at text _ (processor_in names (prefix Word text))) (λ processor. event_of names processor rest) (placed text text _ (processor_in names (prefix Word text)) (whole text))
    (λ processor p. outer Whatever rest text (event_of names processor rest) (chained rest (after Word text) text (skipped Blank (after Word text)) (skipped Word text)) (event_of_within names processor rest))

event_in_within : (names : NameLists) (line : List ℕ) → IsWithin Whatever line (event_in names line)
unfolding event_in
event_in_within names line =
    chosen Whatever line (list_all (is_of Line) line) (event_at names (after Blank line)) _ (outer Whatever (after Blank line) line (event_at names (after Blank line)) (skipped Blank line) (event_at_within names (after Blank line))) (skipped Line line)

line_within : (names : NameLists) (line : List ℕ) → IsWithin Whatever (without_return line) (line_event names line)
unfolding line_event
line_within names line =
    chosen Whatever (without_return line) (is_skipped (without_return line)) (Ok None) _ tt
    (bound Whatever Whatever (without_return line) (event_in names (without_return line)) (λ event. Ok (Some event)) (event_in_within names (without_return line)) (λ event p. tt))

pub places_within : (names : NameLists) (line : List ℕ) (place : Place) → line_event names line ≡ Err place → IsEnd place.rest (without_return line)
places_within names line place is = subst (IsWithin Whatever (without_return line)) is (line_within names line)
