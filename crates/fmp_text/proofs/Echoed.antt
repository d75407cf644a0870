-- What the short reader finds to be written as it is printed.
use Rattle.std.proofs.Common.{◌≡◌, ◌≢◌, ℕ, zero, suc, ◌+◌, ◌-◌, ◌<◌, ◌≤◌, ◌^◌, pos, negsuc, Bool, true, false, get_or, Option, Bor, IfSome, List, [], ◌∷◌, ◌++◌, length, take, drop, Some, None, refl, sym, ap, subst, ◌∙◌, arith, decimal, append_assoc, append-nil, length-append}
use Rattle.std.specs.Prelude.{codes, if◌then◌else◌, nat_lt, not, set, ◌&&◌, ◌||◌, ◌==◌, option_map, unwrap_or}
use Rattle.std.proofs.lemmas.Bool.{eqb-true}
use Rattle.std.proofs.lemmas.List.{drop_all, length-take-le, take-append-drop, take-append-le, take_more_set}
use Rattle.std.proofs.Math.Seq.{take-append_seam}
use Rattle.fmp_codes.specs.declared.calls.Call.{Call}
use Rattle.fmp_codes.specs.declared.kinds.ArgumentKind.{ArgumentKind}
use Rattle.fmp_codes.specs.declared.kinds.ArgumentKind.TheVariants as kinds
use Rattle.fmp_codes.specs.declared.kinds.ObjectKind.{ObjectKind}
use Rattle.fmp_codes.specs.declared.kinds.ObjectKind.TheVariants as objects
use Rattle.fmp_codes.specs.declared.kinds.NameKind.TheVariants as name_kinds
use Rattle.fmp_codes.specs.declared.kinds.Value.{Value}
use Rattle.fmp_codes.specs.declared.kinds.Value.TheVariants as values
use Rattle.fmp_calls.specs.Table.{text_of, is_bare, kinds_of, values_of, call_of}
use Rattle.fmp_codes.specs.Kinds.{are_of_kinds}
use Rattle.fmp_calls.proofs.Matched.{call_of-same, call_of-agrees}
use Rattle.fmp_names.specs.Names.{NameLists, name_of}
use Rattle.fmp_text.specs.Argument.{ranged}
use Rattle.fmp_text.specs.Grammar.{IsObjectName}
use Rattle.fmp_text.specs.Fronts.{IsFront, IsClosed, IsEcho, IsMade, prints_number}
use Rattle.fmp_text.specs.Printed.{named, object_text, value_text, separator, arguments_from, after_name, call_text}
use Rattle.fmp_text.proofs.Fronted.{closed_kinds, kinds_at}

-- ---- numbers

made_of : {A : Type 0} (f : A → Value) (x : A) (b : Bool) (value : Value) → option_map f (if b then Some x else None) ≡ Some value → f x ≡ value
made_of f x true value e = cc
made_of f x false value e = absurd cc

-- a number that is not negative
pub plain_printed : (names : NameLists) (kind : ArgumentKind) (n : ℕ) (value : Value) → prints_number kind ≡ true → ranged kind false n ≡ Some value → value_text names kind value ≡ decimal n
unfolding value_text
plain_printed names (kinds.Object k) n value number range = absurd cc
plain_printed names kinds.Priority n value number range = ap (value_text names kinds.Priority) (sym (made_of values.Number (pos n) _ value range))
plain_printed names kinds.Processor n value number range = ap (value_text names kinds.Processor) (sym (made_of values.Number (pos n) _ value range))
plain_printed names kinds.Time n value number range = ap (value_text names kinds.Time) (sym (made_of values.Number (pos n) _ value range))
plain_printed names kinds.Timeout n value number range = ap (value_text names kinds.Timeout) (sym (made_of values.Number (pos n) _ value range))
plain_printed names kinds.Pattern n value number range = ap (value_text names kinds.Pattern) (sym (made_of values.Pattern n _ value range))
plain_printed names kinds.Data n value number range = ap (value_text names kinds.Data) (sym (made_of values.Data (pos n) _ value range))
plain_printed names kinds.Mode n value number range = absurd cc
plain_printed names kinds.Block n value number range = ap (value_text names kinds.Block) (sym (made_of values.Number (pos n) _ value range))

-- a negative number
minus_next : (names : NameLists) (kind : ArgumentKind) (n : ℕ) (value : Value) → prints_number kind ≡ true → ranged kind true (suc n) ≡ Some value → value_text names kind value ≡ 45 ∷ decimal (suc n)
unfolding value_text
minus_next names (kinds.Object k) n value number range = absurd cc
minus_next names kinds.Priority n value number range = ap (value_text names kinds.Priority) (sym (made_of values.Number (negsuc n) _ value range))
minus_next names kinds.Processor n value number range = ap (value_text names kinds.Processor) (sym (made_of values.Number (negsuc n) _ value range))
minus_next names kinds.Time n value number range = ap (value_text names kinds.Time) (sym (made_of values.Number (negsuc n) _ value range))
minus_next names kinds.Timeout n value number range = ap (value_text names kinds.Timeout) (sym (made_of values.Number (negsuc n) _ value range))
minus_next names kinds.Pattern n value number range = absurd (no_pattern (nat_lt (suc n) (2 ^ 32)) (suc n == 0) refl range)
  where
    no_pattern : (a b : Bool) → b ≡ (suc n == 0) → option_map values.Pattern (if a && (not true || b) then Some (suc n) else None) ≡ Some value → ⊥
    no_pattern a true is e = absurd (omega (arith, eqb-true (suc n) 0 (sym is)))
    no_pattern true false is e = absurd cc
    no_pattern false false is e = absurd cc
minus_next names kinds.Data n value number range = ap (value_text names kinds.Data) (sym (made_of values.Data (negsuc n) _ value range))
minus_next names kinds.Mode n value number range = absurd cc
minus_next names kinds.Block n value number range = ap (value_text names kinds.Block) (sym (made_of values.Number (negsuc n) _ value range))

pub minus_printed : (names : NameLists) (kind : ArgumentKind) (n : ℕ) (value : Value) → prints_number kind ≡ true → n ≢ 0 → ranged kind true n ≡ Some value → value_text names kind value ≡ 45 ∷ decimal n
minus_printed names kind zero value number some range = absurd (some refl)
minus_printed names kind (suc n) value number some range = minus_next names kind n value number range

-- a number after which the rest follows
pub plain_front : (names : NameLists) (kind : ArgumentKind) (n : ℕ) (value : Value) (text rest : List ℕ) → prints_number kind ≡ true → ranged kind false n ≡ Some value → text ≡ decimal n ++ rest
    → text ≡ value_text names kind value ++ rest
plain_front names kind n value text rest number range parts = parts ∙ ap (λ (t : List ℕ). t ++ rest) (sym (plain_printed names kind n value number range))

pub minus_front : (names : NameLists) (kind : ArgumentKind) (n : ℕ) (value : Value) (text digits rest : List ℕ) → prints_number kind ≡ true → n ≢ 0 → ranged kind true n ≡ Some value → text ≡ 45 ∷ digits
    → digits ≡ decimal n ++ rest → text ≡ value_text names kind value ++ rest
minus_front names kind n value text digits rest number some range sign parts =
    sign ∙ ap (λ (t : List ℕ). 45 ∷ t) parts ∙ ap (λ (t : List ℕ). t ++ rest) (sym (minus_printed names kind n value number some range))

-- ---- objects

-- the number of a name is printed as this name
object_printed : (names : NameLists) (kind : ObjectKind) (n : ℕ) (token : List ℕ) → name_of names (name_kinds.Object kind) n ≡ Some token → token ≡ object_text names kind (pos n)
unfolding object_text named name_of
object_printed names kind zero token is = absurd cc
object_printed names objects.Task (suc n) token is = ap (λ (o : Option (List ℕ)). unwrap_or o (decimal (suc n))) (sym is)
object_printed names objects.Semaphore (suc n) token is = ap (λ (o : Option (List ℕ)). unwrap_or o (decimal (suc n))) (sym is)
object_printed names objects.Eventflag (suc n) token is = ap (λ (o : Option (List ℕ)). unwrap_or o (decimal (suc n))) (sym is)
object_printed names objects.DataQueue (suc n) token is = ap (λ (o : Option (List ℕ)). unwrap_or o (decimal (suc n))) (sym is)
object_printed names objects.Pool (suc n) token is = ap (λ (o : Option (List ℕ)). unwrap_or o (decimal (suc n))) (sym is)
object_printed names objects.Cyclic (suc n) token is = ap (λ (o : Option (List ℕ)). unwrap_or o (decimal (suc n))) (sym is)
object_printed names objects.Alarm (suc n) token is = ap (λ (o : Option (List ℕ)). unwrap_or o (decimal (suc n))) (sym is)
object_printed names objects.SpinLock (suc n) token is = ap (λ (o : Option (List ℕ)). unwrap_or o (decimal (suc n))) (sym is)

pub name_printed : (names : NameLists) (kind : ArgumentKind) (text rest : List ℕ) (value : Value) → IsFront (IsObjectName names kind) text value rest → text ≡ value_text names kind value ++ rest
unfolding value_text
name_printed names kind text rest value f =
    let s = f.spelled in
    rw (s.is_kind, s.is_value) (f.parts ∙ ap (λ (t : List ℕ). t ++ rest) (object_printed names s.object s.number f.token s.is_name))

-- ---- arguments

-- after the first argument each has the same separator
separators_same : (i j : ℕ) → 0 < i → 0 < j → separator i ≡ separator j
separators_same zero j some others = absurd (omega (arith, some))
separators_same (suc i) zero some others = absurd (omega (arith, others))
separators_same (suc i) (suc j) some others = refl

arguments_same : (names : NameLists) (i j : ℕ) (kinds : List ArgumentKind) (vs : List Value) → 0 < i → 0 < j → arguments_from names i kinds vs ≡ arguments_from names j kinds vs
arguments_same names i j [] vs some others = refl
arguments_same names i j (kind ∷ kinds) [] some others = refl
arguments_same names i j (kind ∷ kinds) (value ∷ vs) some others =
    ap (λ (s : List ℕ). s ++ value_text names kind value ++ arguments_from names (i + 1) kinds vs) (separators_same i j some others)
    ∙ ap (λ (r : List ℕ). separator j ++ value_text names kind value ++ r) (arguments_same names (i + 1) (j + 1) kinds vs (omega arith) (omega arith))

-- the arguments after a comma are printed as those at the front, with a comma and a blank before them
after_first : (names : NameLists) (kind : ArgumentKind) (kinds : List ArgumentKind) (value : Value) (vs : List Value)
    → arguments_from names 1 (kind ∷ kinds) (value ∷ vs) ≡ codes ", " ++ arguments_from names 0 (kind ∷ kinds) (value ∷ vs)
after_first names kind kinds value vs = ap (λ (r : List ℕ). codes ", " ++ value_text names kind value ++ r) (arguments_same names 2 1 kinds vs (omega arith) (omega arith))

-- the text of these arguments goes on with the arguments of the other kinds, as they are printed
abbrev pub PrintsOn : NameLists → List ArgumentKind → List Value → List ArgumentKind → List ℕ → List ℕ → Type 0
PrintsOn names kinds values others text rest = (more : List Value) (end : List ℕ) → length more ≡ length others → rest ≡ arguments_from names 0 others more ++ end → text ≡ arguments_from names 0 kinds (values ++ more) ++ end

-- one argument before others
one_before : (names : NameLists) (kind next : ArgumentKind) (kinds : List ArgumentKind) (value v : Value) (vs : List Value) (here rest more end : List ℕ) → here ≡ value_text names kind value ++ rest
    → rest ≡ codes ", " ++ more → more ≡ arguments_from names 0 (next ∷ kinds) (v ∷ vs) ++ end → here ≡ arguments_from names 0 (kind ∷ next ∷ kinds) (value ∷ v ∷ vs) ++ end
one_before names kind next kinds value v vs here rest more end front comma others =
    front
    ∙ ap (λ (r : List ℕ). value_text names kind value ++ r) (comma ∙ ap (λ (r : List ℕ). codes ", " ++ r) others ∙ ap (λ (r : List ℕ). r ++ end) (sym (after_first names next kinds v vs)))
    ∙ sym (append_assoc (value_text names kind value) (arguments_from names 1 (next ∷ kinds) (v ∷ vs)) end)

pub prints_first : (names : NameLists) (kinds : List ArgumentKind) (text : List ℕ) → PrintsOn names kinds [] kinds text text
prints_first names kinds text more end long is = is

module _ (names : NameLists) (kinds : List ArgumentKind) (values : List Value) (k : ℕ) (d : ArgumentKind) (value : Value) (text here rest : List ℕ) (low : k < length kinds) (room : k < length values)
    (prints : PrintsOn names kinds (take k values) (drop k kinds) text here) (front : here ≡ value_text names (get_or kinds k d) value ++ rest) where
  -- one more argument with a comma and a blank after it
  pub prints_next : (more : List ℕ) → k + 1 < length kinds → rest ≡ codes ", " ++ more → PrintsOn names kinds (take (k + 1) (set values k value)) (drop (k + 1) kinds) text more
  prints_next more next comma [] end long is = absurd (omega (arith, ap length (kinds_at kinds (k + 1) d next), long))
  prints_next more next comma (v ∷ vs) end long is =
      let tail = kinds_at kinds (k + 1) d next in
      let both = kinds_at kinds k d low ∙ ap (λ (ks : List ArgumentKind). get_or kinds k d ∷ ks) tail in
      let others = is ∙ ap (λ (ks : List ArgumentKind). arguments_from names 0 ks (v ∷ vs) ++ end) tail in
      let after = one_before names (get_or kinds k d) _ _ value v vs here rest more end front comma others ∙ ap (λ (ks : List ArgumentKind). arguments_from names 0 ks (value ∷ v ∷ vs) ++ end) (sym both) in
      let all = sym (append_assoc (take k values) (value ∷ []) (v ∷ vs)) ∙ ap (λ (l : List Value). l ++ (v ∷ vs)) (sym (take_more_set values k value room)) in
      prints (value ∷ v ∷ vs) end (omega (arith, long, ap length (kinds_at kinds k d low))) after ∙ ap (λ (l : List Value). arguments_from names 0 kinds l ++ end) all

  -- the last argument, with the closing parenthesis after it
  pub prints_last : (found : Option (Bor (List ℕ))) → k + 1 ≡ length kinds → IfSome found (λ end. rest ≡ 41 ∷ end.now)
      → IfSome found (λ end. text ≡ arguments_from names 0 kinds (take (length kinds) (set values k value)) ++ (41 ∷ end.now))
  prints_last (Some end) last closes =
      let one = kinds_at kinds k d low ∙ ap (λ (ks : List ArgumentKind). get_or kinds k d ∷ ks) (drop_all (k + 1) kinds (omega (arith, last))) in
      let shown = value_text names (get_or kinds k d) value in
      let after = front ∙ ap (λ (r : List ℕ). shown ++ r) closes ∙ ap (λ (t : List ℕ). t ++ (41 ∷ end.now)) (sym (append-nil shown))
      ∙ ap (λ (ks : List ArgumentKind). arguments_from names 0 ks (value ∷ []) ++ (41 ∷ end.now)) (sym one) in
      prints (value ∷ []) (41 ∷ end.now) (omega (arith, ap length one)) after
      ∙ ap (λ (l : List Value). arguments_from names 0 kinds l ++ (41 ∷ end.now)) (sym (take_more_set values k value room) ∙ ap (λ (n : ℕ). take n (set values k value)) last)
  prints_last None last closes = tt

-- no argument is left, and the closing parenthesis follows
pub prints_none : (names : NameLists) (kinds : List ArgumentKind) (values : List Value) (k : ℕ) (text here : List ℕ) (found : Option (Bor (List ℕ))) → k ≡ length kinds
    → PrintsOn names kinds (take k values) (drop k kinds) text here → IfSome found (λ end. here ≡ 41 ∷ end.now)
    → IfSome found (λ end. text ≡ arguments_from names 0 kinds (take (length kinds) values) ++ (41 ∷ end.now))
prints_none names kinds values k text here (Some end) last prints closes =
    let none : drop k kinds ≡ [] = drop_all k kinds (omega (arith, last)) in
    prints [] (41 ∷ end.now) (sym (ap length none)) (closes ∙ ap (λ (ks : List ArgumentKind). arguments_from names 0 ks [] ++ (41 ∷ end.now)) (sym none))
    ∙ ap (λ (l : List Value). arguments_from names 0 kinds l ++ (41 ∷ end.now)) (append-nil (take k values) ∙ ap (λ (n : ℕ). take n values) last)
prints_none names kinds values k text here None last prints closes = tt

-- ---- calls

-- the call that is made has these arguments
pub closed_printed : (names : NameLists) (call made : Call) (kinds : List ArgumentKind) (values : List Value) (text end : List ℕ) → kinds ≡ kinds_of call
    → (are_of_kinds (kinds_of call) (take (length (kinds_of call)) values) ≡ true → call_of call (take (length (kinds_of call)) values) ≡ Some made)
    → IsClosed names kinds (take (length kinds) values) text end → text ≡ arguments_from names 0 kinds (take (length kinds) values) ++ (41 ∷ end)
    → text ≡ arguments_from names 0 (kinds_of made) (values_of made) ++ (41 ∷ end)
closed_printed names call made kinds values text end same makes closed printed =
    let args = take (length (kinds_of call)) values in
    let all : IsClosed names (kinds_of call) args text end = subst (λ (ks : List ArgumentKind). IsClosed names ks (take (length ks) values) text end) same closed in
    let is = makes (closed_kinds names (kinds_of call) args text end all) in
    printed ∙ ap (λ (ks : List ArgumentKind). arguments_from names 0 ks (take (length ks) values) ++ (41 ∷ end)) same
    ∙ ap (λ (vs : List Value). arguments_from names 0 (kinds_of call) vs ++ (41 ∷ end)) (sym (call_of-agrees call args made is).1)
    ∙ ap (λ (ks : List ArgumentKind). arguments_from names 0 ks (values_of made) ++ (41 ∷ end)) (sym (call_of-same call args made is).1)

pub call_printed : (names : NameLists) (call made : Call) (text rest inner end : List ℕ) → text ≡ text_of call ++ rest → rest ≡ 40 ∷ inner → is_bare call ≡ false → IsMade names call inner made end
    → inner ≡ arguments_from names 0 (kinds_of made) (values_of made) ++ (41 ∷ end) → text ≡ call_text names made ++ end
unfolding call_text after_name
call_printed names call made text rest inner end parts opened bare m printed =
    let arguments = arguments_from names 0 (kinds_of made) (values_of made) in
    let shown = codes "(" ++ arguments ++ codes ")" in
    let not_bare : (if is_bare made then [] else shown) ≡ shown = ap (λ (b : Bool). if b then [] else shown) (m.same_bare ∙ bare) in
    parts ∙ ap (λ (t : List ℕ). t ++ rest) (sym m.same_text)
    ∙ ap (λ (r : List ℕ). text_of made ++ r) (opened ∙ ap (λ (r : List ℕ). 40 ∷ r) (printed ∙ sym (append_assoc arguments (41 ∷ []) end)))
    ∙ sym (append_assoc (text_of made) shown end)
    ∙ ap (λ (t : List ℕ). (text_of made ++ t) ++ end) (sym not_bare)

-- a bare call is its name alone
pub bare_printed : (names : NameLists) (call : Call) (text rest : List ℕ) → is_bare call ≡ true → text ≡ text_of call ++ rest → text ≡ call_text names call ++ rest
unfolding call_text after_name
bare_printed names call text rest bare parts =
    let shown = codes "(" ++ arguments_from names 0 (kinds_of call) (values_of call) ++ codes ")" in
    parts ∙ ap (λ (t : List ℕ). t ++ rest) (sym (append-nil (text_of call)) ∙ ap (λ (b : Bool). text_of call ++ (if b then [] else shown)) (sym bare))

-- ---- events

-- the first of the first ones
pub taken_twice : (n k : ℕ) (text : List ℕ) → n ≤ k → k ≤ length text → take n (take k text) ≡ take n text
taken_twice n k text few long =
    sym (take-append-le n (take k text) (drop k text) (omega (arith, few, length-take-le k text long))) ∙ ap (take n) (take-append-drop k text)

-- the text before what follows it
pub front_taken : (text front end : List ℕ) → text ≡ front ++ end → take (length text - length end) text ≡ front
front_taken text front end is =
    let long : length text - length end ≡ length front = omega (arith, ap length is, length-append front end) in
    ap (λ (n : ℕ). take n text) long ∙ ap (take (length front)) is ∙ take-append_seam front end

pub rest_within : (text front end : List ℕ) → text ≡ front ++ end → length end ≤ length text
rest_within text front end is = omega (arith, ap length is, length-append front end)

-- what is kept of an event, whatever follows it
pub echo_some : (kept text : List ℕ) (found : Option (Bor (List ℕ))) → IsEcho kept text → IfSome found (λ following. IsEcho kept text)
echo_some kept text (Some following) is = is
echo_some kept text None is = tt
