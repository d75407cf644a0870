-- What follows a call's name is gone over to its end exactly where it has the form of the call.
use Rattle.std.proofs.Common.{◌≡◌, ◌≤◌, ℕ, zero, suc, ◌+◌, Bool, true, false, inl, inr, List, [], ◌∷◌, ◌++◌, length, map, Option, Some, None, Result, Ok, Err, refl, sym, ap, subst, ◌∙◌, arith, append_assoc}
use Rattle.std.specs.Prelude.{if◌then◌else◌}
use Rattle.std.specs.List.{list_all, prefix_len, join_with_byte}
use Rattle.std.specs.Option.{ok_or}
use Rattle.std.proofs.lemmas.Bool.{cases_Bool, and_parts}
use Rattle.std.proofs.lemmas.List.{append-nil, length-map}
use Rattle.fmp_bytes.specs.declared.classes.Class.TheVariants.{Blank, Argument}
use Rattle.fmp_bytes.specs.Bytes.{is_of, prefix, after, following}
use Rattle.fmp_bytes.specs.Results.{◌>>=◌}
use Rattle.fmp_bytes.proofs.Included.{not_argument-blank}
use Rattle.fmp_bytes.proofs.Parsed.{ok_or_parts, tested_ok, bind_parts}
use Rattle.fmp_bytes.proofs.Prefixes.{prefix-append, prefix-after, list_all-take_while, stops-cons}
use Rattle.fmp_bytes.proofs.Spelled.{after_is, following-same}
use Rattle.fmp_calls.specs.Table.{is_bare, kinds_of}
use Rattle.fmp_calls.proofs.Matched.{bare_alone}
use Rattle.fmp_codes.specs.declared.calls.Call.{Call}
use Rattle.fmp_codes.specs.declared.kinds.ArgumentKind.{ArgumentKind}
use Rattle.fmp_text.specs.declared.fault.TextKind.TheVariants.{WrongArguments}
use Rattle.fmp_text.specs.declared.misfit.Wanted.{Wanted}
use Rattle.fmp_text.specs.declared.misfit.Wanted.TheVariants.{CallEnd}
use Rattle.fmp_text.specs.Argument.{is_argument}
use Rattle.fmp_text.specs.EventFaults.{ArePieces, AreArguments, AreEnclosed, HasForm}
use Rattle.fmp_text.specs.Grammar.{AreBlank, Padded}
use Rattle.fmp_text.specs.Places.{Place, fault_at, mark, start, argument, arguments, ending, enclosed, formed}
use Rattle.fmp_text.proofs.SpelledCalls.{token_bytes, token_first}

-- the arguments that begin these texts
abbrev pub tokens_of : List (List ℕ) → List (List ℕ)
tokens_of texts = map (prefix Argument) texts

pub ok_is : {A : Type 0} (a b : A) → ◌≡◌ {A = Result A Place} (Ok a) (Ok b) → a ≡ b
ok_is a b e = cc

-- ---- every fault of the form is wrong arguments

abbrev pub IsOfForm : {A : Type 0} → Result A Place → Type 0
IsOfForm (Ok a) = Unit {0}
IsOfForm (Err place) = place.kind ≡ WrongArguments

bind_of_form : {A B : Type 0} (r : Result A Place) (f : A → Result B Place) → IsOfForm r → ((a : A) → IsOfForm (f a)) → IsOfForm (r >>= f)
bind_of_form (Ok a) f p q = q a
bind_of_form (Err place) f p q = p

found_of_form : {A : Type 0} (o : Option A) (rest : List ℕ) (wanted : Wanted) → IsOfForm (ok_or o (fault_at WrongArguments rest wanted))
found_of_form (Some a) rest wanted = tt
found_of_form None rest wanted = refl

tested_of_form : {A : Type 0} (b : Bool) (a : A) (rest : List ℕ) (wanted : Wanted) → IsOfForm (if b then Ok a else Err (fault_at WrongArguments rest wanted))
tested_of_form true a rest wanted = tt
tested_of_form false a rest wanted = refl

mark_of_form : (call : Call) (byte : ℕ) (text : List ℕ) → IsOfForm (mark call byte text)
unfolding mark
mark_of_form call byte text = found_of_form (following byte (after Blank text)) (after Blank text) _

start_of_form : (call : Call) (n : ℕ) (text : List ℕ) → IsOfForm (start call n text)
start_of_form call zero text = tt
start_of_form call (suc i) text = bind_of_form (mark call 44 text) (λ rest. Ok (after Blank rest)) (mark_of_form call 44 text) (λ rest. tt)

argument_of_form : (call : Call) (kind : ArgumentKind) (text : List ℕ) → IsOfForm (argument call kind text)
unfolding argument
argument_of_form call kind text = tested_of_form (is_argument (prefix Argument text)) (after Argument text) text _

arguments_of_form : (call : Call) (n : ℕ) (kinds : List ArgumentKind) (text : List ℕ) → IsOfForm (arguments call n kinds text)
arguments_of_form call n [] text = tt
arguments_of_form call n (kind ∷ kinds) text =
    bind_of_form (start call n text) (λ first. argument call kind first >>= λ rest. arguments call (n + 1) kinds rest >>= λ others. Ok (first ∷ others.0, others.1)) (start_of_form call n text)
    (λ first. bind_of_form (argument call kind first) (λ rest. arguments call (n + 1) kinds rest >>= λ others. Ok (first ∷ others.0, others.1)) (argument_of_form call kind first)
    (λ rest. bind_of_form (arguments call (n + 1) kinds rest) (λ others. Ok (first ∷ others.0, others.1)) (arguments_of_form call (n + 1) kinds rest) (λ others. tt)))

ending_of_form : (wanted : Wanted) (text : List ℕ) → IsOfForm (ending wanted text)
unfolding ending
ending_of_form wanted text = tested_of_form (list_all (is_of Blank) text) tt (after Blank text) wanted

enclosed_of_form : (call : Call) (kinds : List ArgumentKind) (text : List ℕ) → IsOfForm (enclosed call kinds text)
unfolding enclosed
enclosed_of_form call kinds text =
    bind_of_form (mark call 40 text) _ (mark_of_form call 40 text)
    (λ inner. bind_of_form (arguments call 0 kinds inner) (λ read. mark call 41 read.1 >>= λ rest. ending (CallEnd call) rest >>= λ end. Ok read.0) (arguments_of_form call 0 kinds inner)
    (λ read. bind_of_form (mark call 41 read.1) (λ rest. ending (CallEnd call) rest >>= λ end. Ok read.0) (mark_of_form call 41 read.1)
    (λ rest. bind_of_form (ending (CallEnd call) rest) (λ end. Ok read.0) (ending_of_form (CallEnd call) rest) (λ end. tt))))

pub formed_of_form : (call : Call) (text : List ℕ) → IsOfForm (formed call text)
unfolding formed
formed_of_form call text = by (is_bare call)
  where
    by : (bare : Bool) → IsOfForm (if bare then (ending (CallEnd call) text >>= λ end. Ok []) else enclosed call (kinds_of call) text)
    by true = bind_of_form (ending (CallEnd call) text) (λ end. Ok []) (ending_of_form (CallEnd call) text) (λ end. tt)
    by false = enclosed_of_form call (kinds_of call) text

-- ---- pieces after the first one

-- each with a comma before it
abbrev joined : List (List ℕ) → List ℕ
joined [] = []
joined (piece ∷ pieces) = 44 ∷ (piece ++ joined pieces)

join-joined : (piece : List ℕ) (pieces : List (List ℕ)) → join_with_byte 44 (piece ∷ pieces) ≡ piece ++ joined pieces
join-joined piece [] = sym (append-nil piece)
join-joined piece (next ∷ pieces) = ap (λ (r : List ℕ). piece ++ (44 ∷ r)) (join-joined next pieces)

regrouped : (before token following others tail : List ℕ) → before ++ (token ++ (following ++ (others ++ tail))) ≡ ((before ++ (token ++ following)) ++ others) ++ tail
regrouped before token following others tail = simp append_assoc

-- ---- what was gone over has the form

mark_parts : (call : Call) (byte : ℕ) (text rest : List ℕ) → mark call byte text ≡ Ok rest → text ≡ prefix Blank text ++ (byte ∷ rest)
unfolding mark
mark_parts call byte text rest e =
    let found = ok_or_parts (following byte (after Blank text)) _ rest e in
    sym (prefix-after Blank text) ∙ ap (λ (r : List ℕ). prefix Blank text ++ r) (after_is byte (after Blank text) rest found)

start_parts : (call : Call) (n : ℕ) (text first : List ℕ) → 1 ≤ n → start call n text ≡ Ok first → (rest : List ℕ) × (text ≡ prefix Blank text ++ (44 ∷ rest)) × (rest ≡ prefix Blank rest ++ first)
start_parts call zero text first least e = absurd (omega (arith, least))
start_parts call (suc i) text first least e =
    let p = bind_parts (mark call 44 text) (λ rest. Ok (after Blank rest)) first e in
    (p.0, mark_parts call 44 text p.0 p.1, sym (prefix-after Blank p.0) ∙ ap (λ (r : List ℕ). prefix Blank p.0 ++ r) (ok_is (after Blank p.0) first p.2))

argument_parts : (call : Call) (kind : ArgumentKind) (text rest : List ℕ) → argument call kind text ≡ Ok rest → (is_argument (prefix Argument text) ≡ true) × (text ≡ prefix Argument text ++ rest)
unfolding argument
argument_parts call kind text rest e =
    let t = tested_ok (is_argument (prefix Argument text)) (Ok (after Argument text)) _ rest e in
    (t.0, sym (prefix-after Argument text) ∙ ap (λ (r : List ℕ). prefix Argument text ++ r) (ok_is (after Argument text) rest t.1))

ending_parts : (wanted : Wanted) (text : List ℕ) (end : Unit {0}) → ending wanted text ≡ Ok end → AreBlank text
unfolding ending
ending_parts wanted text end e = (tested_ok (list_all (is_of Blank) text) (Ok tt) _ end e).0

-- blanks and pieces, each with a comma before it, with these tokens, and the rest
record AfterPieces (tokens : List (List ℕ)) (text rest : List ℕ) : Type 0 where
  following : List ℕ
  pieces : List (List ℕ)
  blank : AreBlank following
  are : ArePieces tokens pieces
  parts : text ≡ following ++ (joined pieces ++ rest)

-- a piece around the argument that begins a text
padded : (before first rest following : List ℕ) → AreBlank before → AreBlank following → Padded (prefix Argument first) (before ++ (prefix Argument first ++ following))
padded before first rest following blank ended = record { before = before; following = following; before_blank = blank; after_blank = ended; parts = refl }

one_more : (first text rest read : List ℕ) → (token : List ℕ) → text ≡ prefix Blank text ++ first → first ≡ token ++ rest → (following others : List ℕ) → rest ≡ following ++ (others ++ read)
    → text ≡ ((prefix Blank text ++ (token ++ following)) ++ others) ++ read
one_more first text rest read token a b following others c =
    a ∙ ap (λ (r : List ℕ). prefix Blank text ++ r) (b ∙ ap (λ (r : List ℕ). token ++ r) c) ∙ regrouped (prefix Blank text) token following others read

gone_over : (call : Call) (n : ℕ) (kinds : List ArgumentKind) (text : List ℕ) (read : List (List ℕ) × List ℕ) (tail : List ℕ) → 1 ≤ n → arguments call n kinds text ≡ Ok read → read.1 ≡ prefix Blank read.1 ++ (41 ∷ tail)
    → AfterPieces (tokens_of read.0) text (41 ∷ tail) × (length read.0 ≡ length kinds)
gone_over call n [] text read tail least e closed =
    subst (λ (r : List (List ℕ) × List ℕ). r.1 ≡ prefix Blank r.1 ++ (41 ∷ tail) → AfterPieces (tokens_of r.0) text (41 ∷ tail) × (length r.0 ≡ 0)) (ok_is ([], text) read e)
    (λ closed. (record { following = prefix Blank text; pieces = []; blank = list_all-take_while (is_of Blank) text; are = tt; parts = closed }, refl)) closed
gone_over call n (kind ∷ kinds) text read tail least e closed =
    let s = bind_parts (start call n text) (λ first. argument call kind first >>= λ rest. arguments call (n + 1) kinds rest >>= λ others. Ok (first ∷ others.0, others.1)) read e in
    let a = bind_parts (argument call kind s.0) (λ rest. arguments call (n + 1) kinds rest >>= λ others. Ok (s.0 ∷ others.0, others.1)) read s.2 in
    let o = bind_parts (arguments call (n + 1) kinds a.0) (λ others. Ok (s.0 ∷ others.0, others.1)) read a.2 in
    subst (λ (r : List (List ℕ) × List ℕ). r.1 ≡ prefix Blank r.1 ++ (41 ∷ tail) → AfterPieces (tokens_of r.0) text (41 ∷ tail) × (length r.0 ≡ suc (length kinds))) {x = (s.0 ∷ o.0.0, o.0.1)} (ok_is (s.0 ∷ o.0.0, o.0.1) read o.2)
    (λ closed. with_first s.0 a.0 o.0 (start_parts call n text s.0 least s.1) (argument_parts call kind s.0 a.0 a.1) (gone_over call (n + 1) kinds a.0 o.0 tail (omega arith) o.1 closed)) closed
  where
    with_first : (first rest : List ℕ) (others : List (List ℕ) × List ℕ) → ((inner : List ℕ) × (text ≡ prefix Blank text ++ (44 ∷ inner)) × (inner ≡ prefix Blank inner ++ first))
        → (is_argument (prefix Argument first) ≡ true) × (first ≡ prefix Argument first ++ rest) → AfterPieces (tokens_of others.0) rest (41 ∷ tail) × (length others.0 ≡ length kinds)
        → AfterPieces (prefix Argument first ∷ tokens_of others.0) text (41 ∷ tail) × (length (first ∷ others.0) ≡ suc (length kinds))
    with_first first rest others s a more =
        let m = more.0 in
        let piece = prefix Blank s.0 ++ (prefix Argument first ++ m.following) in (
          record {
            following = prefix Blank text;
            pieces = piece ∷ m.pieces;
            blank = list_all-take_while (is_of Blank) text;
            are = (padded (prefix Blank s.0) first rest m.following (list_all-take_while (is_of Blank) s.0) m.blank, a.0, m.are);
            parts = s.1 ∙ ap (λ (r : List ℕ). prefix Blank text ++ (44 ∷ r)) (one_more first s.0 rest (41 ∷ tail) (prefix Argument first) s.2 a.1 m.following (joined m.pieces) m.parts);
          },
          ap suc more.1,
        )

-- what stands before the closing parenthesis
inner_parts : (call : Call) (kinds : List ArgumentKind) (text : List ℕ) (read : List (List ℕ) × List ℕ) (tail : List ℕ) → arguments call 0 kinds text ≡ Ok read → read.1 ≡ prefix Blank read.1 ++ (41 ∷ tail)
    → (inner : List ℕ) × AreArguments (tokens_of read.0) inner × (text ≡ inner ++ (41 ∷ tail)) × (length read.0 ≡ length kinds)
inner_parts call [] text read tail e closed =
    subst (λ (r : List (List ℕ) × List ℕ). r.1 ≡ prefix Blank r.1 ++ (41 ∷ tail) → (inner : List ℕ) × AreArguments (tokens_of r.0) inner × (text ≡ inner ++ (41 ∷ tail)) × (length r.0 ≡ 0)) (ok_is ([], text) read e)
    (λ closed. (prefix Blank text, list_all-take_while (is_of Blank) text, closed, refl)) closed
inner_parts call (kind ∷ kinds) text read tail e closed =
    let a = bind_parts (argument call kind (after Blank text)) (λ rest. arguments call 1 kinds rest >>= λ others. Ok (after Blank text ∷ others.0, others.1)) read e in
    let o = bind_parts (arguments call 1 kinds a.0) (λ others. Ok (after Blank text ∷ others.0, others.1)) read a.2 in
    subst (λ (r : List (List ℕ) × List ℕ). r.1 ≡ prefix Blank r.1 ++ (41 ∷ tail) → (inner : List ℕ) × AreArguments (tokens_of r.0) inner × (text ≡ inner ++ (41 ∷ tail)) × (length r.0 ≡ suc (length kinds))) {x = (after Blank text ∷ o.0.0, o.0.1)}
    (ok_is (after Blank text ∷ o.0.0, o.0.1) read o.2)
    (λ closed. with_first a.0 o.0 (argument_parts call kind (after Blank text) a.0 a.1) (gone_over call 1 kinds a.0 o.0 tail (omega arith) o.1 closed)) closed
  where
    with_first : (rest : List ℕ) (others : List (List ℕ) × List ℕ) → (is_argument (prefix Argument (after Blank text)) ≡ true) × (after Blank text ≡ prefix Argument (after Blank text) ++ rest)
        → AfterPieces (tokens_of others.0) rest (41 ∷ tail) × (length others.0 ≡ length kinds)
        → (inner : List ℕ) × AreArguments (prefix Argument (after Blank text) ∷ tokens_of others.0) inner × (text ≡ inner ++ (41 ∷ tail)) × (length (after Blank text ∷ others.0) ≡ suc (length kinds))
    with_first rest others a more =
        let m = more.0 in
        let token = prefix Argument (after Blank text) in
        let piece = prefix Blank text ++ (token ++ m.following) in (
          join_with_byte 44 (piece ∷ m.pieces),
          (piece ∷ m.pieces, refl, (padded (prefix Blank text) (after Blank text) rest m.following (list_all-take_while (is_of Blank) text) m.blank, a.0, m.are)),
          one_more (after Blank text) text rest (41 ∷ tail) token (sym (prefix-after Blank text)) a.1 m.following (joined m.pieces) m.parts ∙ ap (λ (x : List ℕ). x ++ (41 ∷ tail)) (sym (join-joined piece m.pieces)),
          ap suc more.1,
        )

enclosed_is : (call : Call) (kinds : List ArgumentKind) (text : List ℕ) (starts : List (List ℕ)) → enclosed call kinds text ≡ Ok starts → AreEnclosed (tokens_of starts) text × (length starts ≡ length kinds)
unfolding enclosed
enclosed_is call kinds text starts e =
    let m = bind_parts (mark call 40 text) _ starts e in
    let r = bind_parts (arguments call 0 kinds m.0) (λ read. mark call 41 read.1 >>= λ rest. ending (CallEnd call) rest >>= λ end. Ok read.0) starts m.2 in
    let c = bind_parts (mark call 41 r.0.1) (λ rest. ending (CallEnd call) rest >>= λ end. Ok r.0.0) starts r.2 in
    let d = bind_parts (ending (CallEnd call) c.0) (λ end. Ok r.0.0) starts c.2 in
    let i = inner_parts call kinds m.0 r.0 c.0 r.1 (mark_parts call 41 r.0.1 c.0 c.1) in
    subst (λ (s : List (List ℕ)). AreEnclosed (tokens_of s) text × (length s ≡ length kinds)) (ok_is r.0.0 starts d.2) (
      record {
        between = prefix Blank text;
        inner = i.0;
        following = c.0;
        between_blank = list_all-take_while (is_of Blank) text;
        after_blank = ending_parts (CallEnd call) c.0 d.0 d.1;
        arguments = i.1;
        parts = mark_parts call 40 text m.0 m.1 ∙ ap (λ (x : List ℕ). prefix Blank text ++ (40 ∷ x)) i.2;
      },
      i.3,
    )

pub formed_is : (call : Call) (text : List ℕ) (starts : List (List ℕ)) → formed call text ≡ Ok starts → HasForm call (tokens_of starts) text
unfolding formed
formed_is call text starts e =
    elim (cases_Bool (is_bare call)) [
      | inl bare ↦
          let b = bind_parts (ending (CallEnd call) text) (λ end. Ok []) starts (rw bare at e) in
          let none = (bare_alone call bare).0 in
          subst (λ (s : List (List ℕ)). HasForm call (tokens_of s) text) (ok_is [] starts b.2) (ap length (sym none), inl (bare, ending_parts (CallEnd call) text b.0 b.1))
      | inr long ↦
          let s = enclosed_is call (kinds_of call) text starts (rw long at e) in
          let many : length (tokens_of starts) ≡ length (kinds_of call) = rw length-map s.1 in
          (many, inr (long, s.0))
    ]

-- ---- what has the form is gone over

mark_goes : (call : Call) (byte : ℕ) (blanks rest : List ℕ) → is_of Blank byte ≡ false → AreBlank blanks → mark call byte (blanks ++ (byte ∷ rest)) ≡ Ok rest
unfolding mark
mark_goes call byte blanks rest other blank =
    let skipped = (prefix-append Blank blanks (byte ∷ rest) blank (stops-cons (is_of Blank) byte rest other)).1 in
    rw (skipped, following-same byte rest) refl

start_goes : (call : Call) (n : ℕ) (blanks rest : List ℕ) → 1 ≤ n → AreBlank blanks → start call n (blanks ++ (44 ∷ rest)) ≡ Ok (after Blank rest)
unfolding is_of
start_goes call zero blanks rest least blank = absurd (omega (arith, least))
start_goes call (suc i) blanks rest least blank = let goes = mark_goes call 44 blanks rest refl blank in rw goes refl

argument_goes : (call : Call) (kind : ArgumentKind) (token rest : List ℕ) → is_argument token ≡ true → prefix_len (is_of Argument) rest ≡ 0 → (argument call kind (token ++ rest) ≡ Ok rest) × (prefix Argument (token ++ rest) ≡ token)
unfolding argument
argument_goes call kind token rest form stop =
    let whole = prefix-append Argument token rest (token_bytes token form).1 stop in
    let one = whole.0 in let follows = whole.1 in
    (rw (one, follows, form) refl, one)

-- an argument ends where blanks, a comma or the closing parenthesis begin
ends_argument : (blanks : List ℕ) (pieces : List (List ℕ)) (tail : List ℕ) → AreBlank blanks → prefix_len (is_of Argument) (blanks ++ (joined pieces ++ (41 ∷ tail))) ≡ 0
unfolding is_of
ends_argument [] [] tail blank = stops-cons (is_of Argument) 41 tail refl
ends_argument [] (piece ∷ pieces) tail blank = stops-cons (is_of Argument) 44 ((piece ++ joined pieces) ++ (41 ∷ tail)) refl
ends_argument (b ∷ blanks) pieces tail blank = stops-cons (is_of Argument) b (blanks ++ (joined pieces ++ (41 ∷ tail))) (not_argument-blank b (and_parts (is_of Blank b) (list_all (is_of Blank) blanks) blank).0)

-- a piece begins with blanks, and then its argument
piece_begins : (token piece : List ℕ) (p : Padded token piece) (others tail : List ℕ) → is_argument token ≡ true → after Blank ((piece ++ others) ++ tail) ≡ token ++ (p.following ++ (others ++ tail))
piece_begins token piece p others tail form =
    let rest = p.following ++ (others ++ tail) in
    ap (λ (x : List ℕ). after Blank ((x ++ others) ++ tail)) p.parts ∙ ap (after Blank) (sym (regrouped p.before token p.following others tail))
    ∙ (prefix-append Blank p.before (token ++ rest) p.before_blank (token_first token rest (token_bytes token form))).1

-- what going over arguments of these kinds gives: where they begin, and blanks before the closing parenthesis
record IsGoneOver (call : Call) (n : ℕ) (kinds : List ArgumentKind) (tokens : List (List ℕ)) (text tail : List ℕ) : Type 0 where
  starts : List (List ℕ)
  following : List ℕ
  blank : AreBlank following
  goes : arguments call n kinds text ≡ Ok (starts, following ++ (41 ∷ tail))
  same : tokens_of starts ≡ tokens

stepped : (call : Call) (n : ℕ) (kind : ArgumentKind) (kinds : List ArgumentKind) (text first rest : List ℕ) (read : List (List ℕ) × List ℕ) → start call n text ≡ Ok first → argument call kind first ≡ Ok rest → arguments call (n + 1) kinds rest ≡ Ok read
    → arguments call n (kind ∷ kinds) text ≡ Ok (first ∷ read.0, read.1)
stepped call n kind kinds text first rest read a b c = rw (a, b, c) refl

one_goes : (call : Call) (n : ℕ) (kind : ArgumentKind) (kinds : List ArgumentKind) (token : List ℕ) (tokens : List (List ℕ)) (text first rest tail : List ℕ) → first ≡ token ++ rest → is_argument token ≡ true → prefix_len (is_of Argument) rest ≡ 0
    → start call n text ≡ Ok first → IsGoneOver call (n + 1) kinds tokens rest tail → IsGoneOver call n (kind ∷ kinds) (token ∷ tokens) text tail
one_goes call n kind kinds token tokens text first rest tail is form stop begins more =
    let a = argument_goes call kind token rest form stop in
    let others = more.same in let begin = ap (prefix Argument) is ∙ a.1 in
    record {
      starts = first ∷ more.starts;
      following = more.following;
      blank = more.blank;
      goes = stepped call n kind kinds text first rest (more.starts, more.following ++ (41 ∷ tail)) begins (ap (argument call kind) is ∙ a.0) more.goes;
      same = rw (begin, others) refl;
    }

go_over : (call : Call) (n : ℕ) (kinds : List ArgumentKind) (tokens pieces : List (List ℕ)) (blanks tail : List ℕ) → 1 ≤ n → length tokens ≡ length kinds → ArePieces tokens pieces → AreBlank blanks
    → IsGoneOver call n kinds tokens (blanks ++ (joined pieces ++ (41 ∷ tail))) tail
go_over call n [] [] [] blanks tail least many are blank = record { starts = []; following = blanks; blank = blank; goes = refl; same = refl }
go_over call n (kind ∷ kinds) (token ∷ tokens) (piece ∷ pieces) blanks tail least many are blank =
    let p = are.0 in
    let rest = p.following ++ (joined pieces ++ (41 ∷ tail)) in
    one_goes call n kind kinds token tokens (blanks ++ (44 ∷ ((piece ++ joined pieces) ++ (41 ∷ tail)))) (after Blank ((piece ++ joined pieces) ++ (41 ∷ tail))) rest tail (piece_begins token piece p (joined pieces) (41 ∷ tail) are.1) are.1 (ends_argument p.following pieces tail p.after_blank)
    (start_goes call n blanks ((piece ++ joined pieces) ++ (41 ∷ tail)) least blank) (go_over call (n + 1) kinds tokens pieces p.following tail (omega arith) (omega (arith, many)) are.2 p.after_blank)
go_over call n [] [] (piece ∷ pieces) blanks tail least many are blank = absurd are
go_over call n [] (token ∷ tokens) pieces blanks tail least many are blank = absurd (omega (arith, many))
go_over call n (kind ∷ kinds) [] pieces blanks tail least many are blank = absurd (omega (arith, many))
go_over call n (kind ∷ kinds) (token ∷ tokens) [] blanks tail least many are blank = absurd are

inner_goes : (call : Call) (kinds : List ArgumentKind) (tokens : List (List ℕ)) (inner tail : List ℕ) → length tokens ≡ length kinds → AreArguments tokens inner → IsGoneOver call 0 kinds tokens (inner ++ (41 ∷ tail)) tail
inner_goes call [] [] inner tail many are = record { starts = []; following = inner; blank = are; goes = refl; same = refl }
inner_goes call (kind ∷ kinds) (token ∷ tokens) inner tail many are = by are.0 are.1 are.2
  where
    by : (pieces : List (List ℕ)) → inner ≡ join_with_byte 44 pieces → ArePieces (token ∷ tokens) pieces → IsGoneOver call 0 (kind ∷ kinds) (token ∷ tokens) (inner ++ (41 ∷ tail)) tail
    by [] is are = absurd are
    by (piece ∷ pieces) is are =
        let p = are.0 in
        let rest = p.following ++ (joined pieces ++ (41 ∷ tail)) in
        let begins = ap (λ (x : List ℕ). after Blank (x ++ (41 ∷ tail))) (is ∙ join-joined piece pieces) ∙ piece_begins token piece p (joined pieces) (41 ∷ tail) are.1 in
        one_goes call 0 kind kinds token tokens (inner ++ (41 ∷ tail)) (after Blank (inner ++ (41 ∷ tail))) rest tail begins are.1 (ends_argument p.following pieces tail p.after_blank) refl
        (go_over call 1 kinds tokens pieces p.following tail (omega arith) (omega (arith, many)) are.2 p.after_blank)
inner_goes call [] (token ∷ tokens) inner tail many are = absurd (omega (arith, many))
inner_goes call (kind ∷ kinds) [] inner tail many are = absurd (omega (arith, many))

closed : (call : Call) (kinds : List ArgumentKind) (text inner : List ℕ) (read : List (List ℕ) × List ℕ) (rest : List ℕ) → mark call 40 text ≡ Ok inner → arguments call 0 kinds inner ≡ Ok read → mark call 41 read.1 ≡ Ok rest → AreBlank rest
    → enclosed call kinds text ≡ Ok read.0
unfolding enclosed ending
closed call kinds text inner read rest a b c d = rw (a, b, c, d) refl

enclosed_goes : (call : Call) (kinds : List ArgumentKind) (tokens : List (List ℕ)) (text : List ℕ) → length tokens ≡ length kinds → AreEnclosed tokens text → (starts : List (List ℕ)) × (enclosed call kinds text ≡ Ok starts)
unfolding is_of
enclosed_goes call kinds tokens text many s =
    let i = inner_goes call kinds tokens s.inner s.following many s.arguments in (
      i.starts,
      closed call kinds text (s.inner ++ (41 ∷ s.following)) (i.starts, i.following ++ (41 ∷ s.following)) s.following (ap (mark call 40) s.parts ∙ mark_goes call 40 s.between (s.inner ++ (41 ∷ s.following)) refl s.between_blank) i.goes
          (mark_goes call 41 i.following s.following refl i.blank) s.after_blank,
    )

pub formed_goes : (call : Call) (tokens : List (List ℕ)) (text : List ℕ) → HasForm call tokens text → (starts : List (List ℕ)) × (formed call text ≡ Ok starts)
unfolding formed ending
formed_goes call tokens text (many, inl s) = let bare = s.0 in let blank = s.1 in ([], rw (bare, blank) refl)
formed_goes call tokens text (many, inr s) =
    let long = s.0 in let e = enclosed_goes call (kinds_of call) tokens text many s.1 in
    let goes = e.1 in (e.0, rw (long, goes) refl)
