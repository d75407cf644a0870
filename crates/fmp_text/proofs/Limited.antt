-- What a text spells is on the processors of the names, and its arguments are within their kinds' bits.
use Rattle.std.proofs.Common.{◌≡◌, ℕ, zero, suc, ◌-◌, ◌<◌, ◌≤◌, ◌^◌, ℤ, pos, negsuc, Bool, true, false, not, ◌&&◌, ◌||◌, eqb, leb, ltb, inl, inr, List, [], ◌∷◌, Option, Some, None, option_map, Ok, refl, sym, ap, subst, arith}
use Rattle.std.specs.Prelude.{All}
use Rattle.std.proofs.lemmas.Bool.{and_parts, leb-true, ltb-true}
use Rattle.std.proofs.lemmas.List.Elements.{All-nil, All-cons}
use Rattle.std.proofs.lemmas.Option.{slice_get_within, cond_some}
use Rattle.fmp_codes.specs.Records.{processor_of, AreOn, IsWithin}
use Rattle.fmp_codes.specs.declared.calls.Call.{Call}
use Rattle.fmp_codes.specs.declared.calls.Mode.TheVariants as modes
use Rattle.fmp_codes.specs.declared.numbers.Proc.{Proc}
use Rattle.fmp_codes.specs.declared.records.Event.{Event}
use Rattle.fmp_codes.specs.declared.records.Event.TheVariants as events
use Rattle.fmp_bytes.specs.Numerals.{signed_of, unsigned_limited}
use Rattle.fmp_calls.specs.Arguments.{IsInBits, AreInBits, CallInBits, EventInBits}
use Rattle.fmp_calls.specs.Table as table
use Rattle.fmp_codes.specs.declared.kinds.ArgumentKind.{ArgumentKind}
use Rattle.fmp_codes.specs.declared.kinds.ArgumentKind.TheVariants as kinds
use Rattle.fmp_codes.specs.declared.kinds.NameKind.TheVariants as name_kinds
use Rattle.fmp_codes.specs.declared.kinds.ObjectKind.TheVariants as objects
use Rattle.fmp_codes.specs.declared.kinds.Value.{Value}
use Rattle.fmp_codes.specs.declared.kinds.Value.TheVariants as values
use Rattle.fmp_names.specs.declared.constants.Constant.{Constant}
use Rattle.fmp_names.specs.declared.constants.Constant.TheVariants.{TskSelf, TpriSelf, TpriIni, TprcIni, TmoPol, TmoFevr, TwfAndw, TwfOrw}
use Rattle.fmp_text.specs.Argument.{ranged, number32, constant_of}
use Rattle.fmp_names.specs.Constants.{constant_in, value_of}
use Rattle.fmp_text.specs.Lines.{line_event}
use Rattle.fmp_text.specs.Events.{reading_of, faultless}
use Rattle.fmp_text.specs.Grammar.{IsObjectName, SpellsValue, SpellsPieces, SpellsArguments, FollowsName, SpellsCall}
use Rattle.fmp_names.specs.Names.{NameLists, AreValid, names_of}
use Rattle.fmp_text.specs.TextGrammar.{OnProcessor, SpellsEvent, SpellsLines}
use Rattle.fmp_bytes.proofs.Parsed.{and_then_parts}
use Rattle.fmp_calls.proofs.Matched.{bare_alone}
use Rattle.fmp_names.proofs.Placed.{numbered}
use Rattle.fmp_names.proofs.Valid.{most_of-le}
use Rattle.fmp_text.proofs.SpelledTexts.{line_spelled, text_is_spelled}

-- ---- values

pub mapped : {A B : Type 0} (f : A → B) (found : Option A) (b : B) → option_map f found ≡ Some b → (a : A) × (found ≡ Some a) × (f a ≡ b)
mapped f None b e = absurd cc
mapped f (Some a) b e = let same : f a ≡ b = cc in (a, refl, same)

pub signed_within : (limit : ℕ) (negative : Bool) (m : ℕ) (z : ℤ) → 0 < limit → signed_of limit negative m ≡ Some z → IsWithin limit z
signed_within limit true zero z some e =
    let t = cond_some (leb 0 limit) (pos 0) z e in
    subst (IsWithin limit) t.1 some
signed_within limit true (suc m) z some e =
    let t = cond_some (leb (suc m) limit) (negsuc m) z e in
    subst (IsWithin limit) t.1 (omega (arith, leb-true (suc m) limit t.0))
signed_within limit false m z some e =
    let t = cond_some (ltb m limit) (pos m) z e in
    subst (IsWithin limit) t.1 (ltb-true m limit t.0)

number32_in_bits : (negative : Bool) (m : ℕ) (value : Value) → number32 negative m ≡ Some value → IsInBits value
number32_in_bits negative m value e =
    let p = mapped values.Number (signed_of (2 ^ 31) negative m) value e in
    subst IsInBits p.2 (signed_within (2 ^ 31) negative m p.0 (omega arith) p.1)

ranged_in_bits : (kind : ArgumentKind) (negative : Bool) (m : ℕ) (value : Value) → ranged kind negative m ≡ Some value → IsInBits value
ranged_in_bits kinds.Pattern negative m value e =
    let p = mapped values.Pattern (unsigned_limited negative m) value e in
    let t = cond_some (ltb m (2 ^ 32) && (not negative || eqb m 0)) m p.0 p.1 in
    let lt = (and_parts (ltb m (2 ^ 32)) (not negative || eqb m 0) t.0).0 in
    subst IsInBits p.2 (omega (arith, ltb-true m (2 ^ 32) lt, t.1))
ranged_in_bits kinds.Data negative m value e =
    let p = mapped values.Data (signed_of (2 ^ 63) negative m) value e in
    subst IsInBits p.2 (signed_within (2 ^ 63) negative m p.0 (omega arith) p.1)
ranged_in_bits kinds.Mode negative m value e = absurd cc
ranged_in_bits (kinds.Object k) negative m value e = number32_in_bits negative m value e
ranged_in_bits _ negative m value e = number32_in_bits negative m value e

meaning_in_bits : (constant : Constant) (kind : ArgumentKind) (value : Value) → value_of constant kind ≡ Some value → IsInBits value
meaning_in_bits TskSelf (kinds.Object objects.Task) value e = let same : values.Number (pos 0) ≡ value = cc in subst IsInBits same (omega arith)
meaning_in_bits TpriSelf kinds.Priority value e = let same : values.Number (pos 0) ≡ value = cc in subst IsInBits same (omega arith)
meaning_in_bits TpriIni kinds.Priority value e = let same : values.Number (pos 0) ≡ value = cc in subst IsInBits same (omega arith)
meaning_in_bits TprcIni kinds.Processor value e = let same : values.Number (pos 0) ≡ value = cc in subst IsInBits same (omega arith)
meaning_in_bits TmoPol kinds.Timeout value e = let same : values.Number (pos 0) ≡ value = cc in subst IsInBits same (omega arith)
meaning_in_bits TmoFevr kinds.Timeout value e = let same : values.Number (negsuc 0) ≡ value = cc in subst IsInBits same (omega arith)
meaning_in_bits TwfAndw kinds.Mode value e = let same : values.Mode modes.Andw ≡ value = cc in subst IsInBits same tt
meaning_in_bits TwfOrw kinds.Mode value e = let same : values.Mode modes.Orw ≡ value = cc in subst IsInBits same tt
meaning_in_bits _ _ value e = absurd cc

constant_in_bits : (kind : ArgumentKind) (word : List ℕ) (value : Value) → constant_of kind word ≡ Some value → IsInBits value
unfolding constant_of
constant_in_bits kind word value e =
    let p = and_then_parts (constant_in word) (λ c. value_of c kind) value e in
    meaning_in_bits p.0 kind value p.2

object_in_bits : (names : NameLists) (kind : ArgumentKind) (token : List ℕ) (value : Value) → AreValid names → IsObjectName names kind token value → IsInBits value
object_in_bits names kind token value valid o =
    let is_value = o.is_value in
    let place = numbered names (name_kinds.Object o.object) o.number token o.is_name in
    let within = slice_get_within (names_of names (name_kinds.Object o.object)) (o.number - 1) token place.1 in
    let few : o.number < 2 ^ 31 = omega (arith, within, valid.limits o.object, most_of-le o.object) in
    rw is_value few

value_in_bits : (names : NameLists) (kind : ArgumentKind) (token : List ℕ) (value : Value) → AreValid names → SpellsValue names kind token value → IsInBits value
value_in_bits names kind token value valid (inl n) = ranged_in_bits kind n.negative n.magnitude value n.in_range
value_in_bits names kind token value valid (inr (inl constant)) = constant_in_bits kind token value constant
value_in_bits names kind token value valid (inr (inr object)) = object_in_bits names kind token value valid object

-- ---- calls

pieces_in_bits : (names : NameLists) (kinds : List ArgumentKind) (values : List Value) (pieces : List (List ℕ)) → AreValid names → SpellsPieces names kinds values pieces → AreInBits values
pieces_in_bits names kinds [] pieces valid s = tt
pieces_in_bits names (kind ∷ kinds) (value ∷ values) (piece ∷ pieces) valid s = (value_in_bits names kind s.0.0 value valid s.0.2, pieces_in_bits names kinds values pieces valid s.1)
pieces_in_bits names [] (value ∷ values) pieces valid s = absurd s
pieces_in_bits names (kind ∷ kinds) (value ∷ values) [] valid s = absurd s

arguments_in_bits : (names : NameLists) (kinds : List ArgumentKind) (values : List Value) (text : List ℕ) → AreValid names → SpellsArguments names kinds values text → AreInBits values
arguments_in_bits names [] values text valid s = subst AreInBits (sym s.1) tt
arguments_in_bits names (kind ∷ kinds) values text valid s = pieces_in_bits names (kind ∷ kinds) values s.0 valid s.2

follows_in_bits : (names : NameLists) (call : Call) (rest : List ℕ) → AreValid names → FollowsName names call rest → CallInBits call
follows_in_bits names call rest valid (inl s) = subst AreInBits (sym (bare_alone call s.0).1) tt
follows_in_bits names call rest valid (inr s) = arguments_in_bits names (table.kinds_of call) (table.values_of call) s.1.inner valid s.1.arguments

pub call_in_bits : (names : NameLists) (text : List ℕ) (call : Call) → AreValid names → SpellsCall names text call → CallInBits call
call_in_bits names text call valid s = follows_in_bits names call s.rest valid s.follows

-- ---- events

processor_on : {Happens : List ℕ → Type 0} (names : NameLists) (p : Proc) (text : List ℕ) → OnProcessor names p Happens text → p.number ≤ names.processors
processor_on names p text s =
    let number = ap (λ (q : Proc). q.number) s.is_number in
    let least = s.least in let most = s.most in
    omega (arith, number, least, most)

event_on : (names : NameLists) (text : List ℕ) (e : Event) → SpellsEvent names text e → (processor_of e).number ≤ names.processors
event_on names text (events.Call p call) s = processor_on names p text s
event_on names text (events.Tick p) s = processor_on names p text s
event_on names text (events.Ipi p) s = processor_on names p text s

event_in_bits : (names : NameLists) (text : List ℕ) (e : Event) → AreValid names → SpellsEvent names text e → EventInBits e
event_in_bits names text (events.Call p call) valid s = call_in_bits names s.rest call valid s.happens
event_in_bits names text (events.Tick p) valid s = tt
event_in_bits names text (events.Ipi p) valid s = tt

-- the event of a line
pub line_on : (names : NameLists) (line : List ℕ) (e : Event) → line_event names line ≡ Ok (Some e) → (processor_of e).number ≤ names.processors
line_on names line e is = let s = line_spelled names line (Some e) is in event_on names s.0 e s.2

pub line_in_bits : (names : NameLists) (line : List ℕ) (e : Event) → AreValid names → line_event names line ≡ Ok (Some e) → EventInBits e
line_in_bits names line e valid is = let s = line_spelled names line (Some e) is in event_in_bits names s.0 e valid s.2

-- what holds of each event that is spelled holds of all that lines spell
module _ (names : NameLists) (P : Event → Type 0) (one : (text : List ℕ) (e : Event) → SpellsEvent names text e → P e) where
  lines_all : (lines : List (List ℕ)) (es : List Event) → SpellsLines names lines es → All P es
  lines_all [] es s = absurd s
  lines_all (last ∷ []) es s = subst (All P) (sym s.1) (All-nil P)
  lines_all (line ∷ next ∷ lines) es (inl s) = lines_all (next ∷ lines) es s.1
  lines_all (line ∷ next ∷ lines) es (inr s) =
      let spelled = s.2 in
      subst (All P) (sym s.3) (All-cons P s.0 s.1 (one spelled.0 s.0 spelled.2) (lines_all (next ∷ lines) s.1 s.4))

pub reading_on : (names : NameLists) (text : List ℕ) (es : List Event) → reading_of names text ≡ faultless es → AreOn names.processors es
reading_on names text es is =
    let s = text_is_spelled names text es is in
    lines_all names (λ e. (processor_of e).number ≤ names.processors) (event_on names) s.lines es s.spelled

pub reading_in_bits : (names : NameLists) (text : List ℕ) (es : List Event) → AreValid names → reading_of names text ≡ faultless es → All EventInBits es
reading_in_bits names text es valid is =
    let s = text_is_spelled names text es is in
    lines_all names EventInBits (λ line e. event_in_bits names line e valid) s.lines es s.spelled
