-- What the short reader finds is spelled.
use Rattle.std.proofs.Common.{◌≡◌, ℕ, ◌+◌, ◌*◌, ◌-◌, ◌/◌, ◌%◌, ◌<◌, ◌≤◌, ◌^◌, Bool, true, false, eqb, get_or, Option, Bor, IfSome, inl, inr, List, [], ◌∷◌, ◌++◌, length, take, drop, Some, None, Ok, refl, sym, ap, subst, ◌∙◌, arith, decimal, append_assoc, length-append, suc}
use Rattle.std.specs.Prelude.{codes, not, set, slice_index}
use Rattle.std.specs.Option.{option_copied}
use Rattle.std.specs.List.{list_all, join_with_byte}
use Rattle.std.proofs.lemmas.List.{append-nil, drop_all, take_all, take_more_set}
use Rattle.std.proofs.lemmas.Bool.{and_from, eqb-true, false≢true}
use Rattle.std.proofs.Math.Seq.{drop-append-add, drop-cons}
use Rattle.std.proofs.lemmas.Fmt.{decimal_step, decimal_digit}
use Rattle.fmp_codes.specs.declared.calls.Call.{Call}
use Rattle.fmp_codes.specs.declared.numbers.Proc.{Proc}
use Rattle.fmp_codes.specs.declared.records.Event.{Event}
use Rattle.fmp_codes.specs.declared.records.Event.TheVariants as events
use Rattle.fmp_bytes.proofs.Prefixes.{list_all-both, list_all-weaker}
use Rattle.fmp_bytes.specs.declared.classes.Class.TheVariants.{Blank, Line}
use Rattle.fmp_bytes.specs.Bytes.{is_of, following}
use Rattle.fmp_bytes.proofs.Spelled.{after_is}
use Rattle.fmp_codes.specs.declared.kinds.ArgumentKind.{ArgumentKind}
use Rattle.fmp_codes.specs.declared.kinds.Value.{Value}
use Rattle.fmp_codes.specs.Kinds.{is_of_kind, are_of_kinds}
use Rattle.fmp_calls.specs.Table.{text_of, is_bare, kinds_of, values_of, call_of}
use Rattle.fmp_calls.proofs.Matched.{call_of-same, call_of-agrees}
use Rattle.fmp_names.specs.Names.{NameLists, AreValid}
use Rattle.fmp_names.proofs.Listed.{list_all-at}
use Rattle.fmp_text.specs.Argument.{ranged, constant_of}
use Rattle.fmp_text.specs.Grammar.{AreBlank, Padded, IsNumber, SpellsValue, SpellsPieces, SpellsArguments, SpellsEnclosed, FollowsName, SpellsCall}
use Rattle.fmp_text.specs.TextGrammar.{Ended, IsAlone, OnProcessor, SpellsEvent}
use Rattle.fmp_text.specs.Fronts.{IsFront, IsAfterBlank, IsAfterBlanks, IsAfterEnd, IsAfterComma, IsClosed, IsMade, IsNumberOf, Happens}
use Rattle.fmp_text.specs.Events.{HasNoFeed, IsFirstLine}
use Rattle.fmp_text.proofs.EventFaults.{value_kind}
use Rattle.fmp_text.proofs.SpelledEvents.{line_of_spelled}
use Rattle.fmp_text.proofs.SpelledTexts.{no_feed, one_read}

-- ---- numbers

-- the first byte and the others
pub head_tail : (text : List ℕ) → 1 ≤ length text → text ≡ slice_index text 0 ∷ take (length text - 1) (drop 1 text)
head_tail [] some = absurd (omega (arith, some))
head_tail (b ∷ bytes) some = ap (λ (r : List ℕ). b ∷ r) (sym (take_all (length (b ∷ bytes) - 1) bytes (omega arith)))

pub digit_head : (text : List ℕ) → 1 ≤ length text → 48 ≤ slice_index text 0 → text ≡ (48 + (slice_index text 0 - 48)) ∷ take (length text - 1) (drop 1 text)
digit_head text some least =
    let same : 48 + (slice_index text 0 - 48) ≡ slice_index text 0 = omega (arith, least) in
    head_tail text some ∙ ap (λ (b : ℕ). b ∷ take (length text - 1) (drop 1 text)) (sym same)

-- what follows a byte
pub after_some : (byte : ℕ) (text : List ℕ) (found : Option (Bor (List ℕ))) → option_copied found ≡ following byte text → IfSome found (λ rest. text ≡ byte ∷ rest.now)
after_some byte text (Some rest) e = after_is byte text rest.now (sym e)
after_some byte text None e = tt

-- one digit more
pub decimal_more : (text rest more : List ℕ) (n digit : ℕ) → 0 < n → n < 10 ^ 8 → digit ≤ 9 → rest ≡ (48 + digit) ∷ more → text ≡ decimal n ++ rest
    → text ≡ decimal (n * 10 + digit) ++ more
decimal_more text rest more n digit some few most follows parts =
    let step = decimal_step (n * 10 + digit) (omega (arith, some)) (omega (arith, few, most)) in
    let front : (n * 10 + digit) / 10 ≡ n = omega (arith, most) in
    let last : (n * 10 + digit) % 10 ≡ digit = omega (arith, most) in
    let whole : decimal (n * 10 + digit) ≡ decimal n ++ ((48 + digit) ∷ []) = rw (front, last) at step in
    parts ∙ ap (λ (r : List ℕ). decimal n ++ r) follows ∙ sym (append_assoc (decimal n) ((48 + digit) ∷ []) more) ∙ ap (λ (l : List ℕ). l ++ more) (sym whole)

-- the first digit
pub decimal_first : (text rest : List ℕ) (digit : ℕ) → digit ≤ 9 → text ≡ (48 + digit) ∷ rest → text ≡ decimal digit ++ rest
decimal_first text rest digit most parts = parts ∙ ap (λ (d : List ℕ). d ++ rest) (sym (decimal_digit digit (omega (arith, most))))

pub front_negative : (kind : ArgumentKind) (text digits rest : List ℕ) (n : ℕ) (value : Value) → n < 10 ^ 9 → text ≡ 45 ∷ digits → digits ≡ decimal n ++ rest → ranged kind true n ≡ Some value
    → IsFront (IsNumber kind) text value rest
front_negative kind text digits rest n value few signed parts range =
    record { token = 45 ∷ decimal n; spelled = record { negative = true; magnitude = n; spelled = (decimal n, refl, (omega (arith, few), inl refl)); in_range = range }; parts = signed ∙ ap (λ (d : List ℕ). 45 ∷ d) parts }

-- ---- values

pub front_constant : (names : NameLists) (kind : ArgumentKind) (text rest : List ℕ) (value : Value) → IsFront (λ token v. constant_of kind token ≡ Some v) text value rest
    → IsFront (SpellsValue names kind) text value rest
front_constant names kind text rest value f = record { token = f.token; spelled = inr (inl f.spelled); parts = f.parts }

-- ---- arguments

alone : (token : List ℕ) → Padded token token
alone token = record { before = []; following = []; before_blank = refl; after_blank = refl; parts = sym (append-nil token) }

pub closed_one : (names : NameLists) (kind : ArgumentKind) (value : Value) (text rest end : List ℕ) → IsFront (SpellsValue names kind) text value rest → rest ≡ 41 ∷ end
    → IsClosed names (kind ∷ []) (value ∷ []) text end
closed_one names kind value text rest end f closes =
    record { inner = f.token; arguments = (f.token ∷ [], refl, ((f.token, alone f.token, f.spelled), tt)); parts = f.parts ∙ ap (λ (r : List ℕ). f.token ++ r) closes }

pub comma_space : (text rest more : List ℕ) → text ≡ 44 ∷ rest → rest ≡ 32 ∷ more → IsAfterComma text more
unfolding is_of
comma_space text rest more comma space = record { blanks = 32 ∷ []; blank = refl; parts = comma ∙ ap (λ (r : List ℕ). 44 ∷ r) space }

-- blanks in front of the first piece
join_blanks : (blanks piece : List ℕ) (pieces : List (List ℕ)) → join_with_byte 44 ((blanks ++ piece) ∷ pieces) ≡ blanks ++ join_with_byte 44 (piece ∷ pieces)
join_blanks blanks piece [] = refl
join_blanks blanks piece (next ∷ pieces) = append_assoc blanks piece (44 ∷ join_with_byte 44 (next ∷ pieces))

padded_more : (blanks token piece : List ℕ) → AreBlank blanks → Padded token piece → Padded token (blanks ++ piece)
padded_more blanks token piece blank p = record {
  before = blanks ++ p.before;
  following = p.following;
  before_blank = list_all-both (is_of Blank) blanks p.before blank p.before_blank;
  after_blank = p.after_blank;
  parts = ap (λ (r : List ℕ). blanks ++ r) p.parts ∙ sym (append_assoc blanks p.before (token ++ p.following));
}

-- a list of pieces with one more in front
more_pieces : (names : NameLists) (kind next : ArgumentKind) (kinds : List ArgumentKind) (value : Value) (others : List Value) (token blanks : List ℕ) (pieces : List (List ℕ))
    → SpellsValue names kind token value → AreBlank blanks → SpellsPieces names (next ∷ kinds) others pieces → SpellsArguments names (kind ∷ next ∷ kinds) (value ∷ others) (token ++ (44 ∷ (blanks ++ join_with_byte 44 pieces)))
more_pieces names kind next kinds value [] token blanks pieces spelled blank rest = absurd rest
more_pieces names kind next kinds value (other ∷ others) token blanks [] spelled blank rest = absurd rest
more_pieces names kind next kinds value (other ∷ others) token blanks (piece ∷ pieces) spelled blank rest =
    let first = rest.0 in (
      token ∷ (blanks ++ piece) ∷ pieces,
      ap (λ (r : List ℕ). token ++ (44 ∷ r)) (sym (join_blanks blanks piece pieces)),
      ((token, alone token, spelled), ((first.0, padded_more blanks first.0 piece blank first.1, first.2), rest.1)),
    )

pub closed_more : (names : NameLists) (kind next : ArgumentKind) (kinds : List ArgumentKind) (value : Value) (others : List Value) (text rest more end : List ℕ)
    → IsFront (SpellsValue names kind) text value rest → IsAfterComma rest more → IsClosed names (next ∷ kinds) others more end → IsClosed names (kind ∷ next ∷ kinds) (value ∷ others) text end
closed_more names kind next kinds value others text rest more end f c closed =
    let a = closed.arguments in
    let following : rest ≡ (44 ∷ (c.blanks ++ join_with_byte 44 a.0)) ++ (41 ∷ end) =
    c.parts ∙ ap (λ (r : List ℕ). 44 ∷ (c.blanks ++ r)) (closed.parts ∙ ap (λ (i : List ℕ). i ++ (41 ∷ end)) a.1) ∙ ap (λ (r : List ℕ). 44 ∷ r) (sym (append_assoc c.blanks (join_with_byte 44 a.0) (41 ∷ end))) in
    record {
      inner = f.token ++ (44 ∷ (c.blanks ++ join_with_byte 44 a.0));
      arguments = more_pieces names kind next kinds value others f.token c.blanks a.0 f.spelled c.blank a.2;
      parts = f.parts ∙ ap (λ (r : List ℕ). f.token ++ r) following ∙ sym (append_assoc f.token (44 ∷ (c.blanks ++ join_with_byte 44 a.0)) (41 ∷ end));
    }

-- the first of some kinds and the others
pub kinds_at : (ks : List ArgumentKind) (k : ℕ) (d : ArgumentKind) → k < length ks → drop k ks ≡ get_or ks k d ∷ drop (k + 1) ks
kinds_at ks k d low = drop-cons ks k d low ∙ ap (λ (n : ℕ). get_or ks k d ∷ drop n ks) (let next : suc k ≡ k + 1 = omega arith in next)

-- the text of these arguments goes on with the arguments of the other kinds
abbrev pub GoesOn : NameLists → List ArgumentKind → List Value → List ArgumentKind → List ℕ → List ℕ → Type 0
GoesOn names kinds values others text rest = (more : List Value) (end : List ℕ) → IsClosed names others more rest end → IsClosed names kinds (values ++ more) text end

pub goes_first : (names : NameLists) (kinds : List ArgumentKind) (text : List ℕ) → GoesOn names kinds [] kinds text text
goes_first names kinds text more end closed = closed

module _ (names : NameLists) (kinds : List ArgumentKind) (values : List Value) (k : ℕ) (d : ArgumentKind) (value : Value) (text here rest : List ℕ) (low : k < length kinds) (room : k < length values)
    (goes : GoesOn names kinds (take k values) (drop k kinds) text here) (f : IsFront (SpellsValue names (get_or kinds k d)) here value rest) where
  -- one more argument with a comma after it
  pub goes_next : (more : List ℕ) → k + 1 < length kinds → IsAfterComma rest more → GoesOn names kinds (take (k + 1) (set values k value)) (drop (k + 1) kinds) text more
  goes_next more next comma vs end closed =
      let tail = kinds_at kinds (k + 1) d next in
      let whole = closed_more names (get_or kinds k d) _ _ value vs here rest more end f comma (subst (λ (ks : List ArgumentKind). IsClosed names ks vs more end) tail closed) in
      let kept = subst (λ (ks : List ArgumentKind). IsClosed names ks (value ∷ vs) here end) (sym (kinds_at kinds k d low ∙ ap (λ (ks : List ArgumentKind). get_or kinds k d ∷ ks) tail)) whole in
      let all = sym (append_assoc (take k values) (value ∷ []) vs) ∙ ap (λ (l : List Value). l ++ vs) (sym (take_more_set values k value room)) in
      subst (λ (l : List Value). IsClosed names kinds l text end) all (goes (value ∷ vs) end kept)

  -- the last argument, with the closing parenthesis after it
  pub goes_last : (found : Option (Bor (List ℕ))) → k + 1 ≡ length kinds → IfSome found (λ end. rest ≡ 41 ∷ end.now)
      → IfSome found (λ end. IsClosed names kinds (take (length kinds) (set values k value)) text end.now)
  goes_last (Some end) last closes =
      let none : drop (k + 1) kinds ≡ [] = drop_all (k + 1) kinds (omega (arith, last)) in
      let one = closed_one names (get_or kinds k d) value here rest end.now f closes in
      let kept = subst (λ (ks : List ArgumentKind). IsClosed names ks (value ∷ []) here end.now) (sym (kinds_at kinds k d low ∙ ap (λ (ks : List ArgumentKind). get_or kinds k d ∷ ks) none)) one in
      subst (λ (l : List Value). IsClosed names kinds l text end.now) (sym (take_more_set values k value room) ∙ ap (λ (n : ℕ). take n (set values k value)) last) (goes (value ∷ []) end.now kept)
  goes_last None last closes = tt

-- no argument is left, and the closing parenthesis follows
pub goes_none : (names : NameLists) (kinds : List ArgumentKind) (values : List Value) (k : ℕ) (text here : List ℕ) (found : Option (Bor (List ℕ))) → k ≡ length kinds → GoesOn names kinds (take k values) (drop k kinds) text here
    → IfSome found (λ end. here ≡ 41 ∷ end.now) → IfSome found (λ end. IsClosed names kinds (take (length kinds) values) text end.now)
goes_none names kinds values k text here (Some end) last goes closes =
    let none : drop k kinds ≡ [] = drop_all k kinds (omega (arith, last)) in
    let bare : IsClosed names [] [] here end.now = record { inner = []; arguments = (refl, refl); parts = closes } in
    let all = append-nil (take k values) ∙ ap (λ (n : ℕ). take n values) last in
    subst (λ (vs : List Value). IsClosed names kinds vs text end.now) all (goes [] end.now (subst (λ (ks : List ArgumentKind). IsClosed names ks [] here end.now) (sym none) bare))
goes_none names kinds values k text here None last goes closes = tt

-- ---- blanks

pub after_space : (text rest : List ℕ) → text ≡ 32 ∷ rest → IsAfterBlank text rest
unfolding is_of
after_space text rest e = (32, refl, e)

pub after_tab : (text : List ℕ) (found : Option (Bor (List ℕ))) → IfSome found (λ rest. text ≡ 9 ∷ rest.now) → IfSome found (λ rest. IsAfterBlank text rest.now)
unfolding is_of
after_tab text (Some rest) e = (9, refl, e)
after_tab text None e = tt

pub no_blanks : (text : List ℕ) → IsAfterBlanks text text
no_blanks text = record { blanks = []; blank = refl; parts = refl }

blank_first : (b : ℕ) (blanks : List ℕ) → is_of Blank b ≡ true → AreBlank blanks → AreBlank (b ∷ blanks)
blank_first b blanks is all = rw is all

pub blanks_more : (text rest more : List ℕ) → IsAfterBlanks text rest → IsAfterBlank rest more → IsAfterBlanks text more
blanks_more text rest more s (b, is, e) = record {
  blanks = s.blanks ++ (b ∷ []);
  blank = list_all-both (is_of Blank) s.blanks (b ∷ []) s.blank (blank_first b [] is refl);
  parts = s.parts ∙ ap (λ (r : List ℕ). s.blanks ++ r) e ∙ sym (append_assoc s.blanks (b ∷ []) more);
}

-- ---- calls

pub call_made : (names : NameLists) (call made : Call) (kinds : List ArgumentKind) (values : List Value) (text end : List ℕ) (found : Option Call) → kinds ≡ kinds_of call
    → found ≡ call_of call values → found ≡ Some made → IsClosed names kinds values text end → IsMade names call text made end
call_made names call made kinds values text end found same is was closed =
    let made_of = sym is ∙ was in
    let all = call_of-same call values made made_of in
    let agrees = call_of-agrees call values made made_of in
    record {
      same_text = all.0;
      same_bare = all.2;
      closed = subst (λ (ks : List ArgumentKind). IsClosed names ks (values_of made) text end) (same ∙ sym all.1) (subst (λ (vs : List Value). IsClosed names kinds vs text end) (sym agrees.1) closed);
    }

-- values that a text spells are of their kinds
pieces_kinds : (names : NameLists) (kinds : List ArgumentKind) (values : List Value) (pieces : List (List ℕ)) → SpellsPieces names kinds values pieces → are_of_kinds kinds values ≡ true
pieces_kinds names [] [] [] s = refl
pieces_kinds names [] [] (piece ∷ pieces) s = absurd s
pieces_kinds names [] (value ∷ values) pieces s = absurd s
pieces_kinds names (kind ∷ kinds) [] pieces s = absurd s
pieces_kinds names (kind ∷ kinds) (value ∷ values) [] s = absurd s
pieces_kinds names (kind ∷ kinds) (value ∷ values) (piece ∷ pieces) s =
    and_from (is_of_kind kind value) (are_of_kinds kinds values) (value_kind names kind s.0.0 value s.0.2) (pieces_kinds names kinds values pieces s.1)

pub closed_kinds : (names : NameLists) (kinds : List ArgumentKind) (values : List Value) (text end : List ℕ) → IsClosed names kinds values text end → are_of_kinds kinds values ≡ true
closed_kinds names [] values text end c = subst (λ (vs : List Value). are_of_kinds [] vs ≡ true) (sym c.arguments.1) refl
closed_kinds names (kind ∷ kinds) values text end c = pieces_kinds names (kind ∷ kinds) values c.arguments.0 c.arguments.2

pub call_closed : (names : NameLists) (call made : Call) (kinds : List ArgumentKind) (values : List Value) (text end : List ℕ) → kinds ≡ kinds_of call
    → (are_of_kinds (kinds_of call) (take (length (kinds_of call)) values) ≡ true → call_of call (take (length (kinds_of call)) values) ≡ Some made)
    → IsClosed names kinds (take (length kinds) values) text end → IsMade names call text made end
call_closed names call made kinds values text end same makes closed =
    let all : IsClosed names (kinds_of call) (take (length (kinds_of call)) values) text end = subst (λ (ks : List ArgumentKind). IsClosed names ks (take (length ks) values) text end) same closed in
    call_made names call made (kinds_of call) (take (length (kinds_of call)) values) text end _ refl refl (makes (closed_kinds names (kinds_of call) _ text end all)) all

pub call_spelled : (names : NameLists) (call made : Call) (text rest inner end : List ℕ) → text ≡ text_of call ++ rest → rest ≡ 40 ∷ inner → is_bare call ≡ false
    → IsMade names call inner made end → IsFront (SpellsCall names) text made end
call_spelled names call made text rest inner end parts opened bare m =
    let arguments = m.closed.inner in
    let enclosed : List ℕ = 40 ∷ (arguments ++ (41 ∷ [])) in
    let closing : rest ≡ enclosed ++ end = opened ∙ ap (λ (r : List ℕ). 40 ∷ r) (m.closed.parts ∙ sym (append_assoc arguments (41 ∷ []) end)) in
    record {
      token = text_of call ++ enclosed;
      spelled = record {
        before = [];
        rest = enclosed;
        before_blank = refl;
        follows = inr (m.same_bare ∙ bare, record { between = []; inner = arguments; following = []; between_blank = refl; after_blank = refl; arguments = m.closed.arguments; parts = refl });
        parts = ap (λ (t : List ℕ). t ++ enclosed) (sym m.same_text);
      };
      parts = parts ∙ ap (λ (r : List ℕ). text_of call ++ r) closing ∙ sym (append_assoc (text_of call) enclosed end);
    }

-- a bare call is its name alone
pub bare_spelled : (names : NameLists) (call : Call) (text rest : List ℕ) → is_bare call ≡ true → text ≡ text_of call ++ rest → IsFront (SpellsCall names) text call rest
bare_spelled names call text rest bare parts = record {
  token = text_of call;
  spelled = record { before = []; rest = []; before_blank = refl; follows = inl (bare, refl); parts = sym (append-nil (text_of call)) };
  parts = parts;
}

-- ---- what happens on a processor

-- blanks after what happens
alone_more : (word token blanks : List ℕ) → IsAlone word token → AreBlank blanks → IsAlone word (token ++ blanks)
alone_more word token blanks a blank = record {
  following = a.following ++ blanks;
  after_blank = list_all-both (is_of Blank) a.following blanks a.after_blank blank;
  parts = ap (λ (t : List ℕ). t ++ blanks) a.parts ∙ append_assoc word a.following blanks;
}

enclosed_more : (names : NameLists) (call : Call) (text blanks : List ℕ) → SpellsEnclosed names call text → AreBlank blanks → SpellsEnclosed names call (text ++ blanks)
enclosed_more names call text blanks e blank = record {
  between = e.between;
  inner = e.inner;
  following = e.following ++ blanks;
  between_blank = e.between_blank;
  after_blank = list_all-both (is_of Blank) e.following blanks e.after_blank blank;
  arguments = e.arguments;
  parts = ap (λ (t : List ℕ). t ++ blanks) e.parts ∙ append_assoc e.between (40 ∷ (e.inner ++ (41 ∷ e.following))) blanks
      ∙ ap (λ (r : List ℕ). e.between ++ (40 ∷ r)) (append_assoc e.inner (41 ∷ e.following) blanks);
}

follows_more : (names : NameLists) (call : Call) (text blanks : List ℕ) → FollowsName names call text → AreBlank blanks → FollowsName names call (text ++ blanks)
follows_more names call text blanks (inl (bare, all)) blank = inl (bare, list_all-both (is_of Blank) text blanks all blank)
follows_more names call text blanks (inr (bare, e)) blank = inr (bare, enclosed_more names call text blanks e blank)

call_more : (names : NameLists) (token blanks : List ℕ) (call : Call) → SpellsCall names token call → AreBlank blanks → SpellsCall names (token ++ blanks) call
call_more names token blanks call s blank = record {
  before = s.before;
  rest = s.rest ++ blanks;
  before_blank = s.before_blank;
  follows = follows_more names call s.rest blanks s.follows blank;
  parts = ap (λ (t : List ℕ). t ++ blanks) s.parts ∙ append_assoc s.before (text_of call ++ s.rest) blanks
      ∙ ap (λ (r : List ℕ). s.before ++ r) (append_assoc (text_of call) s.rest blanks);
}

happens_more : (names : NameLists) (processor : Proc) (token blanks : List ℕ) (event : Event) → Happens names processor token event → AreBlank blanks
    → Happens names processor (token ++ blanks) event
happens_more names processor token blanks (events.Tick on) (same, says) blank = (same, alone_more (codes "tick") token blanks says blank)
happens_more names processor token blanks (events.Ipi on) (same, says) blank = (same, alone_more (codes "ipi") token blanks says blank)
happens_more names processor token blanks (events.Call on call) (same, says) blank = (same, call_more names token blanks call says blank)

on_digit : (names : NameLists) (processor : Proc) (Says : List ℕ → Type 0) (number blank : ℕ) (before between token : List ℕ) → IsNumberOf names number processor → AreBlank before
    → AreBlank (blank ∷ between) → Says token → OnProcessor names processor Says (before ++ (80 ∷ ((48 + number) ∷ (blank ∷ (between ++ token)))))
on_digit names processor Says number blank before between token is ahead following says =
    let spelled : decimal number ≡ (48 + number) ∷ [] = decimal_digit number (omega (arith, is.most)) in
    record {
      before = before;
      number = number;
      between = blank ∷ between;
      rest = token;
      before_blank = ahead;
      least = is.least;
      most = is.within;
      is_number = is.is_number;
      apart = omega arith;
      between_blank = following;
      happens = says;
      parts = ap (λ (d : List ℕ). before ++ (80 ∷ (d ++ (blank ∷ (between ++ token))))) (sym spelled);
    }

module _ (names : NameLists) (processor : Proc) (number blank : ℕ) (before between token : List ℕ) (is : IsNumberOf names number processor) (ahead : AreBlank before) (following : AreBlank (blank ∷ between)) where
  abbrev event_text : List ℕ
  event_text = before ++ (80 ∷ ((48 + number) ∷ (blank ∷ (between ++ token))))

  event_on : (event : Event) → Happens names processor token event → SpellsEvent names event_text event
  event_on (events.Tick on) (same, says) =
      subst (λ (p : Proc). OnProcessor names p (IsAlone (codes "tick")) event_text) (sym same) (on_digit names processor _ number blank before between token is ahead following says)
  event_on (events.Ipi on) (same, says) =
      subst (λ (p : Proc). OnProcessor names p (IsAlone (codes "ipi")) event_text) (sym same) (on_digit names processor _ number blank before between token is ahead following says)
  event_on (events.Call on call) (same, says) =
      subst (λ (p : Proc). OnProcessor names p (λ rest. SpellsCall names rest call) event_text) (sym same) (on_digit names processor _ number blank before between token is ahead following says)

pub event_spelled : (names : NameLists) (processor : Proc) (text start first second third following end rest : List ℕ) (number : ℕ) (event : Event) → IsNumberOf names number processor
    → IsAfterBlanks text start → start ≡ 80 ∷ first → first ≡ (48 + number) ∷ second → IsAfterBlank second third → IsAfterBlanks third following
    → IsFront (Happens names processor) following event end → IsAfterBlanks end rest → IsFront (SpellsEvent names) text event rest
event_spelled names processor text start first second third following end rest number event is ahead begins digit (b, blank, apart) more f tail =
    let token = f.token ++ tail.blanks in
    let whole = 80 ∷ ((48 + number) ∷ (b ∷ (more.blanks ++ token))) in
    let inner : following ≡ token ++ rest = f.parts ∙ ap (λ (r : List ℕ). f.token ++ r) tail.parts ∙ sym (append_assoc f.token tail.blanks rest) in
    let wide : third ≡ (more.blanks ++ token) ++ rest = more.parts ∙ ap (λ (r : List ℕ). more.blanks ++ r) inner ∙ sym (append_assoc more.blanks token rest) in
    let line : start ≡ whole ++ rest = begins ∙ ap (λ (r : List ℕ). 80 ∷ r) (digit ∙ ap (λ (r : List ℕ). (48 + number) ∷ r) (apart ∙ ap (λ (r : List ℕ). b ∷ r) wide)) in
    record {
      token = ahead.blanks ++ whole;
      spelled = event_on names processor number b ahead.blanks more.blanks token is ahead.blank (blank_first b more.blanks blank more.blank) event
          (happens_more names processor f.token tail.blanks event f.spelled tail.blank);
      parts = ahead.parts ∙ ap (λ (r : List ℕ). ahead.blanks ++ r) line ∙ sym (append_assoc ahead.blanks whole rest);
    }

pub happens_call : (names : NameLists) (processor : Proc) (text end : List ℕ) (call : Call) → IsFront (SpellsCall names) text call end → IsFront (Happens names processor) text (events.Call processor call) end
happens_call names processor text end call f = record { token = f.token; spelled = (refl, f.spelled); parts = f.parts }

-- ---- lines

no_feed_in : (line : List ℕ) → list_all (is_of Line) line ≡ true → HasNoFeed line
unfolding is_of
no_feed_in line all k low is = absurd (false≢true (ap (is_of Line) (sym is) ∙ list_all-at (is_of Line) line k 0 low all))

drop_rest : (line rest : List ℕ) → drop (length (line ++ (10 ∷ rest)) - length rest) (line ++ (10 ∷ rest)) ≡ rest
drop_rest line rest =
    let place : length (line ++ (10 ∷ rest)) - length rest ≡ length line + 1 = omega (arith, length-append line (10 ∷ rest)) in
    ap (λ (n : ℕ). drop n (line ++ (10 ∷ rest))) place ∙ drop-append-add line (10 ∷ rest) 1

no_feed_byte : (b : ℕ) → is_of Line b ≡ true → not (eqb b 10) ≡ true
unfolding is_of
no_feed_byte b line = go (eqb b 10) refl
  where
    go : (t : Bool) → eqb b 10 ≡ t → not t ≡ true
    go true e = absurd (false≢true (ap (is_of Line) (sym (eqb-true b 10 e)) ∙ line))
    go false e = refl

no_feed_ended : (core line : List ℕ) → Ended core line → list_all (is_of Line) core ≡ true → HasNoFeed line
no_feed_ended core line (inl is) all = rw is (no_feed_in core all)
no_feed_ended core line (inr is) all =
    let cores = list_all-weaker (is_of Line) (λ b. not (eqb b 10)) no_feed_byte core all in
    rw is (no_feed (core ++ (13 ∷ [])) (list_all-both (λ b. not (eqb b 10)) core (13 ∷ []) cores refl))

line_ended : (names : NameLists) (bytes line core following : List ℕ) (event : Event) → AreValid names → SpellsEvent names core event → Ended core line → bytes ≡ line ++ (10 ∷ following)
    → IsFirstLine names bytes (Ok (Some event)) (length bytes - length following)
line_ended names bytes line core following event valid spelled ended whole =
    let long : length bytes ≡ length line + suc (length following) = ap length whole ∙ length-append line (10 ∷ following) in
    record {
      line = line;
      no_feed = no_feed_ended core line ended (line_of_spelled names core event valid spelled);
      parts = whole ∙ ap (λ (r : List ℕ). line ++ (10 ∷ r)) (sym (rw whole (drop_rest line following)));
      some = omega (arith, long);
      within = omega arith;
      says = sym (one_read names line event valid (core, ended, spelled));
    }

-- the end of a line after an event ends the first line
pub first_ended : (names : NameLists) (bytes rest following : List ℕ) (event : Event) → AreValid names → IsFront (SpellsEvent names) bytes event rest → IsAfterEnd rest following
    → IsFirstLine names bytes (Ok (Some event)) (length bytes - length following)
first_ended names bytes rest following event valid f (inl feed) =
    line_ended names bytes f.token f.token following event valid f.spelled (inl refl) (f.parts ∙ ap (λ (r : List ℕ). f.token ++ r) feed)
first_ended names bytes rest following event valid f (inr feed) =
    line_ended names bytes (f.token ++ (13 ∷ [])) f.token following event valid f.spelled (inr refl)
    (f.parts ∙ ap (λ (r : List ℕ). f.token ++ r) feed ∙ sym (append_assoc f.token (13 ∷ []) (10 ∷ following)))

pub ended_some : (names : NameLists) (bytes rest : List ℕ) (event : Event) (found : Option (Bor (List ℕ))) → AreValid names → IsFront (SpellsEvent names) bytes event rest
    → IfSome found (λ following. IsAfterEnd rest following.now) → IfSome found (λ following. IsFirstLine names bytes (Ok (Some event)) (length bytes - length following.now))
ended_some names bytes rest event (Some following) valid f ends = first_ended names bytes rest following.now event valid f ends
ended_some names bytes rest event None valid f ends = tt
