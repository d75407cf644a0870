-- Reading the lines of a text one after the other, as the loop does.
use Rattle.std.proofs.Common.{◌≡◌, ℕ, ◌+◌, ◌≤◌, true, false, cond, eqb, inl, inr, List, [], ◌∷◌, ◌++◌, map, drop, length, Some, None, Result, Ok, Err, refl}
use Rattle.std.proofs.Common.{sym, ap, subst, ◌∙◌, append_assoc, length-append, arith}
use Rattle.std.proofs.lemmas.List.{append-nil, drop-drop, map-append}
use Rattle.std.proofs.Math.Seq.{drop-append-add}
use Rattle.fmp_bytes.specs.Bytes.{cut_at, pieces_of}
use Rattle.fmp_bytes.specs.Results.{◌>>=◌}
use Rattle.fmp_bytes.proofs.Cutting.{cut_at-parts, pieces_of-cut}
use Rattle.fmp_codes.specs.declared.records.Event.{Event}
use Rattle.fmp_names.specs.Names.{NameLists}
use Rattle.fmp_text.specs.declared.fault.TextFault.{TextFault}
use Rattle.fmp_text.specs.declared.fault.TextKind.TheVariants.{CutShort}
use Rattle.fmp_trace.specs.Reading.{Fails, at_line}
use Rattle.fmp_trace.proofs.Numbered.{first_piece, only_piece}
use Rattle.fmp_trace_partial.specs.Saying.{line_said, said_from}
use Rattle.fmp_trace_partial.specs.declared.telling.Said.{Said}
use Rattle.fmp_trace_partial.proofs.SaidTexts.{said_from-line}
use Rattle.fmp_trace_orders.specs.Lines.{AreSaidSo, GivesLines, all_but_last, last_of, lasts_from, lines_of, must_of}
use Rattle.fmp_trace_orders.specs.Playing.{line_from, lines_from}
use Rattle.fmp_trace_orders.specs.declared.lines.Lines.{Lines}

-- ---- one line more

abbrev events_of : List Said → List Event
events_of said = map (λ s. s.entry.event) said

pub length-lasts_from : (i : ℕ) (said : List Said) → length (lasts_from i said) ≡ length said
length-lasts_from i [] = refl
length-lasts_from i (s ∷ ss) = let others = length-lasts_from (i + 1) ss in omega (arith, others)

lasts_more : (i n : ℕ) (said : List Said) (s : Said) → n ≡ i + length said → lasts_from i (said ++ s ∷ []) ≡ lasts_from i said ++ last_of n s ∷ []
lasts_more i n [] s at = let same : i ≡ n = omega (arith, at) in ap (λ (k : ℕ). last_of k s ∷ []) same
lasts_more i n (x ∷ said) s at = ap (λ (ks : List ℕ). last_of i x ∷ ks) (lasts_more (i + 1) n said s (omega (arith, at)))

pub so_more : (starts : List ℕ) (said : List Said) (old new : Lines) (start : ℕ) (s : Said) → AreSaidSo starts said old →
    new.starts.items ≡ old.starts.items ++ start ∷ [] → new.events.items ≡ old.events.items ++ s.entry.event ∷ [] →
    new.lasts.items ≡ old.lasts.items ++ last_of (length old.lasts.items) s ∷ [] → new.musts.items ≡ old.musts.items ++ must_of s ∷ [] →
    AreSaidSo (starts ++ start ∷ []) (said ++ s ∷ []) new
so_more starts said old new start s so starts_are events_are lasts_are musts_are =
    let begins = so.begins in
    let events = so.events in
    let lasts = so.lasts in
    let musts = so.musts in
    let long : length old.lasts.items ≡ 0 + length said = ap length lasts ∙ length-lasts_from 0 said ∙ omega arith in
    record {
      begins = starts_are ∙ ap (λ (ks : List ℕ). ks ++ start ∷ []) begins;
      events = events_are ∙ ap (λ (es : List Event). es ++ s.entry.event ∷ []) events ∙ sym (map-append (λ (x : Said). x.entry.event) said (s ∷ []));
      lasts = lasts_are ∙ ap (λ (ks : List ℕ). ks ++ last_of (length old.lasts.items) s ∷ []) lasts ∙ sym (lasts_more 0 (length old.lasts.items) said s long);
      musts = musts_are ∙ ap (λ bs. bs ++ must_of s ∷ []) musts ∙ sym (map-append must_of said (s ∷ []));
    }

-- ---- the loop

-- what was read before, and what is still read
abbrev with_said : List Said → Result (List Said) TextFault → Result (List Said) TextFault
with_said before read = read >>= λ said. Ok (before ++ said)

stepped : (before : List Said) (s : Said) (read : Result (List Said) TextFault) →
    with_said before (read >>= λ others. Ok (s ∷ others)) ≡ with_said (before ++ s ∷ []) read
stepped before s (Ok said) = ap (λ (ss : List Said). Ok ss) (simp append_assoc)
stepped before s (Err e) = refl

-- the lines before a place of a text were read, and this is left
pub record ReadSoFar (names : NameLists) (text : List ℕ) (lines : Lines) (number start : ℕ) (rest : List ℕ) : Type 0 where
  pub said : List Said
  pub so : AreSaidSo lines.starts.items said lines
  pub total : with_said said (said_from names number (pieces_of 10 rest)) ≡ said_from names 1 (pieces_of 10 text)
  pub starts : lines_from text lines.starts.items ++ all_but_last (pieces_of 10 rest) ≡ lines_of text
  pub here : drop start text ≡ rest
  pub left : start + length rest ≡ length text
  pub few : number ≤ start + 1
  pub count : length lines.lasts.items + 1 ≡ number

with_none : (read : Result (List Said) TextFault) → with_said [] read ≡ read
with_none (Ok said) = refl
with_none (Err e) = refl

pub read_none : (names : NameLists) (text : List ℕ) (lines : Lines) → AreSaidSo [] [] lines → ReadSoFar names text lines 1 0 text
read_none names text lines so =
    let begins = so.begins in
    let lasts = so.lasts in
    record {
      said = [];
      so = record { begins = refl; events = so.events; lasts = lasts; musts = so.musts };
      total = with_none (said_from names 1 (pieces_of 10 text));
      starts = rw begins refl;
      here = refl;
      left = omega arith;
      few = omega arith;
      count = rw lasts (omega arith);
    }

-- the pieces of a text that begins with a line
all_but_last-line : (line text : List ℕ) → all_but_last (line ∷ pieces_of 10 text) ≡ line ∷ all_but_last (pieces_of 10 text)
all_but_last-line line text = rw (pieces_of-cut 10 text) refl

module _ {names : NameLists} {text : List ℕ} {lines : Lines} {number start : ℕ} {rest : List ℕ} (known : ReadSoFar names text lines number start rest) where
  module _ {line after : List ℕ} (is_line : (cut_at 10 rest).0 ≡ line) (cut : (cut_at 10 rest).1 ≡ Some after) where
    is_rest : rest ≡ line ++ 10 ∷ after
    is_rest = cut_at-parts 10 rest after cut ∙ ap (λ (l : List ℕ). l ++ 10 ∷ after) is_line

    long : length rest ≡ length line + 1 + length after
    long = ap length is_rest ∙ length-append line (10 ∷ after) ∙ omega arith

    after_here : drop (start + (length line + 1)) text ≡ after
    after_here =
        sym (drop-drop (length line + 1) start text) ∙ ap (drop (length line + 1)) (known.here ∙ is_rest) ∙ drop-append-add line (10 ∷ after) 1

    starts_more : lines_from text (lines.starts.items ++ start ∷ []) ++ all_but_last (pieces_of 10 after) ≡ lines_of text
    starts_more =
        let here = known.here in
        let one : line_from text start ≡ line = ap (λ (t : List ℕ). (cut_at 10 t).0) here ∙ is_line in
        let split : all_but_last (pieces_of 10 rest) ≡ line ∷ all_but_last (pieces_of 10 after) =
        ap all_but_last (first_piece rest line after is_line cut) ∙ all_but_last-line line after in
        ap (λ (ls : List (List ℕ)). ls ++ all_but_last (pieces_of 10 after)) (map-append (line_from text) lines.starts.items (start ∷ []))
        ∙ append_assoc (lines_from text lines.starts.items) (line_from text start ∷ []) (all_but_last (pieces_of 10 after))
        ∙ ap (λ (l : List ℕ). lines_from text lines.starts.items ++ l ∷ all_but_last (pieces_of 10 after)) one
        ∙ ap (λ (ls : List (List ℕ)). lines_from text lines.starts.items ++ ls) (sym split) ∙ known.starts

    pub goes_on : (new : Lines) (s : Said) → at_line number (line_said names number line) ≡ Ok s →
        new.starts.items ≡ lines.starts.items ++ start ∷ [] → new.events.items ≡ lines.events.items ++ s.entry.event ∷ [] →
        new.lasts.items ≡ lines.lasts.items ++ last_of (length lines.lasts.items) s ∷ [] → new.musts.items ≡ lines.musts.items ++ must_of s ∷ [] →
        ReadSoFar names text new (number + 1) (start + (length line + 1)) after
    goes_on new s here starts_are events_are lasts_are musts_are =
        let so = so_more lines.starts.items known.said lines new start s known.so starts_are events_are lasts_are musts_are in
        let one : with_said known.said (said_from names number (pieces_of 10 rest)) ≡
        with_said (known.said ++ s ∷ []) (said_from names (number + 1) (pieces_of 10 after)) =
        rw (first_piece rest line after is_line cut, said_from-line, here) (stepped known.said s (said_from names (number + 1) (pieces_of 10 after))) in
        let more : length new.lasts.items ≡ length lines.lasts.items + 1 =
        ap length lasts_are ∙ length-append lines.lasts.items (last_of (length lines.lasts.items) s ∷ []) in
        record {
          said = known.said ++ s ∷ [];
          so = subst (λ (ks : List ℕ). AreSaidSo ks (known.said ++ s ∷ []) new) (sym starts_are) so;
          total = sym one ∙ known.total;
          starts = ap (λ (ks : List ℕ). lines_from text ks ++ all_but_last (pieces_of 10 after)) starts_are ∙ starts_more;
          here = after_here;
          left = omega (arith, known.left, long);
          few = omega (arith, known.few);
          count = omega (arith, known.count, more);
        }

    pub fits : start + (length line + 1) ≤ length text
    fits = omega (arith, known.left, long)

    pub fails : (fault : TextFault) → Fails fault (at_line number (line_said names number line)) → Fails fault (said_from names 1 (pieces_of 10 text))
    fails fault (inr memory) = inr memory
    fails fault (inl here) =
        let one : with_said known.said (said_from names number (pieces_of 10 rest)) ≡ Err fault =
        rw (first_piece rest line after is_line cut, said_from-line, here) refl in
        inl (sym known.total ∙ one)

  module _ (none : (cut_at 10 rest).1 ≡ None) where
    last_said : said_from names number (pieces_of 10 rest) ≡ cond (eqb (length rest) 0) (Ok []) (Err (record { kind = CutShort; line = number }))
    unfolding said_from
    last_said = ap (said_from names number) (only_piece rest none)

    pub ends : eqb (length rest) 0 ≡ true → GivesLines names text (said_from names 1 (pieces_of 10 text)) (Ok lines)
    ends empty =
        let at_end = ap (with_said known.said) last_said in
        let at_empty : with_said known.said (said_from names number (pieces_of 10 rest)) ≡ Ok known.said =
        rw empty at at_end ∙ ap (λ (ss : List Said). Ok ss) (append-nil known.said) in
        let no_more : all_but_last (pieces_of 10 rest) ≡ [] = ap all_but_last (only_piece rest none) in (
          known.said,
          sym known.total ∙ at_empty,
          sym (append-nil (lines_from text lines.starts.items)) ∙ ap (λ (ls : List (List ℕ)). lines_from text lines.starts.items ++ ls) (sym no_more)
              ∙ known.starts,
          known.so,
        )

    pub is_short : eqb (length rest) 0 ≡ false → said_from names 1 (pieces_of 10 text) ≡ Err (record { kind = CutShort; line = number })
    is_short some =
        let at_end = ap (with_said known.said) last_said in
        let at_some : with_said known.said (said_from names number (pieces_of 10 rest)) ≡ Err (record { kind = CutShort; line = number }) = rw some at at_end in
        sym known.total ∙ at_some
