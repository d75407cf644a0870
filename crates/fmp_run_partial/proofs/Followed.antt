-- Going over the lines of a partial trace, as the loop does.
use Rattle.std.proofs.Common.{◌≡◌, ℕ, ◌+◌, ◌<◌, ◌^◌, true, false, inl, inr, cond, eqb, List, [], ◌∷◌, length, Some, None, Result, Ok, Err, refl, sym, ap, subst, ◌∙◌}
use Rattle.fmp_bytes.specs.Bytes.{cut_at, pieces_of}
use Rattle.fmp_bytes.specs.Results.{◌>>=◌}
use Rattle.fmp_rules.specs.Arrivals.{State}
use Rattle.fmp_names.specs.Names.{NameLists, AreValid}
use Rattle.fmp_text.specs.declared.fault.TextFault.{TextFault}
use Rattle.fmp_text.specs.declared.fault.TextKind.{TextKind}
use Rattle.fmp_text.specs.declared.fault.TextKind.TheVariants.{CutShort}
use Rattle.fmp_trace.specs.Reading.{Fails, at_line}
use Rattle.fmp_trace.proofs.Numbered.{first_piece, only_piece}
use Rattle.fmp_trace_partial.specs.Partial.{bounded_text}
use Rattle.fmp_trace_partial.specs.Saying.{line_said, said_from}
use Rattle.fmp_trace_partial.specs.declared.telling.Said.{Said}
use Rattle.fmp_trace_partial.proofs.SaidTexts.{LineReported, line_reported, said_from-line}
use Rattle.fmp_run_partial.specs.Following.{state_after, verdict_after, verdict_of}
use Rattle.fmp_run_partial.specs.declared.following.Followed.{Followed}

at_line_parts : (n : ℕ) (read : Result Said TextKind) (s : Said) → at_line n read ≡ Ok s → read ≡ Ok s
at_line_parts n (Ok x) s e = let same : x ≡ s = cc in ap (λ (y : Said). Ok y) same
at_line_parts n (Err kind) s e = absurd cc

-- a line is what is printed of what it says
line_kept : (names : NameLists) (n : ℕ) (line : List ℕ) (s : Said) → AreValid names → n < 2 ^ 64 → at_line n (line_said names n line) ≡ Ok s → line ≡ bounded_text names n s.kept s.bound s.entry
line_kept names n line s valid small read =
    let report = subst (LineReported names n line) (at_line_parts n (line_said names n line) s read) (line_reported names n line valid small) in
    report.0.printed

-- one line more
resumed : (names : NameLists) (v : Followed) (w : State) (n : ℕ) (s : Said) (read : Result (List Said) TextFault)
    → verdict_of names v w n (read >>= λ others. Ok (s ∷ others)) ≡ verdict_of names (verdict_after names v w n s (bounded_text names n s.kept s.bound s.entry)) (state_after v w s) (n + 1) read
resumed names v w n s (Ok others) = refl
resumed names v w n s (Err fault) = refl

pub said_from-last : (names : NameLists) (n : ℕ) (last : List ℕ) → said_from names n (last ∷ []) ≡ cond (eqb (length last) 0) (Ok []) (Err (record { kind = CutShort; line = n }))
unfolding said_from
said_from-last names n last = refl

module _ (names : NameLists) (total : Result Followed TextFault) (v : Followed) (w : State) (n : ℕ) (text : List ℕ) (so_far : verdict_of names v w n (said_from names n (pieces_of 10 text)) ≡ total) where
  pub goes_on : AreValid names → n < 2 ^ 64 → (line rest : List ℕ) (s : Said) → (cut_at 10 text).0 ≡ line → (cut_at 10 text).1 ≡ Some rest → at_line n (line_said names n line) ≡ Ok s
      → verdict_of names (verdict_after names v w n s line) (state_after v w s) (n + 1) (said_from names (n + 1) (pieces_of 10 rest)) ≡ total
  goes_on valid small line rest s is_line cut here =
      let kept = line_kept names n line s valid small here in
      let one : verdict_of names v w n (said_from names n (pieces_of 10 text)) ≡ verdict_of names (verdict_after names v w n s (bounded_text names n s.kept s.bound s.entry)) (state_after v w s) (n + 1) (said_from names (n + 1) (pieces_of 10 rest)) =
      rw (first_piece text line rest is_line cut, said_from-line, here) (resumed names v w n s (said_from names (n + 1) (pieces_of 10 rest))) in
      ap (λ (l : List ℕ). verdict_of names (verdict_after names v w n s l) (state_after v w s) (n + 1) (said_from names (n + 1) (pieces_of 10 rest))) kept ∙ sym one ∙ so_far

  pub ends : (line rest : List ℕ) (fault : TextFault) → (cut_at 10 text).0 ≡ line → (cut_at 10 text).1 ≡ Some rest → Fails fault (at_line n (line_said names n line)) → Fails fault total
  ends line rest fault is_line cut (inr memory) = inr memory
  ends line rest fault is_line cut (inl here) =
      let one : verdict_of names v w n (said_from names n (pieces_of 10 text)) ≡ Err fault = rw (first_piece text line rest is_line cut, said_from-line, here) refl in
      inl (sym so_far ∙ one)

  pub is_whole : (cut_at 10 text).1 ≡ None → eqb (length text) 0 ≡ true → total ≡ Ok v
  is_whole none empty =
      let one : verdict_of names v w n (said_from names n (pieces_of 10 text)) ≡ Ok v = rw (only_piece text none, said_from-last, empty) refl in
      sym so_far ∙ one

  pub is_short : (cut_at 10 text).1 ≡ None → eqb (length text) 0 ≡ false → total ≡ Err (record { kind = CutShort; line = n })
  is_short none some =
      let one : verdict_of names v w n (said_from names n (pieces_of 10 text)) ≡ Err (record { kind = CutShort; line = n }) = rw (only_piece text none, said_from-last, some) refl in
      sym so_far ∙ one
