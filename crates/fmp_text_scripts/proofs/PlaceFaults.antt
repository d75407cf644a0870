-- The fault at the place of a line that is refused is the reader's.
use Rattle.std.proofs.Common.{◌≡◌, ◌≢◌, ℕ, Bool, true, false, cond, inl, inr, nat_lt, List, length, Option, Some, None, Result, Ok, Err, refl, sym, ap, ◌∙◌}
use Rattle.std.specs.Prelude.{is_some, ◌==◌}
use Rattle.std.specs.List.{list_any}
use Rattle.std.proofs.lemmas.Bool.{cases_Bool}
use Rattle.fmp_bytes.specs.Results.{◌>>=◌}
use Rattle.fmp_names.specs.Names.{NameLists}
use Rattle.fmp_text.specs.declared.fault.TextKind.{TextKind}
use Rattle.fmp_text.specs.declared.fault.TextKind.TheVariants as kinds
use Rattle.fmp_text.specs.declared.fault.TextKind.TheVariants.{BadByte, BadWord, TooMany, UnknownName, WrongArguments}
use Rattle.fmp_text.specs.EventFaults.{first_word}
use Rattle.fmp_text.specs.Lines.{is_skipped, without_return}
use Rattle.fmp_text_scripts.specs.declared.line.Said.{Said}
use Rattle.fmp_text_scripts.specs.declared.line.Said.TheVariants as said
use Rattle.fmp_text_scripts.specs.declared.ways.Way.{Way}
use Rattle.fmp_text_scripts.specs.Lines.{are_line}
use Rattle.fmp_text_scripts.specs.Lines.{said_by as lines_said}
use Rattle.fmp_text_scripts.specs.Lines.{said_in as line_said}
use Rattle.fmp_text_scripts.specs.Linking.{has_label, linked}
use Rattle.fmp_text_scripts.specs.Places.{Place, said_by}
use Rattle.fmp_text_scripts.specs.Refusals.{is_misplaced, unfit, refused, placed, place}
use Rattle.fmp_text_scripts.specs.Texts.{Open, Reading, labelled, jumped, ended, closed, took, with_line}
use Rattle.fmp_text_scripts.specs.Texts.{asked as asked_of}
use Rattle.fmp_text_scripts.specs.Ways.{most_steps, most_labels, most_ways}
use Rattle.fmp_text_scripts.proofs.Placed.{misplaced_is_refused, said_same, saying}

tested : {A : Type 0} (b : Bool) (x : A) (kind fault : TextKind) → cond b (Err kind) (Ok x) ≡ Err fault → kind ≡ fault
tested true x kind fault e = cc
tested false x kind fault e = absurd cc

-- what was refused for another reason than its word or its number
took_kind : (n : ℕ) (r : Reading) (text : List ℕ) (s : Said) (fault : TextKind) → took n r (Some s) ≡ Err fault → fault ≢ TooMany → fault ≢ BadWord → (unfit text s).kind ≡ fault
took_kind n r text (said.Opens f) fault e many word = tested (list_any (λ s. s.function == f) r.scripts) _ WrongArguments fault e
took_kind n r text (said.Asks call) fault e many word = by r.unclosed e
  where
    by : (o : Option Open) → asked_of r call o ≡ Err fault → BadWord ≡ fault
    by None e = absurd cc
    by (Some o) e =
        elim (cases_Bool (nat_lt (length o.steps) most_steps)) [
          | inl t ↦ let e2 = rw t at e in absurd cc
          | inr f ↦ let e2 = rw f at e in let same : TooMany ≡ fault = cc in absurd (many (sym same))
        ]
took_kind n r text (said.Stands name) fault e many word = by r.unclosed e
  where
    by : (o : Option Open) → labelled r name o ≡ Err fault → WrongArguments ≡ fault
    by None e = absurd cc
    by (Some o) e =
        elim (cases_Bool (has_label o.labels name)) [
          | inl t ↦ let e2 = rw t at e in cc
          | inr f ↦
              elim (cases_Bool (nat_lt (length o.labels) most_labels)) [
                | inl t ↦ let e2 = rw (f, t) at e in absurd cc
                | inr g ↦ let e2 = rw (f, g) at e in let same : TooMany ≡ fault = cc in absurd (many (sym same))
              ]
        ]
took_kind n r text (said.Jumps answer name) fault e many word = by r.unclosed e
  where
    by : (o : Option Open) → jumped r answer name o ≡ Err fault → BadWord ≡ fault
    by None e = absurd cc
    by (Some o) e =
        elim (cases_Bool o.following) [
          | inl t ↦
              elim (cases_Bool (nat_lt (length o.jumps) most_ways)) [
                | inl u ↦ let e2 = rw (t, u) at e in absurd cc
                | inr g ↦ let e2 = rw (t, g) at e in let same : TooMany ≡ fault = cc in absurd (many (sym same))
              ]
          | inr f ↦ let e2 = rw f at e in cc
        ]
took_kind n r text said.Closes fault e many word = by r.unclosed e
  where
    by : (o : Option Open) → closed r o ≡ Err fault → UnknownName ≡ fault
    by None e = absurd cc
    by (Some o) e = link (linked o.labels o.jumps) e
      where
        link : (ways : Option (List Way)) → ended r o ways ≡ Err fault → UnknownName ≡ fault
        link None e = cc
        link (Some ways) e = absurd cc

-- a word that may not stand there is so whatever follows it
placed_kind : (names : NameLists) (text : List ℕ) (fault : TextKind) → (fault ≢ BadWord → (refused text (said_by names text)).kind ≡ fault) → (placed names fault text).kind ≡ fault
placed_kind names text BadWord p = refl
placed_kind names text BadByte p = p (λ e. absurd cc)
placed_kind names text UnknownName p = p (λ e. absurd cc)
placed_kind names text WrongArguments p = p (λ e. absurd cc)
placed_kind names text kinds.NumberOutOfRange p = p (λ e. absurd cc)
placed_kind names text kinds.CutShort p = p (λ e. absurd cc)
placed_kind names text TooMany p = p (λ e. absurd cc)
placed_kind names text kinds.Memory p = p (λ e. absurd cc)

refused_kind : (n : ℕ) (r : Reading) (text : List ℕ) (read : Result Said Place) (fault : TextKind) → (saying read >>= λ s. took n r s) ≡ Err fault → fault ≢ TooMany → fault ≢ BadWord → (refused text read).kind ≡ fault
refused_kind n r text (Ok s) fault e many word = took_kind n r text s fault e many word
refused_kind n r text (Err place) fault e many word = cc

pub place_has_fault : (names : NameLists) (n : ℕ) (r : Reading) (line : List ℕ) (fault : TextKind) → with_line names n r line ≡ Err fault → fault ≢ TooMany → (place names fault line).kind ≡ fault
unfolding place line_said
place_has_fault names n r line fault e many =
    elim (cases_Bool (is_skipped core)) [
      | inl t ↦ let e2 = rw t at e in absurd cc
      | inr u ↦
          elim (cases_Bool (are_line core)) [
            | inr f ↦ let e2 = rw (u, f) at e in rw f cc
            | inl t ↦ rw t (placed_kind names core fault (λ word. by (rw (u, t) at e) word))
          ]
    ]
  where
    core : List ℕ
    core = without_return line

    inside : Bool
    inside = is_some r.unclosed

    by : (lines_said names inside core >>= λ s. took n r s) ≡ Err fault → fault ≢ BadWord → (refused core (said_by names core)).kind ≡ fault
    by e word =
        elim (cases_Bool (is_misplaced inside (first_word core))) [
          | inl t ↦ let bad = misplaced_is_refused names inside core t in let e2 = rw bad at e in let same : BadWord ≡ fault = cc in absurd (word (sym same))
          | inr f ↦ refused_kind n r core (said_by names core) fault (ap (λ (s : Result (Option Said) TextKind). s >>= λ what. took n r what) (said_same names inside core f) ∙ e) many word
        ]
