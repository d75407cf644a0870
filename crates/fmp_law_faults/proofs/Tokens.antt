-- What tokens of a configuration make of the texts that begin with them.
use Rattle.std.proofs.Common.{◌≡◌, ℕ, ◌≤◌, Bool, true, false, cond, inl, inr, List, [], ◌∷◌, ◌++◌, length, map, Option, Some, None, Result, Ok, Err, refl, sym, ap, ◌∙◌, arith}
use Rattle.std.specs.Option.{option_map_or}
use Rattle.std.proofs.lemmas.Bool.{le-ltb}
use Rattle.fmp_bytes.specs.Results.{◌>>=◌}
use Rattle.fmp_bytes.proofs.Parsed.{bind_parts}
use Rattle.fmp_names.specs.Names.{number_defined}
use Rattle.fmp_config.specs.declared.draft.OpenClass.{OpenClass}
use Rattle.fmp_config.specs.Drafts.{Draft, blank_draft, is_start}
use Rattle.fmp_config.specs.Limits.{most_bytes}
use Rattle.fmp_config.specs.Reading.{State, at_start, take_token, closed, finished, setup_in, config_in}
use Rattle.fmp_config_statements.specs.declared.fault.ConfigKind.TheVariants as faults
use Rattle.fmp_config_statements.specs.Faults.{Fault, fault_of_line}
use Rattle.fmp_config_statements.specs.Folds.{each}
use Rattle.fmp_config_statements.specs.Forms.{Form}
use Rattle.fmp_config_statements.specs.Lexing.{Lexeme, lexed_text}
use Rattle.fmp_config_statements.specs.declared.tokens.End.{End}
use Rattle.fmp_config_statements.specs.declared.tokens.End.TheVariants.{Bad, CutShort, Done}
use Rattle.fmp_law_config.specs.FirstFaults.{HaveNoFault, IsOfEnd}
use Rattle.fmp_law_config.specs.Stages.{Stage}
use Rattle.fmp_law_config.specs.Tokens.{glyph_of}
use Rattle.fmp_law_config.proofs.Followed.{clauses_reach}
use Rattle.fmp_law_config.proofs.Given.{entries_of}
use Rattle.fmp_law_config.proofs.Nesting.{tokens_nested}
use Rattle.fmp_law_config.proofs.Results.{each-append, none_is}
use Rattle.fmp_law_config.proofs.Stages.{IsBounded, stage_of}
use Rattle.fmp_law_config.proofs.Steps.{outside}
use Rattle.fmp_law_faults.specs.Statements.{HaveFault, IsBetween}
use Rattle.fmp_law_faults.proofs.Errors.{err_same, ok_err}

-- ---- the end

closed_fault : (d : Draft) (opened : Option OpenClass) (fault : Fault)
    → option_map_or (λ o. Err (fault_of_line faults.CutShort o.line)) opened (cond (is_start d.phase) (Err (fault_of_line faults.NoProcessors 1)) (Ok d.setup)) ≡ Err fault → IsOfEnd Done fault
closed_fault d (Some o) fault e = inl (o.line, sym (err_same (fault_of_line faults.CutShort o.line) fault e))
closed_fault d None fault e = by (is_start d.phase) e
  where
    by : (start : Bool) → cond start (Err (fault_of_line faults.NoProcessors 1)) (Ok d.setup) ≡ Err fault → IsOfEnd Done fault
    by true e = inr (sym (err_same (fault_of_line faults.NoProcessors 1) fault e))
    by false e = absurd (ok_err d.setup fault e)

done_fault : (s : State) (form : Option Form) (fault : Fault) → option_map_or (λ f. Err (fault_of_line faults.CutShort f.line)) form (closed s.draft) ≡ Err fault → IsOfEnd Done fault
unfolding closed
done_fault s (Some f) fault e = inl (f.line, sym (err_same (fault_of_line faults.CutShort f.line) fault e))
done_fault s None fault e = closed_fault s.draft s.draft.open_class fault e

end_fault : (s : State) (end : End) (fault : Fault) → finished s end ≡ Err fault → IsOfEnd end fault
unfolding finished
end_fault s (Bad line) fault e = sym (err_same (fault_of_line faults.Syntax line) fault e)
end_fault s (CutShort line) fault e = sym (err_same (fault_of_line faults.CutShort line) fault e)
end_fault s Done fault e = done_fault s s.form fault e

-- ---- texts that begin with tokens

config_within : (text : List ℕ) → length text ≤ most_bytes → config_in text ≡ (each take_token at_start (lexed_text text).lexemes >>= λ s. finished s (lexed_text text).end)
unfolding config_in setup_in
config_within text fits = let short = le-ltb most_bytes (length text) fits in rw short refl

-- what is read of a text with these tokens
pub with_tokens : (text : List ℕ) (tokens : List Lexeme) (read : Result State Fault) → length text ≤ most_bytes → (lexed_text text).lexemes ≡ tokens → each take_token at_start tokens ≡ read
    → config_in text ≡ (read >>= λ s. finished s (lexed_text text).end)
with_tokens text tokens read fits are is =
    config_within text fits ∙ ap (λ (ts : List Lexeme). each take_token at_start ts >>= λ s. finished s (lexed_text text).end) are
    ∙ ap (λ (r : Result State Fault). r >>= λ s. finished s (lexed_text text).end) is

none_at_fault : (tokens : List Lexeme) (s : State) → each take_token at_start tokens ≡ Ok s → HaveNoFault tokens
none_at_fault tokens s read first others text fault parts are fits e =
    let whole : (each take_token at_start first >>= λ next. each take_token next others) ≡ Ok s =
    sym (each-append take_token at_start first others) ∙ ap (λ (ts : List Lexeme). each take_token at_start ts) (sym parts) ∙ read in
    let p = bind_parts (each take_token at_start first) (λ next. each take_token next others) s whole in
    end_fault p.0 (lexed_text text).end fault (sym (with_tokens text first (Ok p.0) fits are p.1) ∙ e)

-- ---- one token more

one_read : (s : State) (t : Lexeme) → each take_token s (t ∷ []) ≡ take_token s t
unfolding each
one_read s t = by (take_token s t) where
  by : (r : Result State Fault) → (r >>= λ next. Ok next) ≡ r
  by (Ok next) = refl
  by (Err fault) = refl

module _ (before : List Lexeme) (t : Lexeme) (between : State) (read : each take_token at_start before ≡ Ok between) where
  all_read : each take_token at_start (before ++ t ∷ []) ≡ take_token between t
  all_read = each-append take_token at_start before (t ∷ []) ∙ ap (λ (r : Result State Fault). r >>= λ next. each take_token next (t ∷ [])) read ∙ one_read between t

  -- the token has no fault
  pub no_fault_at : (next : State) → take_token between t ≡ Ok next → HaveNoFault (before ++ t ∷ [])
  no_fault_at next e = none_at_fault (before ++ t ∷ []) next (all_read ∙ e)

  -- its fault
  pub fault_at_token : (fault : Fault) → take_token between t ≡ Err fault → HaveFault (before ++ t ∷ []) fault.kind
  fault_at_token fault e text more are fits =
      let read_all : each take_token at_start ((before ++ t ∷ []) ++ more) ≡ Err fault =
      each-append take_token at_start (before ++ t ∷ []) more ∙ ap (λ (r : Result State Fault). r >>= λ next. each take_token next more) (all_read ∙ e) in
      (fault, with_tokens text ((before ++ t ∷ []) ++ more) (Err fault) fits are read_all, refl)

-- ---- what clauses lead to

none_named : (word : List ℕ) (n : ℕ) → number_defined blank_draft.setup.names word ≡ Some n → ⊥
unfolding number_defined
none_named word n e = none_is n e

pub blank_bounded : IsBounded blank_draft.setup
blank_bounded = record { processors = omega arith; priorities = omega arith; named = λ word n e. absurd (none_named word n e) }

-- a draft of this stage
pub record Stands (tokens : List Lexeme) (s : Stage) : Type 0 where
  pub draft : Draft
  pub read : each take_token at_start tokens ≡ Ok (outside draft None)
  pub stage : s ≡ stage_of draft
  pub bounded : IsBounded draft.setup

pub tokens_lead : (tokens : List Lexeme) (s : Stage) → IsBetween tokens s → Stands tokens s
tokens_lead tokens s l =
    let all = (tokens_nested (map glyph_of tokens) l.spelled.0 l.spelled.1).0 in
    let entered = entries_of l.elements tokens l.elements_are all in
    let r = clauses_reach l.clauses l.elements entered.entries blank_draft s blank_bounded entered.are entered.tokens_are l.clauses_are l.say in
    record { draft = r.0; read = entered.read blank_draft None (outside r.0 None) r.1; stage = r.2; bounded = r.3 }
