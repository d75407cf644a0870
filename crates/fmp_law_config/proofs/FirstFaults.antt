-- A fault of a configuration text is found at its token: those before it are read without one, and nothing after it is read.
use Rattle.std.proofs.Common.{◌≡◌, ℕ, ◌≤◌, ◌⊎◌, Bool, true, false, cond, ltb, inl, inr, List, [], ◌∷◌, ◌++◌, length, Option, Some, None, Result, Ok, Err, refl, sym, ap, ◌∙◌}
use Rattle.std.specs.Option.{option_map_or}
use Rattle.std.proofs.lemmas.Bool.{le-ltb, ltb-true, ltb-false}
use Rattle.fmp_bytes.specs.Results.{◌>>=◌}
use Rattle.fmp_bytes.proofs.Parsed.{bind_parts}
use Rattle.fmp_config.specs.declared.draft.OpenClass.{OpenClass}
use Rattle.fmp_config.specs.Drafts.{Draft, is_start}
use Rattle.fmp_config.specs.Limits.{most_bytes}
use Rattle.fmp_config.specs.Reading.{State, at_start, take_token, closed, finished, setup_in, config_in}
use Rattle.fmp_setup.specs.Setup.{Setup}
use Rattle.fmp_config_statements.specs.Faults.{Fault, fault_of_line}
use Rattle.fmp_config_statements.specs.Folds.{each}
use Rattle.fmp_config_statements.specs.Forms.{Form}
use Rattle.fmp_config_statements.specs.declared.fault.ConfigKind.TheVariants as faults
use Rattle.fmp_config_statements.specs.Lexing.{Lexeme, lexed_text}
use Rattle.fmp_config_statements.specs.declared.tokens.End.{End}
use Rattle.fmp_config_statements.specs.declared.tokens.End.TheVariants.{Bad, CutShort, Done}
use Rattle.fmp_law_config.proofs.Cuts.{cut_before}
use Rattle.fmp_law_config.specs.FirstFaults.{IsOfEnd, HaveNoFault, FaultAtToken, FirstFault}
use Rattle.fmp_law_config.proofs.Configured.{setup_read}
use Rattle.fmp_law_config.proofs.Results.{each-append, each-cons, each-none}

same_fault : (a b : Fault) → ◌≡◌ {A = Result Setup Fault} (Err a) (Err b) → a ≡ b
same_fault a b e = cc

no_fault : (c : Setup) (fault : Fault) → ◌≡◌ {A = Result Setup Fault} (Ok c) (Err fault) → ⊥
no_fault c fault e = absurd cc

-- ---- the end of the tokens

closed_fault : (d : Draft) (opened : Option OpenClass) (fault : Fault)
    → option_map_or (λ o. Err (fault_of_line faults.CutShort o.line)) opened (cond (is_start d.phase) (Err (fault_of_line faults.NoProcessors 1)) (Ok d.setup)) ≡ Err fault → IsOfEnd Done fault
closed_fault d (Some o) fault e = inl (o.line, sym (same_fault (fault_of_line faults.CutShort o.line) fault e))
closed_fault d None fault e = by (is_start d.phase) e
  where
    by : (start : Bool) → cond start (Err (fault_of_line faults.NoProcessors 1)) (Ok d.setup) ≡ Err fault → IsOfEnd Done fault
    by true e = inr (sym (same_fault (fault_of_line faults.NoProcessors 1) fault e))
    by false e = absurd (no_fault d.setup fault e)

done_fault : (s : State) (form : Option Form) (fault : Fault) → option_map_or (λ f. Err (fault_of_line faults.CutShort f.line)) form (closed s.draft) ≡ Err fault → IsOfEnd Done fault
unfolding closed
done_fault s (Some f) fault e = inl (f.line, sym (same_fault (fault_of_line faults.CutShort f.line) fault e))
done_fault s None fault e = closed_fault s.draft s.draft.open_class fault e

end_fault : (s : State) (end : End) (fault : Fault) → finished s end ≡ Err fault → IsOfEnd end fault
unfolding finished
end_fault s (Bad line) fault e = sym (same_fault (fault_of_line faults.Syntax line) fault e)
end_fault s (CutShort line) fault e = sym (same_fault (fault_of_line faults.CutShort line) fault e)
end_fault s Done fault e = done_fault s s.form fault e

-- ---- tokens without a fault

config_within : (text : List ℕ) → length text ≤ most_bytes → config_in text ≡ (each take_token at_start (lexed_text text).lexemes >>= λ s. finished s (lexed_text text).end)
unfolding config_in setup_in
config_within text fits = let short = le-ltb most_bytes (length text) fits in rw short refl

-- what is read of a text with these tokens
with_tokens : (text : List ℕ) (tokens : List Lexeme) (read : Result State Fault) → length text ≤ most_bytes → (lexed_text text).lexemes ≡ tokens → each take_token at_start tokens ≡ read
    → config_in text ≡ (read >>= λ s. finished s (lexed_text text).end)
with_tokens text tokens read fits are is =
    config_within text fits ∙ ap (λ (ts : List Lexeme). each take_token at_start ts >>= λ s. finished s (lexed_text text).end) are
    ∙ ap (λ (r : Result State Fault). r >>= λ s. finished s (lexed_text text).end) is

read_tokens : (tokens : List Lexeme) (s : State) → each take_token at_start tokens ≡ Ok s → HaveNoFault tokens
read_tokens tokens s read first others text fault parts are fits e =
    let whole : (each take_token at_start first >>= λ next. each take_token next others) ≡ Ok s =
    sym (each-append take_token at_start first others) ∙ ap (λ (ts : List Lexeme). each take_token at_start ts) (sym parts) ∙ read in
    let p = bind_parts (each take_token at_start first) (λ next. each take_token next others) s whole in
    end_fault p.0 (lexed_text text).end fault (sym (with_tokens text first (Ok p.0) fits are p.1) ∙ e)

-- ---- the token at fault

record IsStopped (s : State) (tokens : List Lexeme) (fault : Fault) : Type 0 where
  before : List Lexeme
  token : Lexeme
  rest : List Lexeme
  between : State
  parts : tokens ≡ before ++ (token ∷ rest)
  read : each take_token s before ≡ Ok between
  stops : take_token between token ≡ Err fault

stopped : (s : State) (tokens : List Lexeme) (fault : Fault) → each take_token s tokens ≡ Err fault → IsStopped s tokens fault
unfolding each
stopped s [] fault e = absurd cc
stopped s (t ∷ tokens) fault e = by (λ next following. stopped next tokens fault following) (take_token s t) refl e
  where
    same : (a b : Fault) → ◌≡◌ {A = Result State Fault} (Err a) (Err b) → a ≡ b
    same a b e = cc

    by : ((next : State) → each take_token next tokens ≡ Err fault → IsStopped next tokens fault) → (one : Result State Fault) → take_token s t ≡ one → (one >>= λ next. each take_token next tokens) ≡ Err fault → IsStopped s (t ∷ tokens) fault
    by following (Err other) is e =
        record { before = []; token = t; rest = tokens; between = s; parts = refl; read = each-none take_token s; stops = is ∙ ap (λ (f : Fault). Err f) (same other fault e) }
    by following (Ok next) is e =
        let more = following next e in
        record {
          before = t ∷ more.before;
          token = more.token;
          rest = more.rest;
          between = more.between;
          parts = ap (λ (ts : List Lexeme). t ∷ ts) more.parts;
          read = each-cons take_token s next t more.before is ∙ more.read;
          stops = more.stops;
        }

-- whatever follows the token
goes_no_further : (s between : State) (before more : List Lexeme) (token : Lexeme) (fault : Fault) → each take_token s before ≡ Ok between → take_token between token ≡ Err fault
    → each take_token s (before ++ (token ∷ more)) ≡ Err fault
unfolding each
goes_no_further s between before more token fault read stops =
    each-append take_token s before (token ∷ more) ∙ ap (λ (r : Result State Fault). r >>= λ next. each take_token next (token ∷ more)) read
    ∙ ap (λ (r : Result State Fault). r >>= λ next. each take_token next more) stops

at_token : (text : List ℕ) (fault : Fault) → IsStopped at_start (lexed_text text).lexemes fault → FaultAtToken text fault
unfolding setup_in
at_token text fault s =
    let goes : (more : List Lexeme) → each take_token at_start (s.before ++ (s.token ∷ more)) ≡ Err fault = (λ more. goes_no_further at_start s.between s.before more s.token fault s.read s.stops) in
    record {
      before = s.before;
      token = s.token;
      rest = s.rest;
      parts = s.parts;
      faultless = read_tokens s.before s.between s.read;
      cut = cut_before text s.before s.token s.rest s.parts;
      never = λ other more c are says.
          no_fault c fault (sym (setup_read other c says) ∙ ap (λ (ts : List Lexeme). each take_token at_start ts >>= λ s. finished s (lexed_text other).end) are
          ∙ ap (λ (r : Result State Fault). r >>= λ s. finished s (lexed_text other).end) (goes more));
      report = λ other more are fits. with_tokens other (s.before ++ (s.token ∷ more)) (Err fault) fits are (goes more);
    }

-- ---- whole texts

found : (text : List ℕ) (fault : Fault) (read : Result State Fault) → each take_token at_start (lexed_text text).lexemes ≡ read → (read >>= λ s. finished s (lexed_text text).end) ≡ Err fault
    → FaultAtToken text fault ⊎ (HaveNoFault (lexed_text text).lexemes × IsOfEnd (lexed_text text).end fault)
found text fault (Ok s) is e = inr (read_tokens (lexed_text text).lexemes s is, end_fault s (lexed_text text).end fault e)
found text fault (Err other) is e =
    inl (at_token text fault (stopped at_start (lexed_text text).lexemes fault (is ∙ ap (λ (f : Fault). Err f) (same_fault other fault e))))

pub first_fault : (text : List ℕ) (fault : Fault) → config_in text ≡ Err fault → FirstFault text fault
unfolding config_in
first_fault text fault e = by (ltb most_bytes (length text)) refl
  where
    by : (long : Bool) → ltb most_bytes (length text) ≡ long → FirstFault text fault
    by true long = let e2 = rw long at e in inl (ltb-true most_bytes (length text) long, sym (same_fault (fault_of_line faults.TooMany 0) fault e2))
    by false long =
        let fits = ltb-false most_bytes (length text) long in
        inr (fits, found text fault (each take_token at_start (lexed_text text).lexemes) refl (sym (config_within text fits) ∙ e))
