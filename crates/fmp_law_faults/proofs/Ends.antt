-- The end of a configuration is at fault exactly where the table has a fault for it.
use Rattle.std.proofs.Common.{◌≡◌, ℕ, ◌≤◌, inl, inr, Bool, true, false, cond, List, length, Option, Some, None, is_some, option_map, Result, Ok, Err, refl, sym, ap, subst, ◌∙◌, append-nil, []}
use Rattle.std.specs.Option.{option_map_or}
use Rattle.std.proofs.lemmas.Bool.{false≢true}
use Rattle.fmp_config.specs.declared.draft.OpenClass.{OpenClass}
use Rattle.fmp_config.specs.Drafts.{Draft, is_start}
use Rattle.fmp_config.specs.Limits.{most_bytes}
use Rattle.fmp_config.specs.Reading.{State, at_start, closed, config_in, finished, take_token}
use Rattle.fmp_config_statements.specs.declared.fault.ConfigKind.{ConfigKind}
use Rattle.fmp_config_statements.specs.declared.fault.ConfigKind.TheVariants as faults
use Rattle.fmp_config_statements.specs.Faults.{Fault, fault_of_line}
use Rattle.fmp_config_statements.specs.Folds.{each}
use Rattle.fmp_config_statements.specs.Forms.{Form}
use Rattle.fmp_config_statements.specs.Lexing.{Lexeme, lexed_text}
use Rattle.fmp_config_statements.specs.declared.tokens.End.{End}
use Rattle.fmp_config_statements.specs.declared.tokens.End.TheVariants.{Bad, CutShort, Done}
use Rattle.fmp_setup.specs.Setup.{Setup}
use Rattle.fmp_law_config.specs.FirstFaults.{HaveNoFault, IsOfEnd}
use Rattle.fmp_law_config.specs.Stages.{Stage}
use Rattle.fmp_law_config.proofs.Stages.{stage_of}
use Rattle.fmp_law_config.proofs.Steps.{outside}
use Rattle.fmp_law_faults.specs.EndFaults.{EndFault}
use Rattle.fmp_law_faults.specs.Statements.{IsAt, IsBetween, between, within}
use Rattle.fmp_law_faults.proofs.ComesBefore.{comes_before}
use Rattle.fmp_law_faults.proofs.Tokens.{tokens_lead, with_tokens}

-- ---- a byte or a comment at the end

module _ (text : List ℕ) (fits : length text ≤ most_bytes) (none : HaveNoFault (lexed_text text).lexemes) where
  abbrev tokens : List Lexeme
  tokens = (lexed_text text).lexemes

  -- where the end is always a fault, that is the first
  only_end : (found : Fault) → ((s : State) → finished s (lexed_text text).end ≡ Err found) → ((fault : Fault) → config_in text ≡ Err fault → fault ≡ found) → config_in text ≡ Err found
  only_end found always same = go (each take_token at_start tokens) refl where
    go : (r : Result State Fault) → each take_token at_start tokens ≡ r → config_in text ≡ Err found
    go (Ok s) e = with_tokens text tokens (Ok s) fits refl e ∙ always s
    go (Err fault) e =
        let is = with_tokens text tokens (Err fault) fits refl e in
        is ∙ ap (λ (f : Fault). Err f) (same fault is)

  bad_ends : (s : State) (line : ℕ) → finished s (Bad line) ≡ Err (fault_of_line faults.Syntax line)
  unfolding finished
  bad_ends s line = refl

  cut_ends : (s : State) (line : ℕ) → finished s (CutShort line) ≡ Err (fault_of_line faults.CutShort line)
  unfolding finished
  cut_ends s line = refl

  of_end : (end : End) (fault : Fault) → (lexed_text text).end ≡ end → config_in text ≡ Err fault → IsOfEnd end fault
  of_end end fault is e = subst (λ (x : End). IsOfEnd x fault) is (none tokens [] text fault (sym (append-nil tokens)) refl fits e)

  pub bad_end : (line : ℕ) → (lexed_text text).end ≡ Bad line → config_in text ≡ Err (fault_of_line faults.Syntax line)
  bad_end line is = only_end (fault_of_line faults.Syntax line) (λ s. ap (finished s) is ∙ bad_ends s line) (λ fault e. of_end (Bad line) fault is e)

  pub cut_end : (line : ℕ) → (lexed_text text).end ≡ CutShort line → config_in text ≡ Err (fault_of_line faults.CutShort line)
  cut_end line is = only_end (fault_of_line faults.CutShort line) (λ s. ap (finished s) is ∙ cut_ends s line) (λ fault e. of_end (CutShort line) fault is e)

-- ---- all tokens are there

abbrev EndAgrees : (tokens : List Lexeme) (s : Stage) → IsAt tokens s → Result Setup Fault → Type 0
EndAgrees tokens s at (Err fault) = EndFault tokens s at fault.kind
EndAgrees tokens s at (Ok c) = (c ≡ s.setup) × ((kind : ConfigKind) → ¬ (EndFault tokens s at kind))

some_open : (opened : Option OpenClass) → is_some opened ≡ is_some (option_map (λ o. o.class) opened)
some_open None = refl
some_open (Some o) = refl

form_ends : (d : Draft) (f : Form) → finished (outside d (Some f)) Done ≡ Err (fault_of_line faults.CutShort f.line)
unfolding finished
form_ends d f = refl

module _ (tokens : List Lexeme) (s : Stage) (at : IsBetween tokens s) (d : Draft) (is : s ≡ stage_of d) where
  class_is : is_some s.class ≡ is_some d.open_class
  class_is = ap (λ (x : Stage). is_some x.class) is ∙ sym (some_open d.open_class)

  phase_is : is_start s.phase ≡ is_start d.phase
  phase_is = ap (λ (x : Stage). is_start x.phase) is

  closed_judged : EndAgrees tokens s (between at) (finished (outside d None) Done)
  unfolding finished closed
  closed_judged = by d.open_class (is_start d.phase) refl refl where
    by : (o : Option OpenClass) (start : Bool) → d.open_class ≡ o → is_start d.phase ≡ start
        → EndAgrees tokens s (between at) (option_map_or (λ o. Err (fault_of_line faults.CutShort o.line)) o (cond start (Err (fault_of_line faults.NoProcessors 1)) (Ok d.setup)))
    by (Some o) start a b = inl (refl, class_is ∙ ap is_some a)
    by None true a b = inr (class_is ∙ ap is_some a, refl, phase_is ∙ b)
    by None false a b = (
      sym (ap (λ (x : Stage). x.setup) is),
      λ kind found.
          elim found [ inl c ↦ false≢true (sym (class_is ∙ ap is_some a) ∙ c.1) | inr c ↦ false≢true (sym (phase_is ∙ b) ∙ c.2) ],
    )

one_end : (tokens : List Lexeme) (s : Stage) (at : IsAt tokens s) (a b : ConfigKind) → EndFault tokens s at a → EndFault tokens s at b → a ≡ b
one_end ts s (within name glyphs at) a b f g = f ∙ sym g
one_end ts s (between at) a b (inl x) (inl y) = x.0 ∙ sym y.0
one_end ts s (between at) a b (inl x) (inr y) = absurd (false≢true (sym y.0 ∙ x.1))
one_end ts s (between at) a b (inr x) (inl y) = absurd (false≢true (sym x.0 ∙ y.1))
one_end ts s (between at) a b (inr x) (inr y) = x.1 ∙ sym y.1

module _ (text : List ℕ) (s : Stage) (fits : length text ≤ most_bytes) (done : (lexed_text text).end ≡ Done) where
  abbrev all : List Lexeme
  all = (lexed_text text).lexemes

  end_judged : (at : IsAt all s) → EndAgrees all s at (config_in text)
  end_judged (between at) =
      let l = tokens_lead all s at in
      let read = with_tokens text all (Ok (outside l.draft None)) fits refl l.read ∙ ap (finished (outside l.draft None)) done in
      subst (λ (r : Result Setup Fault). EndAgrees all s (between at) r) (sym read) (closed_judged all s at l.draft l.stage)
  end_judged (within name glyphs at) =
      let on = at.goes_on in
      let c = comes_before all s name glyphs at on.0 on.1 on.2 on.3 in
      let read = with_tokens text all (Ok (outside c.draft (Some c.form))) fits refl c.read ∙ ap (finished (outside c.draft (Some c.form))) done ∙ form_ends c.draft c.form in
      subst (λ (r : Result Setup Fault). EndAgrees all s (within name glyphs at) r) (sym read) refl

  pub no_fault : (at : IsAt all s) → ((kind : ConfigKind) → ¬ (EndFault all s at kind)) → config_in text ≡ Ok s.setup
  no_fault at none = go (config_in text) refl (end_judged at) where
    go : (r : Result Setup Fault) → config_in text ≡ r → EndAgrees all s at r → config_in text ≡ Ok s.setup
    go (Ok c) e agrees = e ∙ ap (λ (x : Setup). Ok x) agrees.0
    go (Err fault) e agrees = absurd (none fault.kind agrees)

  pub a_fault : (at : IsAt all s) (kind : ConfigKind) → EndFault all s at kind → (fault : Fault) × (config_in text ≡ Err fault) × (fault.kind ≡ kind)
  a_fault at kind found = go (config_in text) refl (end_judged at) where
    go : (r : Result Setup Fault) → config_in text ≡ r → EndAgrees all s at r → (fault : Fault) × (config_in text ≡ Err fault) × (fault.kind ≡ kind)
    go (Ok c) e agrees = absurd (agrees.1 kind found)
    go (Err fault) e agrees = (fault, e, one_end all s at fault.kind kind agrees found)
