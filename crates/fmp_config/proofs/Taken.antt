-- What a token that is read was.
use Rattle.std.proofs.Common.{◌≡◌, Bool, true, false, Option, Some, None, Ok, if◌then◌else◌, refl}
use Rattle.std.specs.Option.{option_map_or}
use Rattle.fmp_bytes.specs.Results.{◌>>=◌}
use Rattle.fmp_config_statements.specs.Lexing.{Lexeme}
use Rattle.fmp_config_statements.specs.declared.directive.Directive.{Directive}
use Rattle.fmp_config_statements.specs.declared.directive.Directive.TheVariants as directives
use Rattle.fmp_config_statements.specs.declared.table.StatementName.{StatementName}
use Rattle.fmp_config_statements.specs.Directives.{next_directive}
use Rattle.fmp_config_statements.specs.Faults.{fault_at}
use Rattle.fmp_config_statements.specs.Forms.{Form, begun, form_step, is_complete}
use Rattle.fmp_config_statements.specs.Words.{word_of, is_directive_kind, is_end_kind}
use Rattle.fmp_config.specs.Drafts.{Draft}
use Rattle.fmp_config.specs.Places.{place_fault}
use Rattle.fmp_config.specs.Judging.{ended, judged}
use Rattle.fmp_config.specs.Reading.{State, code_token, directive_token, ends_class, first_token, form_read, form_token, placed, statement_at, take_token, token_in}
use Rattle.fmp_config.proofs.Steps.{allowed, bound, ok_is}

-- the tokens that are read, and what each leaves
pub data Taken (s : State) (t : Lexeme) (next : State) : Type 0 where
  Directive_begins : record s { directive = directives.Marked t.line } ≡ next → Taken s t next
  Directive_goes_on : (directive : Directive) → next_directive s.directive t ≡ Ok directive → record s { directive = directive } ≡ next → Taken s t next
  Directive_ends : (d : Draft) → ended s.draft s.directive ≡ Ok d → record s { draft = d; directive = directives.Outside } ≡ next → Taken s t next
  Class_ends : s.form ≡ None → record s { draft = record s.draft { open_class = None } } ≡ next → Taken s t next
  Statement_begins : (name : StatementName) → place_fault s.draft name ≡ None → record s { form = Some (begun name t.line) } ≡ next → Taken s t next
  Statement_goes_on : (f g : Form) → s.form ≡ Some f → form_step f t ≡ Ok g → record s { form = Some g } ≡ next → Taken s t next
  Statement_ends : (f g : Form) (d : Draft) → s.form ≡ Some f → form_step f t ≡ Ok g → is_complete g ≡ true → judged s.draft g.name g ≡ Ok d → record s { draft = d; form = None } ≡ next → Taken s t next

module _ (s : State) (t : Lexeme) (next : State) where
  placed_at : (name here : StatementName) → placed s.draft t name ≡ Ok here → (name ≡ here) × (place_fault s.draft name ≡ None)
  unfolding placed
  placed_at name here e =
      let (free, same) = allowed (place_fault s.draft name) (Ok name) (λ kind. fault_at kind (word_of t)) here e in
      (ok_is name here same, free)

  first : s.form ≡ None → (b : Bool) → (if b then Ok (record s { draft = record s.draft { open_class = None } }) else (statement_at t >>= λ name. placed s.draft t name >>= λ name. Ok (record s { form = Some (begun name t.line) }))) ≡ Ok next → Taken s t next
  first none true e = Class_ends none (ok_is (record s { draft = record s.draft { open_class = None } }) next e)
  first none false e =
      let (name, is_name, e1) = bound (statement_at t) (λ name. placed s.draft t name >>= λ name. Ok (record s { form = Some (begun name t.line) })) next e in
      let (here, is_here, same) = bound (placed s.draft t name) (λ name. Ok (record s { form = Some (begun name t.line) })) next e1 in
      let (is, free) = placed_at name here is_here in
      Statement_begins here (rw (← is) free) (ok_is (record s { form = Some (begun here t.line) }) next same)

  read : (f g : Form) → s.form ≡ Some f → form_step f t ≡ Ok g → (b : Bool) → is_complete g ≡ b
      → (if b then (judged s.draft g.name g >>= λ d. Ok (record s { draft = d; form = None })) else Ok (record s { form = Some g })) ≡ Ok next → Taken s t next
  read f g at step false complete e = Statement_goes_on f g at step (ok_is (record s { form = Some g }) next e)
  read f g at step true complete e =
      let (d, is, same) = bound (judged s.draft g.name g) (λ d. Ok (record s { draft = d; form = None })) next e in
      Statement_ends f g d at step complete is (ok_is (record s { draft = d; form = None }) next same)

  in_statement : (f : Form) → s.form ≡ Some f → form_token s f t ≡ Ok next → Taken s t next
  unfolding form_token form_read
  in_statement f at e =
      let (g, step, here) = bound (form_step f t) (form_read s) next e in
      read f g at step (is_complete g) refl here

  by_form : (o : Option Form) → s.form ≡ o → option_map_or (λ f. form_token s f t) o (first_token s t) ≡ Ok next → Taken s t next
  unfolding first_token
  by_form None at e = first at (ends_class s.draft t) e
  by_form (Some f) at e = in_statement f at e

  by_kind : (b : Bool) → (if b then Ok (record s { directive = directives.Marked t.line }) else option_map_or (λ f. form_token s f t) s.form (first_token s t)) ≡ Ok next → Taken s t next
  by_kind true e = Directive_begins (ok_is (record s { directive = directives.Marked t.line }) next e)
  by_kind false e = by_form s.form refl e

  in_directive : (directive : Directive) → s.directive ≡ directive → (b : Bool)
      → (if b then (ended s.draft directive >>= λ d. Ok (record s { draft = d; directive = directives.Outside })) else (next_directive directive t >>= λ next. Ok (record s { directive = next }))) ≡ Ok next → Taken s t next
  in_directive directive at true e =
      let (d, is, same) = bound (ended s.draft directive) (λ d. Ok (record s { draft = d; directive = directives.Outside })) next e in
      Directive_ends d (rw at is) (ok_is (record s { draft = d; directive = directives.Outside }) next same)
  in_directive directive at false e =
      let (more, is, same) = bound (next_directive directive t) (λ next. Ok (record s { directive = next })) next e in
      Directive_goes_on more (rw at is) (ok_is (record s { directive = more }) next same)

  by_directive : (directive : Directive) → s.directive ≡ directive → token_in s directive t ≡ Ok next → Taken s t next
  unfolding code_token directive_token
  by_directive directives.Outside at e = by_kind (is_directive_kind t.kind) e
  by_directive (directives.Marked line) at e = in_directive (directives.Marked line) at (is_end_kind t.kind) e
  by_directive (directives.Naming line) at e = in_directive (directives.Naming line) at (is_end_kind t.kind) e
  by_directive (directives.Numbering line name) at e = in_directive (directives.Numbering line name) at (is_end_kind t.kind) e
  by_directive (directives.Defining line name number) at e = in_directive (directives.Defining line name number) at (is_end_kind t.kind) e
  by_directive directives.Skipped at e = in_directive directives.Skipped at (is_end_kind t.kind) e

  pub taken_as : take_token s t ≡ Ok next → Taken s t next
  unfolding take_token
  taken_as e = by_directive s.directive refl e
