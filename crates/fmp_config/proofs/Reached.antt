-- What was read stays sound as tokens are taken in, and is a valid configuration in the end.
use Rattle.std.proofs.Common.{◌≡◌, ℕ, Bool, true, false, Option, Some, None, Ok, Err, if◌then◌else◌, refl, subst, ◌∙◌}
use Rattle.std.specs.Prelude.{nat_le, option_and_then, codes}
use Rattle.std.specs.Option.{option_map_or}
use Rattle.std.specs.Str.{bytes_eq}
use Rattle.std.proofs.lemmas.Bool.{leb-true}
use Rattle.fmp_names.specs.Names.{is_name}
use Rattle.fmp_config_statements.specs.Lexing.{Lexeme}
use Rattle.fmp_config_statements.specs.declared.directive.Directive.{Directive}
use Rattle.fmp_config_statements.specs.declared.directive.Directive.TheVariants as directives
use Rattle.fmp_config_statements.specs.declared.fault.ConfigKind.TheVariants as faults
use Rattle.fmp_config_statements.specs.declared.table.StatementName.{StatementName}
use Rattle.fmp_config_statements.specs.Directives.{defined_number, named, named_number, next_directive, numbered}
use Rattle.fmp_config_statements.specs.Faults.{fault_of_line, unknown_directive}
use Rattle.fmp_config_statements.specs.Forms.{Form}
use Rattle.fmp_config_statements.specs.Numbers.{numeral}
use Rattle.fmp_config_statements.specs.Words.{Word, word_of, is_identifier_kind}
use Rattle.fmp_config_statements.proofs.Promised.{begun_is_promised, step_keeps_name, step_keeps_promise}
use Rattle.fmp_config.specs.Drafts.{Draft}
use Rattle.fmp_config.specs.Places.{place_fault}
use Rattle.fmp_config.specs.Reading.{State, take_token}
use Rattle.fmp_config.specs.Sound.{IsSoundDirective, IsSoundForm, IsSoundState}
use Rattle.fmp_config.proofs.Defined.{ended_sound}
use Rattle.fmp_config.proofs.Judged.{judged_sound}
use Rattle.fmp_config.proofs.Steps.{not_ok, ok_is}
use Rattle.fmp_config.proofs.Taken.{Taken, taken_as}
use Rattle.fmp_config.proofs.Whole.{whole}

-- ---- directives

named_sound : (line : ℕ) (t : Lexeme) (next : Directive) (b c d : Bool)
    → (if b then (if c then Ok directives.Skipped else (if d then Ok (directives.Naming line) else Err (unknown_directive line t.text))) else Err (fault_of_line faults.Syntax line)) ≡ Ok next → IsSoundDirective next
named_sound line t next true true d e = subst IsSoundDirective (ok_is directives.Skipped next e) tt
named_sound line t next true false true e = subst IsSoundDirective (ok_is (directives.Naming line) next e) tt
named_sound line t next true false false e = absurd (not_ok (unknown_directive line t.text) next e)
named_sound line t next false c d e = absurd (not_ok (fault_of_line faults.Syntax line) next e)

numbering_sound : (line : ℕ) (t : Lexeme) (b : Bool) → is_name t.text ≡ b → IsSoundDirective (if b then directives.Numbering line (word_of t) else directives.Skipped)
numbering_sound line t true named = named
numbering_sound line t false named = tt

defining_sound : (line : ℕ) (name : Word) (o : Option ℕ) → is_name name.text ≡ true
    → IsSoundDirective (option_map_or (λ n. directives.Defining line name n) (option_and_then (λ n. if nat_le n 4294967295 then Some n else None) o) directives.Skipped)
defining_sound line name None named = tt
defining_sound line name (Some n) named = within (nat_le n 4294967295) refl
  where
    within : (b : Bool) → nat_le n 4294967295 ≡ b → IsSoundDirective (option_map_or (λ n. directives.Defining line name n) (if b then Some n else None) directives.Skipped)
    within true small = (named, leb-true n 4294967295 small)
    within false small = tt

directive_sound : (directive next : Directive) (t : Lexeme) → IsSoundDirective directive → next_directive directive t ≡ Ok next → IsSoundDirective next
unfolding named named_number numbered defined_number
directive_sound (directives.Marked line) next t sound e = named_sound line t next (is_identifier_kind t.kind) (bytes_eq t.text (codes "include")) (bytes_eq t.text (codes "define")) e
directive_sound (directives.Naming line) next t sound e = subst IsSoundDirective (ok_is (named_number line t) next e) (numbering_sound line t (is_name t.text) refl)
directive_sound (directives.Numbering line name) next t sound e = subst IsSoundDirective (ok_is (numbered line name t) next e) (defining_sound line name (numeral t.text) sound)
directive_sound _ next t sound e = subst IsSoundDirective (ok_is directives.Skipped next e) tt

-- ---- a token

form_beside : (d e : Draft) (o : Option Form) → ((name : StatementName) → place_fault e name ≡ place_fault d name) → IsSoundForm d o → IsSoundForm e o
form_beside d e None same sound = tt
form_beside d e (Some f) same sound = (same f.name ∙ sound.0, sound.1)

by_taken : (s next : State) (t : Lexeme) → IsSoundState s → Taken s t next → IsSoundState next
by_taken s next t sound (Taken.Directive_begins same) = subst IsSoundState same (record { draft = sound.draft; form = sound.form; directive = tt })
by_taken s next t sound (Taken.Directive_goes_on directive is same) =
    subst IsSoundState same (record { draft = sound.draft; form = sound.form; directive = directive_sound s.directive directive t sound.directive is })
by_taken s next t sound (Taken.Directive_ends d is same) =
    let (defined, places) = ended_sound s.draft d s.directive sound.draft is in
    subst IsSoundState same (record { draft = defined; form = form_beside s.draft d s.form places sound.form; directive = tt })
by_taken s next t sound (Taken.Class_ends none same) =
    subst IsSoundState same
    (record {
      draft = record { valid = sound.draft.valid; open_class = tt; before_classes = sound.draft.before_classes; before_processors = sound.draft.before_processors };
      form = rw none tt;
      directive = sound.directive;
    })
by_taken s next t sound (Taken.Statement_begins name free same) =
    subst IsSoundState same (record { draft = sound.draft; form = (free, begun_is_promised name t.line); directive = sound.directive })
by_taken s next t sound (Taken.Statement_goes_on f g at step same) =
    let (free, promised) = subst (IsSoundForm s.draft) at sound.form in
    let name = step_keeps_name f g t step in
    subst IsSoundState same (record { draft = sound.draft; form = (rw name free, step_keeps_promise f g t promised step); directive = sound.directive })
by_taken s next t sound (Taken.Statement_ends f g d at step complete is same) =
    let (free, promised) = subst (IsSoundForm s.draft) at sound.form in
    let name = step_keeps_name f g t step in
    subst IsSoundState same
    (record {
      draft = judged_sound s.draft d g.name g sound.draft (rw name free) (whole g (step_keeps_promise f g t promised step) complete) is;
      form = tt;
      directive = sound.directive;
    })

pub taken_sound : (s next : State) (t : Lexeme) → IsSoundState s → take_token s t ≡ Ok next → IsSoundState next
taken_sound s next t sound e = by_taken s next t sound (taken_as s t next e)
