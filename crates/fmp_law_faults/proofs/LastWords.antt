-- With its last token a statement has the fault of the table.
use Rattle.std.proofs.Common.{◌≡◌, inl, inr, true, not, List, [], ◌∷◌, ◌++◌, Some, None, is_some, Result, Ok, Err, refl, sym, ap, subst, ◌∙◌}
use Rattle.std.proofs.lemmas.Bool.{and_parts}
use Rattle.fmp_bytes.specs.Results.{◌>>=◌}
use Rattle.fmp_codes.specs.declared.kinds.ObjectKind.{ObjectKind}
use Rattle.fmp_config.specs.Drafts.{Draft, is_start}
use Rattle.fmp_config.specs.Judging.{judged}
use Rattle.fmp_config.specs.Reading.{State, at_start, code_token, form_read, form_token, take_token}
use Rattle.fmp_config_statements.specs.declared.fault.ConfigKind.{ConfigKind}
use Rattle.fmp_config_statements.specs.declared.table.StatementName.{StatementName}
use Rattle.fmp_config_statements.specs.declared.table.StatementName.TheVariants as statements
use Rattle.fmp_config_statements.specs.Faults.{Fault}
use Rattle.fmp_config_statements.specs.Folds.{each}
use Rattle.fmp_config_statements.specs.Forms.{Form, form_step, is_complete}
use Rattle.fmp_config_statements.specs.Lexing.{Lexeme}
use Rattle.fmp_law_config.specs.Elements.{Definition, definitions_of, is_plain}
use Rattle.fmp_law_config.specs.FirstFaults.{HaveNoFault}
use Rattle.fmp_law_config.specs.Meaning.{may_stand}
use Rattle.fmp_law_config.specs.Phrases.{Phrase}
use Rattle.fmp_law_config.specs.Stages.{Adds, AddsAll, Stage}
use Rattle.fmp_law_config.specs.Tokens.{Glyph, glyph_of}
use Rattle.fmp_law_config.proofs.Placing.{stands}
use Rattle.fmp_law_config.proofs.Stages.{AreUnsigned, IsBounded, phrase_of, stage_of}
use Rattle.fmp_law_config.proofs.Statements.{judged_says}
use Rattle.fmp_law_config.proofs.Steps.{no_directive, outside}
use Rattle.fmp_law_config.proofs.Taken.{completes, moved, taken}
use Rattle.fmp_law_config.proofs.Unsigned.{form_unsigned}
use Rattle.fmp_law_faults.specs.StatementFaults.{AreWhole, StatementFault}
use Rattle.fmp_law_faults.specs.Statements.{HaveFault, IsNext, IsWithin}
use Rattle.fmp_law_faults.proofs.Judged.{judged_err, one_statement_fault, says_none}
use Rattle.fmp_law_faults.proofs.ComesBefore.{comes_before, next_glyph}
use Rattle.fmp_law_faults.proofs.Tokens.{fault_at_token, no_fault_at}

-- ---- a class stays open where names are defined

class_kept : (s next : Stage) (definitions : List Definition) → AddsAll s definitions next → next.class ≡ s.class
class_kept s next [] adds = ap (λ (x : Stage). x.class) adds
class_kept s next (d ∷ definitions) adds = class_kept adds.0 next definitions adds.2 ∙ one adds.1 where
  one : Adds s d adds.0 → adds.0.class ≡ s.class
  one (inl a) = ap (λ (x : Stage). x.class) a.1
  one (inr a) = ap (λ (x : Stage). x.class) a.3

in_class : (s : Stage) (name : StatementName) (kind : ObjectKind) → name ≡ statements.Create kind → may_stand s name ≡ true → is_some s.class ≡ true
in_class s name kind is stands =
    (and_parts (not (is_start s.phase)) (is_some s.class) (ap (may_stand s) (sym is) ∙ stands)).1

-- ---- up to the last token

-- a statement that the token completes, with the words of this phrase
pub record Completes (before : List Lexeme) (t : Lexeme) (s : Stage) (name : StatementName) (phrase : Phrase) : Type 0 where
  pub draft : Draft
  pub form : Form
  pub next : Form
  pub read : each take_token at_start before ≡ Ok (outside draft (Some form))
  pub stage : s ≡ stage_of draft
  pub bounded : IsBounded draft.setup
  pub step : form_step form t ≡ Ok next
  pub complete : is_complete next ≡ true
  pub is : next.name ≡ name
  pub words : phrase ≡ phrase_of next.pieces
  pub unsigned : AreUnsigned (phrase_of next.pieces)

pub completed : (before : List Lexeme) (t : Lexeme) (s : Stage) (name : StatementName) (glyphs : List Glyph) (phrase : Phrase) → IsWithin before s name glyphs → IsNext before t
    → AreWhole name (glyphs ++ glyph_of t ∷ []) phrase → Completes before t s name phrase
completed before t s name glyphs phrase l at whole_so =
    let glyph = next_glyph before t at in
    let b = comes_before before s name glyphs l phrase (glyph_of t) [] whole_so in
    let k = taken b.form t glyph phrase [] b.open_so.following b.open_so.sound b.open_so.remains in
    let whole = completes k.next phrase k.following k.sound k.remains in
    record {
      draft = b.draft;
      form = b.form;
      next = k.next;
      read = b.read;
      stage = b.stage;
      bounded = b.bounded;
      step = k.read;
      complete = whole.0;
      is = (moved b.form t k.next k.read).name ∙ b.named;
      words = whole.1;
      unsigned = form_unsigned b.form t k.next k.read glyph b.unsigned;
    }

-- ---- the last token

judged_last : (d : Draft) (f g : Form) (t : Lexeme) → is_plain (glyph_of t) ≡ true → form_step f t ≡ Ok g → is_complete g ≡ true
    → take_token (outside d (Some f)) t ≡ (judged d g.name g >>= λ after. Ok (outside after None))
unfolding take_token code_token form_token form_read
judged_last d f g t plain step complete = let kind = (no_directive t plain).0 in rw kind (rw step (rw complete refl))

module _ (before : List Lexeme) (t : Lexeme) (s : Stage) (name : StatementName) (glyphs : List Glyph) (phrase : Phrase) (l : IsWithin before s name glyphs)
    (at : IsNext before t) (whole : AreWhole name (glyphs ++ glyph_of t ∷ []) phrase) where
  abbrev Found : ConfigKind → Type 0
  Found kind = StatementFault s name phrase kind

  -- what is judged at the last token, and what the table has
  record Outcome (r : Result Draft Fault) : Type 0 where
    state : State
    read : each take_token at_start before ≡ Ok state
    taken_so : take_token state t ≡ (r >>= λ after. Ok (outside after None))
    none : (after : Draft) → r ≡ Ok after → (kind : ConfigKind) → ¬ (Found kind)
    some : (fault : Fault) → r ≡ Err fault → Found fault.kind

  outcome : (c : Completes before t s name phrase) → Outcome (judged c.draft c.next.name c.next)
  outcome c =
      let g = c.next in
      let is_so : (kind : ConfigKind) → StatementFault (stage_of c.draft) g.name (phrase_of g.pieces) kind ≡ Found kind = λ kind.
      ap (λ (x : Stage). StatementFault x g.name (phrase_of g.pieces) kind) (sym c.stage)
      ∙ ap (λ (n : StatementName). StatementFault s n (phrase_of g.pieces) kind) c.is
      ∙ ap (λ (p : Phrase). StatementFault s name p kind) (sym c.words) in
      record {
        state = outside c.draft (Some c.form);
        read = c.read;
        taken_so = judged_last c.draft c.form g t at.is c.step c.complete;
        none = λ after e kind found.
            says_none (stage_of c.draft) (stage_of after) g.name (phrase_of g.pieces) (judged_says c.draft after c.bounded g c.unsigned g.name e) kind
            (subst (λ (T : Type 0). T) (sym (is_so kind)) found);
        some = λ fault e.
            subst (λ (T : Type 0). T) (is_so fault.kind) (judged_err c.draft c.bounded g fault g.name (has g.name c.is) e);
      } where
        has : (n : StatementName) → n ≡ name → (kind : ObjectKind) → n ≡ statements.Create kind → is_some (stage_of c.draft).class ≡ true
        has n same kind is =
            ap (λ (x : Stage). is_some x.class) (sym c.stage) ∙ ap is_some (class_kept l.from s (definitions_of l.inner) l.adds) ∙ in_class l.from name kind (sym same ∙ is) l.stands

  module _ (r : Result Draft Fault) (o : Outcome r) where
    no_fault_of : ((kind : ConfigKind) → ¬ (Found kind)) → (q : Result Draft Fault) → r ≡ q → HaveNoFault (before ++ t ∷ [])
    no_fault_of none (Ok after) e =
        no_fault_at before t o.state o.read (outside after None) (o.taken_so ∙ ap (λ (x : Result Draft Fault). x >>= λ after. Ok (outside after None)) e)
    no_fault_of none (Err fault) e = absurd (none fault.kind (o.some fault e))

    fault_of : (kind : ConfigKind) → Found kind → (q : Result Draft Fault) → r ≡ q → HaveFault (before ++ t ∷ []) kind
    fault_of kind found (Ok after) e = absurd (o.none after e kind found)
    fault_of kind found (Err fault) e =
        let same = one_statement_fault s name phrase fault.kind kind (o.some fault e) found in
        subst (λ (k : ConfigKind). HaveFault (before ++ t ∷ []) k) same
        (fault_at_token before t o.state o.read fault (o.taken_so ∙ ap (λ (x : Result Draft Fault). x >>= λ after. Ok (outside after None)) e))

  pub no_fault : ((kind : ConfigKind) → ¬ (Found kind)) → HaveNoFault (before ++ t ∷ [])
  no_fault none = let c = completed before t s name glyphs phrase l at whole in no_fault_of (judged c.draft c.next.name c.next) (outcome c) none (judged c.draft c.next.name c.next) refl

  pub a_fault : (kind : ConfigKind) → Found kind → HaveFault (before ++ t ∷ []) kind
  a_fault kind found = let c = completed before t s name glyphs phrase l at whole in fault_of (judged c.draft c.next.name c.next) (outcome c) kind found (judged c.draft c.next.name c.next) refl
