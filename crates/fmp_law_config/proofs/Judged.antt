-- Definitions and objects: what they say is judged so, and what is judged they say.
use Rattle.std.proofs.Common.{◌≡◌, ℕ, Bool, true, false, eqb, cond, inl, inr, Option, Some, None, option_map, Result, Ok, Err, refl, sym, ap, ◌∙◌}
use Rattle.std.specs.Option.{option_map_or}
use Rattle.std.proofs.lemmas.Bool.{eq-eqb, eqb-true}
use Rattle.fmp_bytes.proofs.Parsed.{tested_ok, some_is, bind_parts}
use Rattle.fmp_bytes.specs.Results.{◌>>=◌}
use Rattle.fmp_codes.specs.declared.kinds.NameKind.TheVariants.{Object}
use Rattle.fmp_codes.specs.declared.kinds.ObjectKind.{ObjectKind}
use Rattle.fmp_names.specs.Names.{number_defined, has_room, has_room_to_define}
use Rattle.fmp_config_statements.specs.declared.fault.ConfigKind.TheVariants.{NameTaken, OutOfRange, OutsideClass, ForeignHandler}
use Rattle.fmp_config_statements.specs.declared.table.StatementName.TheVariants as statements
use Rattle.fmp_config_statements.specs.declared.attributes.Attributes.{Attributes}
use Rattle.fmp_config_statements.specs.Attributes.{no_attributes, attributes_in}
use Rattle.fmp_config_statements.specs.Faults.{Fault, fault_at, fault_in, fault_of_line}
use Rattle.fmp_config_statements.specs.Forms.{Form}
use Rattle.fmp_config_statements.specs.Table.{allowed_of}
use Rattle.fmp_config_statements.specs.Words.{Word}
use Rattle.fmp_config.specs.declared.draft.OpenClass.{OpenClass}
use Rattle.fmp_config.specs.declared.numbers.Numbers.{Numbers}
use Rattle.fmp_config.specs.Drafts.{Draft}
use Rattle.fmp_config.specs.Objects.{new_name, fitting_counts, counts_fit, is_handled, served, fields_of, fields_in, create_in, create}
use Rattle.fmp_config.specs.Judging.{define}
use Rattle.fmp_config.specs.Numbers.{numbers_of}
use Rattle.fmp_config.proofs.Defined.{new_and_room}
use Rattle.fmp_setup.specs.declared.parts.Fields.{Fields}
use Rattle.fmp_setup.specs.declared.setup.Class.{Class}
use Rattle.fmp_setup.specs.declared.setup.Timer.{Timer}
use Rattle.fmp_setup.specs.Building.{is_refused, with_object, with_defined}
use Rattle.fmp_setup.specs.Setup.{Setup}
use Rattle.fmp_law_config.specs.Stages.{Stage, Adds}
use Rattle.fmp_law_config.specs.Meaning.{CreatesObject, together}
use Rattle.fmp_law_config.proofs.Results.{none_is, ok_is, err_is}
use Rattle.fmp_law_config.proofs.Attributed.{attributes_in-spelled, attributes_are_spelled}
use Rattle.fmp_law_config.proofs.Stages.{phrase_of, stage_of, AreUnsigned, IsBounded, numbers_of-spelled, numbers_read, first_small, second_small}

-- reading that leads to this stage
abbrev pub LeadsTo : Result Draft Fault → Stage → Type 0
LeadsTo read next = (d : Draft) × (read ≡ Ok d) × (next ≡ stage_of d)

-- ---- names

pub new_name-is : (c : Setup) (room : Bool) (line : ℕ) (name : Word) → is_refused c name.text ≡ false → room ≡ true → new_name c room line name ≡ Ok tt
unfolding new_name
new_name-is c room line name free more = rw (free, more) refl

-- ---- definitions

pub defined-says : (d : Draft) (line : ℕ) (word : Word) (number : ℕ) (next : Stage) → Adds (stage_of d) (record { name = word.text; number = number }) next → LeadsTo (define d line word number) next
unfolding define
defined-says d line word number next adds =
    elim adds [
      | inl same ↦ let found = same.0 in let test = eq-eqb number number refl in (d, rw found (rw test refl), same.1)
      | inr more ↦
          let none = more.0 in
          let fresh = new_name-is d.setup (has_room_to_define d.setup.names) line word more.1 more.2 in
          (record d { setup = with_defined d.setup word.text number }, rw none (rw fresh refl), more.3)
    ]

defined_parts : (d after : Draft) (line : ℕ) (word : Word) (number : ℕ) (found : Option ℕ) → number_defined d.setup.names word.text ≡ found
    → option_map_or (λ n. cond (eqb n number) (Ok d) (Err (fault_at NameTaken word))) found (new_name d.setup (has_room_to_define d.setup.names) line word >>= λ unit. Ok (record d { setup = with_defined d.setup word.text number })) ≡ Ok after
    → Adds (stage_of d) (record { name = word.text; number = number }) (stage_of after)
defined_parts d after line word number None none e =
    let p = bind_parts (new_name d.setup (has_room_to_define d.setup.names) line word) (λ unit. Ok (record d { setup = with_defined d.setup word.text number })) after e in
    let fresh = new_and_room d.setup (has_room_to_define d.setup.names) line word p.1 in
    inr (none, fresh.0, fresh.1, ap stage_of (sym (ok_is (record d { setup = with_defined d.setup word.text number }) after p.2)))
defined_parts d after line word number (Some n) found e =
    let p = tested_ok (eqb n number) (Ok d) (fault_at NameTaken word) after e in
    inl (found ∙ ap (λ (x : ℕ). Some x) (eqb-true n number p.0), ap stage_of (sym (ok_is d after p.1)))

pub defined_adds : (d after : Draft) (line : ℕ) (word : Word) (number : ℕ) → define d line word number ≡ Ok after → Adds (stage_of d) (record { name = word.text; number = number }) (stage_of after)
unfolding define
defined_adds d after line word number e = defined_parts d after line word number (number_defined d.setup.names word.text) refl e

-- ---- objects

fitting-is : (kind : ObjectKind) (n : Numbers) (first : Word) → counts_fit kind n ≡ true → fitting_counts kind n first ≡ Ok tt
unfolding fitting_counts
fitting-is kind n first fits = rw fits refl

fitting_parts : (kind : ObjectKind) (n : Numbers) (first : Word) → fitting_counts kind n first ≡ Ok tt → counts_fit kind n ≡ true
unfolding fitting_counts
fitting_parts kind n first e = (tested_ok (counts_fit kind n) (Ok tt) (fault_at OutOfRange first) tt e).0

served-is : (t : Timer) (class : Class) (kind : ObjectKind) (line : ℕ) (name : Word) → is_handled t class kind ≡ true → served t class kind line name ≡ Ok tt
unfolding served
served-is t class kind line name handled = rw handled refl

served_parts : (t : Timer) (class : Class) (kind : ObjectKind) (line : ℕ) (name : Word) → served t class kind line name ≡ Ok tt → is_handled t class kind ≡ true
unfolding served
served_parts t class kind line name e = (tested_ok (is_handled t class kind) (Ok tt) (fault_in ForeignHandler line name) tt e).0

class_of_open : (open_class : Option OpenClass) (class : Class) → option_map (λ o. o.class) open_class ≡ Some class → (o : OpenClass) × (open_class ≡ Some o) × (o.class ≡ class)
class_of_open None class e = absurd (none_is class e)
class_of_open (Some o) class e = (o, refl, some_is o.class class e)

module _ (d : Draft) (kind : ObjectKind) (f : Form) where
  abbrev pub created : Class → Fields → Draft
  created class fields = record d { setup = with_object d.setup class f.pieces.name.text f.pieces.function.text fields }

  pub creates-says : (next : Stage) → CreatesObject (stage_of d) kind (phrase_of f.pieces) next → LeadsTo (create d kind f) next
  unfolding create create_in fields_in
  creates-says next s =
      let o = class_of_open d.open_class s.class s.class_is in
      let opened = o.1 in
      let same = o.2 in
      let new = new_name-is d.setup (has_room d.setup.names (Object kind)) f.line f.pieces.name s.name_is_new s.room in
      let own = served-is d.setup.timer s.class kind f.line f.pieces.name s.handled in
      let attributes = attributes_in-spelled (allowed_of kind) s.attributes f.pieces.series s.attributes_are s.allowed in
      let numbers = numbers_of-spelled d.setup (statements.Create kind) f.pieces s.numbers s.numbers_are in
      let fit = fitting-is kind s.numbers f.pieces.first s.counts in
      (created s.class (fields_of kind (together no_attributes s.attributes) s.numbers), rw opened (rw same (rw (new, own, attributes, numbers, fit) refl)), s.says)

  created_parts : (bounded : IsBounded d.setup) (after : Draft) (found : Option OpenClass) → d.open_class ≡ found → option_map_or (λ o. create_in d o.class kind f) found (Err (fault_of_line OutsideClass f.line)) ≡ Ok after → AreUnsigned (phrase_of f.pieces)
      → CreatesObject (stage_of d) kind (phrase_of f.pieces) (stage_of after)
  unfolding create_in fields_in
  created_parts bounded after None opened e unsigned = absurd (err_is (fault_of_line OutsideClass f.line) after e)
  created_parts bounded after (Some o) opened e unsigned =
      let c = d.setup in
      let w = bind_parts (fields_in c o.class kind f) (λ fields. Ok (created o.class fields)) after e in
      let new = bind_parts (new_name c (has_room c.names (Object kind)) f.line f.pieces.name) _ w.0 w.1 in
      let own = bind_parts (served c.timer o.class kind f.line f.pieces.name) _ w.0 new.2 in
      let attributes = bind_parts (attributes_in (allowed_of kind) f.pieces.series) _ w.0 own.2 in
      let n = bind_parts (numbers_of c (statements.Create kind) f.pieces) _ w.0 attributes.2 in
      let fit = bind_parts (fitting_counts kind n.0 f.pieces.first) _ w.0 n.2 in
      let fresh = new_and_room c (has_room c.names (Object kind)) f.line f.pieces.name new.1 in
      let said = attributes_are_spelled (allowed_of kind) f.pieces.series attributes.0 attributes.1 in
      let read = numbers_read c bounded.named (statements.Create kind) f.pieces n.0 n.1 unsigned in
      let counts = fitting_parts kind n.0 f.pieces.first fit.1 in
      let fields : fields_of kind (together no_attributes said.0) n.0 ≡ w.0 = ap (λ (a : Attributes). fields_of kind a n.0) said.3 ∙ ok_is _ w.0 fit.2 in
      record {
        class = o.class;
        attributes = said.0;
        numbers = n.0;
        class_is = ap (λ (x : Option OpenClass). option_map (λ o. o.class) x) opened;
        name_is_new = fresh.0;
        room = fresh.1;
        handled = served_parts c.timer o.class kind f.line f.pieces.name own.1;
        attributes_are = said.1;
        allowed = said.2;
        numbers_are = read.spelled (first_small c bounded n.0 kind read.first_within read.second_within counts) (second_small c bounded n.0 kind read.second_within);
        counts = counts;
        says = ap stage_of (sym (ok_is (created o.class w.0) after w.2)) ∙ ap (λ (x : Fields). stage_of (created o.class x)) (sym fields);
      }

  pub created_says : IsBounded d.setup → (after : Draft) → create d kind f ≡ Ok after → AreUnsigned (phrase_of f.pieces) → CreatesObject (stage_of d) kind (phrase_of f.pieces) (stage_of after)
  unfolding create
  created_says bounded after e unsigned = created_parts bounded after d.open_class refl e unsigned
