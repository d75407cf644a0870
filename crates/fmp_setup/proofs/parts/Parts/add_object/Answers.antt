use Rattle.std.proofs.Common.{◌≡◌, refl, ap, ◌∙◌, arith}
use Rattle.std.proofs.lemmas.Result.{on_ok_weaker}
use Rattle.fmp_codes.specs.declared.kinds.ObjectKind.{ObjectKind}
use Rattle.fmp_names.specs.Names.{NameLists}
use Rattle.fmp_setup.proofs.Named.{not_refused, not_taken}
use Rattle.fmp_setup.proofs.Objects.{number_within_byte, object_pushed}
use Rattle.fmp_setup.specs.Building.{kind_of, function_number, with_object_names}
use Rattle.fmp_setup.specs.Parts.{setup_of}
use Rattle.fmp_setup.proofs.parts.Parts.add_object.Goals as goal
use Rattle.fmp_setup.proofs.parts.Parts.add_object.Goals.{In_ok-add_object_names}

names_are : (c : In_ok-add_object_names) → c.add_object_names.new.names ≡ with_object_names c.args.self.now.names (kind_of c.args.fields) c.args.name.now c.args.function.now
names_are c = c.in_ok-add_object_names.ensures.ok ∙ ap (λ (k : ObjectKind). with_object_names c.args.self.now.names k c.args.name.now c.args.function.now) c.kind.ensures

pub add_object_names-requires-clause-free : goal.add_object_names-requires-clause-free
add_object_names-requires-clause-free c = (not_refused (setup_of c.args.self.now) c.args.name.now c.requires.new).0

pub add_object_names-requires-clause-new : goal.add_object_names-requires-clause-new
add_object_names-requires-clause-new c = not_taken (setup_of c.args.self.now) c.kind.result c.args.name.now c.requires.new

pub overflow_cast-number : goal.overflow_cast-number
overflow_cast-number c =
    let within = number_within_byte (setup_of c.args.self.now) c.requires.valid c.args.name.now c.args.function.now c.args.fields c.requires.new c.requires.room in
    let same = c.function_number-number.ensures ∙ ap (λ (n : NameLists). function_number n c.args.function.now) (names_are (goal.at.overflow_cast-number c).In_ok-add_object_names) in
    omega (arith, same, within)

pub returns : goal.returns
returns c = record {
  ok = on_ok_weaker c.push.result
      (λ pushed. pushed
      ∙ object_pushed (setup_of c.args.self.now) c.add_object_names.new.names c.args.class c.args.name.now c.args.function.now c.args.fields c.function_number-number.result refl
      (names_are (goal.at.returns c).In_ok-add_object_names) c.function_number-number.ensures)
      c.push.ensures.ok;
  defined = ap (λ (n : NameLists). n.defined) c.push.ensures.names ∙ c.add_object_names.ensures.defined;
}
