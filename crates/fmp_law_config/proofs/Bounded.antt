-- No configuration has more processors or priorities than there may be, and only names stand for numbers.
use Rattle.std.proofs.Common.{true, ◌≡◌, inl, inr, sym, subst, arith}
use Rattle.fmp_config_statements.specs.declared.table.StatementName.{StatementName}
use Rattle.fmp_config_statements.specs.declared.table.StatementName.TheVariants as statements
use Rattle.fmp_config.specs.Objects.{fields_of}
use Rattle.fmp_config_statements.specs.Attributes.{no_attributes}
use Rattle.fmp_names.specs.Names.{is_name}
use Rattle.fmp_setup.specs.Building.{with_defined}
use Rattle.fmp_setup.specs.Setup.{Setup}
use Rattle.fmp_law_config.specs.Elements.{Definition}
use Rattle.fmp_law_config.specs.Phrases.{Phrase}
use Rattle.fmp_law_config.specs.Stages.{Stage, Adds}
use Rattle.fmp_law_config.specs.Meaning.{Says, members_of, together}
use Rattle.fmp_codes.specs.Numbers.{as_proc}
use Rattle.fmp_law_config.proofs.Stages.{IsBounded}
use Rattle.fmp_law_config.proofs.Kept.{KeepsNames, object_keeps, class_keeps, counted, counting_keeps, same_names, counted_names, definition_processors, definition_priorities, definition_names}

kept : (before after : Setup) → KeepsNames before after → IsBounded before → IsBounded after
kept before after keeps bounded =
    let p = keeps.processors in
    let q = keeps.priorities in
    let few = bounded.processors in
    let most = bounded.priorities in
    record { processors = omega (arith, p, few); priorities = omega (arith, q, most); named = same_names before.names after.names keeps.defined bounded.named }

defined : (c : Setup) (d : Definition) → is_name d.name ≡ true → IsBounded c → IsBounded (with_defined c d.name d.number)
defined c d is bounded =
    let p = definition_processors c d.name d.number in
    let q = definition_priorities c d.name d.number in
    let few = bounded.processors in
    let most = bounded.priorities in
    record { processors = omega (arith, p, few); priorities = omega (arith, q, most); named = definition_names c d.name d.number is bounded.named }

same : (s next : Stage) → IsBounded s.setup → next ≡ s → IsBounded next.setup
same s next bounded e = subst (λ (t : Stage). IsBounded t.setup) (sym e) bounded

pub adds_bounded : (s next : Stage) (d : Definition) → is_name d.name ≡ true → IsBounded s.setup → Adds s d next → IsBounded next.setup
adds_bounded s next d is bounded adds =
    elim adds [
      | inl old ↦ same s next bounded old.1
      | inr new ↦ subst (λ (t : Stage). IsBounded t.setup) (sym new.3) (defined s.setup d is bounded)
    ]

pub says_bounded : (s next : Stage) (name : StatementName) (phrase : Phrase) → IsBounded s.setup → Says s name phrase next → IsBounded next.setup
says_bounded s next statements.Include phrase bounded says = same s next bounded says
says_bounded s next statements.Processors phrase bounded says =
    let n = says.0 in
    let high = says.1.first.2 in
    let few = counted s.setup n.first in
    let keeps = counting_keeps s.setup n.first in
    let most = bounded.priorities in
    subst (λ (t : Stage). IsBounded t.setup) (sym says.2) (record { processors = omega (arith, few, high); priorities = omega (arith, keeps, most); named = counted_names s.setup n.first bounded.named })
says_bounded s next statements.Timer phrase bounded says =
    elim says [
      | inl local ↦ subst (λ (t : Stage). IsBounded t.setup) (sym local.1) (record { processors = bounded.processors; priorities = bounded.priorities; named = bounded.named })
      | inr one ↦ subst (λ (t : Stage). IsBounded t.setup) (sym one.3) (record { processors = bounded.processors; priorities = bounded.priorities; named = bounded.named })
    ]
says_bounded s next statements.Limits phrase bounded says =
    let high = says.1.second.2 in
    subst (λ (t : Stage). IsBounded t.setup) (sym says.2) (record { processors = bounded.processors; priorities = high; named = bounded.named })
says_bounded s next statements.DefClass phrase bounded says =
    subst (λ (t : Stage). IsBounded t.setup) (sym says.says)
    (kept s.setup _ (class_keeps s.setup phrase.name (record { initial = as_proc says.initial; members = members_of says.members })) bounded)
says_bounded s next statements.Class phrase bounded says = subst (λ (t : Stage). IsBounded t.setup) (sym says.2) bounded
says_bounded s next (statements.Create kind) phrase bounded says =
    subst (λ (t : Stage). IsBounded t.setup) (sym says.says)
    (kept s.setup _ (object_keeps s.setup says.class phrase.name phrase.function (fields_of kind (together no_attributes says.attributes) says.numbers)) bounded)
