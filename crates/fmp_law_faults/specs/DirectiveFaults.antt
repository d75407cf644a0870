-- What is wrong with a directive of a configuration, apart from how it is read: rows of faults, each where none above it is there.
use Rattle.std.specs.Prelude.{◌≡◌, ◌≢◌, ◌≤◌, ◌⊎◌, ℕ, true, false, List, [], length, Some, None, codes}
use Rattle.fmp_names.specs.Names.{has_room_to_define, number_defined}
use Rattle.fmp_config_statements.specs.declared.fault.ConfigKind.{ConfigKind}
use Rattle.fmp_config_statements.specs.declared.fault.ConfigKind.TheVariants.{NameTaken, Syntax, TooMany, Unsupported}
use Rattle.fmp_config_statements.specs.Words.{is_identifier_kind}
use Rattle.fmp_setup.specs.Building.{is_refused}
use Rattle.fmp_law_config.specs.Elements.{Defines}
use Rattle.fmp_law_config.specs.Stages.{Stage}
use Rattle.fmp_law_config.specs.Tokens.{Glyph}
use Rattle.fmp_law_faults.specs.Statements.{end_of_directive}

-- right after the `#`: no identifier, or the name of no directive
abbrev pub NameFault : Glyph → ConfigKind → Type 0
NameFault g fault =
    ((fault ≡ Syntax) × (is_identifier_kind g.kind ≡ false))
    ⊎ ((is_identifier_kind g.kind ≡ true) × (fault ≡ Unsupported) × (g.text ≢ codes "include") × (g.text ≢ codes "define"))

-- the name stands for another number, or it does for none and is taken or reserved
abbrev pub IsTaken : Stage → List ℕ → ℕ → Type 0
IsTaken s name number =
    ((other : ℕ) × (number_defined s.setup.names name ≡ Some other) × (other ≢ number))
    ⊎ ((number_defined s.setup.names name ≡ None) × (is_refused s.setup name ≡ true))

-- at the end of a definition: the name is taken, or it is new and one too many
abbrev pub DefinitionFault : Stage → List Glyph → ConfigKind → Type 0
DefinitionFault s words fault =
    (name : List ℕ) × (number : ℕ) × Defines words name number × (((fault ≡ NameTaken) × IsTaken s name number)
    ⊎ (¬ (IsTaken s name number) × (fault ≡ TooMany) × (number_defined s.setup.names name ≡ None) × (has_room_to_define s.setup.names ≡ false)))

-- with one token more after these words
abbrev pub DirectiveFault : Stage → List Glyph → Glyph → ConfigKind → Type 0
DirectiveFault s words g fault = ((words ≡ []) × NameFault g fault) ⊎ ((1 ≤ length words) × (g ≡ end_of_directive) × DefinitionFault s words fault)
