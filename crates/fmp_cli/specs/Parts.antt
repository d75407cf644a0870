-- What the parts of a command line are to clap, and the command that has them.
use Rattle.std.specs.Prelude.{◌≡◌, ◌≤◌, ℕ, pos, true, false, List, [], ◌∷◌, Some, None, map}
use Rattle.clap.specs.Words.{AddsArg, IsPlainArg, args_of, groups_of, App, Rule, Text, app_of, new_app, new_rule, rule_of, with_rule}
use Rattle.clap.specs.declared.builder.command.Command.TheViews.{out-Command as fields_of}
use Rattle.clap.specs.Built.{TakesValue}
use Rattle.clap.specs.Facts.{least_values}
use Rattle.clap.specs.declared.builder.action.ArgAction.TheVariants.{Set, SetTrue}
use Rattle.clap.specs.declared.builder.arg.Arg.{Arg}
use Rattle.clap.specs.declared.builder.command.Command.{Command}
use Rattle.clap.specs.declared.builder.value_parser.ValueParser.TheVariants as parser
use Rattle.fmp_cli.specs.declared.parts.Form.{Form}
use Rattle.fmp_cli.specs.declared.parts.Form.TheVariants as form
use Rattle.fmp_cli.specs.declared.parts.Part.{Part}

-- an argument of this id
pub record IsOptional (a : Arg) (id : Text) : Type 0 where
  pub named : a.id.now ≡ id
  pub plain : IsPlainArg a
  pub local : a.global ≡ false

-- one that takes a value
pub record IsTaking (a : Arg) (id : Text) : Type 0 where
  pub optional : IsOptional a id
  pub action : a.action ≡ Some Set
  pub whole : a.val_delim ≡ None
  pub some : 1 ≤ least_values a

-- one that has to be given, with one value
pub record IsRequired (a : Arg) (id : Text) : Type 0 where
  pub optional : IsOptional a id
  pub takes : TakesValue a

-- one whose value is a number from low to high
pub record IsNumber (a : Arg) (id : Text) (low high : ℕ) : Type 0 where
  pub required : IsRequired a id
  pub range : a.value_parser ≡ Some (parser.Signed (pos low) (pos high))

-- what a parse reads of what is given by its place, and may be left out
abbrev pub name_rule : Text → Rule
name_rule id = record (new_rule id) { action = Some Set }

-- of what has to be given by its place, as a path
abbrev pub path_rule : Text → Rule
path_rule id = record (name_rule id) { required = true }

-- of an option with a value that may be left out
abbrev pub value_rule : Text → Rule
value_rule id = record (name_rule id) { long = Some id; value_names = 1 }

-- of one that has to be given
abbrev pub wanted_rule : Text → Rule
wanted_rule id = record (value_rule id) { required = true }

-- of a number from low to high that has to be given
abbrev pub number_rule : Text → ℕ → ℕ → Rule
number_rule id low high = record (wanted_rule id) { parser = Some (parser.Signed (pos low) (pos high)) }

-- of a number of 64 bits that may be left out
abbrev pub seed_rule : Text → Rule
seed_rule id = record (value_rule id) { parser = Some (parser.Unsigned 0 18446744073709551615) }

-- of a flag
abbrev pub flag_rule : Text → Rule
flag_rule id = record (new_rule id) { long = Some id; action = Some SetTrue }

-- of a flag that others rule out, or that rules out others
abbrev pub choice_rule : Text → Rule
choice_rule id = record (flag_rule id) { is_free = false }

-- and of any part
abbrev pub rule_in : Text → Form → Rule
rule_in id form.Path = path_rule id
rule_in id form.Name = name_rule id
rule_in id (form.Wanted word) = wanted_rule id
rule_in id (form.Value word) = value_rule id
rule_in id (form.Number low high) = number_rule id low high
rule_in id form.Seed = seed_rule id
rule_in id form.Flag = flag_rule id
rule_in id (form.Choice other) = choice_rule id
rule_in id (form.OneOfThree second third) = choice_rule id

abbrev pub rule_by : Part → Rule
rule_by p = rule_in p.id.now p.form

-- what the argument of a part is, beside its rule
abbrev pub HasForm : Arg → Text → Form → Type 0
HasForm a id form.Path = IsRequired a id
HasForm a id form.Name = IsOptional a id
HasForm a id (form.Wanted word) = IsRequired a id
HasForm a id (form.Value word) = IsOptional a id
HasForm a id (form.Number low high) = IsNumber a id low high
HasForm a id form.Seed = IsOptional a id
HasForm a id form.Flag = IsOptional a id
HasForm a id (form.Choice other) = a.id.now ≡ id
HasForm a id (form.OneOfThree second third) = a.id.now ≡ id

-- the argument is what this part says
pub record IsArg (p : Part) (a : Arg) : Type 0 where
  pub kind : HasForm a p.id.now p.form
  pub local : a.global ≡ false
  pub rule : rule_of a ≡ rule_by p

-- the command of this name without its parts
pub record IsStart (name : Text) (c : Command) : Type 0 where
  pub no_arguments : args_of c ≡ []
  pub no_groups : groups_of c ≡ []
  pub no_globals : (fields_of c).has_globals ≡ false
  pub negates_nothing : (fields_of c).subcommand_negates_reqs ≡ false
  pub line : app_of c ≡ new_app name

-- the second command is the first with the arguments of these parts, in their order
abbrev pub AddsParts : Command → List Part → Command → Type 0
AddsParts c [] d = c ≡ d
AddsParts c (p ∷ ps) d = (a : Arg) × (m : Command) × IsArg p a × AddsArg c a m × AddsParts m ps d

-- a command line with these rules, as a parse reads it
abbrev pub with_rules : App → List Rule → App
with_rules line [] = line
with_rules line (r ∷ rs) = with_rules (with_rule line r) rs

-- the one of this name
abbrev pub line_of : Text → List Rule → App
line_of name rules = with_rules (new_app name) rules

-- the command of this name with these parts
pub record IsLine (name : Text) (parts : List Part) (c : Command) : Type 0 where
  pub start : Command
  pub is_start : IsStart name start
  pub adds : AddsParts start parts c
  pub line : app_of c ≡ line_of name (map rule_by parts)
