-- The names of a statement: there, or still to come.
use Rattle.std.specs.Prelude.{Bool, true, false, not, ◌||◌, ◌≡◌}
use Rattle.std.specs.List.{list_any}
use Rattle.fmp_names.specs.Names.{is_name}
use Rattle.fmp_config_statements.specs.declared.parts.Item.{Item}
use Rattle.fmp_config_statements.specs.declared.parts.Item.TheVariants.{Name, Function}
use Rattle.fmp_config_statements.specs.declared.parts.Part.{Part}
use Rattle.fmp_config_statements.specs.declared.parts.Part.TheVariants as parts
use Rattle.fmp_config_statements.specs.declared.parts.Scan.{Scan}
use Rattle.fmp_config_statements.specs.declared.parts.Scan.TheVariants as scans
use Rattle.fmp_config_statements.specs.Forms.{Form}
use Rattle.fmp_config_statements.specs.Table.{parts_of}

abbrev pub is_name_item : Item → Bool
is_name_item Name = true
is_name_item _ = false

abbrev pub is_function_item : Item → Bool
is_function_item Function = true
is_function_item _ = false

-- the part is a word of which the test is true
abbrev pub is_part_of : (Item → Bool) → Part → Bool
is_part_of test (parts.One item) = test item
is_part_of test _ = false

-- such a word comes next
abbrev pub comes_next : (Item → Bool) → Scan → Bool
comes_next test (scans.One item) = test item
comes_next test _ = false

-- such a word is still to come
abbrev pub awaits : (Item → Bool) → Form → Bool
awaits test f = comes_next test f.scan || list_any (is_part_of test) f.rest

-- a statement of this name has such a word
abbrev pub has_such : (Item → Bool) → Form → Bool
has_such test f = list_any (is_part_of test) (parts_of f.name)

-- where the statement has a name, and a function, it is there or still to come
pub record IsPromised (f : Form) : Type 0 where
  pub name : not (has_such is_name_item f) || (is_name f.pieces.name.text || awaits is_name_item f) ≡ true
  pub function : not (has_such is_function_item f) || (is_name f.pieces.function.text || awaits is_function_item f) ≡ true
