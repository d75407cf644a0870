-- believed: see docs/PROOF.md, "What has to be believed"
-- The attributes of objects.
use Rattle.std.specs.Prelude.{ℕ, true, false, List, find, Result, Ok, codes}
use Rattle.std.specs.Option.{ok_or}
use Rattle.std.specs.Str.{bytes_eq}
use Rattle.fmp_bytes.specs.Results.{◌>>=◌}
use Rattle.fmp_config_statements.specs.declared.attributes.Attribute.{Attribute}
use Rattle.fmp_config_statements.specs.declared.attributes.Attribute.TheVariants.{Null, Activate, Start, InOrder, ByPriority, Single, Many, Clear}
use Rattle.fmp_config_statements.specs.declared.attributes.Attributes.{Attributes}
use Rattle.fmp_config_statements.specs.declared.fault.ConfigKind.TheVariants.{BadAttribute}
use Rattle.fmp_config_statements.specs.Faults.{Fault, fault_at}
use Rattle.fmp_config_statements.specs.Folds.{each}
use Rattle.fmp_config_statements.specs.Words.{Word}

-- an attribute as it is written
abbrev pub text_of : Attribute → List ℕ
text_of Null = codes "TA_NULL"
text_of Activate = codes "TA_ACT"
text_of Start = codes "TA_STA"
text_of InOrder = codes "TA_TFIFO"
text_of ByPriority = codes "TA_TPRI"
text_of Single = codes "TA_WSGL"
text_of Many = codes "TA_WMUL"
text_of Clear = codes "TA_CLR"

-- what no attribute says
abbrev pub no_attributes : Attributes
no_attributes = record { starts = false; by_priority = false; many = false; clears = false }

-- one attribute more; some only say what is so without them
abbrev pub with_attribute : Attributes → Attribute → Attributes
with_attribute found Null = found
with_attribute found Activate = record found { starts = true }
with_attribute found Start = record found { starts = true }
with_attribute found InOrder = found
with_attribute found ByPriority = record found { by_priority = true }
with_attribute found Single = found
with_attribute found Many = record found { many = true }
with_attribute found Clear = record found { clears = true }

-- the allowed attribute of a word
unfoldable pub attribute_in : List Attribute → Word → Result Attribute Fault
attribute_in allowed word = ok_or (find (λ a. bytes_eq (text_of a) word.text) allowed) (fault_at BadAttribute word)

-- what the attributes say with those of one word more
unfoldable pub attribute_step : List Attribute → Attributes → Word → Result Attributes Fault
attribute_step allowed found word = attribute_in allowed word >>= λ a. Ok (with_attribute found a)

-- what the attributes of some words say, or the first that is not allowed
unfoldable pub attributes_in : List Attribute → List Word → Result Attributes Fault
attributes_in allowed words = each (attribute_step allowed) no_attributes words
