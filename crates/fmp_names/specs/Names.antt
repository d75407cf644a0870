-- believed: see docs/PROOF.md, "What has to be believed"
-- The names of a configuration, as lists in the order of their numbers.
use Rattle.std.specs.Prelude.{◌≡◌, ℕ, ◌+◌, ◌-◌, ◌≤◌, ◌<◌, ◌^◌, ◌==◌, nat_lt, nat_le, All, Bool, true, false, not, ◌&&◌, ◌||◌, List, [], ◌∷◌, ◌++◌, length, map, position}
use Rattle.std.specs.Prelude.{Option, None, option_map, is_some, slice_get, slice_set, get_or, if◌then◌else◌, codes}
use Rattle.std.specs.List.{list_all, list_any, sum_by}
use Rattle.std.specs.Map.{keys_of, lookup}
use Rattle.std.specs.Option.{option_map_or}
use Rattle.std.specs.Global.{Vec}
use Rattle.std.specs.Str.{bytes_eq}
use Rattle.fmp_bytes.specs.Bytes.{following, is_identifier, letter_p}
use Rattle.fmp_bytes.specs.Numerals.{are_digits}
use Rattle.fmp_names.specs.Constants.{constant_in}
use Rattle.fmp_codes.specs.declared.kinds.ObjectKind.{ObjectKind}
use Rattle.fmp_codes.specs.Kinds.{place_of, most_of}
use Rattle.fmp_codes.specs.declared.kinds.NameKind.{NameKind}
use Rattle.fmp_codes.specs.declared.kinds.NameKind.TheVariants.{Object, Function}

-- how many processors there are, the objects' names in a list for each kind, the functions' names, and the names that are
-- defined to stand for numbers
pub record NameLists : Type 0 where
  pub processors : ℕ
  pub objects : List (List (List ℕ))
  pub functions : List (List ℕ)
  pub defined : List (List ℕ × ℕ)

-- the names of a kind, in the order of their numbers
abbrev pub names_of : NameLists → NameKind → List (List ℕ)
names_of lists (Object kind) = get_or lists.objects (place_of kind) []
names_of lists Function = lists.functions

-- the number that a name has in its list, from 1
abbrev pub number_in : List (List ℕ) → List ℕ → Option ℕ
number_in list name = option_map (λ i. i + 1) (position (bytes_eq name) list)

-- the number of the name of this kind
unfoldable pub number_of : NameLists → NameKind → List ℕ → Option ℕ
number_of lists kind name = number_in (names_of lists kind) name

-- the name of this kind with this number
unfoldable pub name_of : NameLists → NameKind → ℕ → Option (List ℕ)
name_of lists kind number = if number == 0 then None else slice_get (names_of lists kind) (number - 1)

-- a list has the name
abbrev pub has_name : List (List ℕ) → List ℕ → Bool
has_name list name = list_any (bytes_eq name) list

-- an object of some kind has the name
unfoldable pub is_object : NameLists → List ℕ → Bool
is_object lists name = list_any (λ list. has_name list name) lists.objects

-- the names that are defined to stand for numbers
abbrev pub defined_names : NameLists → List (List ℕ)
defined_names lists = keys_of lists.defined

-- the number that a defined name stands for
unfoldable pub number_defined : NameLists → List ℕ → Option ℕ
number_defined lists name = lookup (bytes_eq name) lists.defined

-- the name is a defined one
unfoldable pub is_defined : NameLists → List ℕ → Bool
is_defined lists name = has_name (defined_names lists) name

-- the name is taken in the name space of its kind, which objects share with defined names
abbrev pub is_taken : NameLists → NameKind → List ℕ → Bool
is_taken lists (Object kind) name = is_object lists name || is_defined lists name
is_taken lists Function name = has_name lists.functions name

-- one name more of its kind is within the kind's limit
abbrev pub has_room : NameLists → NameKind → Bool
has_room lists (Object kind) = nat_lt (length (get_or lists.objects (place_of kind) [])) (most_of kind)
has_room lists Function = true

-- the lists with one more name of this kind
abbrev pub with_name : NameLists → NameKind → List ℕ → NameLists
with_name lists (Object kind) name = record lists { objects = slice_set lists.objects (place_of kind) (get_or lists.objects (place_of kind) [] ++ name ∷ []) }
with_name lists Function name = record lists { functions = lists.functions ++ name ∷ [] }

-- the greatest number of defined names
abbrev pub most_defined : ℕ
most_defined = 1024

-- one more defined name is within the limit
abbrev pub has_room_to_define : NameLists → Bool
has_room_to_define lists = nat_lt (length lists.defined) most_defined

-- the lists with one more defined name
abbrev pub with_defined_name : NameLists → List ℕ → ℕ → NameLists
with_defined_name lists name number = record lists { defined = lists.defined ++ (name, number) ∷ [] }

-- the lists on so many processors
abbrev pub with_processor_count : NameLists → ℕ → NameLists
with_processor_count lists processors = record lists { processors = processors }

-- an identifier of at most 64 bytes
unfoldable pub is_name : List ℕ → Bool
is_name name = is_identifier name && nat_le (length name) 64

-- the words that stand for numbers or modes
unfoldable pub is_constant : List ℕ → Bool
is_constant word = is_some (constant_in word)

-- `P` followed by one or more digits only
unfoldable pub is_processor_word : List ℕ → Bool
is_processor_word word = option_map_or (are_digits 10) (following letter_p word) false

-- the words that no object and no defined name may be
unfoldable pub is_reserved : List ℕ → Bool
is_reserved word = bytes_eq word (codes "idle") || is_processor_word word || is_constant word

-- a name of this kind may be the word: objects take no reserved word
abbrev pub is_free : NameKind → List ℕ → Bool
is_free (Object kind) word = not (is_reserved word)
is_free Function word = true

-- how often a name stands in a list
abbrev pub times : List ℕ → List (List ℕ) → ℕ
times name list = sum_by (λ other. if bytes_eq name other then 1 else 0) list

-- what holds of the names of every configuration
pub record AreValid (lists : NameLists) : Type 0 where
  pub least : 1 ≤ lists.processors
  pub most : lists.processors ≤ 8
  pub kinds : length lists.objects ≡ 8
  pub limits : (kind : ObjectKind) → length (get_or lists.objects (place_of kind) []) ≤ most_of kind
  pub names : list_all (list_all (λ name. is_name name && not (is_reserved name))) lists.objects ≡ true
  pub function_names : list_all is_name lists.functions ≡ true
  pub few_defined : length lists.defined ≤ most_defined
  pub defined : list_all (λ name. is_name name && not (is_reserved name)) (defined_names lists) ≡ true
  pub numbers : All (λ d. d.1 < 2 ^ 32) lists.defined
  pub distinct : (name : List ℕ) → sum_by (times name) lists.objects + times name (defined_names lists) ≤ 1
  pub functions_distinct : (name : List ℕ) → times name lists.functions ≤ 1

-- the names of a list
abbrev pub texts : Vec (Vec ℕ) → List (List ℕ)
texts list = map (λ v. v.items) list.items

-- the names of a list with the numbers that they stand for
abbrev pub definitions : Vec (Vec ℕ × ℕ) → List (List ℕ × ℕ)
definitions list = map (λ e. (e.0.items, e.1)) list.items

-- the lists that tables of names hold
abbrev pub lists_of : ℕ → List (Vec (Vec ℕ)) → Vec (Vec ℕ) → Vec (Vec ℕ × ℕ) → NameLists
lists_of processors objects functions defined = record {
  processors = processors;
  objects = map texts objects;
  functions = texts functions;
  defined = definitions defined;
}

-- no names yet
abbrev pub no_names : ℕ → NameLists
no_names processors = record { processors = processors; objects = [] ∷ [] ∷ [] ∷ [] ∷ [] ∷ [] ∷ [] ∷ [] ∷ []; functions = []; defined = [] }
