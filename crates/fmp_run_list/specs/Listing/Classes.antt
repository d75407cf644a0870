-- The lines of the classes, and the class of an object in its line.
use mathlib.Core.Bool.{beq}
use Rattle.std.specs.Prelude.{ℕ, ◌+◌, ◌==◌, Bool, ◌&&◌, if◌then◌else◌, List, [], ◌∷◌, ◌++◌, codes, decimal}
use Rattle.std.specs.Cmp.Lexicographic.{pointwise}
use Rattle.fmp_setup.specs.Setup.{Setup}
use Rattle.fmp_setup.specs.declared.setup.Class.{Class}

-- a processor after a blank
unfoldable pub processor_text : ℕ → List ℕ
processor_text n = codes " P" ++ decimal n

-- where it is a member
abbrev pub member_text : ℕ → Bool → List ℕ
member_text n is_member = if is_member then processor_text n else []

-- the members, of which the first of the list is processor n
abbrev pub members_from : ℕ → List Bool → List ℕ
members_from n [] = []
members_from n (m ∷ ms) = member_text n m ++ members_from (n + 1) ms

-- a class of this name
unfoldable pub class_line : List ℕ → Class → List ℕ
class_line name class = codes "class " ++ name ++ codes " initial" ++ processor_text class.initial.number ++ codes " processors" ++ members_from 1 class.members ++ codes "\n"

-- classes of these names
abbrev pub class_lines : List (List ℕ) → List Class → List ℕ
class_lines [] classes = []
class_lines (name ∷ names) [] = []
class_lines (name ∷ names) (class ∷ classes) = class_line name class ++ class_lines names classes

-- two classes have the same processors and begin on the same one
abbrev pub is_alike : Class → Class → Bool
is_alike a b = (a.initial.number == b.initial.number) && pointwise beq a.members b.members

-- its name after this byte, where it is alike
abbrev pub alike_text : ℕ → List ℕ → Bool → List ℕ
alike_text lead name is = if is then lead ∷ name else []

-- what stands before the next name: a bar, where one stands before it
abbrev pub next_lead : ℕ → Bool → ℕ
next_lead lead is = if is then 124 else lead

-- the names of those of these classes that are alike, the first after this byte and each other after a bar
abbrev pub alike_from : ℕ → List (List ℕ) → List Class → Class → List ℕ
alike_from lead [] classes class = []
alike_from lead (name ∷ names) [] class = []
alike_from lead (name ∷ names) (k ∷ classes) class = alike_text lead name (is_alike k class) ++ alike_from (next_lead lead (is_alike k class)) names classes class

-- the class of an object: a configuration knows only its processors, so each class that is alike is told
unfoldable pub class_field : Setup → Class → List ℕ
class_field c class = codes " class" ++ alike_from 32 c.class_names c.classes class
