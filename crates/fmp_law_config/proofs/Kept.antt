-- How many processors and priorities there are, and which names stand for numbers, as a configuration grows.
use Rattle.std.proofs.Common.{◌≡◌, ℕ, true, inl, inr, List, [], ◌∷◌, ◌++◌, Some, refl, sym, ap, ◌∙◌}
use Rattle.std.specs.Map.{lookup}
use Rattle.std.specs.Str.{bytes_eq}
use Rattle.std.proofs.lemmas.Bool.{cases_Bool}
use Rattle.std.proofs.lemmas.Slice.Eq.{bytes_eq-Decides}
use Rattle.fmp_codes.specs.declared.kinds.ObjectKind.{ObjectKind}
use Rattle.fmp_names.specs.Names.{NameLists, is_name, has_name, number_defined}
use Rattle.fmp_setup.specs.declared.parts.Fields.{Fields}
use Rattle.fmp_setup.specs.declared.parts.Fields.TheVariants.{Task, Semaphore, Eventflag, DataQueue, Pool, Cyclic, Alarm, SpinLock}
use Rattle.fmp_setup.specs.declared.setup.Class.{Class}
use Rattle.fmp_setup.specs.Building.{has_function, with_class, with_function, with_object_names, with_object, with_setup, with_defined, with_processors}
use Rattle.fmp_setup.specs.Setup.{Setup}
use Rattle.fmp_law_config.proofs.Numerals.{AreNames}
use Rattle.fmp_law_config.proofs.Results.{none_is}

-- all are as they were
pub record KeepsNames (before after : Setup) : Type 0 where
  pub processors : after.processors ≡ before.processors
  pub priorities : after.limits.priorities ≡ before.limits.priorities
  pub defined : after.names.defined ≡ before.names.defined

function_keeps : (names : NameLists) (function : List ℕ) → (with_function names function).defined ≡ names.defined
unfolding with_function
function_keeps names function = elim (cases_Bool (has_name names.functions function)) [ inl t ↦ rw t refl | inr f ↦ rw f refl ]

names_keep : (names : NameLists) (kind : ObjectKind) (name function : List ℕ) → (with_object_names names kind name function).defined ≡ names.defined
unfolding with_object_names
names_keep names kind name function = elim (cases_Bool (has_function kind)) [ inl t ↦ rw t (function_keeps _ function) | inr f ↦ rw f refl ]

pub object_keeps : (c : Setup) (class : Class) (name function : List ℕ) (f : Fields) → KeepsNames c (with_object c class name function f)
unfolding with_object with_setup
object_keeps c class name function (Task f) = record { processors = refl; priorities = refl; defined = names_keep c.names _ name function }
object_keeps c class name function (Semaphore f) = record { processors = refl; priorities = refl; defined = names_keep c.names _ name function }
object_keeps c class name function (Eventflag f) = record { processors = refl; priorities = refl; defined = names_keep c.names _ name function }
object_keeps c class name function (DataQueue f) = record { processors = refl; priorities = refl; defined = names_keep c.names _ name function }
object_keeps c class name function (Pool f) = record { processors = refl; priorities = refl; defined = names_keep c.names _ name function }
object_keeps c class name function (Cyclic f) = record { processors = refl; priorities = refl; defined = names_keep c.names _ name function }
object_keeps c class name function Alarm = record { processors = refl; priorities = refl; defined = names_keep c.names _ name function }
object_keeps c class name function SpinLock = record { processors = refl; priorities = refl; defined = names_keep c.names _ name function }

pub class_keeps : (c : Setup) (name : List ℕ) (class : Class) → KeepsNames c (with_class c name class)
unfolding with_class
class_keeps c name class = record { processors = refl; priorities = refl; defined = refl }

pub counted : (c : Setup) (n : ℕ) → (with_processors c n).processors ≡ n
unfolding with_processors
counted c n = refl

pub counting_keeps : (c : Setup) (n : ℕ) → (with_processors c n).limits.priorities ≡ c.limits.priorities
unfolding with_processors
counting_keeps c n = refl

-- ---- names that stand for numbers

pub same_names : (before after : NameLists) → after.defined ≡ before.defined → AreNames before → AreNames after
unfolding number_defined
same_names before after same named word n e = named word n (ap (lookup (bytes_eq word)) (sym same) ∙ e)

pub counted_names : (c : Setup) (n : ℕ) → AreNames c.names → AreNames (with_processors c n).names
unfolding with_processors
counted_names c n named = same_names c.names (with_processors c n).names refl named

one_more : (word name : List ℕ) (number n : ℕ) (defined : List (List ℕ × ℕ)) → is_name name ≡ true → (lookup (bytes_eq word) defined ≡ Some n → is_name word ≡ true)
    → lookup (bytes_eq word) (defined ++ (name, number) ∷ []) ≡ Some n → is_name word ≡ true
one_more word name number n [] is named e =
    elim (cases_Bool (bytes_eq word name)) [
      | inl t ↦ ap is_name ((bytes_eq-Decides word name).0 t) ∙ is
      | inr f ↦ absurd (none_is n (rw f at e))
    ]
one_more word name number n (d ∷ defined) is named e =
    elim (cases_Bool (bytes_eq word d.0)) [
      | inl t ↦ named (rw t (rw t at e))
      | inr f ↦ one_more word name number n defined is (λ found. named (rw f found)) (rw f at e)
    ]

-- a definition of a name
pub definition_processors : (c : Setup) (name : List ℕ) (number : ℕ) → (with_defined c name number).processors ≡ c.processors
unfolding with_defined
definition_processors c name number = refl

pub definition_priorities : (c : Setup) (name : List ℕ) (number : ℕ) → (with_defined c name number).limits.priorities ≡ c.limits.priorities
unfolding with_defined
definition_priorities c name number = refl

pub definition_names : (c : Setup) (name : List ℕ) (number : ℕ) → is_name name ≡ true → AreNames c.names → AreNames (with_defined c name number).names
unfolding with_defined number_defined
definition_names c name number is named word n e = one_more word name number n c.names.defined is (named word n) e
