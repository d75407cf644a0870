-- What was read stays sound where an object is created.
use Rattle.std.proofs.Common.{◌≡◌, ℕ, Bool, true, false, List, [], ◌∷◌, Some, Result, Ok, Err, refl, sym, ap, subst, ◌∙◌, arith}
use Rattle.std.proofs.lemmas.Bool.{false≢true, leb-true}
use Rattle.fmp_bytes.specs.Results.{◌>>=◌}
use Rattle.fmp_codes.specs.declared.kinds.NameKind.TheVariants.{Object}
use Rattle.fmp_codes.specs.declared.kinds.ObjectKind.{ObjectKind}
use Rattle.fmp_codes.specs.declared.kinds.ObjectKind.TheVariants as objects
use Rattle.fmp_names.specs.Names.{has_room}
use Rattle.fmp_config_statements.specs.declared.attributes.Attributes.{Attributes}
use Rattle.fmp_config_statements.specs.declared.fault.ConfigKind.TheVariants.{OutOfRange, OutsideClass, ForeignHandler}
use Rattle.fmp_config_statements.specs.declared.table.StatementName.TheVariants as statements
use Rattle.fmp_config_statements.specs.Attributes.{attributes_in}
use Rattle.fmp_config_statements.specs.Faults.{Fault, fault_at, fault_in, fault_of_line}
use Rattle.fmp_config_statements.specs.Forms.{Form}
use Rattle.fmp_config_statements.specs.Table.{allowed_of}
use Rattle.fmp_config.specs.declared.draft.OpenClass.{OpenClass}
use Rattle.fmp_config.specs.declared.numbers.Numbers.{Numbers}
use Rattle.fmp_config.specs.Drafts.{Draft}
use Rattle.fmp_config.specs.Objects.{counts_fit, create, create_in, fields_in, fields_of, fitting_counts, is_handled, is_served, new_name, same, served}
use Rattle.fmp_config.specs.Numbers.{AreInRanges, numbers_of}
use Rattle.fmp_config.specs.Sound.{IsSound, IsSoundOpen}
use Rattle.fmp_config.proofs.Defined.{new_and_room, still_open}
use Rattle.fmp_config.proofs.Places.{start_is_no_body}
use Rattle.fmp_config.proofs.Ranges.{numbers_in_range}
use Rattle.fmp_config.proofs.Steps.{bound, found, not_ok, ok_is, passed}
use Rattle.fmp_setup.specs.declared.parts.Fields.{Fields}
use Rattle.fmp_setup.specs.declared.parts.Fields.TheVariants as fields
use Rattle.fmp_setup.specs.declared.setup.Class.{Class}
use Rattle.fmp_setup.specs.declared.setup.Timer.{Timer}
use Rattle.fmp_setup.specs.declared.setup.Timer.TheVariants as timers
use Rattle.fmp_setup.specs.Building.{FieldsInRange, is_refused, kind_of, with_object, with_setup}
use Rattle.fmp_setup.specs.Setup.{Setup, MayHandle, alone}
use Rattle.fmp_setup.proofs.Growing.{object_added}

-- ---- the fields of an object

same_lists : (xs ys : List Bool) → same xs ys ≡ true → xs ≡ ys
same_lists [] [] e = refl
same_lists [] (y ∷ ys) e = absurd (false≢true e)
same_lists (x ∷ xs) [] e = absurd (false≢true e)
same_lists (true ∷ xs) (true ∷ ys) e = ap (λ (zs : List Bool). true ∷ zs) (same_lists xs ys e)
same_lists (true ∷ xs) (false ∷ ys) e = absurd (false≢true e)
same_lists (false ∷ xs) (true ∷ ys) e = absurd (false≢true e)
same_lists (false ∷ xs) (false ∷ ys) e = ap (λ (zs : List Bool). false ∷ zs) (same_lists xs ys e)

may_handle : (timer : Timer) (class : Class) → is_served timer class ≡ true → MayHandle timer class
may_handle timers.Local class e = tt
may_handle (timers.Global master) class e = same_lists class.members (alone master) e

fields_fit : (c : Setup) (class : Class) (kind : ObjectKind) (a : Attributes) (n : Numbers) → AreInRanges c (statements.Create kind) n → counts_fit kind n ≡ true → is_handled c.timer class kind ≡ true → FieldsInRange c class (fields_of kind a n)
fields_fit c class objects.Task a n are counts own = let (least, most) = are.0 in omega arith
fields_fit c class objects.Semaphore a n are counts own = record { least = are.1.0; most = are.1.1; initial = leb-true n.first n.second counts }
fields_fit c class objects.Eventflag a n are counts own = let most = are.0.1 in omega arith
fields_fit c class objects.DataQueue a n are counts own = are.0.1
fields_fit c class objects.Pool a n are counts own = record { least = are.0.0; most = are.0.1 }
fields_fit c class objects.Cyclic a n are counts own = (record { least = are.0.0; most = are.0.1; phase = are.1.1 }, may_handle c.timer class own)
fields_fit c class objects.Alarm a n are counts own = may_handle c.timer class own
fields_fit c class objects.SpinLock a n are counts own = tt

kind_stays : (kind : ObjectKind) (a : Attributes) (n : Numbers) → kind_of (fields_of kind a n) ≡ kind
kind_stays objects.Task a n = refl
kind_stays objects.Semaphore a n = refl
kind_stays objects.Eventflag a n = refl
kind_stays objects.DataQueue a n = refl
kind_stays objects.Pool a n = refl
kind_stays objects.Cyclic a n = refl
kind_stays objects.Alarm a n = refl
kind_stays objects.SpinLock a n = refl

-- what may be added as an object
record MayBeAdded (c : Setup) (class : Class) (name : List ℕ) (said : Fields) : Type 0 where
  pub new : is_refused c name ≡ false
  pub room : has_room c.names (Object (kind_of said)) ≡ true
  pub fits : FieldsInRange c class said

-- five steps that all succeed
made_of : {A B C : Type 0} (new own : Result (Unit {0}) Fault) (a : Result A Fault) (n : Result B Fault) (fit : B → Result (Unit {0}) Fault) (make : A → B → C) (y : C)
    → (new >>= λ u. own >>= λ u. a >>= λ x. n >>= λ m. fit m >>= λ u. Ok (make x m)) ≡ Ok y
    → (x : A) × (m : B) × (new ≡ Ok tt) × (own ≡ Ok tt) × (n ≡ Ok m) × (fit m ≡ Ok tt) × (make x m ≡ y)
made_of (Err fault) own a n fit make y e = absurd (not_ok fault y e)
made_of (Ok u) (Err fault) a n fit make y e = absurd (not_ok fault y e)
made_of (Ok u) (Ok v) (Err fault) n fit make y e = absurd (not_ok fault y e)
made_of (Ok u) (Ok v) (Ok x) (Err fault) fit make y e = absurd (not_ok fault y e)
made_of (Ok u) (Ok v) (Ok x) (Ok m) fit make y e =
    let (w, is, same) = bound (fit m) (λ w. Ok (make x m)) y e in
    (x, m, refl, refl, refl, is, ok_is (make x m) y same)

fields_may_be_added : (c : Setup) (class : Class) (kind : ObjectKind) (f : Form) (said : Fields) → fields_in c class kind f ≡ Ok said → MayBeAdded c class f.pieces.name.text said
unfolding fields_in served fitting_counts
fields_may_be_added c class kind f said e =
    let (a, n, is_new, is_own, are_numbers, are_fit, same) =
    made_of (new_name c (has_room c.names (Object kind)) f.line f.pieces.name) (served c.timer class kind f.line f.pieces.name) (attributes_in (allowed_of kind) f.pieces.series)
    (numbers_of c (statements.Create kind) f.pieces) (λ n. fitting_counts kind n f.pieces.first) (fields_of kind) said e in
    let (new, room) = new_and_room c (has_room c.names (Object kind)) f.line f.pieces.name is_new in
    let own = (passed (is_handled c.timer class kind) (Ok tt) (fault_in ForeignHandler f.line f.pieces.name) tt is_own).0 in
    let counts = (passed (counts_fit kind n) (Ok tt) (fault_at OutOfRange f.pieces.first) tt are_fit).0 in
    let are = numbers_in_range c (statements.Create kind) f.pieces n are_numbers in
    subst (MayBeAdded c class f.pieces.name.text) same (record { new = new; room = rw (kind_stays kind a n) room; fits = fields_fit c class kind a n are counts own })

-- ---- an object more

classes_stay : (c : Setup) (class : Class) (name function : List ℕ) (said : Fields) → (with_object c class name function said).classes ≡ c.classes
unfolding with_object with_setup
classes_stay c class name function fields.SpinLock = refl
classes_stay c class name function _ = refl

processors_stay : (c : Setup) (class : Class) (name function : List ℕ) (said : Fields) → (with_object c class name function said).processors ≡ c.processors
unfolding with_object with_setup
processors_stay c class name function fields.SpinLock = refl
processors_stay c class name function _ = refl

module _ (d : Draft) (sound : IsSound d) (o : OpenClass) (here : d.open_class ≡ Some o) where
  its : IsSoundOpen d (Some o)
  its = subst (IsSoundOpen d) here sound.open_class

  added : (name function : List ℕ) (said : Fields) → MayBeAdded d.setup o.class name said → IsSound (record d { setup = with_object d.setup o.class name function said })
  added name function said may =
      record {
        valid = object_added d.setup sound.valid name function said may.new may.room o.class its.0 may.fits;
        open_class = still_open d (record d { setup = with_object d.setup o.class name function said }) d.open_class (sym (classes_stay d.setup o.class name function said))
            (sym (processors_stay d.setup o.class name function said)) (λ body. body) sound.open_class;
        before_classes = λ head. absurd (false≢true (sym head ∙ its.1));
        before_processors = λ start. absurd (false≢true (sym (start_is_no_body d.phase start) ∙ its.1));
      }

  created_in : (next : Draft) (kind : ObjectKind) (f : Form) → create_in d o.class kind f ≡ Ok next → IsSound next
  unfolding create_in
  created_in next kind f e =
      let (said, is, same) = bound (fields_in d.setup o.class kind f) (λ said. Ok (record d { setup = with_object d.setup o.class f.pieces.name.text f.pieces.function.text said })) next e in
      subst IsSound (ok_is (record d { setup = with_object d.setup o.class f.pieces.name.text f.pieces.function.text said }) next same)
      (added f.pieces.name.text f.pieces.function.text said (fields_may_be_added d.setup o.class kind f said is))

pub create_sound : (d next : Draft) (kind : ObjectKind) (f : Form) → IsSound d → create d kind f ≡ Ok next → IsSound next
unfolding create
create_sound d next kind f sound e =
    let (o, here, in_class) = found d.open_class (λ o. create_in d o.class kind f) (fault_of_line OutsideClass f.line) next e in
    created_in d sound o here next kind f in_class
