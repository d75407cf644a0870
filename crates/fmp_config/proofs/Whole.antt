-- A statement of which all parts were read has the names that it has to have.
use Rattle.std.proofs.Common.{◌≡◌, Bool, true, false, not, ◌||◌, ◌&&◌, List, [], ◌∷◌, length, nat_eq, refl, sym, ◌∙◌, arith}
use Rattle.std.specs.List.{list_any}
use Rattle.std.proofs.lemmas.Bool.{false≢true, and_parts, eqb-true}
use Rattle.fmp_codes.specs.declared.kinds.ObjectKind.{ObjectKind}
use Rattle.fmp_codes.specs.declared.kinds.ObjectKind.TheVariants as objects
use Rattle.fmp_names.specs.Names.{is_name}
use Rattle.fmp_config_statements.specs.declared.parts.Item.{Item}
use Rattle.fmp_config_statements.specs.declared.parts.Part.{Part}
use Rattle.fmp_config_statements.specs.declared.parts.Scan.{Scan}
use Rattle.fmp_config_statements.specs.declared.parts.Scan.TheVariants as scans
use Rattle.fmp_config_statements.specs.declared.table.StatementName.{StatementName}
use Rattle.fmp_config_statements.specs.declared.table.StatementName.TheVariants as statements
use Rattle.fmp_config_statements.specs.Forms.{Form, is_complete}
use Rattle.fmp_config_statements.specs.Named.{IsPromised, awaits, comes_next, has_such, is_part_of, is_name_item, is_function_item}
use Rattle.fmp_config_statements.specs.Parts.{is_nothing}
use Rattle.fmp_config_statements.specs.Table.{parts_of}
use Rattle.fmp_config.specs.Sound.{IsNamedAs, IsWhole}
use Rattle.fmp_setup.specs.Building.{has_function}

nothing_comes : (test : Item → Bool) (scan : Scan) (rest : List Part) → nat_eq (length rest) 0 ≡ true → is_nothing scan ≡ true → comes_next test scan || list_any (is_part_of test) rest ≡ false
nothing_comes test scans.Nothing [] none is = refl
nothing_comes test scans.Nothing (p ∷ ps) none is = let no_parts = eqb-true (length (p ∷ ps)) 0 none in absurd (omega (arith, no_parts))
nothing_comes test (scans.Mark b) rest none is = absurd (false≢true is)
nothing_comes test (scans.One i) rest none is = absurd (false≢true is)
nothing_comes test (scans.Next b i) rest none is = absurd (false≢true is)
nothing_comes test (scans.More b i) rest none is = absurd (false≢true is)
nothing_comes test (scans.Free d t) rest none is = absurd (false≢true is)
nothing_comes test scans.Method rest none is = absurd (false≢true is)
nothing_comes test scans.Master rest none is = absurd (false≢true is)

there : (has name comes : Bool) → not has || (name || comes) ≡ true → has ≡ true → comes ≡ false → name ≡ true
there true true comes e is none = refl
there true false comes e is none = absurd (false≢true (sym none ∙ e))
there false name comes e is none = absurd (false≢true is)

-- which statements have a name, and which a function
names : (kind : ObjectKind) → list_any (is_part_of is_name_item) (parts_of (statements.Create kind)) ≡ true
names objects.Task = refl
names objects.Semaphore = refl
names objects.Eventflag = refl
names objects.DataQueue = refl
names objects.Pool = refl
names objects.Cyclic = refl
names objects.Alarm = refl
names objects.SpinLock = refl

functions : (kind : ObjectKind) → has_function kind ≡ true → list_any (is_part_of is_function_item) (parts_of (statements.Create kind)) ≡ true
functions objects.Task e = refl
functions objects.Semaphore e = absurd (false≢true e)
functions objects.Eventflag e = absurd (false≢true e)
functions objects.DataQueue e = absurd (false≢true e)
functions objects.Pool e = absurd (false≢true e)
functions objects.Cyclic e = refl
functions objects.Alarm e = refl
functions objects.SpinLock e = absurd (false≢true e)

module _ (f : Form) (promised : IsPromised f) (complete : nat_eq (length f.rest) 0 && is_nothing f.scan ≡ true) where
  named : (name : StatementName) → f.name ≡ name → list_any (is_part_of is_name_item) (parts_of name) ≡ true → is_name f.pieces.name.text ≡ true
  named name e has =
      let parts = and_parts (nat_eq (length f.rest) 0) (is_nothing f.scan) complete in
      there (has_such is_name_item f) (is_name f.pieces.name.text) (awaits is_name_item f) promised.name (rw e has) (nothing_comes is_name_item f.scan f.rest parts.0 parts.1)

  named_function : (name : StatementName) → f.name ≡ name → list_any (is_part_of is_function_item) (parts_of name) ≡ true → is_name f.pieces.function.text ≡ true
  named_function name e has =
      let parts = and_parts (nat_eq (length f.rest) 0) (is_nothing f.scan) complete in
      there (has_such is_function_item f) (is_name f.pieces.function.text) (awaits is_function_item f) promised.function (rw e has) (nothing_comes is_function_item f.scan f.rest parts.0 parts.1)

  by_name : (name : StatementName) → f.name ≡ name → IsNamedAs name f
  by_name statements.Include e = tt
  by_name statements.Processors e = tt
  by_name statements.Timer e = tt
  by_name statements.Limits e = tt
  by_name statements.DefClass e = named statements.DefClass e refl
  by_name statements.Class e = tt
  by_name (statements.Create kind) e = (named (statements.Create kind) e (names kind), λ has. named_function (statements.Create kind) e (functions kind has))

pub whole : (f : Form) → IsPromised f → is_complete f ≡ true → IsWhole f
unfolding is_complete
whole f promised complete = by_name f promised complete f.name refl
