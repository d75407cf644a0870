-- A statement whose tokens are read has its names, or will have them.
use Rattle.std.proofs.Common.{◌≡◌, ℕ, ◌+◌, ◌-◌, Bool, true, false, not, ◌&&◌, ◌||◌, List, [], ◌∷◌, Option, Some, None, is_some, unwrap_or, if◌then◌else◌, ◌==◌, Ok, Err, refl, sym, ap, inl, inr}
use Rattle.std.specs.Prelude.{is_ok, codes}
use Rattle.std.specs.Result.{result_unwrap_or}
use Rattle.std.specs.Option.{option_map_or}
use Rattle.std.specs.Str.{bytes_eq}
use Rattle.std.specs.List.{list_any}
use Rattle.std.proofs.lemmas.Bool.{cases_Bool, false≢true}
use Rattle.fmp_names.specs.Names.{is_name}
use Rattle.fmp_config_statements.specs.Lexing.{Lexeme}
use Rattle.fmp_config_statements.specs.declared.parts.Item.{Item}
use Rattle.fmp_config_statements.specs.declared.parts.Item.TheVariants as items
use Rattle.fmp_config_statements.specs.declared.parts.Part.{Part}
use Rattle.fmp_config_statements.specs.declared.parts.Part.TheVariants as parts
use Rattle.fmp_config_statements.specs.declared.parts.Scan.{Scan}
use Rattle.fmp_config_statements.specs.declared.parts.Scan.TheVariants as scans
use Rattle.fmp_config_statements.specs.declared.table.StatementName.{StatementName}
use Rattle.fmp_config_statements.specs.Forms.{Form, begun, advanced, form_step, next_part, misfit}
use Rattle.fmp_config_statements.specs.Named.{IsPromised, awaits, comes_next, has_such, is_part_of, is_name_item, is_function_item}
use Rattle.fmp_config_statements.specs.Parts.{is_item, next_of, is_barred, is_stop, next_free, next_method, may_end, scan_of}
use Rattle.fmp_config_statements.specs.Pieces.{Pieces, with_item, kept_from}
use Rattle.fmp_config_statements.specs.Table.{parts_of}
use Rattle.fmp_config_statements.specs.Words.{Word, word_of, is_mark}

some_if : {X : Type 0} (c : Bool) (x next : X) → (if c then Some x else None) ≡ Some next → (c ≡ true) × (x ≡ next)
some_if true x next e = (refl, ap (λ o. unwrap_or o x) e)
some_if false x next e = absurd (false≢true (ap (λ o. is_some o) e))

module _ (test : Item → Bool) (kept_word : Pieces → Word)
    (kept : (item : Item) (word : Word) (p : Pieces) → test item ≡ true → kept_word (with_item item word p) ≡ word)
    (others : (item : Item) (word : Word) (p : Pieces) → test item ≡ false → kept_word (with_item item word p) ≡ kept_word p)
    (named : (item : Item) (t : Lexeme) → test item ≡ true → is_item item t ≡ true → is_name t.text ≡ true)
    (first : test items.First ≡ false) where
  abbrev there : Pieces → Bool → Bool
  there p b = is_name (kept_word p).text || b

  collected : (item : Item) (t : Lexeme) (p : Pieces) (b : Bool) → is_item item t ≡ true → (test item ≡ false → there p b ≡ true) → there (with_item item (word_of t) p) b ≡ true
  collected item t p b is so =
      elim (cases_Bool (test item)) [
        | inl meant ↦ let name = named item t meant is in rw (kept item (word_of t) p meant, name) refl
        | inr other ↦ rw (others item (word_of t) p other) (so other)
      ]

  free_if : (c d e : Bool) (a b f next : Scan) → comes_next test a ≡ false → comes_next test b ≡ false → comes_next test f ≡ false
      → (if c then None else (if d then Some a else (if e then Some b else Some f))) ≡ Some next → comes_next test next ≡ false
  free_if true d e a b f next x y z is = absurd (false≢true (ap (λ o. is_some o) is))
  free_if false true e a b f next x y z is = let same : a ≡ next = ap (λ o. unwrap_or o a) is in rw (sym same) x
  free_if false false true a b f next x y z is = let same : b ≡ next = ap (λ o. unwrap_or o b) is in rw (sym same) y
  free_if false false false a b f next x y z is = let same : f ≡ next = ap (λ o. unwrap_or o f) is in rw (sym same) z

  free_comes : (depth : ℕ) (t : Lexeme) (next : Scan) → next_free depth t ≡ Some next → comes_next test next ≡ false
  unfolding next_free
  free_comes depth t next e =
      free_if (is_barred t || (depth == 0 && is_stop t)) (is_mark 40 t) (is_mark 41 t) (scans.Free (depth + 1) true) (scans.Free (depth - 1) true) (scans.Free depth true) next refl refl refl e

  method_comes : (c d : Bool) (next : Scan) → (if c then Some scans.Nothing else (if d then Some scans.Master else None)) ≡ Some next → comes_next test next ≡ false
  method_comes true d next is = let same : scans.Nothing ≡ next = ap (λ o. unwrap_or o scans.Nothing) is in rw (sym same) refl
  method_comes false true next is = let same : scans.Master ≡ next = ap (λ o. unwrap_or o scans.Master) is in rw (sym same) refl
  method_comes false false next is = absurd (false≢true (ap (λ o. is_some o) is))

  through : (scan next : Scan) (t : Lexeme) (p : Pieces) (b : Bool) → next_of scan t ≡ Some next → there p (comes_next test scan || b) ≡ true → there (kept_from scan (word_of t) p) (comes_next test next || b) ≡ true
  unfolding next_of next_method
  through (scans.Mark byte) next t p b e so = let i = some_if (is_mark byte t) scans.Nothing next e in rw (sym i.1) so
  through (scans.One item) next t p b e so =
      let i = some_if (is_item item t) scans.Nothing next e in
      rw (sym i.1) (collected item t p b i.0 (λ other. rw other at so))
  through (scans.Next byte item) next t p b e so =
      let i = some_if (is_item item t) (scans.More byte item) next e in
      rw (sym i.1) (collected item t p b i.0 (λ other. so))
  through (scans.More byte item) next t p b e so = let i = some_if (is_mark byte t) (scans.Next byte item) next e in rw (sym i.1) so
  through (scans.Free depth taken) next t p b e so = rw (free_comes depth t next e) so
  through scans.Method next t p b e so = rw (method_comes (bytes_eq t.text (codes "LOCAL")) (bytes_eq t.text (codes "GLOBAL")) next e) so
  through scans.Master next t p b e so = let i = some_if (is_mark 44 t) (scans.One items.First) next e in rw (sym i.1, first) so
  through scans.Nothing next t p b e so = absurd (false≢true (ap (λ o. is_some o) e))

  same_part : (part : Part) → comes_next test (scan_of part) ≡ is_part_of test part
  same_part (parts.Mark byte) = refl
  same_part (parts.One item) = refl
  same_part (parts.Series byte item) = refl
  same_part parts.Free = refl
  same_part parts.Method = refl

  ending : (scan : Scan) → may_end scan ≡ true → comes_next test scan ≡ false
  ending (scans.Mark byte) e = refl
  ending (scans.One item) e = absurd (false≢true e)
  ending (scans.Next byte item) e = refl
  ending (scans.More byte item) e = refl
  ending (scans.Free depth taken) e = refl
  ending scans.Method e = refl
  ending scans.Master e = refl
  ending scans.Nothing e = refl

  abbrev stays : Form → Bool
  stays f = there f.pieces (awaits test f)

  -- ---- a token of the part that is being read, or of the next one

  within : (f g : Form) (t : Lexeme) (next : Scan) → next_of f.scan t ≡ Some next → advanced f f.scan next t ≡ g → stays f ≡ true → (g.name ≡ f.name) × (stays g ≡ true)
  within f g t next here same so =
      rw (sym same) (refl, through f.scan next t f.pieces (list_any (is_part_of test) f.rest) here so)

  entered : (f g : Form) (part : Part) (rest : List Part) (t : Lexeme) (o : Option Scan) → next_of (scan_of part) t ≡ o → may_end f.scan ≡ true → f.rest ≡ part ∷ rest
      → option_map_or (λ next. Ok (advanced (record f { rest = rest }) (scan_of part) next t)) o (Err (misfit t)) ≡ Ok g → stays f ≡ true → (g.name ≡ f.name) × (stays g ≡ true)
  entered f g part rest t None here ends at e so = absurd (false≢true (ap (λ r. is_ok r) e))
  entered f g part rest t (Some next) here ends at e so =
      let same : advanced (record f { rest = rest }) (scan_of part) next t ≡ g = ap (λ r. result_unwrap_or r f) e in
      let none = ending f.scan ends in
      let shorter : there f.pieces (is_part_of test part || list_any (is_part_of test) rest) ≡ true = rw (at, none) at so in
      rw (sym same) (refl, through (scan_of part) next t f.pieces (list_any (is_part_of test) rest) here (rw (same_part part) shorter))

  following : (f g : Form) (parts : List Part) (t : Lexeme) → may_end f.scan ≡ true → f.rest ≡ parts → next_part f parts t ≡ Ok g → stays f ≡ true → (g.name ≡ f.name) × (stays g ≡ true)
  unfolding next_part
  following f g [] t ends at e so = absurd (false≢true (ap (λ r. is_ok r) e))
  following f g (part ∷ rest) t ends at e so = entered f g part rest t (next_of (scan_of part) t) refl ends at e so

  by_end : (f g : Form) (t : Lexeme) (b : Bool) → may_end f.scan ≡ b → (if b then next_part f f.rest t else Err (misfit t)) ≡ Ok g → stays f ≡ true → (g.name ≡ f.name) × (stays g ≡ true)
  by_end f g t true ends e so = following f g f.rest t ends refl e so
  by_end f g t false ends e so = absurd (false≢true (ap (λ r. is_ok r) e))

  by_next : (f g : Form) (t : Lexeme) (o : Option Scan) → next_of f.scan t ≡ o
      → option_map_or (λ next. Ok (advanced f f.scan next t)) o (if may_end f.scan then next_part f f.rest t else Err (misfit t)) ≡ Ok g → stays f ≡ true → (g.name ≡ f.name) × (stays g ≡ true)
  by_next f g t (Some next) here e so = within f g t next here (ap (λ r. result_unwrap_or r f) e) so
  by_next f g t None here e so = by_end f g t (may_end f.scan) refl e so

  step : (f g : Form) (t : Lexeme) → form_step f t ≡ Ok g → stays f ≡ true → (g.name ≡ f.name) × (stays g ≡ true)
  unfolding form_step
  step f g t e so = by_next f g t (next_of f.scan t) refl e so

  -- where the statement has no such word, nothing is to be shown
  promised : (f g : Form) (t : Lexeme) (b : Bool) → has_such test f ≡ b → form_step f t ≡ Ok g → not b || stays f ≡ true → g.name ≡ f.name → not b || stays g ≡ true
  promised f g t true here e so name = (step f g t e so).1
  promised f g t false here e so name = refl

-- the name of a statement stays while its tokens are read
name_stays : (f g : Form) (t : Lexeme) (o : Option Scan) (b : Bool) (parts : List Part) → option_map_or (λ next. Ok (advanced f f.scan next t)) o (if b then next_part f parts t else Err (misfit t)) ≡ Ok g → g.name ≡ f.name
unfolding next_part
name_stays f g t (Some next) b parts e = let same : advanced f f.scan next t ≡ g = ap (λ r. result_unwrap_or r f) e in rw (sym same) refl
name_stays f g t None false parts e = absurd (false≢true (ap (λ r. is_ok r) e))
name_stays f g t None true [] e = absurd (false≢true (ap (λ r. is_ok r) e))
name_stays f g t None true (part ∷ rest) e = entered_name (next_of (scan_of part) t) e where
  entered_name : (o : Option Scan) → option_map_or (λ next. Ok (advanced (record f { rest = rest }) (scan_of part) next t)) o (Err (misfit t)) ≡ Ok g → g.name ≡ f.name
  entered_name None e = absurd (false≢true (ap (λ r. is_ok r) e))
  entered_name (Some next) e = let same : advanced (record f { rest = rest }) (scan_of part) next t ≡ g = ap (λ r. result_unwrap_or r f) e in rw (sym same) refl

pub step_keeps_name : (f g : Form) (t : Lexeme) → form_step f t ≡ Ok g → g.name ≡ f.name
unfolding form_step
step_keeps_name f g t e = name_stays f g t (next_of f.scan t) (may_end f.scan) f.rest e

-- ---- names and functions

name_kept : (item : Item) (word : Word) (p : Pieces) → is_name_item item ≡ true → (with_item item word p).name ≡ word
name_kept items.Name word p e = refl
name_kept items.Function word p e = absurd (false≢true e)
name_kept items.First word p e = absurd (false≢true e)
name_kept items.Second word p e = absurd (false≢true e)
name_kept items.Attribute word p e = absurd (false≢true e)
name_kept items.Member word p e = absurd (false≢true e)
name_kept items.Text word p e = absurd (false≢true e)

name_other : (item : Item) (word : Word) (p : Pieces) → is_name_item item ≡ false → (with_item item word p).name ≡ p.name
name_other items.Name word p e = absurd (false≢true (sym e))
name_other items.Function word p e = refl
name_other items.First word p e = refl
name_other items.Second word p e = refl
name_other items.Attribute word p e = refl
name_other items.Member word p e = refl
name_other items.Text word p e = refl

name_named : (item : Item) (t : Lexeme) → is_name_item item ≡ true → is_item item t ≡ true → is_name t.text ≡ true
unfolding is_item
name_named items.Name t e is = is
name_named items.Function t e is = absurd (false≢true e)
name_named items.First t e is = absurd (false≢true e)
name_named items.Second t e is = absurd (false≢true e)
name_named items.Attribute t e is = absurd (false≢true e)
name_named items.Member t e is = absurd (false≢true e)
name_named items.Text t e is = absurd (false≢true e)

function_kept : (item : Item) (word : Word) (p : Pieces) → is_function_item item ≡ true → (with_item item word p).function ≡ word
function_kept items.Function word p e = refl
function_kept items.Name word p e = absurd (false≢true e)
function_kept items.First word p e = absurd (false≢true e)
function_kept items.Second word p e = absurd (false≢true e)
function_kept items.Attribute word p e = absurd (false≢true e)
function_kept items.Member word p e = absurd (false≢true e)
function_kept items.Text word p e = absurd (false≢true e)

function_other : (item : Item) (word : Word) (p : Pieces) → is_function_item item ≡ false → (with_item item word p).function ≡ p.function
function_other items.Function word p e = absurd (false≢true (sym e))
function_other items.Name word p e = refl
function_other items.First word p e = refl
function_other items.Second word p e = refl
function_other items.Attribute word p e = refl
function_other items.Member word p e = refl
function_other items.Text word p e = refl

function_named : (item : Item) (t : Lexeme) → is_function_item item ≡ true → is_item item t ≡ true → is_name t.text ≡ true
unfolding is_item
function_named items.Function t e is = is
function_named items.Name t e is = absurd (false≢true e)
function_named items.First t e is = absurd (false≢true e)
function_named items.Second t e is = absurd (false≢true e)
function_named items.Attribute t e is = absurd (false≢true e)
function_named items.Member t e is = absurd (false≢true e)
function_named items.Text t e is = absurd (false≢true e)

-- ---- the promise

pub step_keeps_promise : (f g : Form) (t : Lexeme) → IsPromised f → form_step f t ≡ Ok g → IsPromised g
step_keeps_promise f g t is e =
    let name = step_keeps_name f g t e in
    let one = promised is_name_item (λ p. p.name) name_kept name_other name_named refl f g t (has_such is_name_item f) refl e is.name name in
    let two = promised is_function_item (λ p. p.function) function_kept function_other function_named refl f g t (has_such is_function_item f) refl e is.function name in
    record { name = rw name one; function = rw name two }

met : (b : Bool) → not b || (false || (false || b)) ≡ true
met true = refl
met false = refl

pub begun_is_promised : (name : StatementName) (line : ℕ) → IsPromised (begun name line)
unfolding is_name
begun_is_promised name line =
    record { name = met (list_any (is_part_of is_name_item) (parts_of name)); function = met (list_any (is_part_of is_function_item) (parts_of name)) }
