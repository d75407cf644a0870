-- Calls with how they are written, as the table has them for readers that guess.
use Rattle.std.specs.Prelude.{◌≡◌, ◌≤◌, List, [], ◌∷◌, length}
use Rattle.fmp_codes.specs.Kinds.{most_arguments}
use Rattle.fmp_calls.specs.Table.{text_of, is_bare, kinds_of}
use Rattle.fmp_calls.specs.declared.table.KnownCall.{KnownCall}

-- the form is that of the call
pub record IsKnown (known : KnownCall) : Type 0 where
  pub text : known.form.text.now ≡ text_of known.call
  pub bare : known.form.bare ≡ is_bare known.call
  pub kinds : known.form.kinds.now ≡ kinds_of known.call
  pub few : length known.form.kinds.now ≤ most_arguments

abbrev pub AreKnown : List KnownCall → Type 0
AreKnown [] = Unit {0}
AreKnown (known ∷ others) = IsKnown known × AreKnown others
