-- What is seen of an event, as it is put together.
use Rattle.std.proofs.Common.{◌≡◌, ◌<◌, ℕ, Bool, List, [], ◌∷◌, ◌++◌, length, drop, ap, ap₂, arith, refl, ◌∙◌}
use Rattle.std.specs.Prelude.{slice_set}
use Rattle.std.proofs.lemmas.Fmt.{decimal_digit}
use Rattle.fmp_codes.specs.declared.records.Record.{Record}
use Rattle.fmp_names.specs.Names.{NameLists}
use Rattle.fmp_setup.specs.Setup.{Setup}
use Rattle.fmp_rules.specs.World.{World}
use Rattle.fmp_kernel_order.specs.Queues.{Queues}
use Rattle.fmp_trace.specs.Lines.{core_text, head_text}
use Rattle.fmp_search_orders.specs.declared.rules.Rules.{Rules}
use Rattle.fmp_search_orders.specs.Sights.{is_over, padded, sight}
use Rattle.fmp_search_pattern.specs.Sights.{Sight}
use Rattle.fmp_show_facts.specs.Facts.{is_so}

-- a blank in the place of the number 1
pub line_is : (lists : NameLists) (r : Record) (text : List ℕ) → text ≡ core_text lists 1 r ++ 32 ∷ 32 ∷ [] → slice_set text 0 32 ≡ padded (drop 2 (core_text lists 1 r))
unfolding core_text head_text
line_is lists r text is = let one = decimal_digit 1 (omega arith) in ap (λ (t : List ℕ). slice_set t 0 32) is ∙ rw one refl

pub line_long : (lists : NameLists) (r : Record) (text : List ℕ) → text ≡ core_text lists 1 r ++ 32 ∷ 32 ∷ [] → 0 < length text
unfolding core_text head_text
line_long lists r text is = let one = decimal_digit 1 (omega arith) in rw (is, one) (omega arith)

module _ (c : Setup) (r : Record) (w : World Queues) (over : Bool) (text : List ℕ) where
  abbrev pub seen : Sight
  seen = record { line = text; is_so = is_so w; over = over }

  pub sight_is : (rules : Rules) (count : ℕ → ℕ) → text ≡ padded (drop 2 (core_text c.names 1 r)) → over ≡ is_over c rules count w → seen ≡ sight c rules count w r
  unfolding sight
  sight_is rules count line_is over_is = ap₂ (λ (line : List ℕ) (o : Bool). record { line = line; is_so = is_so w; over = o }) line_is over_is
