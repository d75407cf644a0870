-- What was read, without lines, and what holds of it.
use Rattle.std.proofs.Common.{◌≡◌, ℕ, ◌≤◌, ◌<◌, true, false, map, Option, Some, None, option_map, Ok, refl, sym, ap, ◌∙◌, arith}
use Rattle.std.specs.List.{AllByRecursion}
use Rattle.std.proofs.lemmas.Bool.{leb-true}
use Rattle.fmp_bytes.proofs.Parsed.{bind_parts}
use Rattle.fmp_codes.specs.declared.kinds.ObjectKind.{ObjectKind}
use Rattle.fmp_codes.specs.declared.kinds.ObjectKind.TheVariants.{Task, Semaphore, Eventflag, DataQueue, Pool, Cyclic, Alarm, SpinLock}
use Rattle.fmp_names.specs.Names.{NameLists}
use Rattle.fmp_config_statements.specs.declared.table.Range.{Range}
use Rattle.fmp_config_statements.specs.declared.table.StatementName.{StatementName}
use Rattle.fmp_config_statements.specs.declared.table.StatementName.TheVariants.{Create}
use Rattle.fmp_config_statements.specs.Pieces.{Pieces}
use Rattle.fmp_config_statements.specs.Table.{first_range, second_range}
use Rattle.fmp_config_statements.specs.Words.{Word}
use Rattle.fmp_config.specs.declared.numbers.Numbers.{Numbers}
use Rattle.fmp_config.specs.Drafts.{Draft}
use Rattle.fmp_config.specs.Objects.{counts_fit}
use Rattle.fmp_config.specs.Numbers.{number_at, numbers_of}
use Rattle.fmp_setup.specs.Setup.{Setup}
use Rattle.fmp_law_config.specs.Stages.{Stage, SayNumbers}
use Rattle.fmp_law_config.specs.Phrases.{Phrase}
use Rattle.fmp_law_config.proofs.Results.{ok_is}
use Rattle.fmp_law_config.proofs.Numerals.{AreNames, is_signed, most_numeral, number_within_parts, number_at-spelled, number_at_is_spelled}

abbrev pub phrase_of : Pieces → Phrase
phrase_of p = record { name = p.name.text; function = p.function.text; first = p.first.text; second = p.second.text; series = map (λ w. w.text) p.series }

abbrev pub stage_of : Draft → Stage
stage_of d = record { setup = d.setup; class = option_map (λ o. o.class) d.open_class; phase = d.phase; timer_stood = d.timer_stood; limits_stood = d.limits_stood }

-- no word is a `-` and more
pub record AreUnsigned (phrase : Phrase) : Type 0 where
  pub first : is_signed phrase.first ≡ false
  pub second : is_signed phrase.second ≡ false
  pub series : AllByRecursion (λ w. is_signed w ≡ false) phrase.series

-- what holds of every configuration
pub record IsBounded (c : Setup) : Type 0 where
  pub processors : c.processors ≤ 8
  pub priorities : c.limits.priorities ≤ 32
  pub named : AreNames c.names

-- ---- numbers

abbrev pub Within : Option Range → ℕ → Type 0
Within None n = n ≡ 0
Within (Some range) n = n ≤ range.most

within : (names : NameLists) (range : Option Range) (word : Word) (n : ℕ) → number_at names range word ≡ Ok n → Within range n
unfolding number_at
within names None word n e = sym (ok_is 0 n e)
within names (Some range) word n e = (number_within_parts names range word n e).2

pub numbers_of-spelled : (c : Setup) (name : StatementName) (pieces : Pieces) (n : Numbers) → SayNumbers c name (phrase_of pieces) n → numbers_of c name pieces ≡ Ok n
unfolding numbers_of
numbers_of-spelled c name pieces n s =
    let a = number_at-spelled c.names (first_range name c.processors c.limits.priorities) pieces.first n.first s.first in
    let b = number_at-spelled c.names (second_range name) pieces.second n.second s.second in
    rw (a, b) refl

-- the numbers that were read, and that they are spelled if they are small
pub record Read (c : Setup) (name : StatementName) (pieces : Pieces) (n : Numbers) : Type 0 where
  pub first_within : Within (first_range name c.processors c.limits.priorities) n.first
  pub second_within : Within (second_range name) n.second
  pub spelled : n.first < most_numeral → n.second < most_numeral → SayNumbers c name (phrase_of pieces) n

pub numbers_read : (c : Setup) → AreNames c.names → (name : StatementName) (pieces : Pieces) (n : Numbers) → numbers_of c name pieces ≡ Ok n → AreUnsigned (phrase_of pieces) → Read c name pieces n
unfolding numbers_of
numbers_read c named name pieces n e unsigned =
    let p = bind_parts (number_at c.names (first_range name c.processors c.limits.priorities) pieces.first) _ n e in
    let q = bind_parts (number_at c.names (second_range name) pieces.second) _ n p.2 in
    let same : record { first = p.0; second = q.0 } ≡ n = ok_is _ n q.2 in
    let first = p.1 ∙ ap (λ (m : Numbers). Ok m.first) same in
    let second = q.1 ∙ ap (λ (m : Numbers). Ok m.second) same in
    record {
      first_within = within c.names (first_range name c.processors c.limits.priorities) pieces.first n.first first;
      second_within = within c.names (second_range name) pieces.second n.second second;
      spelled = λ a b. record {
        first = number_at_is_spelled c.names named (first_range name c.processors c.limits.priorities) pieces.first n.first first unsigned.first a;
        second = number_at_is_spelled c.names named (second_range name) pieces.second n.second second unsigned.second b;
      };
    }

-- ---- the numbers of objects are small

module _ (c : Setup) (bounded : IsBounded c) (n : Numbers) where
  pub second_small : (kind : ObjectKind) → Within (second_range (Create kind)) n.second → n.second < most_numeral
  second_small Task w = omega arith
  second_small Semaphore w = omega arith
  second_small Eventflag w = omega arith
  second_small DataQueue w = omega arith
  second_small Pool w = omega arith
  second_small Cyclic w = omega arith
  second_small Alarm w = omega arith
  second_small SpinLock w = omega arith

  pub first_small : (kind : ObjectKind) → Within (first_range (Create kind) c.processors c.limits.priorities) n.first → Within (second_range (Create kind)) n.second → counts_fit kind n ≡ true → n.first < most_numeral
  first_small Task w v fits = let most = bounded.priorities in omega arith
  first_small Semaphore w v fits = let less = leb-true n.first n.second fits in omega arith
  first_small Eventflag w v fits = omega arith
  first_small DataQueue w v fits = omega arith
  first_small Pool w v fits = omega arith
  first_small Cyclic w v fits = omega arith
  first_small Alarm w v fits = omega arith
  first_small SpinLock w v fits = omega arith
