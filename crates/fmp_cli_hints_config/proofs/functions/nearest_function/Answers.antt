use Rattle.std.proofs.Common.{◌≡◌, ◌≤◌, ◌-◌, ◌+◌, ℕ, List, Option, drop, ap, sym, ◌∙◌, arith}
use Rattle.std.specs.Option.{option_copied}
use Rattle.fmp_codes.specs.declared.kinds.NameKind.TheVariants.{Function}
use Rattle.fmp_cli_help.specs.Near.{nearest}
use Rattle.fmp_names.specs.Names.{NameLists, name_of}
use Rattle.fmp_cli_hints.proofs.Named.{named_next, named_within, named_last}
use Rattle.fmp_cli_hints_config.proofs.functions.nearest_function.Goals as goal

-- the lemmas count names from 0
from_zero : (n : ℕ) (lists : NameLists) (name : Option (List ℕ)) → 1 ≤ n → name_of lists Function n ≡ name → name_of lists Function (n - 1 + 1) ≡ name
from_zero n lists name least there = let same : n - 1 + 1 ≡ n = omega (arith, least) in rw same there

pub loop-name-smaller : goal.loop-name-smaller
loop-name-smaller c =
    let there = ap (λ (l : NameLists). name_of l Function c.loop-name.number) (sym c.names-names.ensures.value) ∙ sym c.in-Some.ensures in
    let least = c.loop-name.invariant.least in
    let within = named_within c.args.config.now.names Function (c.loop-name.number - 1) c.in-Some.name.now (from_zero c.loop-name.number _ _ least there) in
    omega (arith, within, least)

pub loop-name-preserved : goal.loop-name-preserved
loop-name-preserved c =
    let there = ap (λ (l : NameLists). name_of l Function c.loop-name.number) (sym c.names-names.ensures.value) ∙ sym c.in-Some.ensures in
    let least = c.loop-name.invariant.least in
    let found = from_zero c.loop-name.number _ _ least there in
    let within = named_within c.args.config.now.names Function (c.loop-name.number - 1) c.in-Some.name.now found in
    let same : c.loop-name.number - 1 + 1 ≡ c.loop-name.number + 1 - 1 = omega (arith, least) in
    let next = rw same at (named_next c.args.config.now.names Function (c.loop-name.number - 1) c.in-Some.name.now found) in
    record {
      least = omega arith;
      most = omega (arith, within, least);
      nearest =
          ap (λ (best : Option (List ℕ)). nearest c.args.word.now best (drop (c.loop-name.number + 1 - 1) c.args.config.now.names.functions)) c.in_ok-best.ensures
          ∙ (sym (ap (λ (l : List (List ℕ)). nearest c.args.word.now (option_copied c.loop-name.best) l) next) ∙ c.loop-name.invariant.nearest);
    }

pub returns : goal.returns
returns c =
    let none = ap (λ (l : NameLists). name_of l Function c.loop-name.number) (sym c.names-names.ensures.value) ∙ sym c.in_default.ensures in
    let last = named_last c.args.config.now.names Function (c.loop-name.number - 1) (from_zero c.loop-name.number _ _ c.loop-name.invariant.least none) in
    sym (ap (λ (l : List (List ℕ)). nearest c.args.word.now (option_copied c.loop-name.best) l) last) ∙ c.loop-name.invariant.nearest
