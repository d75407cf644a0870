use Rattle.std.proofs.Common.{◌≡◌, ◌+◌, ℕ, List, Option, Some, drop, ap, sym, ◌∙◌, arith}
use Rattle.std.specs.Option.{option_copied}
use Rattle.fmp_codes.specs.declared.kinds.NameKind.TheVariants.{Object}
use Rattle.fmp_cli_help.specs.Near.{nearest}
use Rattle.fmp_names.specs.Names.{name_of, names_of}
use Rattle.fmp_cli_hints.proofs.Named.{named_next, named_within, named_last}
use Rattle.fmp_cli_hints.proofs.hints.near_object.Goals as goal
use Rattle.fmp_cli_hints.proofs.hints.near_object.Goals.{In-Some}

is_named : (c : In-Some) → name_of c.args.names.now (Object c.args.kind) (c.loop-name.index + 1) ≡ Some c.in-Some.name.now
is_named c = sym c.name.ensures ∙ ap option_copied c.in-Some.is

pub loop-name-smaller : goal.loop-name-smaller
loop-name-smaller c =
    let within = named_within c.args.names.now (Object c.args.kind) c.loop-name.index c.in-Some.name.now (is_named (goal.at.loop-name-smaller c).In-Some) in
    omega (arith, within)

pub loop-name-preserved : goal.loop-name-preserved
loop-name-preserved c =
    let named = is_named (goal.at.loop-name-preserved c).In-Some in
    let within = named_within c.args.names.now (Object c.args.kind) c.loop-name.index c.in-Some.name.now named in
    let next = named_next c.args.names.now (Object c.args.kind) c.loop-name.index c.in-Some.name.now named in
    record {
      nearest =
          ap (λ (best : Option (List ℕ)). nearest c.args.word.now best (drop (c.loop-name.index + 1) (names_of c.args.names.now (Object c.args.kind)))) c.in_ok-best.ensures
          ∙ (sym (ap (λ (l : List (List ℕ)). nearest c.args.word.now (option_copied c.loop-name.best) l) next) ∙ c.loop-name.invariant.nearest);
      within = omega (arith, within);
    }

pub returns : goal.returns
returns c =
    let last = named_last c.args.names.now (Object c.args.kind) c.loop-name.index (sym c.name.ensures ∙ ap option_copied c.in_default.is) in
    sym (ap (λ (l : List (List ℕ)). nearest c.args.word.now (option_copied c.loop-name.best) l) last) ∙ c.loop-name.invariant.nearest
