use Rattle.std.proofs.Common.{◌≤◌, refl, sym, ap, ◌∙◌, arith, rules, pos, Some, option_map}
use Rattle.std.specs.Int.{w32}
use Rattle.std.proofs.lemmas.Int.{to_z_pos}
use Rattle.fmp_names.proofs.Valid.{most_of-le}
use Rattle.fmp_names.proofs.names.Names.object.Goals as goal
use Rattle.fmp_names.proofs.names.Names.object.Goals.{In_ok-number}

small : (c : In_ok-number) → c.in_ok-number.number ≤ 64
small c = omega (arith, c.in_ok-number.ensures.most c.args.kind refl, most_of-le c.args.kind)

pub overflow_cast-result : goal.overflow_cast-result
overflow_cast-result c = let few = small (goal.at.overflow_cast-result c).In_ok-number in search rules

pub returns : goal.returns
returns c = ap Some (to_z_pos w32 c.in_ok-number.number (let few = small (goal.at.returns c).In_ok-number in omega arith)) ∙ ap (option_map pos) (sym c.in_ok-number.was ∙ c.number.ensures.value)
