use Rattle.std.proofs.Common.{ap, sym, ◌∙◌, arith}
use Rattle.fmp_codes.specs.declared.kinds.NameKind.TheVariants.{Function}
use Rattle.fmp_names.specs.Names.{NameLists, name_of}
use Rattle.fmp_run_list.proofs.listing.Counted.{function_more, functions_done, is_within}
use Rattle.fmp_run_list.proofs.listing.functions.put_functions.Goals as goal

pub loop-name-smaller : goal.loop-name-smaller
loop-name-smaller c =
    let there = ap (λ (l : NameLists). name_of l Function c.loop-name.number) (sym c.names-names.ensures.value) ∙ sym c.in-Some.ensures in
    let within = is_within c.args.config.now.names c.loop-name.number c.in-Some.name.now there in
    omega (arith, within)

pub loop-name-preserved : goal.loop-name-preserved
loop-name-preserved c =
    let there = ap (λ (l : NameLists). name_of l Function c.loop-name.number) (sym c.names-names.ensures.value) ∙ sym c.in-Some.ensures in
    let within = is_within c.args.config.now.names c.loop-name.number c.in-Some.name.now there in
    record {
      least = omega arith;
      most = omega (arith, within);
      made = function_more c.args.config.now.names c.loop-name.number c.in-Some.name.now c.args.out.now c.loop-name.out _ _ there c.put_function_line.ensures c.loop-name.invariant.made;
    }

pub returns : goal.returns
returns c =
    let none = ap (λ (l : NameLists). name_of l Function c.loop-name.number) (sym c.names-names.ensures.value) ∙ sym c.in_default.ensures in
    functions_done c.args.config.now.names c.loop-name.number c.args.out.now c.loop-name.out _ c.loop-name.invariant.least none c.loop-name.invariant.made
