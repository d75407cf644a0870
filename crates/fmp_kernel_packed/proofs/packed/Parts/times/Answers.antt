use Rattle.std.proofs.Common.{◌∙◌, sym, subst}
use Rattle.std.proofs.lemmas.Option.{same_Some}
use Rattle.fmp_kernel_packed.specs.Kept.{KeptParts}
use Rattle.fmp_kernel_packed.specs.Packed.{IsPacked}
use Rattle.fmp_kernel_packed.proofs.Unpacking.{counted}
use Rattle.fmp_kernel_packed.proofs.packed.Parts.times.Goals as goal

pub get-requires : goal.get-requires
get-requires c = counted _ c.args.self.now c.requires.0 c.args.packed.machine c.args.packed.counting c.self.view_is c.requires.1

pub returns : goal.returns
returns c = λ w is.
    let there = subst (λ (k : KeptParts). IsPacked k w c.args.packed.machine c.args.packed.counting) (sym c.self.view_is) is in
    c.as_slice.ensures ∙ same_Some _ _ (sym c.get.ensures ∙ there.of_counting)
