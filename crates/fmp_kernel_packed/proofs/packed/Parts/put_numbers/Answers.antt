use Rattle.std.proofs.Common.{◌≡◌, ◌∙◌, ℕ, ◌+◌, ◌++◌, length, sym, subst, arith}
use Rattle.std.proofs.lemmas.Grind.{common_steps}
use Rattle.fmp_kernel_machine.specs.Parts.{assignments_in}
use Rattle.fmp_kernel_objects.specs.Objects.{objects_of}
use Rattle.fmp_kernel_order.specs.Queues.{Queues}
use Rattle.fmp_kernel_packed.specs.Kept.{KeptParts}
use Rattle.fmp_kernel_packed.specs.Packed.{IsPacked}
use Rattle.fmp_kernel_packed.specs.Told.{things_of, ArePartsOf}
use Rattle.fmp_kernel_packed.proofs.HandledLaws.{handled_long}
use Rattle.fmp_kernel_packed.proofs.ObjectsLaws.{objects_long}
use Rattle.fmp_kernel_packed.proofs.Packing.{rest_long}
use Rattle.fmp_rules.specs.World.{World}
use Rattle.fmp_kernel_packed.proofs.packed.Parts.put_numbers.Goals as goal

-- a state has so many parts
many : (kept : KeptParts) (w : World Queues) (m n : ℕ) (is : IsPacked kept w m n) → length (is.handled ++ (is.objects ++ is.rest)) ≡ things_of w + 3
many kept w m n is =
    let first = handled_long kept.handled (assignments_in w) is.handled is.of_handled in
    let next = objects_long kept.objects (objects_of w) is.objects is.of_objects in
    let few = rest_long kept w is.rest is.of_rest in
    grind (arith, common_steps, first, next, few)

pub put-requires : goal.put-requires
put-requires c =
    let w = c.requires.0 in
    let m = c.args.packed.machine in
    let n = c.args.packed.counting in
    let is = subst (λ (k : KeptParts). IsPacked k w m n) (sym c.self.view_is) c.requires.1 in
    (is.handled ++ (is.objects ++ is.rest), many _ w m n is ∙ sym c.requires.2, is.tree)

pub returns-clause-parts : goal.returns-clause-parts
returns-clause-parts c = λ w packed long.
    let m = c.args.packed.machine in
    let n = c.args.packed.counting in
    let is = subst (λ (k : KeptParts). IsPacked k w m n) (sym c.self.view_is) packed in
    let list = c.put.ensures.is (is.handled ++ (is.objects ++ is.rest)) (many _ w m n is ∙ sym long) is.tree in
    subst (λ (k : KeptParts). ArePartsOf k w c.put.new.numbers) c.self.view_is (record {
      handled = is.handled;
      objects = is.objects;
      rest = is.rest;
      are = list;
      of_handled = is.of_handled;
      of_objects = is.of_objects;
      of_rest = is.of_rest;
    })
