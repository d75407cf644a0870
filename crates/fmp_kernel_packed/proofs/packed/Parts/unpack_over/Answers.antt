use Rattle.std.proofs.Common.{◌∙◌, ℕ, List, ap, subst, sym}
use Rattle.std.specs.Prelude.{Some}
use Rattle.fmp_interned.specs.Trees.{HasTree}
use Rattle.fmp_kernel_machine.specs.Parts.{assignments_in}
use Rattle.fmp_kernel_objects.specs.Objects.{objects_of}
use Rattle.fmp_kernel_packed.proofs.Unpacking.{alike_still, counted, has_tree, in_step, processors_still, room_taken, unpacks, whole}
use Rattle.fmp_kernel_packed.proofs.packed.Parts.unpack_over.Goals as goal

pub put-requires : goal.put-requires
put-requires c =
    let r = c.requires.there in
    let handled = c.handled_count-handled in
    let objects = c.object_count in
    let fits = room_taken c.args.room.now handled.result objects.result c.requires.room handled.ensures.few objects.ensures.few in
    subst (λ n. HasTree c.self.inside.lists n c.args.packed.machine) (sym fits)
    (has_tree _ c.args.self.now c.args.machine.now r.0 c.args.packed.machine c.args.packed.counting handled.result objects.result c.self.view_is r.1 r.2 handled.ensures.value objects.ensures.value)

pub put-requires-2 : goal.put-requires-2
put-requires-2 c =
    let r = c.requires.there in
    let handled = c.handled_count-handled in
    let objects = c.object_count in
    let fits = room_taken c.args.room.now handled.result objects.result c.requires.room handled.ensures.few objects.ensures.few in
    let each = unpacks _ c.args.self.now c.args.machine.now r.0 c.args.packed.machine c.args.packed.counting handled.result objects.result c.put.new.numbers c.self.view_is r.1 r.2
    handled.ensures.value objects.ensures.value (λ xs many tree. c.put.ensures.is xs (many ∙ sym fits) tree) in
    (assignments_in r.0, each.of_handled, sym r.2.alarms, sym r.2.cyclics, sym r.2.tasks)

pub put-requires-3 : goal.put-requires-3
put-requires-3 c =
    let r = c.requires.there in
    let handled = c.handled_count-handled in
    let objects = c.object_count in
    let fits = room_taken c.args.room.now handled.result objects.result c.requires.room handled.ensures.few objects.ensures.few in
    let each = unpacks _ c.args.self.now c.args.machine.now r.0 c.args.packed.machine c.args.packed.counting handled.result objects.result c.put.new.numbers c.self.view_is r.1 r.2
    handled.ensures.value objects.ensures.value (λ xs many tree. c.put.ensures.is xs (many ∙ sym fits) tree) in
    let first = c.put-2.ensures (assignments_in r.0) each.of_handled (sym r.2.alarms) (sym r.2.cyclics) (sym r.2.tasks) in
    (objects_of r.0, each.of_objects, alike_still c.args.machine.now r.0 c.put-2.new.machine r.2 first)

pub put-requires-4 : goal.put-requires-4
put-requires-4 c =
    let r = c.requires.there in
    let handled = c.handled_count-handled in
    let objects = c.object_count in
    let fits = room_taken c.args.room.now handled.result objects.result c.requires.room handled.ensures.few objects.ensures.few in
    let each = unpacks _ c.args.self.now c.args.machine.now r.0 c.args.packed.machine c.args.packed.counting handled.result objects.result c.put.new.numbers c.self.view_is r.1 r.2
    handled.ensures.value objects.ensures.value (λ xs many tree. c.put.ensures.is xs (many ∙ sym fits) tree) in
    let first = c.put-2.ensures (assignments_in r.0) each.of_handled (sym r.2.alarms) (sym r.2.cyclics) (sym r.2.tasks) in
    let next = c.put-3.ensures (objects_of r.0) each.of_objects (alike_still c.args.machine.now r.0 c.put-2.new.machine r.2 first) in
    (r.0, each.of_rest, processors_still c.args.machine.now r.0 c.put-2.new.machine c.put-3.new.machine r.2 first next)

pub get-requires : goal.get-requires
get-requires c =
    let r = c.requires.there in
    counted _ c.args.self.now r.0 c.args.packed.machine c.args.packed.counting c.self.view_is r.1

pub put_words-requires : goal.put_words-requires
put_words-requires c =
    let r = c.requires.there in
    let handled = c.handled_count-handled in
    let objects = c.object_count in
    let fits = room_taken c.args.room.now handled.result objects.result c.requires.room handled.ensures.few objects.ensures.few in
    let each = unpacks _ c.args.self.now c.args.machine.now r.0 c.args.packed.machine c.args.packed.counting handled.result objects.result c.put.new.numbers c.self.view_is r.1 r.2
    handled.ensures.value objects.ensures.value (λ xs many tree. c.put.ensures.is xs (many ∙ sym fits) tree) in
    let first = c.put-2.ensures (assignments_in r.0) each.of_handled (sym r.2.alarms) (sym r.2.cyclics) (sym r.2.tasks) in
    let next = c.put-3.ensures (objects_of r.0) each.of_objects (alike_still c.args.machine.now r.0 c.put-2.new.machine r.2 first) in
    let last = c.put-4.ensures r.0 each.of_rest in
    let words = c.get.ensures ∙ ap (λ (ws : List ℕ). Some ws) (sym c.as_slice.ensures) in
    in_step _ c.args.self.now c.args.machine.now r.0 c.put-2.new.machine c.put-3.new.machine c.put-4.new.machine c.args.packed.machine c.args.packed.counting c.as_slice.result.now c.self.view_is
    r.1 words first next last

pub returns-clause-is : goal.returns-clause-is
returns-clause-is c = λ w packed shaped.
    let handled = c.handled_count-handled in
    let objects = c.object_count in
    let fits = room_taken c.args.room.now handled.result objects.result c.requires.room handled.ensures.few objects.ensures.few in
    let each = unpacks _ c.args.self.now c.args.machine.now w c.args.packed.machine c.args.packed.counting handled.result objects.result c.put.new.numbers c.self.view_is packed shaped
    handled.ensures.value objects.ensures.value (λ xs many tree. c.put.ensures.is xs (many ∙ sym fits) tree) in
    let first = c.put-2.ensures (assignments_in w) each.of_handled (sym shaped.alarms) (sym shaped.cyclics) (sym shaped.tasks) in
    let next = c.put-3.ensures (objects_of w) each.of_objects (alike_still c.args.machine.now w c.put-2.new.machine shaped first) in
    let last = c.put-4.ensures w each.of_rest in
    let words = c.get.ensures ∙ ap (λ (ws : List ℕ). Some ws) (sym c.as_slice.ensures) in
    whole _ c.args.self.now c.args.machine.now w c.put-2.new.machine c.put-3.new.machine c.put-4.new.machine c.put_words.new.self c.args.packed.machine c.args.packed.counting
    c.as_slice.result.now c.self.view_is packed shaped words first next last c.put_words.ensures
