use Rattle.std.proofs.Common.{◌≡◌, ◌<◌, ◌+◌, arith, [], length, map, get_or}
use Rattle.fmp_names.specs.Names.{lists_of, texts}
use Rattle.fmp_names.proofs.Fronts.{front_added, fronts_extended, names_at}
use Rattle.fmp_names.proofs.Valid.{absent_object, object_kept, function_kept, most_of-le}
use Rattle.fmp_names.proofs.names.Names.add.Goals as goal

pub insert_object-requires-clause-new : goal.insert_object-requires-clause-new
insert_object-requires-clause-new c =
    absent_object (lists_of c.self.inside.processors c.self.inside.objects c.self.inside.functions c.self.inside.defined) c.args.name.now c.self.invariant.0 c.args.kind c.in-Object.kind c.in_ok-copy.copy.items c.place-place.result c.in-Object.is c.in_ok-copy.ensures.items c.place-place.ensures.value
    (rw (← c.self.view_is) at c.requires.new)

pub invariant_of-self-in-Function : goal.invariant_of-self-in-Function
invariant_of-self-in-Function c = (
  function_kept (lists_of c.self.inside.processors c.self.inside.objects c.self.inside.functions c.self.inside.defined) c.args.name.now c.self.invariant.0 c.args.kind c.in_ok-copy.copy.items c.in_ok-copy.ensures.items c.requires.name c.requires.free (rw (← c.self.view_is) at c.requires.new) (rw (← c.self.view_is) at c.requires.room)
      c.insert_name.result _ c.in-Function.is c.insert_name.ensures.ok c.insert_name.ensures.err,
  c.self.invariant.1,
)

pub invariant_of-self : goal.invariant_of-self
invariant_of-self c = (c.self.invariant.0, fronts_extended _ _ _ c.self.invariant.1 c.prepare.ensures)

pub invariant_of-self-in_err-remember-in-Object : goal.invariant_of-self-in_err-remember-in-Object
invariant_of-self-in_err-remember-in-Object c = (c.self.invariant.0, fronts_extended _ _ _ c.self.invariant.1 c.prepare.ensures)

pub invariant_of-self-in_err-insert_object-in-Object : goal.invariant_of-self-in_err-insert_object-in-Object
invariant_of-self-in_err-insert_object-in-Object c = rw c.in_err-insert_object-in-Object.ensures.err (c.self.invariant.0, fronts_extended _ _ _ c.self.invariant.1 c.prepare.ensures)

pub invariant_of-self-in-Object : goal.invariant_of-self-in-Object
invariant_of-self-in-Object c =
    let valid = object_kept (lists_of c.self.inside.processors c.self.inside.objects c.self.inside.functions c.self.inside.defined) c.args.name.now c.self.invariant.0 c.args.kind c.in_ok-copy.copy.items c.in_ok-copy.ensures.items c.requires.name c.requires.free (rw (← c.self.view_is) at c.requires.new) (rw (← c.self.view_is) at c.requires.room)
    c.insert_object.result c.in-Object.kind c.place-place.result _ c.in-Object.is c.place-place.ensures.value c.insert_object.ensures.ok c.insert_object.ensures.err in
    let placed = c.place-place.ensures in
    let kinds = c.self.invariant.0.kinds in
    let within : c.place-place.result < length (map texts c.self.inside.objects) = omega (arith, kinds, placed.within) in
    let names = names_at c.self.inside.objects c.place-place.result c.index-self-place.result within c.index-self-place.is in
    let long : c.len-number.result + 1 ≡ length (get_or (map texts c.self.inside.objects) c.place-place.result []) + 1 = let counted = rw (← c.index-self-place.is) at c.len-number.ensures in omega (arith, names, counted) in
    let limit = rw (← placed.value) at (c.self.invariant.0.limits c.in-Object.kind) in
    let copied = c.in_ok-copy.ensures.items in (
      valid,
      rw (c.in_ok-insert_object-in-Object.ensures.ok, copied)
          (front_added (map texts c.self.inside.objects) c.place-place.result (c.len-number.result + 1) c.args.name.now _ _ within (omega (arith, long, limit, most_of-le c.in-Object.kind)) long (fronts_extended _ _ _ c.self.invariant.1 c.prepare.ensures) c.set.ensures),
    )
