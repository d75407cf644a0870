use Rattle.std.proofs.Common.{◌<◌, length, subst, arith}
use Rattle.std.specs.Prelude.{slice_index}
use Rattle.fmp_kernel_parts.specs.Rings.{IsSound}
use Rattle.fmp_kernel_parts.proofs.Soundness.{prev_in_ring, ring_in, place_none, head_out, sound_put, lists_are, settled}
use Rattle.fmp_kernel_parts.proofs.links.Links.put.Goals as goal

pub bounds-self-inside-ahead : goal.bounds-self-inside-ahead
bounds-self-inside-ahead g c =
    let n = c.self.inside.next in
    let s : IsSound g.row.ITEMS n c.self.inside.prev c.self.inside.place c.args.self.now = subst (IsSound g.row.ITEMS n c.self.inside.prev c.self.inside.place) c.self.view_is c.self.invariant.2 in
    let within : c.args.list < length c.args.self.now = omega (arith, s.next_count) in
    let low = ring_in s c.args.list (slice_index c.self.inside.prev c.args.following) within (prev_in_ring s c.args.list c.args.following within c.requires.after_in) in
    omega (arith, low, s.next_count)

pub invariant_of-self : goal.invariant_of-self
invariant_of-self g c =
    let n = c.self.inside.next in
    let s : IsSound g.row.ITEMS n c.self.inside.prev c.self.inside.place c.args.self.now = subst (IsSound g.row.ITEMS n c.self.inside.prev c.self.inside.place) c.self.view_is c.self.invariant.2 in
    let within : c.args.list < length c.args.self.now = omega (arith, s.next_count) in (
      c.self.invariant.0,
      c.self.invariant.1,
      settled (sound_put g.row.ITEMS n c.self.inside.prev c.self.inside.place c.args.self.now c.args.list c.args.following c.args.item s within c.requires.item_in
          (place_none s c.args.item c.requires.nowhere) c.requires.after_in),
    )

pub returns-clause-lists : goal.returns-clause-lists
returns-clause-lists g c =
    let n = c.self.inside.next in
    let s : IsSound g.row.ITEMS n c.self.inside.prev c.self.inside.place c.args.self.now = subst (IsSound g.row.ITEMS n c.self.inside.prev c.self.inside.place) c.self.view_is c.self.invariant.2 in
    let within : c.args.list < length c.args.self.now = omega (arith, s.next_count) in
    lists_are (sound_put g.row.ITEMS n c.self.inside.prev c.self.inside.place c.args.self.now c.args.list c.args.following c.args.item s within c.requires.item_in
    (place_none s c.args.item c.requires.nowhere) c.requires.after_in)

pub returns-clause-head_out : goal.returns-clause-head_out
returns-clause-head_out g c =
    let s : IsSound g.row.ITEMS c.self.inside.next c.self.inside.prev c.self.inside.place c.args.self.now =
    subst (IsSound g.row.ITEMS c.self.inside.next c.self.inside.prev c.self.inside.place) c.self.view_is c.self.invariant.2 in
    head_out s c.args.list
