use Rattle.std.proofs.Common.{◌+◌, ◌<◌, length, subst, arith}
use Rattle.std.specs.Prelude.{slice_index}
use Rattle.fmp_kernel_parts.specs.Lists.{list_at}
use Rattle.fmp_kernel_parts.specs.Rings.{IsSound}
use Rattle.fmp_kernel_parts.proofs.Having.{has_there}
use Rattle.fmp_kernel_parts.proofs.Soundness.{prev_in_ring, next_in_ring, ring_in, list_in, place_is, sound_out, lists_are, settled}
use Rattle.fmp_kernel_parts.proofs.links.Links.remove.Goals as goal

pub bounds-self-inside-ahead : goal.bounds-self-inside-ahead
bounds-self-inside-ahead g c =
    let n = c.self.inside.next in
    let s : IsSound g.row.ITEMS n c.self.inside.prev c.self.inside.place c.args.self.now = subst (IsSound g.row.ITEMS n c.self.inside.prev c.self.inside.place) c.self.view_is c.self.invariant.2 in
    let i = c.requires.somewhere.0 in
    let within : i < length c.args.self.now = list_in c.args.self.now i c.args.item c.requires.somewhere.1 in
    let low = ring_in s i (slice_index c.self.inside.prev c.args.item) within
    (prev_in_ring s i c.args.item within (has_there c.args.item (g.row.ITEMS + i) (list_at c.args.self.now i) c.requires.somewhere.1)) in
    omega (arith, low, s.next_count)

pub bounds-self-inside-following : goal.bounds-self-inside-following
bounds-self-inside-following g c =
    let n = c.self.inside.next in
    let s : IsSound g.row.ITEMS n c.self.inside.prev c.self.inside.place c.args.self.now = subst (IsSound g.row.ITEMS n c.self.inside.prev c.self.inside.place) c.self.view_is c.self.invariant.2 in
    let i = c.requires.somewhere.0 in
    let within : i < length c.args.self.now = list_in c.args.self.now i c.args.item c.requires.somewhere.1 in
    let low = ring_in s i (slice_index n c.args.item) within
    (next_in_ring s i c.args.item within (has_there c.args.item (g.row.ITEMS + i) (list_at c.args.self.now i) c.requires.somewhere.1)) in
    omega (arith, low, s.next_count)

pub invariant_of-self : goal.invariant_of-self
invariant_of-self g c =
    let n = c.self.inside.next in
    let s : IsSound g.row.ITEMS n c.self.inside.prev c.self.inside.place c.args.self.now = subst (IsSound g.row.ITEMS n c.self.inside.prev c.self.inside.place) c.self.view_is c.self.invariant.2 in
    let i = c.requires.somewhere.0 in (
      c.self.invariant.0,
      c.self.invariant.1,
      settled (sound_out g.row.ITEMS n c.self.inside.prev c.self.inside.place c.args.self.now i c.args.item s (place_is s i c.args.item c.requires.somewhere.1)),
    )

pub returns : goal.returns
returns g c =
    let n = c.self.inside.next in
    let s : IsSound g.row.ITEMS n c.self.inside.prev c.self.inside.place c.args.self.now = subst (IsSound g.row.ITEMS n c.self.inside.prev c.self.inside.place) c.self.view_is c.self.invariant.2 in
    let i = c.requires.somewhere.0 in
    lists_are (sound_out g.row.ITEMS n c.self.inside.prev c.self.inside.place c.args.self.now i c.args.item s (place_is s i c.args.item c.requires.somewhere.1))
