use Rattle.std.proofs.Common.{◌≡◌, sym, ap, ◌∙◌, subst}
use Rattle.fmp_kernel_parts.specs.Rings.{IsSound}
use Rattle.fmp_kernel_parts.specs.Digests.{added_item}
use Rattle.fmp_kernel_parts.proofs.Digests.{item_added_as, item_left, items_none, items_more}
use Rattle.fmp_kernel_parts.proofs.links.LinksToDigest.add_to.Goals as goal
use Rattle.fmp_kernel_parts.proofs.links.LinksToDigest.add_to.Goals.{then-self-item-ne0, else-self-item-ne0}

pub loop-item-init : goal.loop-item-init
loop-item-init g c = sym (items_none g.row.ITEMS c.args.self.now c.args.digest.now)

pub loop-item-preserved : goal.loop-item-preserved
loop-item-preserved g c =
    let t = c.loop-item.item in
    let s : IsSound g.row.ITEMS c.self.inside.next c.self.inside.prev c.self.inside.place c.args.self.now =
    subst (IsSound g.row.ITEMS c.self.inside.next c.self.inside.prev c.self.inside.place) c.self.view_is c.self.invariant.2 in
    let told : c.if-self-item-ne0.digest ≡ added_item g.row.ITEMS c.args.self.now t c.loop-item.digest =
    elim c.if-self-item-ne0.branch [
      | then-self-item-ne0 w ↦ w.digest-is ∙ w.add.ensures
          ∙ item_added_as s t c.loop-item.digest w.from.result w.from-then-self-item-ne0.result w.from.ensures w.from-then-self-item-ne0.ensures w.if-self-item-ne0.true
      | else-self-item-ne0 w ↦ w.digest-is ∙ sym (item_left s t c.loop-item.digest w.if-self-item-ne0.false)
    ] in
    told ∙ ap (added_item g.row.ITEMS c.args.self.now t) c.loop-item.invariant ∙ sym (items_more g.row.ITEMS c.args.self.now t c.args.digest.now)
