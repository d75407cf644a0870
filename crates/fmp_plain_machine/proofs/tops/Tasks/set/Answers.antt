use Rattle.std.proofs.Common.{◌≡◌, None, refl, sym, ap, ◌∙◌}
use Rattle.fmp_codes.specs.declared.numbers.Proc.{Proc}
use Rattle.fmp_rules.specs.World.{item, no_task}
use Rattle.fmp_plain_machine.specs.Tops.{is_task, rank_of}
use Rattle.fmp_plain_machine.proofs.Raised.{set_renewed}
use Rattle.fmp_plain_machine.proofs.SameTops.{same_tops}
use Rattle.fmp_plain_machine.proofs.tops.Tasks.set.Goals as goal

pub invariant_of-self-else-not-same : goal.invariant_of-self-else-not-same
invariant_of-self-else-not-same c =
    let records = c.self.inside.records.items in
    let was : c.record.result ≡ item no_task records c.args.t.number = rw (← c.self.view_is) at c.record.ensures in
    let same : rank_of (item no_task records c.args.t.number) ≡ rank_of c.args.changed = ap rank_of (sym was) ∙ c.if-not-same.ensures refl in
    rw c.write.ensures (same_tops records c.args.t c.args.changed same c.self.inside.ready.items c.self.inside.tops c.self.invariant)

pub invariant_of-self : goal.invariant_of-self
invariant_of-self c =
    let home : c.home_of-p.result ≡ (item no_task c.self.inside.records.items c.args.t.number).assigned = rw c.as_slice.ensures.value at c.home_of-p.ensures in
    set_renewed c.self.inside.records.items c.self.inside.ready.items c.args.t c.args.changed c.self.inside.tops c.self.invariant
    c.write.new.records.items c.renew.ensures.few c.write.ensures c.renew.new.tops c.is_top-was_top.result (c.is_top-was_top.ensures ∙ ap (λ (p : Proc). is_task c.args.t (item None c.self.inside.tops p.number)) home)
    c.home_of-p.result home c.renew.ensures.looked c.renew.ensures.raised
