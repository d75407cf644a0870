use Rattle.std.proofs.Common.{◌≡◌, None, ap, ◌∙◌}
use Rattle.fmp_codes.specs.declared.numbers.Proc.{Proc}
use Rattle.fmp_rules.specs.World.{item, no_task}
use Rattle.fmp_plain_machine.specs.Tops.{is_task}
use Rattle.fmp_plain_machine.proofs.Raised.{put_renewed}
use Rattle.fmp_plain_machine.proofs.tops.Tasks.put.Goals as goal

pub invariant_of-self : goal.invariant_of-self
invariant_of-self c =
    let home : c.home_of-p.result ≡ (item no_task c.self.inside.records.items c.args.t.number).assigned = rw c.as_slice.ensures.value at c.home_of-p.ensures in
    put_renewed c.self.inside.records.items c.self.inside.ready.items c.args.t c.args.changed c.self.inside.tops c.self.invariant
    c.write.new.records.items c.renew.ensures.few c.write.ensures c.renew.new.tops c.is_top-was_top.result (c.is_top-was_top.ensures ∙ ap (λ (p : Proc). is_task c.args.t (item None c.self.inside.tops p.number)) home)
    c.write_number.new.ready.items c.args.number c.write_number.ensures c.home_of-p.result home c.renew.ensures.looked c.renew.ensures.raised
