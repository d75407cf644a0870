use Rattle.std.proofs.Common.{◌≡◌, ◌∙◌, ◌+◌, ap, List, ◌∷◌, ◌++◌, [], take, subst, sym}
use Rattle.std.proofs.lemmas.List.{take_more}
use Rattle.fmp_interned.specs.Parts.{AddsNumbers}
use Rattle.fmp_interned.proofs.Numbers.{begins_through}
use Rattle.fmp_interned.proofs.Parts.{added_next}
use Rattle.fmp_kernel_same.proofs.lone.number_records.Goals as goal

pub loop-record-preserved : goal.loop-record-preserved
loop-record-preserved g c =
    let T = g.row.T.Denot in
    let inv = c.loop-record.invariant in
    let kept = c.loop-record.kept in
    let more = c.number_of_near.new.self in
    let begins = c.number_of_near.ensures.kept in
    let at = c.loop-record.record-index in
    let records = c.args.records.now in
    let v = c.record-item.result in
    let whole : take at records ++ v ∷ [] ≡ take (at + 1) records =
    ap (λ (x : T). take at records ++ x ∷ []) c.record-item.is ∙ sym (take_more records at v c.loop-record-test.true) in record {
      added = subst (λ (rs : List T). AddsNumbers more rs c.args.numbers.now c.push.new.self) whole
          (added_next kept more (take at records) c.args.numbers.now c.loop-record.numbers c.push.new.self c.in_ok-number.number v inv.added begins (c.in_ok-number.ensures.is) (c.in_ok-push.ensures.added));
      kept = begins_through c.args.kept.now kept more inv.kept begins;
    }
