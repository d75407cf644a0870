use Rattle.std.proofs.Common.{◌≡◌, ◌∙◌, ◌+◌, ap, List, ◌∷◌, ◌++◌, [], take, subst, sym}
use Rattle.std.proofs.lemmas.List.{take_more}
use Rattle.fmp_interned.specs.Parts.{AddsNumbers}
use Rattle.fmp_interned.proofs.Numbers.{begins_through}
use Rattle.fmp_interned.proofs.Parts.{added_next}
use Rattle.fmp_interned.proofs.part.number_each.Goals as goal

pub loop-value-preserved : goal.loop-value-preserved
loop-value-preserved g c =
    let V = g.row.V.Denot in
    let inv = c.loop-value.invariant in
    let kept = c.loop-value.kept in
    let more = c.number_of_near.new.self in
    let begins = c.number_of_near.ensures.kept in
    let at = c.loop-value.value-index in
    let values = c.args.values.now in
    let v = c.value-item.result in
    let whole : take at values ++ v ∷ [] ≡ take (at + 1) values =
    ap (λ (x : V). take at values ++ x ∷ []) c.value-item.is ∙ sym (take_more values at v c.loop-value-test.true) in record {
      added = subst (λ (vs : List V). AddsNumbers more vs c.args.numbers.now c.push.new.self) whole
          (added_next kept more (take at values) c.args.numbers.now c.loop-value.numbers c.push.new.self c.in_ok-number.number v inv.added begins (c.in_ok-number.ensures.is) (c.in_ok-push.ensures.added));
      kept = begins_through c.args.kept.now kept more inv.kept begins;
    }
