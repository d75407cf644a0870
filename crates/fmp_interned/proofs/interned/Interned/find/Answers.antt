use Rattle.std.proofs.Common.{◌≡◌, ◌∙◌, ◌≤◌, ◌%◌, length, get_or, ap, subst, sym, arith}
use Rattle.std.specs.Prelude.{List}
use Rattle.std.proofs.lemmas.List.{get_or_read}
use Rattle.fmp_interned.specs.Tables.{slot_at}
use Rattle.fmp_interned.specs.Values.{IsNew}
use Rattle.fmp_interned.proofs.Values.{not_found}
use Rattle.fmp_interned.proofs.interned.Interned.find.Goals as goal

pub returns-then-number-eq-FREE : goal.returns-then-number-eq-FREE
returns-then-number-eq-FREE g c =
    let s = c.self.inside in
    let slots = c.len-slots.ensures in
    let turn = c.loop-turn.turn in
    let end = c.loop-turn.auto.turn-end in
    let within : turn ≤ length s.slots.items = omega (arith, slots, end) in
    subst (λ (vs : List g.row.V.Denot). IsNew vs c.args.value.now) c.self.view_is
    (not_found g.V.Value.hashed s.values.items s.slots.items c.args.value.now c.hash-hash.result turn c.self.invariant.holds.met c.hash-hash.ensures within c.loop-turn.invariant
    (λ next.
    let long = s.slots.ok.0 in
    let of : c.len-slots.result ≡ length s.slots.items = omega (arith, slots, long) in
    let low = c.slot.ensures.within in
    let at : slot_at (c.hash-hash.result % length s.slots.items) turn (length s.slots.items) ≡ c.slot.result = ap (λ n. slot_at (c.hash-hash.result % n) turn n) (sym of) ∙ sym c.slot.ensures.is in
    next.1 (ap (λ i. get_or s.slots.items i 0) at
    ∙ sym (get_or_read s.slots.items c.slot.result c.index-number.result.now (omega (arith, low, of)) c.index-number.ensures 0)
    ∙ c.if-number-eq-FREE.true)))

pub returns : goal.returns
returns g c =
    let s = c.self.inside in
    let slots = c.len-slots.ensures in
    let turn = c.loop-turn.turn in
    let end = c.loop-turn.auto.turn-end in
    let past = c.loop-turn-test.false in
    let within : turn ≤ length s.slots.items = omega (arith, slots, end) in
    subst (λ (vs : List g.row.V.Denot). IsNew vs c.args.value.now) c.self.view_is
    (not_found g.V.Value.hashed s.values.items s.slots.items c.args.value.now c.hash-hash.result turn c.self.invariant.holds.met c.hash-hash.ensures within c.loop-turn.invariant
    (λ next. let before = next.0 in absurd (omega (arith, before, past, slots))))
