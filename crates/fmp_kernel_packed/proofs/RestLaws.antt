-- The numbers of spin locks, processors and ready queues: each kernel has one list of them, which is that of no other.
use Rattle.std.proofs.Common.{◌≡◌, ℕ, List, ap}
use Rattle.fmp_interned.proofs.Numbers.{number_stays}
use Rattle.fmp_kernel_machine.specs.Parts.{dispatching_in}
use Rattle.fmp_kernel_order.specs.Queues.{Queues}
use Rattle.fmp_kernel_packed.specs.Kept.{KeptRest, IsRestBefore, IsRestOnce}
use Rattle.fmp_kernel_packed.specs.Packed.{IsRest}
use Rattle.fmp_ready.specs.Queues.{PriorityLists}
use Rattle.fmp_rules.specs.World.{World}

pub rest_one : (kept : KeptRest) (w : World Queues) (ns ms : List ℕ) → IsRestOnce kept → IsRest kept w ns → IsRest kept w ms → ns ≡ ms
rest_one kept w ns ms once one two =
    let spins : one.spins ≡ two.spins = once.spins one.spins two.spins w.holders one.of_spins two.of_spins in
    let dispatch : one.dispatch ≡ two.dispatch = once.dispatch one.dispatch two.dispatch (dispatching_in w) one.of_dispatch two.of_dispatch in
    let ready : one.ready ≡ two.ready = once.ready one.ready two.ready (record { lists = w.order.ready }) one.of_ready two.of_ready in
    cc

pub rest_only : (kept : KeptRest) (v w : World Queues) (ns : List ℕ) → IsRest kept v ns → IsRest kept w ns →
    (v.holders ≡ w.holders) × (v.processors ≡ w.processors) × (v.due ≡ w.due) × (v.order.ready ≡ w.order.ready)
rest_only kept v w ns one two =
    let dispatch : dispatching_in v ≡ dispatching_in w = cc in
    let lists : PriorityLists = record { lists = v.order.ready } in
    let others : PriorityLists = record { lists = w.order.ready } in
    let ready : lists ≡ others = cc in
    (cc, ap (λ d. d.processors) dispatch, ap (λ d. d.due) dispatch, ap (λ r. r.lists) ready)

pub rest_stays : (kept more : KeptRest) (w : World Queues) (ns : List ℕ) → IsRestBefore kept more → IsRest kept w ns → IsRest more w ns
rest_stays kept more w ns before are = record {
  spins = are.spins;
  dispatch = are.dispatch;
  ready = are.ready;
  are = are.are;
  of_spins = number_stays kept.spins more.spins are.spins w.holders before.spins are.of_spins;
  of_dispatch = number_stays kept.dispatch more.dispatch are.dispatch (dispatching_in w) before.dispatch are.of_dispatch;
  of_ready = number_stays kept.ready more.ready are.ready (record { lists = w.order.ready }) before.ready are.of_ready;
}
