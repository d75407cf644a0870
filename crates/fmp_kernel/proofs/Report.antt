-- What an event leads to on lists, where it is known of the states with numbers for which they stand.
use Rattle.std.proofs.Common.{◌≡◌, ◌≤◌, false, length, sym, ap, subst, ◌∙◌}
use Rattle.fmp_codes.specs.declared.records.Event.{Event}
use Rattle.fmp_codes.specs.declared.records.Event.TheVariants as event
use Rattle.fmp_codes.specs.declared.records.Record.{Record}
use Rattle.fmp_rules.specs.World.{World, processor, is_held}
use Rattle.fmp_rules.specs.Arrivals.{State, numbered}
use Rattle.fmp_law_safety.specs.Runs.{processor_of}
use Rattle.fmp_law_safety.specs.Laws.{TakesRequest, RunsTop}
use Rattle.fmp_kernel_order.specs.Queues.{Queues, listed}
use Rattle.fmp_law_lists.specs.Stands.{Stands, with_order}
use Rattle.fmp_law_lists.proofs.SafeLists.{numbers_safe, tells_alike}

module _ (m n : State) (r : Record) (x y : Queues) where
  takes_as : (e : Event) → TakesRequest m e r n → TakesRequest (with_order m x) e r (with_order n y)
  takes_as (event.Ipi p) t = t
  takes_as (event.Tick p) t = t
  takes_as (event.Call p c) t = t

module _ (k l : World Queues) (m n : State) (h : Stands k m) (g : Stands l n) (e : Event) (r : Record) where
  pub takes_over : TakesRequest m e r n → TakesRequest k e r l
  takes_over t =
      subst (λ (w : World Queues). TakesRequest w e r l) (sym h.same)
      (subst (λ (v : World Queues). TakesRequest (with_order m k.order) e r v) (sym g.same) (takes_as m n r k.order l.order e t))

  pub runs_over : RunsTop numbered m e r n → RunsTop listed k e r l
  runs_over t = λ safe there settles free.
      let p = processor_of e in
      let on = subst (λ (w : World Queues). p.number ≤ length w.processors) h.same there in
      let idle = subst (λ (v : World Queues). is_held v p ≡ false) g.same free in
      let did = t (numbers_safe k m h safe) on settles idle in (
        ap (λ (v : World Queues). (processor v p).running) g.same ∙ did.0 ∙ sym ((tells_alike l n g).top p),
        ap (λ (v : World Queues). (processor v p).latch) g.same ∙ did.1,
      )
