use Rattle.std.proofs.Common.{◌≡◌, ◌∙◌, List, ℤ, length, map, refl, ap, sym, subst, arith}
use Rattle.fmp_setup.specs.declared.setup.DataQueueSetup.{DataQueueSetup}
use Rattle.fmp_rules.specs.declared.machine.Eventflag.{Eventflag}
use Rattle.fmp_rules.specs.declared.machine.Pool.{Pool}
use Rattle.fmp_rules.specs.declared.machine.Semaphore.{Semaphore}
use Rattle.fmp_waitq.specs.Queue.{Waiter}
use Rattle.fmp_kernel_objects.specs.Rows.{semaphores_in, eventflags_in, queues_in, pools_in}
use Rattle.fmp_kernel_objects.specs.Objects.{objects_of, AreAlike, AllObjects}
use Rattle.fmp_kernel_order.specs.Queues.{Queues}
use Rattle.fmp_rules.specs.World.{World}
use Rattle.fmp_kernel_packed.specs.Kept.{KeptObjects}
use Rattle.fmp_kernel_packed.specs.Packed.{AreObjects}
use Rattle.fmp_kernel_packed.proofs.ObjectsLaws.{AreApart, objects_apart, objects_long}
use Rattle.fmp_kernel_packed.proofs.objects.Objects.put.Goals as goal
use Rattle.fmp_kernel_packed.proofs.objects.Objects.put.Goals.{After-self}

pub split_at-requires : goal.split_at-requires
split_at-requires c =
    let r = c.requires in
    let long = objects_long c.args.self.now r.0 c.args.numbers.now r.1 in
    let pools = c.pool_count.ensures.value ∙ ap (λ (a : AllObjects). length a.pools) c.resources.ensures ∙ r.2.pools in
    omega (arith, long, pools)

pub split_at-requires-2 : goal.split_at-requires-2
split_at-requires-2 c =
    let r = c.requires in
    let long = objects_long c.args.self.now r.0 c.args.numbers.now r.1 in
    let pools = c.pool_count.ensures.value ∙ ap (λ (a : AllObjects). length a.pools) c.resources.ensures ∙ r.2.pools in
    let eventflags = c.eventflag_count.ensures.value ∙ ap (λ (a : AllObjects). length a.eventflags) c.resources-2.ensures ∙ r.2.eventflags in
    let left = c.split_at.ensures.back_len in
    omega (arith, long, pools, eventflags, left)

pub split_at-requires-3 : goal.split_at-requires-3
split_at-requires-3 c =
    let r = c.requires in
    let long = objects_long c.args.self.now r.0 c.args.numbers.now r.1 in
    let pools = c.pool_count.ensures.value ∙ ap (λ (a : AllObjects). length a.pools) c.resources.ensures ∙ r.2.pools in
    let eventflags = c.eventflag_count.ensures.value ∙ ap (λ (a : AllObjects). length a.eventflags) c.resources-2.ensures ∙ r.2.eventflags in
    let semaphores = c.semaphore_count.ensures.value ∙ ap (λ (a : AllObjects). length a.semaphores) c.resources-3.ensures ∙ r.2.semaphores in
    let left = c.split_at.ensures.back_len in
    let rest = c.split_at-2.ensures.back_len in
    omega (arith, long, pools, eventflags, semaphores, left, rest)

module _ (c : After-self) where
  pools_counted : length c.split_at.result.0.now ≡ length c.args.machine.now.pools
  pools_counted = c.split_at.ensures.front_len ∙ c.pool_count.ensures.value ∙ ap (λ (a : AllObjects). length a.pools) c.resources.ensures

  eventflags_counted : length c.split_at-2.result.0.now ≡ length c.args.machine.now.eventflags
  eventflags_counted = c.split_at-2.ensures.front_len ∙ c.eventflag_count.ensures.value ∙ ap (λ (a : AllObjects). length a.eventflags) c.resources-2.ensures

  semaphores_counted : length c.split_at-3.result.0.now ≡ length c.args.machine.now.semaphores
  semaphores_counted = c.split_at-3.ensures.front_len ∙ c.semaphore_count.ensures.value ∙ ap (λ (a : AllObjects). length a.semaphores) c.resources-3.ensures

  -- the parts are the numbers of each kind
  apart : (a : AllObjects) → AreObjects c.args.self.now a c.args.numbers.now → AreAlike (objects_of c.args.machine.now) a → AreApart (record {
    semaphores = c.self.inside.semaphores;
    eventflags = c.self.inside.eventflags;
    data_queues = c.self.inside.data_queues;
    pools = c.self.inside.pools;
  }) a c.split_at.result.0.now c.split_at-2.result.0.now c.split_at-3.result.0.now c.split_at-3.result.1.now
  apart a are alike =
      objects_apart _ a c.args.numbers.now c.split_at.result.0.now c.split_at.result.1.now c.split_at-2.result.0.now c.split_at-2.result.1.now c.split_at-3.result.0.now
      c.split_at-3.result.1.now (subst (λ (k : KeptObjects). AreObjects k a c.args.numbers.now) (sym c.self.view_is) are) c.split_at.ensures.by_index.0 c.split_at-2.ensures.by_index.0
      c.split_at-3.ensures.by_index.0 (pools_counted ∙ alike.pools) (eventflags_counted ∙ alike.eventflags) (semaphores_counted ∙ alike.semaphores)

pub become_pools-requires : goal.become_pools-requires
become_pools-requires c =
    let r = c.requires in
    let split = (goal.at.become_pools-requires c).After-self in record {
      long = pools_counted split;
      kept = (pools_in r.0, (apart split r.0 r.1 r.2).of_pools);
    }

pub become_eventflags-requires : goal.become_eventflags-requires
become_eventflags-requires c =
    let r = c.requires in
    let split = (goal.at.become_eventflags-requires c).After-self in
    let each = apart split r.0 r.1 r.2 in
    let first = c.become_pools.ensures (pools_in r.0) each.of_pools in record {
      long = eventflags_counted split ∙ ap (λ (w : World Queues). length w.eventflags) (sym first);
      kept = (eventflags_in r.0, each.of_eventflags);
    }

pub become_semaphores-requires : goal.become_semaphores-requires
become_semaphores-requires c =
    let r = c.requires in
    let split = (goal.at.become_semaphores-requires c).After-self in
    let each = apart split r.0 r.1 r.2 in
    let first = c.become_pools.ensures (pools_in r.0) each.of_pools in
    let next = c.become_eventflags.ensures (eventflags_in r.0) each.of_eventflags in record {
      long = semaphores_counted split ∙ ap (λ (w : World Queues). length w.semaphores) (sym first) ∙ ap (λ (w : World Queues). length w.semaphores) (sym next);
      kept = (semaphores_in r.0, each.of_semaphores);
    }

pub become_data_queues-requires : goal.become_data_queues-requires
become_data_queues-requires c =
    let r = c.requires in
    let each = apart (goal.at.become_data_queues-requires c).After-self r.0 r.1 r.2 in
    let first = ap (λ (w : World Queues). w.data_queues) (c.become_pools.ensures (pools_in r.0) each.of_pools) in
    let next = ap (λ (w : World Queues). w.data_queues) (c.become_eventflags.ensures (eventflags_in r.0) each.of_eventflags) in
    let last = ap (λ (w : World Queues). w.data_queues) (c.become_semaphores.ensures (semaphores_in r.0) each.of_semaphores) in
    let setups = r.1.columns.data_queues in
    let same = r.2.data_queues in record { kept = (queues_in r.0, each.of_data_queues, setups ∙ sym same ∙ sym first ∙ sym next ∙ sym last) }

-- what has become as its columns tell has become the same objects
whole : (w : World Queues) (a : AllObjects) (ps : List Pool) (fs : List Eventflag) (ss : List Semaphore) (ds : List DataQueueSetup) (vs : List (List ℤ))
    (of_ps of_fs of_ss senders receivers : List (List Waiter)) → ps ≡ a.pools → fs ≡ a.eventflags → ss ≡ a.semaphores → ds ≡ a.data_queues → vs ≡ a.contents →
    of_ps ≡ a.waits.pools → of_fs ≡ a.waits.eventflags → of_ss ≡ a.waits.semaphores → senders ≡ a.waits.senders → receivers ≡ a.waits.receivers →
    ◌≡◌ {A = World Queues}
    (record w {
      pools = ps;
      eventflags = fs;
      semaphores = ss;
      data_queues = ds;
      contents = vs;
      order = record w.order { waits = record { semaphores = of_ss; eventflags = of_fs; senders = senders; receivers = receivers; pools = of_ps } };
    })
    (record w {
      pools = a.pools;
      eventflags = a.eventflags;
      semaphores = a.semaphores;
      data_queues = a.data_queues;
      contents = a.contents;
      order = record w.order { waits = a.waits };
    })
whole w a ps fs ss ds vs of_ps of_fs of_ss senders receivers p f s d v wp wf ws es rs = rw (p, f, s, d, v, wp, wf, ws, es, rs) refl

pub returns : goal.returns
returns c = λ a are alike.
    let each = apart (goal.at.returns c).After-self a are alike in
    let first = c.become_pools.ensures (pools_in a) each.of_pools in
    let next = c.become_eventflags.ensures (eventflags_in a) each.of_eventflags in
    let then = c.become_semaphores.ensures (semaphores_in a) each.of_semaphores in
    let last = c.become_data_queues.ensures (queues_in a) each.of_data_queues in
    let columns = are.columns in
    let to_eventflags = λ (w : World Queues). record w {
      eventflags = map (λ f. f.eventflag) (eventflags_in a);
      order = record w.order { waits = record w.order.waits { eventflags = map (λ f. f.waiters) (eventflags_in a) } };
    } in
    let to_semaphores = λ (w : World Queues). record w {
      semaphores = map (λ s. s.semaphore) (semaphores_in a);
      order = record w.order { waits = record w.order.waits { semaphores = map (λ s. s.waiters) (semaphores_in a) } };
    } in
    let to_data_queues = λ (w : World Queues). record w {
      contents = map (λ q. q.values) (queues_in a);
      order = record w.order { waits = record w.order.waits { senders = map (λ q. q.senders) (queues_in a); receivers = map (λ q. q.receivers) (queues_in a) } };
    } in
    last ∙ ap to_data_queues (then ∙ ap to_semaphores (next ∙ ap to_eventflags first)) ∙
    whole c.args.machine.now a (map (λ m. m.pool) (pools_in a)) (map (λ f. f.eventflag) (eventflags_in a)) (map (λ s. s.semaphore) (semaphores_in a)) c.args.machine.now.data_queues
    (map (λ q. q.values) (queues_in a)) (map (λ m. m.waiters) (pools_in a)) (map (λ f. f.waiters) (eventflags_in a)) (map (λ s. s.waiters) (semaphores_in a))
    (map (λ q. q.senders) (queues_in a)) (map (λ q. q.receivers) (queues_in a)) columns.pools columns.eventflags columns.semaphores alike.data_queues columns.contents
    columns.pool_waiters columns.eventflag_waiters columns.semaphore_waiters columns.senders columns.receivers
