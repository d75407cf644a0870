-- What every event keeps: how many objects there are of each kind, and that what is due is a handler.
use Rattle.std.proofs.Common.{◌≡◌, ℕ, ◌-◌, ℤ, [], ◌∷◌, ◌++◌, length, refl, ap, Option, Some, None}
use Rattle.std.specs.Prelude.{if◌then◌else◌, unwrap_or}
use Rattle.std.proofs.lemmas.Bool.{cond_both}
use Rattle.std.proofs.lemmas.List.{length-set}
use Rattle.fmp_codes.specs.Numbers.{as_object}
use Rattle.fmp_codes.specs.declared.numbers.Proc.{Proc}
use Rattle.fmp_codes.specs.declared.numbers.Task.{Task}
use Rattle.fmp_codes.specs.declared.numbers.Object.{Object}
use Rattle.fmp_codes.specs.declared.calls.Call.{Call}
use Rattle.fmp_codes.specs.declared.calls.Call.TheVariants as call
use Rattle.fmp_codes.specs.declared.calls.SyncCall.TheVariants as sync
use Rattle.fmp_codes.specs.declared.calls.BufferCall.{BufferCall}
use Rattle.fmp_codes.specs.declared.calls.BufferCall.TheVariants as buffer
use Rattle.fmp_codes.specs.declared.records.Event.{Event}
use Rattle.fmp_rules.specs.Effects.{Effect}
use Rattle.fmp_rules.specs.declared.machine.Wait.TheVariants as wait
use Rattle.fmp_rules.specs.World.{World}
use Rattle.fmp_rules.specs.Objects.{values}
use Rattle.fmp_rules.specs.Ordering.{Ordering}
use Rattle.fmp_rules.specs.Rows.{called, done_or_wait}
use Rattle.fmp_rules.specs.Arguments.{object_named, is_zero, forever}
use Rattle.fmp_rules.specs.BufferCalls.{receiver, sender, can_send, sent, forced, can_receive, received, tsnd_dtq, psnd_dtq, fsnd_dtq, trcv_dtq, prcv_dtq, buffer_row}
use Rattle.fmp_rules.specs.Tick.{tick}
use Rattle.fmp_rules.specs.Step.{row_of, step}
use Rattle.fmp_law_balance.proofs.Called.{either_way}
use Rattle.fmp_law_balance.proofs.Leaving.{AreHandlers}
use Rattle.fmp_law_balance.proofs.LeavesCalls.{leaves_call}
use Rattle.fmp_law_balance.proofs.Ticks.{leaves_tick}
use Rattle.fmp_law_balance.proofs.Steps.{by_step}
use Rattle.fmp_codes.specs.declared.calls.SyncCall.{SyncCall}
use Rattle.fmp_rules.specs.declared.machine.QueueKind.TheVariants as kind
use Rattle.fmp_rules.specs.World.{first}
use Rattle.fmp_rules.specs.Objects.{semaphore, free_block}
use Rattle.fmp_rules.specs.Ordering.{queue}
use Rattle.fmp_rules.specs.SyncCalls.{signal, counted, sig_sem, twai_sem, pol_sem, sync_row}
use Rattle.fmp_rules.specs.BufferCalls.{given, returned, block_of, tget_mpf, pget_mpf, rel_mpf}
use Rattle.std.specs.Prelude.{◌≤◌, nat_lt, is_some}

module _ {Q : Type 0} (k : Ordering Q) (w : World Q) where
  pub record Shape (v : World Q) : Type 0 where
    pub semaphores : length v.semaphores ≡ length w.semaphores
    pub pools : length v.pools ≡ length w.pools
    pub data_queues : v.data_queues ≡ w.data_queues
    pub contents : length v.contents ≡ length w.contents
    pub due : AreHandlers w.due → AreHandlers v.due

  module _ (p : Proc) where
    -- semaphores

    abbrev Units : World Q × Effect → Type 0
    Units did = length did.0.semaphores ≡ length w.semaphores

    units_signal : (s : Object) (t : Option Task) → Units (signal k w s t)
    units_signal s None = length-set w.semaphores (s.number - 1) _
    units_signal s (Some t) = refl

    units_take : (s : Object) (timeout : ℤ) → Units (done_or_wait k w p (nat_lt 0 (semaphore w s).count) (counted w s) (wait.Semaphore s) timeout)
    units_take s timeout =
        cond_both (nat_lt 0 (semaphore w s).count) _ _ Units (λ _. length-set w.semaphores (s.number - 1) _) (λ _. cond_both (is_zero timeout) _ _ Units (λ _. refl) (λ _. refl))

    abbrev semaphore_of : ℤ → Object
    semaphore_of id = unwrap_or (object_named w.semaphores id) (as_object 1)

    units_sync : (c : SyncCall) → Units (called w p (sync_row k w p c))
    unfolding sig_sem twai_sem pol_sem
    units_sync (sync.SigSem id) =
        either_way w p Units (sync_row k w p (sync.SigSem id)) (λ c. refl) (units_signal (semaphore_of id) (first (queue k w kind.Semaphore (semaphore_of id))))
    units_sync (sync.IsigSem id) =
        either_way w p Units (sync_row k w p (sync.IsigSem id)) (λ c. refl) (units_signal (semaphore_of id) (first (queue k w kind.Semaphore (semaphore_of id))))
    units_sync (sync.WaiSem id) = either_way w p Units (sync_row k w p (sync.WaiSem id)) (λ c. refl) (units_take (semaphore_of id) forever)
    units_sync (sync.TwaiSem id timeout) = either_way w p Units (sync_row k w p (sync.TwaiSem id timeout)) (λ c. refl) (units_take (semaphore_of id) timeout)
    units_sync (sync.PolSem id) = either_way w p Units (sync_row k w p (sync.PolSem id)) (λ c. refl) (length-set w.semaphores _ _)
    units_sync c = ap length (leaves_call k w p (call.Sync c)).semaphores

    -- pools

    abbrev Blocks : World Q × Effect → Type 0
    Blocks did = length did.0.pools ≡ length w.pools

    blocks_get : (m : Object) (timeout : ℤ) → Blocks (done_or_wait k w p (is_some (free_block w m)) (given w m (unwrap_or (free_block w m) 0)) (wait.Pool m) timeout)
    blocks_get m timeout =
        cond_both (is_some (free_block w m)) _ _ Blocks (λ _. length-set w.pools (m.number - 1) _) (λ _. cond_both (is_zero timeout) _ _ Blocks (λ _. refl) (λ _. refl))

    blocks_return : (m : Object) (b : ℕ) (t : Option Task) → Blocks (returned k w m b t)
    blocks_return m b None = length-set w.pools (m.number - 1) _
    blocks_return m b (Some t) = refl

    abbrev pool_of : ℤ → Object
    pool_of id = unwrap_or (object_named w.pools id) (as_object 1)

    blocks_buffer : (c : BufferCall) → Blocks (called w p (buffer_row k w p c))
    unfolding tget_mpf pget_mpf rel_mpf
    blocks_buffer (buffer.GetMpf id) = either_way w p Blocks (buffer_row k w p (buffer.GetMpf id)) (λ c. refl) (blocks_get (pool_of id) forever)
    blocks_buffer (buffer.TgetMpf id timeout) = either_way w p Blocks (buffer_row k w p (buffer.TgetMpf id timeout)) (λ c. refl) (blocks_get (pool_of id) timeout)
    blocks_buffer (buffer.PgetMpf id) = either_way w p Blocks (buffer_row k w p (buffer.PgetMpf id)) (λ c. refl) (length-set w.pools _ _)
    blocks_buffer (buffer.RelMpf id b) =
        either_way w p Blocks (buffer_row k w p (buffer.RelMpf id b)) (λ c. refl) (blocks_return (pool_of id) (block_of b) (first (queue k w kind.Pool (pool_of id))))
    blocks_buffer c = ap length (leaves_call k w p (call.Buffer c)).pools

    -- data queues

    abbrev Count : World Q × Effect → Type 0
    Count did = length did.0.contents ≡ length w.contents

    count_sent : (d : Object) (x : ℤ) (t : Option Task) → Count (sent k w d x t)
    count_sent d x None = length-set w.contents (d.number - 1) (values w d ++ x ∷ [])
    count_sent d x (Some t) = refl

    count_received : (d : Object) (t : Option Task) → Count (received k w d t)
    count_received d None = length-set w.contents (d.number - 1) _
    count_received d (Some t) = length-set w.contents (d.number - 1) _

    count_send : (d : Object) (x timeout : ℤ) → Count (done_or_wait k w p (can_send k w d) (sent k w d x (receiver k w d)) (wait.Send d x) timeout)
    count_send d x timeout =
        cond_both (can_send k w d) _ _ Count (λ _. count_sent d x (receiver k w d)) (λ _. cond_both (is_zero timeout) _ _ Count (λ _. refl) (λ _. refl))

    count_force : (d : Object) (x : ℤ) → Count (if can_send k w d then sent k w d x (receiver k w d) else forced w d x)
    count_force d x = cond_both (can_send k w d) _ _ Count (λ _. count_sent d x (receiver k w d)) (λ _. length-set w.contents (d.number - 1) _)

    count_receive : (d : Object) (timeout : ℤ) → Count (done_or_wait k w p (can_receive k w d) (received k w d (sender k w d)) (wait.Receive d) timeout)
    count_receive d timeout =
        cond_both (can_receive k w d) _ _ Count (λ _. count_received d (sender k w d)) (λ _. cond_both (is_zero timeout) _ _ Count (λ _. refl) (λ _. refl))

    abbrev named_by : ℤ → Object
    named_by id = unwrap_or (object_named w.data_queues id) (as_object 1)

    count_buffer : (c : BufferCall) → Count (called w p (buffer_row k w p c))
    unfolding tsnd_dtq psnd_dtq fsnd_dtq trcv_dtq prcv_dtq
    count_buffer (buffer.SndDtq id x) = either_way w p Count (buffer_row k w p (buffer.SndDtq id x)) (λ c. refl) (count_send (named_by id) x forever)
    count_buffer (buffer.TsndDtq id x timeout) = either_way w p Count (buffer_row k w p (buffer.TsndDtq id x timeout)) (λ c. refl) (count_send (named_by id) x timeout)
    count_buffer (buffer.PsndDtq id x) = either_way w p Count (buffer_row k w p (buffer.PsndDtq id x)) (λ c. refl) (count_sent (named_by id) x (receiver k w (named_by id)))
    count_buffer (buffer.IpsndDtq id x) = either_way w p Count (buffer_row k w p (buffer.IpsndDtq id x)) (λ c. refl) (count_sent (named_by id) x (receiver k w (named_by id)))
    count_buffer (buffer.FsndDtq id x) = either_way w p Count (buffer_row k w p (buffer.FsndDtq id x)) (λ c. refl) (count_force (named_by id) x)
    count_buffer (buffer.IfsndDtq id x) = either_way w p Count (buffer_row k w p (buffer.IfsndDtq id x)) (λ c. refl) (count_force (named_by id) x)
    count_buffer (buffer.RcvDtq id) = either_way w p Count (buffer_row k w p (buffer.RcvDtq id)) (λ c. refl) (count_receive (named_by id) forever)
    count_buffer (buffer.TrcvDtq id timeout) = either_way w p Count (buffer_row k w p (buffer.TrcvDtq id timeout)) (λ c. refl) (count_receive (named_by id) timeout)
    count_buffer (buffer.PrcvDtq id) = either_way w p Count (buffer_row k w p (buffer.PrcvDtq id)) (λ c. refl) (count_received (named_by id) (sender k w (named_by id)))
    count_buffer c = ap length (leaves_call k w p (call.Buffer c)).contents

    abbrev after : Call → World Q
    after c = (called w p (row_of k w p c)).0

    shape_call : (c : Call) → Shape (after c)
    shape_call (call.Buffer (buffer.SndDtq id x)) =
        let c = buffer.SndDtq id x in
        let l = leaves_call k w p (call.Buffer c) in
        record { semaphores = ap length l.semaphores; pools = blocks_buffer c; data_queues = l.data_queues; contents = count_buffer c; due = l.due }
    shape_call (call.Buffer c) =
        let l = leaves_call k w p (call.Buffer c) in
        record { semaphores = ap length l.semaphores; pools = blocks_buffer c; data_queues = l.data_queues; contents = count_buffer c; due = l.due }
    shape_call (call.Sync (sync.SigSem id)) =
        let c = sync.SigSem id in
        let l = leaves_call k w p (call.Sync c) in
        record { semaphores = units_sync c; pools = ap length l.pools; data_queues = l.data_queues; contents = ap length l.contents; due = l.due }
    shape_call (call.Sync c) =
        let l = leaves_call k w p (call.Sync c) in
        record { semaphores = units_sync c; pools = ap length l.pools; data_queues = l.data_queues; contents = ap length l.contents; due = l.due }
    shape_call c =
        let l = leaves_call k w p c in
        record { semaphores = ap length l.semaphores; pools = ap length l.pools; data_queues = l.data_queues; contents = ap length l.contents; due = l.due }

  shape_all : Shape w
  shape_all = record { semaphores = refl; pools = refl; data_queues = refl; contents = refl; due = λ h. h }

  shape_tick : (p : Proc) → Shape (tick k w p).0
  shape_tick p =
      let l = leaves_tick k w p in record { semaphores = ap length l.semaphores; pools = ap length l.pools; data_queues = l.data_queues; contents = ap length l.contents; due = l.due }

  pub shape_step : (e : Event) → Shape (step k w e).0
  shape_step e =
      by_step k w (λ v r. Shape v) (λ v cs r x ps h. record { semaphores = h.semaphores; pools = h.pools; data_queues = h.data_queues; contents = h.contents; due = h.due }) shape_call (λ p c none. shape_all) shape_tick
      (λ e r a no_call no_e. shape_all) e

-- there are at most 32 of each kind
pub record Few {Q : Type 0} (w : World Q) : Type 0 where
  pub semaphores : length w.semaphores ≤ 32
  pub pools : length w.pools ≤ 32
  pub data_queues : length w.data_queues ≤ 32

pub few_step : {Q : Type 0} (k : Ordering Q) (w : World Q) (e : Event) → Few w → Few (step k w e).0
few_step k w e few =
    let shape = shape_step k w e in
    record { semaphores = rw shape.semaphores few.semaphores; pools = rw shape.pools few.pools; data_queues = rw shape.data_queues few.data_queues }
