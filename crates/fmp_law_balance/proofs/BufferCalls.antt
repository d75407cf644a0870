-- What the calls on data queues and pools leave alone.
use Rattle.std.proofs.Common.{ℕ, ℤ, refl, Option, Some, None}
use Rattle.std.specs.Prelude.{if◌then◌else◌, unwrap_or, is_some}
use Rattle.std.proofs.lemmas.Bool.{cond_both}
use Rattle.fmp_codes.specs.Numbers.{as_object}
use Rattle.fmp_codes.specs.declared.numbers.Proc.{Proc}
use Rattle.fmp_codes.specs.declared.numbers.Task.{Task}
use Rattle.fmp_codes.specs.declared.numbers.Object.{Object}
use Rattle.fmp_codes.specs.declared.calls.Call.TheVariants as calls
use Rattle.fmp_codes.specs.declared.calls.BufferCall.{BufferCall}
use Rattle.fmp_codes.specs.declared.calls.BufferCall.TheVariants as call
use Rattle.fmp_rules.specs.Effects.{Effect}
use Rattle.fmp_rules.specs.declared.machine.QueueKind.TheVariants as kind
use Rattle.fmp_rules.specs.declared.machine.Wait.TheVariants as wait
use Rattle.fmp_rules.specs.World.{World, first}
use Rattle.fmp_rules.specs.Objects.{free_block}
use Rattle.fmp_rules.specs.Ordering.{Ordering, queue}
use Rattle.fmp_rules.specs.Rows.{done_or_wait}
use Rattle.fmp_rules.specs.Arguments.{caller, object_named, forever, is_zero, ticks_of}
use Rattle.fmp_rules.specs.BufferCalls.{tsnd_dtq, psnd_dtq, fsnd_dtq, trcv_dtq, prcv_dtq, tget_mpf, pget_mpf, rel_mpf, sent, can_send, forced, receiver, can_receive, received, sender, given, returned, block_of, buffer_row}
use Rattle.fmp_law_balance.proofs.Leaving.{Leaves, leaves_all, leaves_order, leaves_ready, leaves_begin}
use Rattle.fmp_law_balance.proofs.Apart.{Apart}

module _ {Q : Type 0} (k : Ordering Q) (w : World Q) (p : Proc) where
  -- data queues and pools

  abbrev ButContents : World Q × Effect → Type 0
  ButContents did = Leaves w (record did.0 { contents = w.contents })

  abbrev ButSending : World Q × Effect → Type 0
  ButSending did = Leaves w (record did.0 { contents = w.contents; tasks = w.tasks })

  abbrev ButPools : World Q × Effect → Type 0
  ButPools did = Leaves w (record did.0 { pools = w.pools })

  leaves_sent : (d : Object) (x : ℤ) (t : Option Task) → ButContents (sent k w d x t)
  leaves_sent d x None = leaves_all w
  leaves_sent d x (Some t) = leaves_ready k w t

  -- a send that may wait
  leaves_sending : (d : Object) (x : ℤ) (t : Option Task) → ButSending (sent k w d x t)
  leaves_sending d x None = leaves_all w
  leaves_sending d x (Some t) = leaves_order w _ _

  leaves_sent_or_waits : (d : Object) (x timeout : ℤ) → ButSending (done_or_wait k w p (can_send k w d) (sent k w d x (receiver k w d)) (wait.Send d x) timeout)
  leaves_sent_or_waits d x timeout =
      cond_both (can_send k w d) _ _ ButSending (λ _. leaves_sending d x (receiver k w d))
      (λ _. cond_both (is_zero timeout) _ _ ButSending (λ _. leaves_all w) (λ _. leaves_order w _ _))

  leaves_received : (d : Object) (t : Option Task) → ButContents (received k w d t)
  leaves_received d None = leaves_all w
  leaves_received d (Some t) = leaves_ready k w t

  leaves_received_or_waits : (d : Object) (timeout : ℤ) → ButContents (done_or_wait k w p (can_receive k w d) (received k w d (sender k w d)) (wait.Receive d) timeout)
  leaves_received_or_waits d timeout =
      cond_both (can_receive k w d) _ _ ButContents (λ _. leaves_received d (sender k w d))
      (λ _. cond_both (is_zero timeout) _ _ ButContents (λ _. leaves_all w) (λ _. leaves_begin k w (caller w p) (wait.Receive d) (ticks_of timeout) refl))

  leaves_returned : (m : Object) (b : ℕ) (t : Option Task) → ButPools (returned k w m b t)
  leaves_returned m b None = leaves_all w
  leaves_returned m b (Some t) = leaves_ready k w t

  leaves_forced : (d : Object) (x : ℤ) → ButContents (if can_send k w d then sent k w d x (receiver k w d) else forced w d x)
  leaves_forced d x = cond_both (can_send k w d) _ _ ButContents (λ _. leaves_sent d x (receiver k w d)) (λ _. leaves_all w)

  leaves_given_or_waits : (m : Object) (timeout : ℤ) → ButPools (done_or_wait k w p (is_some (free_block w m)) (given w m (unwrap_or (free_block w m) 0)) (wait.Pool m) timeout)
  leaves_given_or_waits m timeout =
      cond_both (is_some (free_block w m)) _ _ ButPools (λ _. leaves_all w)
      (λ _. cond_both (is_zero timeout) _ _ ButPools (λ _. leaves_all w) (λ _. leaves_begin k w (caller w p) (wait.Pool m) (ticks_of timeout) refl))

  abbrev queue_of : ℤ → Object
  queue_of id = unwrap_or (object_named w.data_queues id) (as_object 1)

  abbrev pool_of : ℤ → Object
  pool_of id = unwrap_or (object_named w.pools id) (as_object 1)

  pub leaves_buffer_call : (c : BufferCall) → Apart w (calls.Buffer c) (buffer_row k w p c).effect
  unfolding tsnd_dtq psnd_dtq fsnd_dtq trcv_dtq prcv_dtq tget_mpf pget_mpf rel_mpf
  leaves_buffer_call (call.SndDtq id x) = leaves_sent_or_waits (queue_of id) x forever
  leaves_buffer_call (call.TsndDtq id x timeout) = leaves_sent_or_waits (queue_of id) x timeout
  leaves_buffer_call (call.PsndDtq id x) = leaves_sent (queue_of id) x (receiver k w (queue_of id))
  leaves_buffer_call (call.IpsndDtq id x) = leaves_sent (queue_of id) x (receiver k w (queue_of id))
  leaves_buffer_call (call.FsndDtq id x) = leaves_forced (queue_of id) x
  leaves_buffer_call (call.IfsndDtq id x) = leaves_forced (queue_of id) x
  leaves_buffer_call (call.RcvDtq id) = leaves_received_or_waits (queue_of id) forever
  leaves_buffer_call (call.TrcvDtq id timeout) = leaves_received_or_waits (queue_of id) timeout
  leaves_buffer_call (call.PrcvDtq id) = leaves_received (queue_of id) (sender k w (queue_of id))
  leaves_buffer_call (call.GetMpf id) = leaves_given_or_waits (pool_of id) forever
  leaves_buffer_call (call.TgetMpf id timeout) = leaves_given_or_waits (pool_of id) timeout
  leaves_buffer_call (call.PgetMpf id) = leaves_all w
  leaves_buffer_call (call.RelMpf id b) = leaves_returned (pool_of id) (block_of b) (first (queue k w kind.Pool (pool_of id)))
