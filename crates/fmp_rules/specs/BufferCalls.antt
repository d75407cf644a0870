-- believed: see docs/PROOF.md, "What has to be believed"
-- The calls on data queues and pools.
use Rattle.std.specs.Prelude.{ℕ, ℤ, pos, negsuc, ◌||◌, not, Bool, true, false, Option, None, Some, List, [], ◌∷◌, ◌++◌, ◌==◌, nat_lt, if◌then◌else◌, length, take}
use Rattle.std.specs.Prelude.{slice_set, slice_index_or, unwrap_or, is_some, is_none}
use Rattle.fmp_codes.specs.Numbers.{as_object}
use Rattle.fmp_codes.specs.declared.numbers.Proc.{Proc}
use Rattle.fmp_codes.specs.declared.numbers.Task.{Task}
use Rattle.fmp_codes.specs.declared.numbers.Object.{Object}
use Rattle.fmp_codes.specs.declared.calls.BufferCall.{BufferCall}
use Rattle.fmp_codes.specs.declared.calls.BufferCall.TheVariants as call
use Rattle.fmp_codes.specs.declared.codes.Code.TheVariants as code
use Rattle.fmp_rules.specs.Effects.{Effect}
use Rattle.fmp_rules.specs.declared.machine.QueueKind.TheVariants as kind
use Rattle.fmp_rules.specs.declared.machine.Wait.{Wait}
use Rattle.fmp_rules.specs.declared.machine.Wait.TheVariants as wait
use Rattle.fmp_rules.specs.World.{World, task, with_item, first, rest}
use Rattle.fmp_rules.specs.Objects.{data_queue, values, pool, free_block}
use Rattle.fmp_rules.specs.Ordering.{Ordering, queue}
use Rattle.fmp_rules.specs.Tasks.{make_ready}
use Rattle.fmp_rules.specs.Rows.{Row, on_object, no_errors, in_handler, waiting, done_or_wait, release, done, with_value}
use Rattle.fmp_rules.specs.Arguments.{object_named, forever}

-- the value that a task waits to send
abbrev pub offered : Option Wait → List ℤ
offered (Some (wait.Send d v)) = v ∷ []
offered other = []

-- the block of a number that is not negative
abbrev pub block_of : ℤ → ℕ
block_of (pos n) = n
block_of (negsuc n) = 0

module _ {Q : Type 0} where
  abbrev pub with_values : World Q → Object → List ℤ → World Q
  with_values w d vs = record w { contents = with_item w.contents d.number vs }

  abbrev pub with_handed : World Q → Object → ℕ → Bool → World Q
  with_handed w m b handed = record w { pools = with_item w.pools m.number (record (pool w m) { handed = slice_set (pool w m).handed b handed }) }

module _ {Q : Type 0} (w : World Q) where
  -- the oldest value is lost and this goes last
  abbrev pub forced : Object → ℤ → World Q × Effect
  forced d v = (with_values w d (rest (values w d) ++ v ∷ []), record done { lost = first (values w d) })

  -- the value is a block, which is handed out
  abbrev pub given : Object → ℕ → World Q × Effect
  given m b = (with_handed w m b true, with_value (pos b))

  unfoldable pub pget_mpf : ℤ → Row Q
  pget_mpf id =
      on_object (object_named w.pools id) (λ m. (is_none (free_block w m), code.TimedOut) ∷ []) (λ m. given m (unwrap_or (free_block w m) 0))

  -- the block is one of the pool's and is handed out
  abbrev pub is_handed : Object → ℤ → Bool
  is_handed m (pos b) = slice_index_or (take (pool w m).setup.blocks (pool w m).handed) b false
  is_handed m (negsuc b) = false

module _ {Q : Type 0} (k : Ordering Q) (w : World Q) where
  -- Data queues.

  -- the first task that waits to receive, and the first one that waits to send
  abbrev pub receiver : Object → Option Task
  receiver d = first (queue k w kind.Receive d)

  abbrev pub sender : Object → Option Task
  sender d = first (queue k w kind.Send d)

  -- a receiver waits, or a place is free
  abbrev pub can_send : Object → Bool
  can_send d = is_some (receiver d) || nat_lt (length (values w d)) (data_queue w d).capacity

  -- a receiver is released with the value, or else it goes last
  abbrev pub sent : Object → ℤ → Option Task → World Q × Effect
  sent d v None = (with_values w d (values w d ++ v ∷ []), done)
  sent d v (Some t) = release k w t code.Accepted (Some v)

  unfoldable pub tsnd_dtq : Proc → ℤ → ℤ → ℤ → Row Q
  tsnd_dtq p id v timeout =
      waiting timeout (on_object (object_named w.data_queues id) no_errors
      (λ d. done_or_wait k w p (can_send d) (sent d v (receiver d)) (wait.Send d v) timeout))

  unfoldable pub psnd_dtq : ℤ → ℤ → Row Q
  psnd_dtq id v = on_object (object_named w.data_queues id) (λ d. (not (can_send d), code.TimedOut) ∷ []) (λ d. sent d v (receiver d))

  unfoldable pub fsnd_dtq : ℤ → ℤ → Row Q
  fsnd_dtq id v =
      on_object (object_named w.data_queues id) (λ d. ((data_queue w d).capacity == 0, code.IllegalUse) ∷ [])
      (λ d. if can_send d then sent d v (receiver d) else forced w d v)

  -- there is a value, or a sender waits
  abbrev pub can_receive : Object → Bool
  can_receive d = is_some (first (values w d)) || is_some (sender d)

  -- the oldest value is answered; where a sender waits its value goes last before, and it is released
  abbrev pub received : Object → Option Task → World Q × Effect
  received d None = (with_values w d (rest (values w d)), with_value (unwrap_or (first (values w d)) (pos 0)))
  received d (Some t) =
      let vs = values w d ++ offered (task w t).wait in (
        with_values (make_ready k w t) d (rest vs),
        record (with_value (unwrap_or (first vs) (pos 0))) { releases = record { task = t; code = code.Accepted; value = None } ∷ [] },
      )

  unfoldable pub trcv_dtq : Proc → ℤ → ℤ → Row Q
  trcv_dtq p id timeout =
      waiting timeout (on_object (object_named w.data_queues id) no_errors
      (λ d. done_or_wait k w p (can_receive d) (received d (sender d)) (wait.Receive d) timeout))

  unfoldable pub prcv_dtq : ℤ → Row Q
  prcv_dtq id = on_object (object_named w.data_queues id) (λ d. (not (can_receive d), code.TimedOut) ∷ []) (λ d. received d (sender d))

  -- Pools. Blocks are numbered from 0.

  unfoldable pub tget_mpf : Proc → ℤ → ℤ → Row Q
  tget_mpf p id timeout =
      waiting timeout (on_object (object_named w.pools id) no_errors
      (λ m. done_or_wait k w p (is_some (free_block w m)) (given w m (unwrap_or (free_block w m) 0)) (wait.Pool m) timeout))

  -- the first waiter is released with the block, or else it is free
  abbrev pub returned : Object → ℕ → Option Task → World Q × Effect
  returned m b None = (with_handed w m b false, done)
  returned m b (Some t) = release k w t code.Accepted (Some (pos b))

  unfoldable pub rel_mpf : ℤ → ℤ → Row Q
  rel_mpf id b =
      record (on_object (object_named w.pools id) no_errors (λ m. returned m (block_of b) (first (queue k w kind.Pool m))))
      { proper = is_handed w (unwrap_or (object_named w.pools id) (as_object 1)) b }

  abbrev pub buffer_row : Proc → BufferCall → Row Q
  buffer_row p (call.SndDtq id v) = tsnd_dtq p id v forever
  buffer_row p (call.TsndDtq id v timeout) = tsnd_dtq p id v timeout
  buffer_row p (call.PsndDtq id v) = psnd_dtq id v
  buffer_row p (call.IpsndDtq id v) = in_handler (psnd_dtq id v)
  buffer_row p (call.FsndDtq id v) = fsnd_dtq id v
  buffer_row p (call.IfsndDtq id v) = in_handler (fsnd_dtq id v)
  buffer_row p (call.RcvDtq id) = trcv_dtq p id forever
  buffer_row p (call.TrcvDtq id timeout) = trcv_dtq p id timeout
  buffer_row p (call.PrcvDtq id) = prcv_dtq id
  buffer_row p (call.GetMpf id) = tget_mpf p id forever
  buffer_row p (call.TgetMpf id timeout) = tget_mpf p id timeout
  buffer_row p (call.PgetMpf id) = pget_mpf w id
  buffer_row p (call.RelMpf id b) = rel_mpf id b
