-- When nobody waits for what is to be had.
use Rattle.std.specs.Prelude.{◌≡◌, ◌||◌, Bool, true, false, length, nat_lt, is_some}
use Rattle.fmp_codes.specs.declared.numbers.Task.{Task}
use Rattle.fmp_rules.specs.World.{first}
use Rattle.fmp_waitq.specs.Queue.{has_waiter}
use Rattle.fmp_dtq.specs.DataQueue.{DataQueue, sender, receiver}

-- a receiver waits, or a place is free
abbrev pub can_send : DataQueue → Bool
can_send q = is_some (receiver q) || nat_lt (length q.values) q.setup.capacity

-- there is a value, or a sender waits
abbrev pub can_receive : DataQueue → Bool
can_receive q = is_some (first q.values) || is_some (sender q)

-- tasks wait to send only where nothing can be sent, and to receive only where nothing can be received
pub record IsServed (q : DataQueue) : Type 0 where
  pub send : (t : Task) → has_waiter t q.senders ≡ true → can_send q ≡ false
  pub receive : (t : Task) → has_waiter t q.receivers ≡ true → can_receive q ≡ false
