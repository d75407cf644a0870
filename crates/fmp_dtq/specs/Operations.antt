-- What an operation does to a data queue, and what it answers.
use Rattle.std.specs.Prelude.{ℤ, pos, ◌==◌, Option, None, Some, List, [], ◌∷◌, ◌++◌, length, nat_lt, if◌then◌else◌}
use Rattle.std.specs.Option.{option_map}
use Rattle.fmp_codes.specs.declared.numbers.Task.{Task}
use Rattle.fmp_rules.specs.World.{first, rest, item}
use Rattle.fmp_waitq.specs.Queue.{left_by}
use Rattle.fmp_dtq.specs.DataQueue.{DataQueue, sender, receiver}
use Rattle.fmp_dtq.specs.declared.operations.Sent.{Sent}
use Rattle.fmp_dtq.specs.declared.operations.Sent.TheVariants as sent
use Rattle.fmp_dtq.specs.declared.operations.Forced.{Forced}
use Rattle.fmp_dtq.specs.declared.operations.Forced.TheVariants as forced
use Rattle.fmp_dtq.specs.declared.operations.Received.{Received}

-- the first receiver is released with the value, or it goes last where there is a place
abbrev pub send_to : DataQueue → ℤ → Option Task → DataQueue × Sent
send_to q v (Some t) = (record q { receivers = left_by t q.receivers }, sent.To t)
send_to q v None =
    if nat_lt (length q.values) q.setup.capacity then (record q { values = q.values ++ v ∷ [] }, sent.Kept) else (q, sent.Full)

abbrev pub send : DataQueue → ℤ → DataQueue × Sent
send q v = send_to q v (receiver q)

-- the same, but where there is no place the oldest value is lost and this goes last
abbrev pub force_to : DataQueue → ℤ → Option Task → DataQueue × Forced
force_to q v (Some t) = (record q { receivers = left_by t q.receivers }, forced.To t)
force_to q v None =
    if nat_lt (length q.values) q.setup.capacity then (record q { values = q.values ++ v ∷ [] }, forced.Kept None)
    else (record q { values = rest q.values ++ v ∷ [] }, forced.Kept (first q.values))

-- where there is no place for any value, none can be forced
abbrev pub force_send : DataQueue → ℤ → DataQueue × Forced
force_send q v = if q.setup.capacity == 0 then (q, forced.Refused) else force_to q v (receiver q)

-- the oldest value goes; where a sender waits the value that it offers goes last before, and it is released
abbrev pub receive_from : DataQueue → List ℤ → Option Task → DataQueue × Option Received
receive_from q offers None = (record q { values = rest q.values }, option_map (λ v. record { value = v; sender = None }) (first q.values))
receive_from q offers (Some t) =
    let vs = q.values ++ item (pos 0) offers t.number ∷ [] in (
      record q { values = rest vs; senders = left_by t q.senders },
      option_map (λ v. record { value = v; sender = Some t }) (first vs),
    )

abbrev pub receive : DataQueue → List ℤ → DataQueue × Option Received
receive q offers = receive_from q offers (sender q)
