-- believed: see docs/PROOF.md, "What has to be believed"
-- What records say of a data queue.
use Rattle.std.specs.Prelude.{◌≡◌, ℤ, Bool, false, Option, None, Some, List, [], ◌∷◌, ◌++◌, ◌==◌, if◌then◌else◌, is_some, flat_map, filter_map, option_to_list}
use Rattle.fmp_codes.specs.declared.numbers.Task.{Task}
use Rattle.fmp_codes.specs.declared.numbers.Object.{Object}
use Rattle.fmp_codes.specs.declared.calls.Call.TheVariants as call
use Rattle.fmp_codes.specs.declared.calls.BufferCall.TheVariants as buffer
use Rattle.fmp_codes.specs.declared.records.Answer.{Answer}
use Rattle.fmp_codes.specs.declared.records.Event.{Event}
use Rattle.fmp_codes.specs.declared.records.Event.TheVariants as event
use Rattle.fmp_codes.specs.declared.records.Record.{Record}
use Rattle.fmp_codes.specs.declared.records.Runner.{Runner}
use Rattle.fmp_codes.specs.declared.records.Runner.TheVariants as runner
use Rattle.fmp_rules.specs.World.{World}
use Rattle.fmp_rules.specs.Objects.{values}
use Rattle.fmp_law_balance.specs.Accepted.{is_accepted, accepted_value, names}

-- the value that a call sends to this data queue
abbrev pub sends : Object → Event → Option ℤ
sends d (event.Call p (call.Buffer (buffer.SndDtq id v))) = if names d id then Some v else None
sends d (event.Call p (call.Buffer (buffer.TsndDtq id v timeout))) = if names d id then Some v else None
sends d (event.Call p (call.Buffer (buffer.PsndDtq id v))) = if names d id then Some v else None
sends d (event.Call p (call.Buffer (buffer.IpsndDtq id v))) = if names d id then Some v else None
sends d (event.Call p (call.Buffer (buffer.FsndDtq id v))) = if names d id then Some v else None
sends d (event.Call p (call.Buffer (buffer.IfsndDtq id v))) = if names d id then Some v else None
sends d other = None

-- the event is a call that receives from this data queue
abbrev pub receives : Object → Event → Bool
receives d (event.Call p (call.Buffer (buffer.RcvDtq id))) = names d id
receives d (event.Call p (call.Buffer (buffer.TrcvDtq id timeout))) = names d id
receives d (event.Call p (call.Buffer (buffer.PrcvDtq id))) = names d id
receives d other = false

-- the runner is this task
abbrev pub is_task : Task → Option Runner → Bool
is_task t (Some (runner.Task u)) = t.number == u.number
is_task t other = false

-- the event is a call that this task made
abbrev pub is_call_of : Task → Option Runner → Event → Bool
is_call_of t r (event.Call p c) = is_task t r
is_call_of t r other = false

-- the value that the last call of a task sent to this data queue, where the latest record stands first
abbrev pub last_sent : Object → Task → List Record → List ℤ
last_sent d t [] = []
last_sent d t (r ∷ rs) = if is_call_of t r.runner r.event then option_to_list (sends d r.event) else last_sent d t rs

abbrev pub put_by_send : Option ℤ → Answer → List ℤ
put_by_send None a = []
put_by_send (Some v) a = if is_accepted a then v ∷ [] else []

-- what one record puts into the queue: the value of an accepted send, or, of each sender that an accepted receive
-- released, the value of its last call before
abbrev pub put_by : Object → List Record → Record → List ℤ
put_by d earlier r =
    if receives d r.event then (if is_accepted r.answer then flat_map (λ x. last_sent d x.task earlier) r.releases else [])
    else put_by_send (sends d r.event) r.answer

-- what the records put into it, where these came before them, the latest first
abbrev pub puts : Object → List Record → List Record → List ℤ
puts d earlier [] = []
puts d earlier (r ∷ rs) = put_by d earlier r ++ puts d (r ∷ earlier) rs

-- what one record takes out of it: the answer of an accepted receive, or the value that an accepted send overwrote and
-- those of the receivers that it released
abbrev pub out_by : Object → Record → List ℤ
out_by d r =
    if receives d r.event then option_to_list (accepted_value r.answer)
    else if is_some (sends d r.event) then (if is_accepted r.answer then option_to_list r.lost ++ filter_map (λ x. x.value) r.releases else [])
    else []

-- what was put in is what came out, followed by what is there, in this order
abbrev pub QueueBalance : {Q : Type 0} → List Record → World Q → Object → Type 0
QueueBalance records w d = puts d [] records ≡ flat_map (out_by d) records ++ values w d
