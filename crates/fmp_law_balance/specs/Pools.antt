-- believed: see docs/PROOF.md, "What has to be believed"
-- What records say of a block of a pool.
use Rattle.std.specs.Prelude.{◌≡◌, ℕ, ℤ, ◌+◌, Bool, false, Option, None, Some, List, if◌then◌else◌, is_some, count_by, sum_by, slice_index_or}
use Rattle.fmp_codes.specs.declared.numbers.Object.{Object}
use Rattle.fmp_codes.specs.declared.calls.Call.TheVariants as call
use Rattle.fmp_codes.specs.declared.calls.BufferCall.TheVariants as buffer
use Rattle.fmp_codes.specs.declared.records.Event.{Event}
use Rattle.fmp_codes.specs.declared.records.Event.TheVariants as event
use Rattle.fmp_codes.specs.declared.records.Record.{Record}
use Rattle.fmp_rules.specs.World.{World}
use Rattle.fmp_rules.specs.Objects.{pool}
use Rattle.fmp_law_balance.specs.Accepted.{is_accepted, accepted_value, one_if, names, is_block}

-- the event is a call that asks this pool for a block
abbrev pub gets : Object → Event → Bool
gets m (event.Call p (call.Buffer (buffer.GetMpf id))) = names m id
gets m (event.Call p (call.Buffer (buffer.TgetMpf id timeout))) = names m id
gets m (event.Call p (call.Buffer (buffer.PgetMpf id))) = names m id
gets m other = false

-- the block that a call gives back to this pool
abbrev pub returns : Object → Event → Option ℤ
returns m (event.Call p (call.Buffer (buffer.RelMpf id b))) = if names m id then Some b else None
returns m other = None

-- how often one record gives this block back: once, if it is an accepted return of it
abbrev pub given_back : Object → ℕ → Record → ℕ
given_back m b r = if is_block b (returns m r.event) then one_if (is_accepted r.answer) else 0

-- how often it hands the block out: to the caller that got it, and to each task that a return released with it
abbrev pub handed_out : Object → ℕ → Record → ℕ
handed_out m b r =
    if gets m r.event then one_if (is_block b (accepted_value r.answer))
    else if is_some (returns m r.event) then (if is_accepted r.answer then count_by (λ x. is_block b x.value) r.releases else 0)
    else 0

-- a block was handed out once more than it was given back where it is handed out now, and else as often
abbrev pub PoolBalance : {Q : Type 0} → List Record → World Q → Object → ℕ → Type 0
PoolBalance records w m b =
    sum_by (handed_out m b) records ≡ sum_by (given_back m b) records + one_if (slice_index_or (pool w m).handed b false)
