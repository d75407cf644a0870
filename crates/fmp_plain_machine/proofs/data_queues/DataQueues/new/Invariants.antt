use Rattle.std.proofs.Common.{◌≡◌, [], length, map, take}
use Rattle.fmp_plain_machine.specs.DataQueues.{all_of}
use Rattle.fmp_plain_machine.proofs.data_queues.DataQueues.new.Given as goal

abbrev pub invariant-loop-setup : goal.invariant-loop-setup
invariant-loop-setup l = let made = take l.setup-index l.setups in record {
  count : length l.queues.items ≡ l.setup-index;
  queues : all_of l.queues.items ≡ record { setups = made; contents = map (λ s. []) made };
}
