use Rattle.std.proofs.Common.{◌≡◌, ◌<◌}
use Rattle.std.specs.Prelude.{All}
use Rattle.std.specs.Option.{option_copied}
use Rattle.fmp_search_orders.specs.Made.{no_number}
use Rattle.fmp_cli_notes.specs.Unmade.{below, is_told}
use Rattle.fmp_cli_notes.proofs.unmade.calls_told.Given as goal

-- those so far
abbrev pub invariant-loop-number : goal.invariant-loop-number
invariant-loop-number l = record {
  few : All (λ n. n < no_number) l.calls.items;
  told : l.calls.items ≡ below (is_told l.orders.config.now l.orders.scripts.now (option_copied l.met)) l.number;
}
