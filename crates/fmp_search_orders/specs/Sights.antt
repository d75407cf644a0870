-- What is seen of an event: what patterns are looked for in. docs/FORMATS.md has the form of a line of a trace.
use Rattle.std.specs.Prelude.{ℕ, Bool, not, ◌&&◌, ◌||◌, is_none, List, [], ◌∷◌, ◌++◌, drop}
use Rattle.std.specs.List.{list_all}
use Rattle.fmp_bytes.specs.Bytes.{space}
use Rattle.fmp_codes.specs.declared.records.Record.{Record}
use Rattle.fmp_setup.specs.Setup.{Setup, has_time}
use Rattle.fmp_rules.specs.World.{World, processor, runner_of}
use Rattle.fmp_trace.specs.Lines.{core_text}
use Rattle.fmp_show_facts.specs.Facts.{is_so}
use Rattle.fmp_search_pattern.specs.Sights.{Sight}
use Rattle.fmp_search_orders.specs.declared.rules.Rules.{Rules}
use Rattle.fmp_search_orders.specs.Orders.{each, is_left}

-- no wait is timed, and no cyclic handler and no alarm is started
abbrev pub is_untimed : {Q : Type 0} → World Q → Bool
is_untimed w = list_all is_none w.waits_left && list_all is_none w.cyclics_left && list_all is_none w.alarms_left

-- no processor may take a tick that counts, where each has taken so many
abbrev pub is_out_of_time : Setup → Rules → (ℕ → ℕ) → Bool
is_out_of_time c rules count = each (λ p. not (has_time c.timer p && is_left rules.ticks (count p.number))) c.processors

-- nothing can change any more: no handler is due, no task runs, no request is pending, and no tick is left that anything waits for
unfoldable pub is_over : {Q : Type 0} → Setup → Rules → (ℕ → ℕ) → World Q → Bool
is_over c rules count w =
    each (λ p. is_none (runner_of w p) && not (processor w p).latch) c.processors && (is_untimed w || is_out_of_time c rules count)

-- a line between blanks, so that the words at its ends are whole words too
abbrev pub padded : List ℕ → List ℕ
padded line = space ∷ space ∷ line ++ space ∷ space ∷ []

-- what is seen of an event: its line of the trace, without the number and the blank after it, what is so of the state after it, and whether
-- nothing can change any more
unfoldable pub sight : {Q : Type 0} → Setup → Rules → (ℕ → ℕ) → World Q → Record → Sight
sight c rules count w r = record { line = padded (drop 2 (core_text c.names 1 r)); is_so = is_so w; over = is_over c rules count w }
