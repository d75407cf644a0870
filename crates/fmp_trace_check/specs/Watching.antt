-- What a watcher is that saw the events of a trace.
use Rattle.std.specs.Prelude.{ℕ, ◌+◌, List, [], ◌∷◌, Option, None, Some}
use Rattle.fmp_codes.specs.declared.records.Event.{Event}
use Rattle.fmp_codes.specs.declared.records.Record.{Record}
use Rattle.fmp_bytes.specs.Bytes.{pieces_of, line_feed}
use Rattle.fmp_rules.specs.Boot.{booted}
use Rattle.fmp_rules.specs.Arrivals.{State, numbered}
use Rattle.fmp_rules.specs.Step.{step}
use Rattle.fmp_names.specs.Names.{NameLists}
use Rattle.fmp_setup.specs.Setup.{Setup}
use Rattle.fmp_trace_check.specs.Walking.{following}
use Rattle.fmp_trace.specs.Heads.{event_of}

-- how a watcher changes by event n, of which this record tells, and which leads to a state
abbrev pub Watches : Type 0 → Type 0
Watches S = S → NameLists → ℕ → Record → State → S

module _ {S : Type 0} (watch : Watches S) (names : NameLists) where
  -- after these events, the first of which is event n
  unfoldable pub watched_by : State → ℕ → List Event → S → S
  watched_by w n [] s = s
  watched_by w n (e ∷ es) s = let done = step numbered w e in watched_by done.0 (n + 1) es (watch s names n done.1 done.0)

  -- after the event that line n tells, if it tells any
  abbrev pub watched_one : State → ℕ → Option Event → S → S
  watched_one w n None s = s
  watched_one w n (Some e) s = let done = step numbered w e in watch s names n done.1 done.0

  -- after the events of the lines from line n on. The last line has no line feed
  unfoldable pub watched_from : State → ℕ → List (List ℕ) → S → S
  watched_from w n [] s = s
  watched_from w n (last ∷ []) s = s
  watched_from w n (line ∷ next ∷ lines) s =
      watched_from (following w (event_of names line)) (n + 1) (next ∷ lines) (watched_one w n (event_of names line) s)

-- after the events of a text's lines
abbrev pub watched_in : {S : Type 0} → Watches S → Setup → List ℕ → S → S
watched_in watch c text s = watched_from watch c.names (booted c) 1 (pieces_of line_feed text) s
