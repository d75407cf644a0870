-- What is found of what the lines of a partial trace say, one line after the other as they stand.
use Rattle.std.specs.Prelude.{ℕ, ◌+◌, Bool, ◌&&◌, not, is_some, List, [], ◌∷◌, Result, Ok, if◌then◌else◌}
use Rattle.std.specs.Str.{bytes_eq}
use Rattle.fmp_bytes.specs.Bytes.{line_feed, pieces_of}
use Rattle.fmp_bytes.specs.Results.{◌>>=◌}
use Rattle.fmp_rules.specs.Arrivals.{State, numbered}
use Rattle.fmp_rules.specs.Boot.{booted}
use Rattle.fmp_rules.specs.Step.{step}
use Rattle.fmp_names.specs.Names.{NameLists}
use Rattle.fmp_setup.specs.Setup.{Setup}
use Rattle.fmp_text.specs.declared.fault.TextFault.{TextFault}
use Rattle.fmp_trace_orders.specs.Lines.{must_of}
use Rattle.fmp_trace_partial.specs.Partial.{bounded_text, kept_text}
use Rattle.fmp_trace_partial.specs.Saying.{said_from, said_in}
use Rattle.fmp_trace_partial.specs.declared.telling.Said.{Said}
use Rattle.fmp_run_partial.specs.declared.following.Followed.{Followed}
use Rattle.fmp_run_partial.specs.declared.following.Followed.TheVariants.{Yes, No, Ordered}

-- a line says nothing of the order of lines: it has no bound, and its event took effect
abbrev pub is_plain : Said → Bool
is_plain s = not (is_some s.bound) && must_of s

-- the machine plays the event of a line until one differs, or says something of orders
abbrev pub state_after : Followed → State → Said → State
state_after Yes w s = if is_plain s then (step numbered w s.entry.event).0 else w
state_after (No k) w s = w
state_after Ordered w s = w

-- line n is what is printed of the machine's answer where as much is left out
abbrev pub verdict_at : NameLists → State → ℕ → Said → List ℕ → Followed
verdict_at names w n s line = if bytes_eq (kept_text names n s.kept (step numbered w s.entry.event).1) line then Yes else No n

abbrev pub verdict_after : NameLists → Followed → State → ℕ → Said → List ℕ → Followed
verdict_after names Yes w n s line = if is_plain s then verdict_at names w n s line else Ordered
verdict_after names (No k) w n s line = if is_plain s then No k else Ordered
verdict_after names Ordered w n s line = Ordered

-- what is found after lines, of which the first is line n
abbrev pub verdict_from : NameLists → Followed → State → ℕ → List Said → Followed
verdict_from names v w n [] = v
verdict_from names v w n (s ∷ ss) =
    verdict_from names (verdict_after names v w n s (bounded_text names n s.kept s.bound s.entry)) (state_after v w s) (n + 1) ss

-- the same, where they were read without a fault
abbrev pub verdict_of : NameLists → Followed → State → ℕ → Result (List Said) TextFault → Result Followed TextFault
verdict_of names v w n said = said >>= λ ss. Ok (verdict_from names v w n ss)

-- of a text within the limit of bytes
abbrev pub judged_lines : Setup → List ℕ → Result Followed TextFault
judged_lines c text = verdict_of c.names Yes (booted c) 1 (said_from c.names 1 (pieces_of line_feed text))

-- what is found of a text, or its first fault
unfoldable pub judged : Setup → List ℕ → Result Followed TextFault
judged c text = verdict_of c.names Yes (booted c) 1 (said_in c.names text)
