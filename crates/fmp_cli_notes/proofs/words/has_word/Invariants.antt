use Rattle.std.proofs.Common.{◌≡◌, ◌+◌, length}
use Rattle.std.specs.List.{list_any}
use Rattle.std.specs.Option.{option_copied, option_map_or}
use Rattle.std.specs.Str.{bytes_eq}
use Rattle.fmp_bytes.specs.Bytes.{pieces_of, space}
use Rattle.fmp_bytes.proofs.Cutting.{pieces_left}
use Rattle.fmp_cli_notes.proofs.words.has_word.Given as goal

-- whether it is one of those that are left
abbrev pub invariant-loop-rest : goal.invariant-loop-rest
invariant-loop-rest l = list_any (λ it. bytes_eq it l.word) (pieces_left space (option_copied l.rest)) ≡ list_any (λ it. bytes_eq it l.word) (pieces_of space l.fn.text)

abbrev pub decreases-loop-rest : goal.decreases-loop-rest
decreases-loop-rest l = option_map_or (λ r. length r + 1) (option_copied l.rest) 0
