-- What stands after the number of a line, so that the number may be printed apart.
use Rattle.std.specs.Prelude.{ℕ, List, ◌++◌, codes, decimal}
use Rattle.fmp_codes.specs.Records.{processor_of}
use Rattle.fmp_codes.specs.declared.records.Record.{Record}
use Rattle.fmp_names.specs.Names.{NameLists}
use Rattle.fmp_trace.specs.Lines.{answer_text, event_text, runner_text, tail_text}

-- without the line feed
unfoldable pub after_number : NameLists → Record → List ℕ
after_number lists r =
    codes " P" ++ decimal (processor_of r.event).number ++ codes " " ++ runner_text lists r.runner ++ codes " " ++ event_text lists r.event ++ codes " "
    ++ answer_text r.answer ++ tail_text lists r
