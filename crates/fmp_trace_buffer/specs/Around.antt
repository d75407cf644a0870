-- What stands before the event of a line, and after it.
use Rattle.std.specs.Prelude.{ℕ, List, ◌++◌, codes, decimal}
use Rattle.fmp_codes.specs.Records.{processor_of}
use Rattle.fmp_codes.specs.declared.numbers.Proc.{Proc}
use Rattle.fmp_codes.specs.declared.records.Record.{Record}
use Rattle.fmp_names.specs.Names.{NameLists}
use Rattle.fmp_trace.specs.Lines.{answer_text, runner_text, tail_text}

-- the processor, between blanks
abbrev pub processor_text : Proc → List ℕ
processor_text p = codes " P" ++ decimal p.number ++ codes " "

-- between the number of the line and its event
unfoldable pub before_event : NameLists → Record → List ℕ
before_event lists r = processor_text (processor_of r.event) ++ runner_text lists r.runner ++ codes " "

-- after the event, without the line feed
unfoldable pub after_event : NameLists → Record → List ℕ
after_event lists r = codes " " ++ answer_text r.answer ++ tail_text lists r
