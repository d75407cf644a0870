-- What the words of a question of what stays for ever lead to.
use Rattle.std.proofs.Common.{ℕ, List, Option}
use Rattle.fmp_names.specs.Names.{NameLists}
use Rattle.fmp_search_pattern.specs.Lasting.{Lasting}
use Rattle.fmp_search_question.specs.declared.stage.Stage.{Stage}
use Rattle.fmp_search_question.specs.Reading.{Draft}
use Rattle.fmp_search_question.specs.Lasting.{Parts, after_word}
use Rattle.fmp_search_question.proofs.grammar.Led.{led_by}

abbrev pub led_to : NameLists → Parts → List (List ℕ) → Option Parts
led_to names d words = led_by (after_word names) d words

-- so much was read, and the words end so
abbrev pub parts_so : List Lasting → Draft → Stage → Parts
parts_so lasting draft stage = record { lasting = lasting; draft = draft; stage = stage }
