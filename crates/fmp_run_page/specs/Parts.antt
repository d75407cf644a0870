-- The parts of a page: what it begins and ends with, and the texts that stand in it.
use Rattle.std.specs.Prelude.{ℕ, List, ◌++◌, codes}
use Rattle.fmp_run_page.specs.declared.causes.TheConstants.{CAUSES}
use Rattle.fmp_run_page.specs.declared.controls.TheConstants.{CONTROLS}
use Rattle.fmp_run_page.specs.declared.drawing.TheConstants.{DRAWING}
use Rattle.fmp_run_page.specs.declared.head.TheConstants.{HEAD}
use Rattle.fmp_run_page.specs.declared.lanes.TheConstants.{LANES}
use Rattle.fmp_run_page.specs.declared.lines.TheConstants.{LINES}
use Rattle.fmp_run_page.specs.declared.measures.TheConstants.{MEASURES}
use Rattle.fmp_run_page.specs.declared.parts.TheConstants.{NAME_BEGIN, SCRIPT_END}
use Rattle.fmp_run_page.specs.declared.reading.TheConstants.{READING}
use Rattle.fmp_run_page.specs.Escapes.{escaped}

unfoldable pub head : List ℕ
head = HEAD.now

-- the script's parts that read and draw, and those that answer to who looks at it
unfoldable pub picture : List ℕ
picture = READING.now ++ CAUSES.now ++ LANES.now ++ DRAWING.now

unfoldable pub answers : List ℕ
answers = LINES.now ++ MEASURES.now ++ CONTROLS.now

unfoldable pub tail : List ℕ
tail = codes "<script>\n" ++ picture ++ answers ++ SCRIPT_END.now

-- what stands before a text of this name: HTML drops the line feed after the tag
unfoldable pub text_begin : List ℕ → List ℕ
text_begin name = NAME_BEGIN.now ++ name ++ codes "'>\n"

unfoldable pub text_end : List ℕ
text_end = codes "</pre>\n"

-- a text of this name
unfoldable pub part : List ℕ → List ℕ → List ℕ
part name text = text_begin name ++ escaped text ++ text_end
