-- What contracts see of scripts and of a reader.
use Rattle.std.specs.Prelude.{List, map, Option, option_map}
use Rattle.fmp_text_scripts.specs.declared.script.Script.{Script}
use Rattle.fmp_text_scripts.specs.declared.reader.Opened.{Opened}
use Rattle.fmp_text_scripts.specs.Scripts.{Steps}
use Rattle.fmp_text_scripts.specs.Texts.{Open, Reading}

abbrev pub steps_of : Script → Steps
steps_of s = record { function = s.function; steps = s.steps.items; ways = s.ways.items }

abbrev pub open_of : Opened → Open
open_of o = record {
  line = o.line;
  function = o.function;
  steps = o.steps.items;
  jumps = o.jumps.items;
  labels = o.labels.items;
  following = o.following;
}

abbrev pub reading_of : List Script → Option Opened → Reading
reading_of scripts unclosed = record { scripts = map steps_of scripts; unclosed = option_map open_of unclosed }
