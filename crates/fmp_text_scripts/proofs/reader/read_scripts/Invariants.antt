use Rattle.std.proofs.Common.{◌≡◌, ◌-◌, ◌≤◌, [], drop, length}
use Rattle.fmp_text_scripts.specs.Texts.{nothing_read, scripts_from}
use Rattle.fmp_text_scripts.proofs.reader.read_scripts.Given as goal

abbrev pub invariant-loop-end : goal.invariant-loop-end
invariant-loop-end l = record {
  within : l.used ≤ length l.text;
  lines : l.lines ≤ l.used;
  reading : scripts_from l.names 0 nothing_read [] l.text ≡ scripts_from l.names l.lines l.reader [] (drop l.used l.text);
}

abbrev pub decreases-loop-end : goal.decreases-loop-end
decreases-loop-end l = length l.text - l.used
