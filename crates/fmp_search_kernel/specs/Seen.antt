-- What is seen of an event that a kernel answered, and of its state at boot.
use Rattle.std.specs.Prelude.{Bool, false}
use Rattle.fmp_setup.specs.Setup.{Setup}
use Rattle.fmp_rules.specs.Boot.{boot}
use Rattle.fmp_kernel_order.specs.Queues.{listed, no_queues}
use Rattle.fmp_search_kernel.specs.declared.sights.Seen.{Seen}
use Rattle.fmp_search_pattern.specs.declared.items.Wanted.{Wanted}
use Rattle.fmp_search_pattern.specs.declared.items.Wanted.TheVariants as wanted
use Rattle.fmp_search_pattern.specs.Matching.{any}
use Rattle.fmp_search_pattern.specs.Sights.{Sight}
use Rattle.fmp_show_facts.specs.Facts.{is_so}

abbrev pub seen_of : Seen → Sight
seen_of s = record { line = s.line.now; is_so = is_so s.kernel.now; over = s.over }

-- what is asked for is a fact that is so at boot, before any event
abbrev pub so_at_boot : Setup → Wanted → Bool
so_at_boot c wanted.Refused = false
so_at_boot c wanted.End = false
so_at_boot c (wanted.Line pattern) = false
so_at_boot c (wanted.State words asked) = any (is_so (boot listed (no_queues c) c)) asked
