use Rattle.std.proofs.Common.{drop, map}
use Rattle.fmp_out.specs.Putting.{Owes}
use Rattle.fmp_run_list.specs.Listing.Classes.{class_lines}
use Rattle.fmp_run_list.proofs.listing.classes.put_classes.Given as goal

-- the lines of the classes that are left
abbrev pub invariant-loop-named : goal.invariant-loop-named
invariant-loop-named l =
    Owes (class_lines (map (λ c. c.name.items) (drop l.named-index l.classes)) (map (λ c. c.class) (drop l.named-index l.classes)))
    (class_lines (map (λ c. c.name.items) l.fn.classes) (map (λ c. c.class) l.fn.classes)) l.fn.out l.out
