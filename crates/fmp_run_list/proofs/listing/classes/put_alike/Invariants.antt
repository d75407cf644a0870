use Rattle.std.proofs.Common.{drop, map}
use Rattle.fmp_out.specs.Putting.{Owes}
use Rattle.fmp_run_list.specs.Listing.Classes.{alike_from}
use Rattle.fmp_run_list.proofs.listing.classes.put_alike.Given as goal

-- the names of the classes that are left
abbrev pub invariant-loop-named : goal.invariant-loop-named
invariant-loop-named l =
    Owes (alike_from l.lead (map (λ c. c.name.items) (drop l.named-index l.classes)) (map (λ c. c.class) (drop l.named-index l.classes)) l.class)
    (alike_from 32 (map (λ c. c.name.items) l.fn.classes) (map (λ c. c.class) l.fn.classes) l.class) l.fn.out l.out
