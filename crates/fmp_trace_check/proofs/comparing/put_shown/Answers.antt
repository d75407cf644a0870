use Rattle.std.proofs.Common.{ℕ, ◌+◌, List, subst}
use Rattle.fmp_bytes.specs.Bytes.{pieces_of}
use Rattle.fmp_out.specs.Putting.{Adds}
use Rattle.fmp_out.proofs.Puts.{both}
use Rattle.fmp_trace_check.specs.Comparing.{hunks_from}
use Rattle.fmp_trace_check.specs.Differences.{difference_text}
use Rattle.fmp_trace_check.specs.declared.comparing.Shown.TheVariants.{Each}
use Rattle.fmp_trace_check.proofs.comparing.put_shown.Goals as goal

pub returns : goal.returns
returns c =
    let s = c.args.stop in
    let first = subst (λ (own : List ℕ). Adds (difference_text Each (record { number = s.number; line = s.line.now; own = own })) c.args.out.now c.put_hunk.new.out)
    c.as_slice-in-Each.ensures c.put_hunk.ensures in
    rw c.in-Each.is (both (difference_text Each (record { number = s.number; line = s.line.now; own = s.player.own }))
    (hunks_from c.args.names.now s.player.plain.state (s.number + 1) (pieces_of 10 s.rest.now)) c.args.out.now c.put_hunk.new.out c.put_hunks.new.out
    first c.put_hunks.ensures)
