use Rattle.std.proofs.Common.{◌≡◌, ◌∙◌, ◌<◌, ◌≤◌, ◌+◌, length, ap, sym, arith, None, Some}
use Rattle.std.specs.Option.{option_copied, option_map_or}
use Rattle.fmp_bytes.specs.Bytes.{cut_at, line_feed, pieces_of}
use Rattle.fmp_bytes.proofs.Cutting.{fewer_left, pieces_left}
use Rattle.fmp_cli_questions.specs.Rows as spec
use Rattle.fmp_cli_questions.proofs.EachLine.{first, line_fault, line_read}
use Rattle.fmp_cli_questions.proofs.reading.read_rows.Goals as goal
use Rattle.fmp_cli_questions.proofs.reading.read_rows.Goals.{After-add_line}

-- what is read of the lines that are left is what is read of all
so_far : (c : After-add_line) → spec.rows_of c.loop-rest.rows.items c.loop-rest.line (pieces_of line_feed c.in-Some.lines.now) ≡ spec.rows_in c.args.text.now
so_far c = rw c.in-Some.is at c.loop-rest.invariant.same

pub returns-in-Ok-Some-clause-rows : goal.returns-in-Ok-Some-clause-rows
returns-in-Ok-Some-clause-rows c =
    let rows = c.loop-rest.rows.items in
    let n = c.loop-rest.line in
    let is = sym (sym c.in-Ok-Some.field-0-is ∙ c.in-Ok-Some.ensures.report ∙ ap (λ l. (spec.with_line rows (n + 1) l).1) c.cut.ensures.prefix) in
    c.in-Ok-Some.ensures.rows ∙ ap (λ l. (spec.with_line rows (n + 1) l).0) c.cut.ensures.prefix
    ∙ ap (λ p. p.0) (sym (line_fault rows n c.in-Some.lines.now c.in-Ok-Some.kind is) ∙ so_far (goal.at.returns-in-Ok-Some-clause-rows c).After-add_line)

pub returns-in-Ok-Some-clause-fault : goal.returns-in-Ok-Some-clause-fault
returns-in-Ok-Some-clause-fault c =
    let rows = c.loop-rest.rows.items in
    let n = c.loop-rest.line in
    let is = sym (sym c.in-Ok-Some.field-0-is ∙ c.in-Ok-Some.ensures.report ∙ ap (λ l. (spec.with_line rows (n + 1) l).1) c.cut.ensures.prefix) in
    ap (λ p. p.1) (sym (line_fault rows n c.in-Some.lines.now c.in-Ok-Some.kind is) ∙ so_far (goal.at.returns-in-Ok-Some-clause-fault c).After-add_line)

pub loop-rest-smaller : goal.loop-rest-smaller
loop-rest-smaller c = fewer_left line_feed (option_copied c.loop-rest.rest) (option_copied c.cut.result.1) c.in-Some.lines.now (ap option_copied c.in-Some.is) c.cut.ensures.rest

pub loop-rest-preserved : goal.loop-rest-preserved
loop-rest-preserved c =
    let rows = c.loop-rest.rows.items in
    let n = c.loop-rest.line in
    let text = c.in-Some.lines.now in
    let is = sym (sym c.in-Ok-None.field-0-is ∙ c.in-Ok-None.ensures.report ∙ ap (λ l. (spec.with_line rows (n + 1) l).1) c.cut.ensures.prefix) in
    let new = c.in-Ok-None.ensures.rows ∙ ap (λ l. (spec.with_line rows (n + 1) l).0) c.cut.ensures.prefix in
    let less = fewer_left line_feed (option_copied c.loop-rest.rest) (option_copied c.cut.result.1) text (ap option_copied c.in-Some.is) c.cut.ensures.rest in
    record {
      same = ap (λ rs. spec.rows_of rs (n + 1) (pieces_left line_feed (option_copied c.cut.result.1))) new
          ∙ ap (λ r. spec.rows_of (first rows n text).0 (n + 1) (pieces_left line_feed r)) c.cut.ensures.rest
          ∙ sym (line_read rows n text is)
          ∙ so_far (goal.at.loop-rest-preserved c).After-add_line;
      few = omega (arith, less, c.loop-rest.invariant.few);
    }
