use Rattle.std.proofs.Common.{◌+◌, None, refl, sym, ◌∙◌}
use Rattle.fmp_bytes.proofs.Cutting.{take-to_end}
use Rattle.fmp_text.proofs.Scanned.{said_as}
use Rattle.fmp_text_feed.proofs.Searched.{IsFeedAt, first_feed, line_said, line_skipped, no_feed, none_left}
use Rattle.fmp_text_feed.proofs.scan.next_said.Goals as goal
use Rattle.fmp_text_feed.proofs.scan.next_said.Goals.{In-Some}

pub returns-in_default-clause-whole : goal.returns-in_default-clause-whole
returns-in_default-clause-whole c = λ nothing. no_feed c.args.bytes.now _ c.args.searched c.requires.within c.requires.searched (take-to_end c.args.bytes.now c.args.searched) (rw c.in_default.is at c.memchr.ensures)

-- the first line feed
feed : (c : In-Some) → IsFeedAt c.args.bytes.now (c.args.searched + c.in-Some.found)
feed c = first_feed c.args.bytes.now _ c.args.searched c.requires.within c.requires.searched (take-to_end c.args.bytes.now c.args.searched) c.in-Some.found (rw c.in-Some.is at c.memchr.ensures)

pub returns-in-Ok-None-clause-gives : goal.returns-in-Ok-None-clause-gives
returns-in-Ok-None-clause-gives c =
    let end = c.args.searched + c.in-Some.found in
    let skipped = sym c.line_event-said.ensures ∙ said_as _ c.in-Ok-None.field-0 None c.in-Ok-None.is (rw c.in-Ok-None.is at c.in-Ok-None.field-0-is) in
    line_skipped c.args.names.now c.args.before c.args.bytes.now _ end (feed (goal.at.returns-in-Ok-None-clause-gives c).In-Some) refl _ c.first_said-following.result skipped
    (take-to_end c.args.bytes.now (end + 1)) c.first_said-following.ensures.gives

pub returns-in-Ok-None-clause-whole : goal.returns-in-Ok-None-clause-whole
returns-in-Ok-None-clause-whole c =
    let end = c.args.searched + c.in-Some.found in
    λ nothing. none_left c.args.bytes.now _ (end + 1) c.first_said-following.result.used (take-to_end c.args.bytes.now (end + 1)) (c.first_said-following.ensures.whole nothing)

pub returns-in_default-said-clause-gives : goal.returns-in_default-said-clause-gives
returns-in_default-said-clause-gives c =
    line_said c.args.names.now c.args.before c.args.bytes.now _ (c.args.searched + c.in-Some.found) (feed (goal.at.returns-in_default-said-clause-gives c).In-Some) refl _ c.line_event-said.ensures
