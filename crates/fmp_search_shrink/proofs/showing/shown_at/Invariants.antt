use Rattle.std.proofs.Common.{◌≡◌, ℕ, ◌≤◌, take}
use Rattle.fmp_search_shrink.specs.Seen.{ShowsAfter, Watches}
use Rattle.fmp_search_shrink.proofs.showing.shown_at.Given as goal

-- what may have been seen in the answers so far, which do not show it
abbrev pub invariant-loop-event : goal.invariant-loop-event
invariant-loop-event l = record {
  watches : Watches l.config l.rules l.question (take l.event-index l.events) l.watch;
  counted : l.count ≡ l.event-index;
  unshown : (n : ℕ) → n ≤ l.event-index → ShowsAfter l.config l.rules l.question l.events n → ⊥;
}
