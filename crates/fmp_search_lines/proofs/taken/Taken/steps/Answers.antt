use Rattle.std.proofs.Common.{◌≡◌, ◌≤◌, ◌+◌, ℕ, Bool, List, None, false, rules}
use Rattle.fmp_search_lines.specs.Places.{line_of, may_leave}
use Rattle.fmp_search_lines.specs.Lasts.{last_at}
use Rattle.fmp_search_lines.proofs.Steps.{none_from, none_past}
use Rattle.fmp_search_lines.proofs.taken.Taken.steps.Goals as goal

none_here : (last : ℕ → ℕ) (count top : ℕ) (pending : List ℕ) (k m s : ℕ) (b : Bool) → b ≡ may_leave last count top pending m → b ≡ false → m ≡ k →
    16 + k ≤ s → line_of last count top pending s ≡ None
none_here last count top pending k m s b is none same high = none_from last count top pending k s (rw (none, same) at is) high

pub returns-then-not-may_leave : goal.returns-then-not-may_leave
returns-then-not-may_leave c = λ s high.
    none_here (last_at c.args.lasts.now) c.args.count c.args.self.now.top c.args.self.now.pending.items c.loop-more.more c.from.result s
    c.may_leave.result c.may_leave.ensures (search rules) (search rules) high

pub returns : goal.returns
returns c = λ s high. none_past (last_at c.args.lasts.now) c.args.count c.args.self.now.top c.args.self.now.pending.items s high
