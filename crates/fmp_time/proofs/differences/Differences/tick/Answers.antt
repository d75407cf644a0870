use Rattle.std.proofs.Common.{◌≡◌, List, [], ap, ◌∙◌, arith}
use Rattle.std.specs.Prelude.{slice_set}
use Rattle.std.proofs.lemmas.List.{get_or-set_same, set-set}
use Rattle.fmp_time.specs.Differences.{Entry, entries_at, lowered, due, not_due, items_of}
use Rattle.fmp_time.proofs.differences.Differences.tick.Goals as goal
use Rattle.fmp_time.proofs.differences.Differences.tick.Goals.{After-take_due}

-- the list after it was lowered
now : (c : After-take_due) → entries_at c.lower.new.self c.args.list ≡ lowered (entries_at c.args.self.now c.args.list)
now c = ap (λ (q : List (List Entry)). entries_at q c.args.list) c.lower.ensures.entries
    ∙ get_or-set_same c.args.self.now c.args.list (lowered (entries_at c.args.self.now c.args.list)) [] (omega (arith, c.requires, c.lower.ensures.disjoint.count))

pub returns-clause-entries : goal.returns-clause-entries
returns-clause-entries c =
    c.take_due.ensures.entries ∙ ap (λ (es : List Entry). slice_set c.lower.new.self c.args.list (not_due es)) (now c)
    ∙ ap (λ (q : List (List Entry)). slice_set q c.args.list (not_due (lowered (entries_at c.args.self.now c.args.list)))) c.lower.ensures.entries
    ∙ set-set c.args.self.now c.args.list (lowered (entries_at c.args.self.now c.args.list)) (not_due (lowered (entries_at c.args.self.now c.args.list)))

pub returns-clause-due : goal.returns-clause-due
returns-clause-due c = c.take_due.ensures.due ∙ ap (λ (es : List Entry). items_of (due es)) (now c)
