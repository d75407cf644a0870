use Rattle.std.proofs.Common.{◌≡◌, ℕ, List, [], ◌∷◌, ◌++◌, map, sym, ap, subst, ◌∙◌}
use Rattle.std.specs.Prelude.{slice_set}
use Rattle.fmp_setup.specs.declared.setup.Order.{Order}
use Rattle.fmp_setup.specs.declared.setup.Order.TheVariants as order
use Rattle.fmp_codes.specs.declared.numbers.Task.{Task}
use Rattle.fmp_kernel_parts.specs.Tasks.{inserted}
use Rattle.fmp_waitq.specs.Queue.{rank_of}
use Rattle.fmp_waitq.specs.Kept.{rank_in, waiter_in, AreRanks}
use Rattle.fmp_waitq.proofs.Waiters.{is_absent, joined_is, joined_last, joined_before, spot_flat, spot_there, joined_ranks, has_task-inserted}
use Rattle.fmp_waitq.proofs.WaitQueue.join.Goals as goal

pub push_last-requires : goal.push_last-requires
push_last-requires c = is_absent c.self.inside.order c.self.inside.ranks c.self.inside.tasks c.args.self.now c.args.task c.self.view_is c.requires

pub insert_before-requires-clause-there : goal.insert_before-requires-clause-there
insert_before-requires-clause-there c =
    spot_there (rank_in c.self.inside.ranks) c.args.priority.number c.self.inside.tasks c.in-Some.following (sym c.spot-following.ensures ∙ c.in-Some.is)

pub insert_before-requires-clause-nowhere : goal.insert_before-requires-clause-nowhere
insert_before-requires-clause-nowhere c = is_absent c.self.inside.order c.self.inside.ranks c.self.inside.tasks c.args.self.now c.args.task c.self.view_is c.requires

pub push_last-requires-in-None : goal.push_last-requires-in-None
push_last-requires-in-None c = is_absent c.self.inside.order c.self.inside.ranks c.self.inside.tasks c.args.self.now c.args.task c.self.view_is c.requires

pub returns-in-First : goal.returns-in-First
returns-in-First c =
    let t = c.args.task in
    let r = c.self.inside.ranks in
    let ts = c.self.inside.tasks in
    let out = is_absent c.self.inside.order c.self.inside.ranks c.self.inside.tasks c.args.self.now c.args.task c.self.view_is c.requires in
    joined_is c.self.inside.order r _ ts c.push_last.new.self c.args.self.now t c.args.priority 0 c.self.view_is (ap (λ (o : Order). rank_of o c.args.priority) c.in-First.is)
    (ap (map (waiter_in (slice_set r c.index.result 0))) c.push_last.ensures ∙ ap (λ (i : ℕ). map (waiter_in (slice_set r i 0)) (ts ++ t ∷ [])) c.index.ensures.value
    ∙ joined_last r ts t 0 c.self.told out (spot_flat (rank_in r) ts (c.self.invariant.flat c.in-First.is)))

pub returns-in-Some : goal.returns-in-Some
returns-in-Some c =
    let t = c.args.task in
    let n = c.args.priority.number in
    let r = c.self.inside.ranks in
    let ts = c.self.inside.tasks in
    let out = is_absent c.self.inside.order c.self.inside.ranks c.self.inside.tasks c.args.self.now c.args.task c.self.view_is c.requires in
    joined_is c.self.inside.order r _ ts c.insert_before.new.self c.args.self.now t c.args.priority n c.self.view_is (ap (λ (o : Order). rank_of o c.args.priority) c.in-Priority.is)
    (ap (map (waiter_in (slice_set r c.index-in-Priority.result n))) c.insert_before.ensures
    ∙ ap (λ (i : ℕ). map (waiter_in (slice_set r i n)) (inserted c.in-Some.following t ts)) c.index-in-Priority.ensures.value
    ∙ joined_before r ts t n c.self.told out c.in-Some.following (sym c.spot-following.ensures ∙ c.in-Some.is))

pub returns-in-None : goal.returns-in-None
returns-in-None c =
    let t = c.args.task in
    let n = c.args.priority.number in
    let r = c.self.inside.ranks in
    let ts = c.self.inside.tasks in
    let out = is_absent c.self.inside.order c.self.inside.ranks c.self.inside.tasks c.args.self.now c.args.task c.self.view_is c.requires in
    joined_is c.self.inside.order r _ ts c.push_last-in-None.new.self c.args.self.now t c.args.priority n c.self.view_is (ap (λ (o : Order). rank_of o c.args.priority) c.in-Priority.is)
    (ap (map (waiter_in (slice_set r c.index-in-Priority.result n))) c.push_last-in-None.ensures
    ∙ ap (λ (i : ℕ). map (waiter_in (slice_set r i n)) (ts ++ t ∷ [])) c.index-in-Priority.ensures.value
    ∙ joined_last r ts t n c.self.told out (sym c.spot-following.ensures ∙ c.in-None.is))

pub invariant_of-self-in-Some : goal.invariant_of-self-in-Some
invariant_of-self-in-Some c =
    let t = c.args.task in
    let n = c.args.priority.number in
    let r = c.self.inside.ranks in
    let us = inserted c.in-Some.following t c.self.inside.tasks in
    subst (λ (ts : List Task). AreRanks c.self.inside.order (slice_set r c.index-in-Priority.result n) ts) (sym c.insert_before.ensures)
    (subst (λ (i : ℕ). AreRanks c.self.inside.order (slice_set r i n) us) (sym c.index-in-Priority.ensures.value)
    (joined_ranks c.self.inside.order r t n c.self.inside.tasks us c.self.invariant (λ (e : c.self.inside.order ≡ order.First). cc)
    (λ u. has_task-inserted u c.in-Some.following t c.self.inside.tasks)))
