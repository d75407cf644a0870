use Rattle.std.proofs.Common.{◌+◌, ◌≡◌, List, Option, Some, arith, length, refl, subst, sym}
use Rattle.fmp_search.specs.declared.layer.Placed.TheVariants.{At}
use Rattle.fmp_search.specs.declared.nodes.Node.{Node}
use Rattle.fmp_search.specs.declared.space.Noted.{Noted}
use Rattle.fmp_search.specs.Answers.{HasMore}
use Rattle.fmp_search.specs.Runs.{told_of, Watches}
use Rattle.fmp_search.specs.Trees.{found_at, IsNew, IsRunOver, IsTree}
use Rattle.fmp_search.specs.Fronts.{IsFront, IsStopped, Numbers}
use Rattle.fmp_search.proofs.Fronts.{extends_same, found_there, goes_there, more_there, open_more, open_same, stopped_here, stopped_more}
use Rattle.fmp_search.proofs.Growth.{none_of}
use Rattle.fmp_search.proofs.layer.try_step.Goals as goal

pub step_from-requires-clause-room : goal.step_from-requires-clause-room
step_from-requires-clause-room g c = c.requires.base.roomy

pub returns-in_default : goal.returns-in_default
returns-in_default g c =
    let W = g.W.Space in
    let q = W.origin c.args.walker.now in
    let nodes = c.args.store.now.nodes.items in
    let p = W.place c.args.base.now in
    let r = W.place c.step_from.new.walker in
    let none = none_of c.in_ok-noted.field-0 c.in_default.not-Some in
    let watched = subst (λ (o : Option Noted). Watches (W.after p c.args.step) (told_of W.passes W.tells p c.args.step) o r) none c.in_ok-noted.ensures.watched.goes in record {
      advances = open_same W.after (W.IsKey q c.args.store.now.tables) c.args.store.now.keys W.passes W.tells W.wanted q c.args.front.depth c.args.front.end nodes c.args.chart.now c.args.at c.args.step c.requires.opening
          c.requires.place p r c.requires.base.there watched;
      stays = record { walker_origin = c.step_from.ensures.origin; base_origin = c.requires.base.same; same_room = refl; same = refl; marks = refl };
      extends = extends_same W.after q nodes;
      closed = c.in_ok-noted.ensures.watched.closed;
    }

pub steps_over-requires-clause-tree : goal.steps_over-requires-clause-tree
steps_over-requires-clause-tree g c =
    let W = g.W.Space in
    subst (λ (ns : List Node). IsTree W.after (W.origin c.step_from.new.walker) ns) (sym c.deref.ensures.value)
    (subst (λ x. IsTree W.after x c.args.store.now.nodes.items) (sym c.step_from.ensures.origin) c.requires.opening.front.explored.tree)

pub returns-then-is_wanted : goal.returns-then-is_wanted
returns-then-is_wanted g c =
    let W = g.W.Space in
    let q = W.origin c.args.walker.now in
    let nodes = c.args.store.now.nodes.items in
    let p = W.place c.args.base.now in
    let r = W.place c.step_from.new.walker in
    let watched = subst (λ (o : Option Noted). Watches (W.after p c.args.step) (told_of W.passes W.tells p c.args.step) o r) c.in-Some.is c.in_ok-noted.ensures.watched.goes in
    let steps = c.in_ok-steps_over.field-0.items in
    let over = subst (λ (ns : List Node). IsRunOver W.after q ns c.args.at c.args.step steps) c.deref.ensures.value
    (subst (λ x. IsRunOver W.after x c.deref.result.now c.args.at c.args.step steps) c.step_from.ensures.origin c.in_ok-steps_over.ensures) in record {
      advances = found_there W.after (W.IsKey q c.args.store.now.tables) c.args.store.now.keys W.passes W.tells W.wanted q c.args.front.depth c.args.front.end nodes c.args.chart.now c.args.at c.args.step c.requires.opening
          c.requires.place p r c.requires.base.there c.in-Some.noted watched steps (sym c.if-is_wanted.ensures) over;
      stays = record { walker_origin = c.step_from.ensures.origin; base_origin = c.requires.base.same; same_room = refl; same = refl; marks = refl };
      extends = extends_same W.after q nodes;
      closed = c.in_ok-noted.ensures.watched.closed;
    }

pub number_of-requires : goal.number_of-requires
number_of-requires g c =
    let W = g.W.Space in
    let q = W.origin c.args.walker.now in
    let nodes = c.args.store.now.nodes.items in
    let front = c.args.front in
    let same = c.step_from.ensures.origin in
    let p = W.place c.args.base.now in
    let r = W.place c.step_from.new.walker in
    let watched = subst (λ (o : Option Noted). Watches (W.after p c.args.step) (told_of W.passes W.tells p c.args.step) o r) c.in-Some.is c.in_ok-noted.ensures.watched.goes in
    let goes = goes_there W.after (W.IsKey q c.args.store.now.tables) c.args.store.now.keys W.passes W.tells W.wanted q front.depth front.end nodes c.args.chart.now c.args.at c.args.step c.requires.opening
    c.requires.place p r c.requires.base.there c.in-Some.noted watched in record {
      front = subst (λ x. IsFront W.after (W.IsKey x c.args.store.now.tables) c.args.store.now.keys W.wanted x front.depth front.end nodes c.args.at c.args.step) (sym same) c.requires.opening.front;
      place = c.requires.place;
      made = subst (λ x. W.after (found_at W.after x nodes c.args.at).place c.args.step ≡ Some r) (sym same) goes;
      clean = sym c.if-is_wanted.ensures;
    }

pub returns-in-Full-clause-advances : goal.returns-in-Full-clause-advances
returns-in-Full-clause-advances g c =
    let W = g.W.Space in
    let q = W.origin c.args.walker.now in
    let nodes = c.args.store.now.nodes.items in
    let front = c.args.front in
    let p = W.place c.args.base.now in
    let r = W.place c.step_from.new.walker in
    let same = c.in-Full.ensures.number in
    let watched = subst (λ (o : Option Noted). Watches (W.after p c.args.step) (told_of W.passes W.tells p c.args.step) o r) c.in-Some.is c.in_ok-noted.ensures.watched.goes in
    let all = same.1 in
    let few = c.args.store.now.few in (
      subst (λ (ns : List Node). IsStopped W.after W.passes q front.depth ns c.args.chart.now) (sym same.0)
          (stopped_here W.after (W.IsKey q c.args.store.now.tables) c.args.store.now.keys W.passes W.tells W.wanted q front.depth front.end nodes c.args.chart.now c.args.at c.args.step
          c.requires.place c.requires.opening),
      subst (λ (ns : List Node). length ns ≡ c.args.store.now.most) (sym same.0) (omega (arith, all, few)),
      subst (λ (ns : List Node). HasMore W.after q ns (front.depth + 1)) (sym same.0)
          (more_there W.after (W.IsKey q c.args.store.now.tables) c.args.store.now.keys W.passes W.tells W.wanted q front.depth front.end nodes c.args.chart.now c.args.at c.args.step
          c.requires.opening c.requires.place p r c.requires.base.there c.in-Some.noted watched (subst (λ x. IsNew W.after x nodes r) c.step_from.ensures.origin same.2)),
    )

pub returns-in-Wanting-clause-advances : goal.returns-in-Wanting-clause-advances
returns-in-Wanting-clause-advances g c =
    let W = g.W.Space in
    let q = W.origin c.args.walker.now in
    let nodes = c.args.store.now.nodes.items in
    let front = c.args.front in
    subst (λ (ns : List Node). IsStopped W.after W.passes q front.depth ns c.args.chart.now) (sym c.in-Wanting.ensures.number)
    (stopped_here W.after (W.IsKey q c.args.store.now.tables) c.args.store.now.keys W.passes W.tells W.wanted q front.depth front.end nodes c.args.chart.now c.args.at c.args.step c.requires.place
    c.requires.opening)

pub returns-in-Ok-clause-advances : goal.returns-in-Ok-clause-advances
returns-in-Ok-clause-advances g c =
    let W = g.W.Space in
    let q = W.origin c.args.walker.now in
    let nodes = c.args.store.now.nodes.items in
    let more = c.number_of.new.store.nodes.items in
    let front = c.args.front in
    let p = W.place c.args.base.now in
    let r = W.place c.step_from.new.walker in
    let to = c.in-At.to in
    let watched = subst (λ (o : Option Noted). Watches (W.after p c.args.step) (told_of W.passes W.tells p c.args.step) o r) c.in-Some.is c.in_ok-noted.ensures.watched.goes in
    let number = subst (λ x. Numbers W.after (W.IsKey x c.number_of.new.store.tables) c.number_of.new.store.keys W.wanted x front.depth front.end c.args.store.now.most nodes c.args.at c.args.step r (At to) more)
    c.step_from.ensures.origin c.in-At.ensures.number in
    open_more W.after (W.IsKey q c.args.store.now.tables) c.args.store.now.keys W.passes W.tells W.wanted q front.depth front.end nodes c.args.chart.now c.args.at c.args.step c.requires.opening c.requires.place p r
    c.requires.base.there c.in-Some.noted watched (W.IsKey q c.number_of.new.store.tables) c.number_of.new.store.keys more c.add.new.self to number.0 number.1 number.2 (rw c.in-Ok.is at c.add.ensures.adds)

pub returns-in-Err-clause-advances : goal.returns-in-Err-clause-advances
returns-in-Err-clause-advances g c =
    let W = g.W.Space in
    let q = W.origin c.args.walker.now in
    let nodes = c.args.store.now.nodes.items in
    let more = c.number_of.new.store.nodes.items in
    let front = c.args.front in
    let p = W.place c.args.base.now in
    let r = W.place c.step_from.new.walker in
    let to = c.in-At.to in
    let watched = subst (λ (o : Option Noted). Watches (W.after p c.args.step) (told_of W.passes W.tells p c.args.step) o r) c.in-Some.is c.in_ok-noted.ensures.watched.goes in
    let number = subst (λ x. Numbers W.after (W.IsKey x c.number_of.new.store.tables) c.number_of.new.store.keys W.wanted x front.depth front.end c.args.store.now.most nodes c.args.at c.args.step r (At to) more)
    c.step_from.ensures.origin c.in-At.ensures.number in
    stopped_more W.after (W.IsKey q c.args.store.now.tables) c.args.store.now.keys W.passes W.tells W.wanted q front.depth front.end nodes c.args.chart.now c.args.at c.args.step c.requires.opening c.requires.place p r
    c.requires.base.there c.in-Some.noted watched (W.IsKey q c.number_of.new.store.tables) c.number_of.new.store.keys more c.add.new.self number.0 number.1 (rw c.in-Err.is at c.add.ensures.left)
