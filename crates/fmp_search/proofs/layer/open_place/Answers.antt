use Rattle.std.proofs.Common.{◌+◌, ◌≤◌, ◌≡◌, ◌∙◌, false, length, refl, ap, arith, subst, sym}
use Rattle.fmp_search.specs.Fronts.{Advances, IsOpen}
use Rattle.fmp_search.specs.Growth.{Extends}
use Rattle.fmp_search.specs.Trees.{found_at, Stands}
use Rattle.fmp_search.proofs.Fronts.{extends_same, none_closed, open_next, stands_there, stays_on, stops_on}
use Rattle.fmp_search.proofs.Growth.{extends_on}
use Rattle.fmp_search.proofs.layer.open_place.Goals as goal

pub key_of-key-requires : goal.key_of-key-requires
key_of-key-requires g c =
    let few = c.requires.opening.front.explored.few in
    let place = c.requires.place in
    omega (arith, few, place)

pub unpack-requires : goal.unpack-requires
unpack-requires g c =
    let W = g.W.Space in
    let q = W.origin c.args.walker.now in
    let s = c.args.store.now in (
      (found_at W.after q s.nodes.items c.args.at).place,
      subst (λ x. W.IsKey x s.tables c.key_of-key.result (found_at W.after q s.nodes.items c.args.at).place) (sym c.requires.origin)
          (c.requires.opening.front.keyed.each c.args.at c.key_of-key.result c.key_of-key.ensures),
    )

pub loop-step-init : goal.loop-step-init
loop-step-init g c =
    let W = g.W.Space in
    let q = W.origin c.args.walker.now in
    let s = c.args.store.now in
    record {
      opening = subst (λ t. IsOpen W.after (W.IsKey q t) s.keys W.passes W.tells W.wanted q c.args.front.depth c.args.front.end s.nodes.items c.args.chart.now c.args.at 0) (sym c.unpack.ensures.same) c.requires.opening;
      stays = record { walker_origin = refl; base_origin = c.unpack.ensures.origin ∙ c.requires.origin; same_room = refl; same = refl; marks = refl };
      extends = extends_same W.after q c.args.store.now.nodes.items;
      closed = none_closed W.after q (W.place c.unpack.new.self);
    }

-- the walker from which steps are made stands at the place that is opened
pub try_step-requires : goal.try_step-requires
try_step-requires g c =
    let W = g.W.Space in
    let q = W.origin c.args.walker.now in
    let old = c.args.store.now in
    let nodes = c.loop-step.store.nodes.items in
    let front = c.args.front in
    let at = c.args.at in
    let inv = c.loop-step.invariant in
    let same = inv.stays.walker_origin in
    let from = W.origin c.loop-step.walker in
    let base = c.unpack.new.self in
    let few = c.requires.opening.front.explored.few in
    let place = c.requires.place in
    let low : at ≤ length old.nodes.items = omega (arith, few, place) in
    let stood : Stands W.place W.room W.origin W.after q old.nodes.items at base = record {
      same = c.unpack.ensures.origin ∙ c.requires.origin;
      there = c.in_ok-unpack.ensures.there _ (subst (λ x. W.IsKey x old.tables c.key_of-key.result (found_at W.after q old.nodes.items at).place) (sym c.requires.origin)
          (c.requires.opening.front.keyed.each at c.key_of-key.result c.key_of-key.ensures));
      roomy = c.in_ok-unpack.ensures.room;
    } in record {
      opening = subst (λ x. IsOpen W.after (W.IsKey x c.loop-step.store.tables) c.loop-step.store.keys W.passes W.tells W.wanted x front.depth front.end nodes c.loop-step.chart at c.loop-step.step) (sym same) inv.opening;
      place = c.requires.place;
      base = subst (λ x. Stands W.place W.room W.origin W.after x nodes at base) (sym same) (stands_there W.place W.room W.origin W.after q old.nodes.items nodes at base low inv.extends stood);
      closed = inv.closed;
    }

pub loop-step-preserved : goal.loop-step-preserved
loop-step-preserved g c =
    let W = g.W.Space in
    let q = W.origin c.args.walker.now in
    let old = c.args.store.now.nodes.items in
    let nodes = c.loop-step.store.nodes.items in
    let more = c.try_step.new.store.nodes.items in
    let chart = c.try_step.new.chart in
    let front = c.args.front in
    let at = c.args.at in
    let s = c.loop-step.step in
    let inv = c.loop-step.invariant in
    let same = inv.stays.walker_origin in
    let from = W.origin c.loop-step.walker in
    let is = c.in_ok-how.ensures in
    let done = subst (λ h. Advances W.after (W.IsKey from c.try_step.new.store.tables) c.try_step.new.store.keys W.passes W.tells W.wanted from front.depth front.end c.loop-step.store.most false more chart at (s + 1) h) c.in-Done.is is.advances in
    record {
      opening = subst (λ x. IsOpen W.after (W.IsKey x c.try_step.new.store.tables) c.try_step.new.store.keys W.passes W.tells W.wanted x front.depth front.end more chart at (s + 1)) same done;
      stays = stays_on W.origin q c.loop-step.walker c.unpack.new.self c.try_step.new.walker c.unpack.new.self _ _ _ _ _ c.loop-step.chart chart inv.stays is.stays;
      extends = extends_on W.after q old nodes more inv.extends (subst (λ x. Extends W.after x nodes more) same is.extends);
      closed = is.closed;
    }

pub returns-in_default : goal.returns-in_default
returns-in_default g c =
    let W = g.W.Space in
    let q = W.origin c.args.walker.now in
    let more = c.try_step.new.store.nodes.items in
    let chart = c.try_step.new.chart in
    let front = c.args.front in
    let at = c.args.at in
    let s = c.loop-step.step in
    let inv = c.loop-step.invariant in
    let from = W.origin c.loop-step.walker in
    let how = c.in_ok-how.how in
    let is = c.in_ok-how.ensures in
    let most = c.args.store.now.most in
    let here = subst (λ m. Advances W.after (W.IsKey from c.try_step.new.store.tables) c.try_step.new.store.keys W.passes W.tells W.wanted from front.depth front.end m false more chart at (s + 1) how) inv.stays.same_room is.advances in
    record {
      advances = stops_on W.after (W.IsKey q c.try_step.new.store.tables) c.try_step.new.store.keys W.passes W.tells W.wanted q front.depth front.end most false more chart at (s + 1) (at + 1) 0 how c.in_default.not-Done
          (subst (λ x. Advances W.after (W.IsKey x c.try_step.new.store.tables) c.try_step.new.store.keys W.passes W.tells W.wanted x front.depth front.end most false more chart at (s + 1) how) inv.stays.walker_origin here);
      stays = stays_on W.origin q c.loop-step.walker c.unpack.new.self c.try_step.new.walker c.unpack.new.self _ _ _ _ _ c.loop-step.chart chart inv.stays is.stays;
    }

pub returns : goal.returns
returns g c =
    let W = g.W.Space in
    let q = W.origin c.args.walker.now in
    let old = c.args.store.now in
    let nodes = c.loop-step.store.nodes.items in
    let front = c.args.front in
    let at = c.args.at in
    let inv = c.loop-step.invariant in
    let base = c.unpack.new.self in
    let few = c.requires.opening.front.explored.few in
    let place = c.requires.place in
    let low : at ≤ length old.nodes.items = omega (arith, few, place) in
    let there : W.place base ≡ (found_at W.after q old.nodes.items at).place = c.in_ok-unpack.ensures.there _
    (subst (λ x. W.IsKey x old.tables c.key_of-key.result (found_at W.after q old.nodes.items at).place) (sym c.requires.origin)
    (c.requires.opening.front.keyed.each at c.key_of-key.result c.key_of-key.ensures)) in
    let past = c.loop-step-test.false in record {
      advances = open_next W.after (W.IsKey q c.loop-step.store.tables) c.loop-step.store.keys W.passes W.tells W.wanted q front.depth front.end nodes c.loop-step.chart at c.loop-step.step (W.place base) c.requires.place
          (there ∙ sym (ap (λ f. f.place) (inv.extends.stays at low))) (λ t le. c.steps-steps.ensures t (omega (arith, le, past))) inv.opening;
      stays = record {
        walker_origin = inv.stays.walker_origin;
        base_origin = inv.stays.base_origin;
        same_room = inv.stays.same_room;
        same = inv.stays.same;
        marks = inv.stays.marks;
      };
    }
