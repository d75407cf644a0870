use Rattle.std.proofs.Common.{◌+◌, ◌≡◌, ◌∙◌, false, refl, arith, subst, sym}
use Rattle.fmp_search.specs.Fronts.{Advances, IsOpen}
use Rattle.fmp_search.proofs.Fronts.{stays_on, stopped_here, stops_on}
use Rattle.fmp_search.proofs.layer.open_layer.Goals as goal

pub loop-at-init : goal.loop-at-init
loop-at-init g c = record {
  opening = c.requires.opening;
  stays = record { walker_origin = refl; base_origin = c.requires.origin; same_room = refl; same = refl; marks = refl };
}

pub returns-then-is_over : goal.returns-then-is_over
returns-then-is_over g c =
    let W = g.W.Space in
    let inv = c.loop-at.invariant in record {
      advances = (
        stopped_here W.after (W.IsKey (W.origin c.args.walker.now) c.loop-at.store.tables) c.loop-at.store.keys W.passes W.tells W.wanted (W.origin c.args.walker.now) c.args.front.depth c.args.front.end c.loop-at.store.nodes.items c.loop-at.chart
            c.loop-at.at 0 c.loop-at-test.true inv.opening,
        c.is_over.ensures c.if-is_over.true,
      );
      stays = inv.stays;
    }

pub open_place-requires : goal.open_place-requires
open_place-requires g c =
    let W = g.W.Space in
    let inv = c.loop-at.invariant in
    let same = inv.stays.walker_origin in record {
      opening = subst (λ x. IsOpen W.after (W.IsKey x c.loop-at.store.tables) c.loop-at.store.keys W.passes W.tells W.wanted x c.args.front.depth c.args.front.end c.loop-at.store.nodes.items c.loop-at.chart c.loop-at.at 0)
          (sym same) inv.opening;
      place = c.loop-at-test.true;
      origin = inv.stays.base_origin ∙ sym same;
    }

pub loop-at-preserved : goal.loop-at-preserved
loop-at-preserved g c =
    let W = g.W.Space in
    let q = W.origin c.args.walker.now in
    let inv = c.loop-at.invariant in
    let is = c.in_ok-how.ensures in
    let front = c.args.front in
    let from = W.origin c.loop-at.walker in
    let more = c.open_place.new.store.nodes.items in
    let chart = c.open_place.new.chart in
    let at = c.loop-at.at in
    let done = subst (λ h. Advances W.after (W.IsKey from c.open_place.new.store.tables) c.open_place.new.store.keys W.passes W.tells W.wanted from front.depth front.end c.loop-at.store.most false more chart (at + 1) 0 h) c.in-Done.is is.advances in
    record {
      opening = subst (λ x. IsOpen W.after (W.IsKey x c.open_place.new.store.tables) c.open_place.new.store.keys W.passes W.tells W.wanted x front.depth front.end more chart (at + 1) 0) inv.stays.walker_origin done;
      stays = stays_on W.origin q c.loop-at.walker c.loop-at.base c.open_place.new.walker c.open_place.new.base _ _ _ _ _ c.loop-at.chart chart inv.stays is.stays;
    }

pub returns-in_default : goal.returns-in_default
returns-in_default g c =
    let W = g.W.Space in
    let q = W.origin c.args.walker.now in
    let inv = c.loop-at.invariant in
    let is = c.in_ok-how.ensures in
    let how = c.in_ok-how.how in
    let front = c.args.front in
    let from = W.origin c.loop-at.walker in
    let more = c.open_place.new.store.nodes.items in
    let chart = c.open_place.new.chart in
    let at = c.loop-at.at in
    let most = c.args.store.now.most in
    let here = subst (λ m. Advances W.after (W.IsKey from c.open_place.new.store.tables) c.open_place.new.store.keys W.passes W.tells W.wanted from front.depth front.end m false more chart (at + 1) 0 how) inv.stays.same_room is.advances in
    record {
      advances = stops_on W.after (W.IsKey q c.open_place.new.store.tables) c.open_place.new.store.keys W.passes W.tells W.wanted q front.depth front.end most _ more chart (at + 1) 0 front.end 0 how c.in_default.not-Done
          (subst (λ x. Advances W.after (W.IsKey x c.open_place.new.store.tables) c.open_place.new.store.keys W.passes W.tells W.wanted x front.depth front.end most false more chart (at + 1) 0 how) inv.stays.walker_origin here);
      stays = stays_on W.origin q c.loop-at.walker c.loop-at.base c.open_place.new.walker c.open_place.new.base _ _ _ _ _ c.loop-at.chart chart inv.stays is.stays;
    }

pub returns : goal.returns
returns g c =
    let W = g.W.Space in
    let inv = c.loop-at.invariant in
    let past = c.loop-at-test.false in
    let within = c.loop-at.auto.at-end c.requires.place in
    let last : c.loop-at.at ≡ c.args.front.end = omega (arith, past, within) in record {
      advances = subst (λ k. IsOpen W.after (W.IsKey (W.origin c.args.walker.now) c.loop-at.store.tables) c.loop-at.store.keys W.passes W.tells W.wanted (W.origin c.args.walker.now) c.args.front.depth c.args.front.end c.loop-at.store.nodes.items
          c.loop-at.chart k 0) last inv.opening;
      stays = inv.stays;
    }
