use Rattle.std.proofs.Common.{◌≡◌, ◌∙◌, ◌+◌, ◌++◌, ◌∷◌, [], None, List, ap, sym, map, arith, rules, append-nil}
use Rattle.std.specs.Prelude.{Ok}
use Rattle.std.specs.Option.{option_copied}
use Rattle.fmp_bytes.specs.Bytes.{cut_at, pieces_of}
use Rattle.fmp_bytes.proofs.Cutting.{fewer_left, pieces_left}
use Rattle.fmp_show_changes.specs.declared.life.things.Thing.{Thing}
use Rattle.fmp_show_changes.specs.Life.Things.{chosen_in, thing_named, things_from}
use Rattle.fmp_show_changes.proofs.life.Names.{after_these, none_there, one_more, watch_more}
use Rattle.fmp_show_changes.proofs.life.choosing.chosen.Goals as goal
use Rattle.fmp_show_changes.proofs.life.choosing.chosen.Goals.{In-Some}

so_far : (c : In-Some) → after_these (map (λ x. x.thing) c.loop-rest.watched.items) (things_from c.args.names.now c.loop-rest.count (pieces_of 44 c.in-Some.list.now)) ≡ chosen_in c.args.names.now c.args.text.now
so_far c = rw c.in-Some.is at c.loop-rest.invariant.things

pub returns-in-None-clause-unknown : goal.returns-in-None-clause-unknown
returns-in-None-clause-unknown c =
    none_there c.args.names.now c.loop-rest.count c.in-Some.list.now _ _
    (sym c.in-None.is ∙ (c.thing_named.ensures ∙ ap (thing_named c.args.names.now) c.cut.ensures.prefix)) (so_far (goal.at.returns-in-None-clause-unknown c).In-Some)

pub loop-rest-smaller : goal.loop-rest-smaller
loop-rest-smaller c = fewer_left 44 (option_copied c.loop-rest.rest) (option_copied c.cut.result.1) c.in-Some.list.now (ap option_copied c.in-Some.is) c.cut.ensures.rest

pub loop-rest-preserved : goal.loop-rest-preserved
loop-rest-preserved c =
    let items : c.push.new.self.items ≡ c.loop-rest.watched.items ++ c.new.result ∷ [] = search rules in
    let more = watch_more c.loop-rest.watched.items c.push.new.self.items c.new.result c.in-Some-thing_named.thing items c.new.ensures c.loop-rest.invariant.fresh in
    let rest = pieces_left 44 (cut_at 44 c.in-Some.list.now).1 in
    let fewer = fewer_left 44 (option_copied c.loop-rest.rest) (option_copied c.cut.result.1) c.in-Some.list.now (ap option_copied c.in-Some.is) c.cut.ensures.rest in
    record {
      things = rw c.cut.ensures.rest (ap (λ (xs : List Thing). after_these xs (things_from c.args.names.now (c.loop-rest.count + 1) rest)) more.0
          ∙ one_more c.args.names.now c.loop-rest.count c.in-Some.list.now _ c.in-Some-thing_named.thing _
          (sym c.in-Some-thing_named.is ∙ (c.thing_named.ensures ∙ ap (thing_named c.args.names.now) c.cut.ensures.prefix)) (so_far (goal.at.loop-rest-preserved c).In-Some));
      fresh = more.1;
      few = omega (arith, fewer, c.loop-rest.invariant.few);
    }

pub returns-clause-things : goal.returns-clause-things
returns-clause-things c =
    let none : c.loop-rest.rest ≡ None = search rules in
    let things = map (λ x. x.thing) c.loop-rest.watched.items in (
      things,
      sym (rw none at c.loop-rest.invariant.things) ∙ ap Ok (append-nil things),
      c.new-2.ensures ∙ c.loop-rest.invariant.fresh,
    )
