use Rattle.std.proofs.Common.{◌≡◌, refl, arith, map}
use Rattle.std.proofs.lemmas.List.{map-id}
use Rattle.fmp_text_scripts.specs.declared.ways.Way.{Way}
use Rattle.fmp_names.proofs.Same.{same_views}
use Rattle.fmp_text_scripts.proofs.ways.are_same_ways.Goals as goal

pub returns : goal.returns
returns c =
    let long = c.if-one-other.false in
    let one = c.args.one.now in
    let other = c.args.other.now in
    let same : map (λ (x : Way). x) one ≡ map (λ (x : Way). x) other =
    same_views (λ (x : Way). x) one other (omega arith) (λ i d e small. c.loop-at.invariant i d e (omega arith)) in
    (λ _. rw (map-id one, map-id other) at same, λ _. refl)
