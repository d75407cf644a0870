use Rattle.std.proofs.Common.{◌≡◌, refl, arith, map}
use Rattle.std.proofs.lemmas.List.{map-id}
use Rattle.fmp_codes.specs.declared.calls.Call.{Call}
use Rattle.fmp_names.proofs.Same.{same_views}
use Rattle.fmp_text_scripts.proofs.equality.are_same_steps.Goals as goal

pub returns : goal.returns
returns c =
    let long = c.if-one-other.false in
    let one = c.args.one.now in
    let other = c.args.other.now in
    let same : map (λ (x : Call). x) one ≡ map (λ (x : Call). x) other =
    same_views (λ (x : Call). x) one other (omega arith) (λ i d e small. c.loop-at.invariant i d e (omega arith)) in
    (λ _. rw (map-id one, map-id other) at same, λ _. refl)
