use Rattle.std.proofs.Common.{◌≡◌, ℕ, ◌+◌, length, map, ap, ◌∙◌}
use Rattle.std.specs.List.{range_with_len}
use Rattle.std.proofs.lemmas.List.FromFn.{length-map-range_with_len}
use Rattle.fmp_codes.specs.Numbers.{as_object}
use Rattle.fmp_codes.specs.declared.numbers.Object.{Object}
use Rattle.fmp_run_wave.specs.Resources.{number_in}
use Rattle.fmp_run_wave.proofs.Alike.{one_more}
use Rattle.fmp_run_wave.proofs.snapshot.shown_numbers.Goals as goal

pub loop-index-preserved : goal.loop-index-preserved
loop-index-preserved c =
    let w = c.args.machine.now in
    let r = c.args.resource in
    let n = c.loop-index.index in
    let f : ℕ → ℕ = λ i. number_in w r (as_object i) in
    let is = c.number_in.ensures ∙ ap (λ (o : Object). number_in w r o) c.from_index.ensures.value in
    let shown : c.push.new.self.items ≡ map f (range_with_len 1 (n + 1)) = one_more f n _ _ _ c.loop-index.invariant.shown is c.push.ensures.items in
    record {
      shown = shown;
      count = ap length shown ∙ length-map-range_with_len f 1 (n + 1);
    }
