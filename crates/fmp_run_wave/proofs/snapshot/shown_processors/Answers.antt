use Rattle.std.proofs.Common.{◌≡◌, ℕ, ◌+◌, length, map, ap, ◌∙◌}
use Rattle.std.specs.List.{range_with_len}
use Rattle.std.proofs.lemmas.List.FromFn.{length-map-range_with_len}
use Rattle.fmp_codes.specs.Numbers.{as_proc}
use Rattle.fmp_codes.specs.declared.numbers.Proc.{Proc}
use Rattle.fmp_run_wave.specs.declared.snapshot.ShownProcessor.{ShownProcessor}
use Rattle.fmp_run_wave.specs.Shown.{shown_processor}
use Rattle.fmp_run_wave.proofs.Alike.{one_more}
use Rattle.fmp_run_wave.proofs.snapshot.shown_processors.Goals as goal

pub loop-index-preserved : goal.loop-index-preserved
loop-index-preserved c =
    let w = c.args.machine.now in
    let n = c.loop-index.index in
    let f : ℕ → ShownProcessor = λ i. shown_processor w (as_proc i) in
    let is = c.shown_processor.ensures ∙ ap (λ (x : Proc). shown_processor w x) c.from_index.ensures.value in
    let shown : c.push.new.self.items ≡ map f (range_with_len 1 (n + 1)) = one_more f n _ _ _ c.loop-index.invariant.shown is c.push.ensures.items in
    record {
      shown = shown;
      count = ap length shown ∙ length-map-range_with_len f 1 (n + 1);
    }
