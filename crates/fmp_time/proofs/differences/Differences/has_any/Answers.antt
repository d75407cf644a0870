use Rattle.std.proofs.Common.{ℕ, ◌+◌, ◌||◌, Bool, [], ◌∷◌, ap, sym, ◌∙◌}
use Rattle.std.specs.Prelude.{is_some}
use Rattle.std.specs.List.{list_any, range_with_len}
use Rattle.std.proofs.Math.Bool.{or-false}
use Rattle.std.proofs.lemmas.List.Folds.{list_any-append}
use Rattle.fmp_time.specs.Left.{left_in}
use Rattle.fmp_time.proofs.Passing.{range_next}
use Rattle.fmp_time.proofs.differences.Differences.has_any.Goals as goal

pub loop-at-preserved : goal.loop-at-preserved
loop-at-preserved c =
    let p : ℕ → Bool = λ k. is_some (left_in c.args.self.now k) in
    let before = range_with_len c.args.first c.loop-at.at in
    let k = c.args.first + c.loop-at.at in
    record {
      any = ap (λ (b : Bool). b || c.stands-any.result) c.loop-at.invariant.any
          ∙ ap (λ (b : Bool). list_any p before || b) (c.stands-any.ensures.value ∙ sym (or-false (p k)))
          ∙ sym (list_any-append p before (k ∷ [])) ∙ ap (list_any p) (sym (range_next c.args.first c.loop-at.at));
    }
