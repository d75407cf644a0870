use Rattle.std.proofs.Common.{◌≡◌, ◌++◌, ℕ, List, ◌∷◌, [], refl, ap, sym, ◌∙◌, arith, decimal}
use Rattle.std.specs.Prelude.{codes}
use Rattle.std.proofs.lemmas.List.{append_cancel_right}
use Rattle.fmp_bytes.proofs.Cutting.{take-to_end}
use Rattle.fmp_run_partial.proofs.Lasts.{one_start, unended}
use Rattle.fmp_run_partial.proofs.ending.split_ending.Goals as goal

pub returns-in-None : goal.returns-in-None
returns-in-None c = (
  refl,
  λ body n ends.
      let line : List ℕ = codes "ends " ++ decimal n in
      let last : c.in-Some.last.now ≡ 10 = omega (arith, c.if-last-ne10.false) in
      let whole : c.in-Some.front.now ++ 10 ∷ [] ≡ (body ++ line) ++ 10 ∷ [] =
      sym (ap (λ (b : ℕ). c.in-Some.front.now ++ b ∷ []) last) ∙ sym c.in-Some.ensures.cases.0 ∙ ends.parts in
      let front : c.in-Some.front.now ≡ body ++ line = append_cancel_right c.in-Some.front.now (body ++ line) (10 ∷ []) whole in
      let start = one_start c.in-Some.front.now body line c.last_line-start.result c.last_line-start.ensures.within c.last_line-start.ensures.before c.last_line-start.ensures.line front ends.lines (unended n ends.small) in
      c.log_line.ensures.none c.in-None.is n ends.small (take-to_end c.in-Some.front.now c.last_line-start.result ∙ start),
)
