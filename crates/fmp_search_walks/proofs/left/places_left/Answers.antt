use Rattle.std.proofs.Common.{◌∙◌, ℕ, List, ap, length, subst}
use Rattle.std.specs.Prelude.{Result, IfOk}
use Rattle.std.proofs.lemmas.Result.{IfOk-weaker}
use Rattle.fmp_search_kernel.specs.Weights.{AreLeftEach}
use Rattle.fmp_search_orders.specs.Places.{origin}
use Rattle.fmp_search_walks.proofs.left.places_left.Goals as goal

pub returns : goal.returns
returns g c =
    let first = c.in_ok-first.first in
    let o = origin c.args.config.now c.args.scripts.now c.args.rules c.args.question.now in
    IfOk-weaker c.with_count.result _ _
    (λ r so. record {
      kept = first.tables;
      keys = first.keys.items;
      first = c.in_ok-first.ensures;
      count = so.0 ∙ ap (λ (ks : List ℕ). length ks) c.without_each-without.ensures.same.1;
      each = subst (λ (x : Result _ _). IfOk x (λ v. AreLeftEach o first.tables first.keys.items v.items)) so.1 c.without_each-without.ensures.left;
    })
    c.with_count.ensures
