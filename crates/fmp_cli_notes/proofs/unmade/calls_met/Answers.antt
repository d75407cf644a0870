use Rattle.std.proofs.Common.{◌≡◌, ℕ, inr, Bool, List, subst, sym}
use Rattle.std.proofs.lemmas.Result.{IfOk-weaker}
use Rattle.fmp_setup.specs.Setup.{Setup}
use Rattle.fmp_text_scripts.specs.Scripts.{Steps}
use Rattle.fmp_search_orders.specs.declared.rules.Rules.{Rules}
use Rattle.fmp_search_orders.specs.Unknown.{IsNotKnown}
use Rattle.fmp_cli_notes.proofs.unmade.calls_met.Goals as goal

-- it is not known either of orders that are the same, by one who has ended it as well
also_unknown : (c d : Setup) (s t : List Steps) (r v : Rules) (turns room : ℕ) (o p : Bool) → c ≡ d → s ≡ t → r ≡ v → p ≡ o → IsNotKnown c s r turns room o → IsNotKnown d t v turns room p
also_unknown c d s t r v turns room o p configs scripts rules ended is =
    subst (λ (x : Setup). IsNotKnown x t v turns room p) configs
    (subst (λ (x : List Steps). IsNotKnown c x v turns room p) scripts
    (subst (λ (x : Rules). IsNotKnown c s x turns room p) rules
    (subst (λ (x : Bool). IsNotKnown c s r turns room x) (sym ended) is)))

pub returns-clause-none : goal.returns-clause-none
returns-clause-none g c =
    let o = c.orders.ensures in
    IfOk-weaker c.calls_made-found.result _ _ (λ met none. λ is. inr (also_unknown _ _ _ _ _ _ _ _ _ _ o.config o.scripts o.rules c.end.ensures (none is))) c.calls_made-found.ensures.none
