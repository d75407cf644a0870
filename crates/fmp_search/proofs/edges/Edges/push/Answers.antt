use Rattle.std.proofs.Common.{◌∙◌, ◌++◌, ◌∷◌, [], List, Ok, Err, OnErr, ap, refl}
use Rattle.std.specs.Prelude.{Result}
use Rattle.fmp_search.specs.declared.edges.Edge.{Edge}
use Rattle.fmp_search.proofs.Linked.{known_stay, known_more, edges_more, edges_stay}
use Rattle.fmp_search.proofs.edges.Edges.push.Goals as goal

on_err : {A E : Type 0} (r : Result A E) (P : Type 0) → P → OnErr r P
on_err (Ok a) P is = tt
on_err (Err e) P is = is

pub invariant_of-self : goal.invariant_of-self
invariant_of-self c = known_stay c.self.inside.kinds _ c.number_of.ensures.kept c.self.inside.links.items _ refl c.self.invariant

pub invariant_of-self-in_err-push : goal.invariant_of-self-in_err-push
invariant_of-self-in_err-push c =
    known_stay c.self.inside.kinds _ c.number_of.ensures.kept c.self.inside.links.items c.push.new.self.items c.in_err-push.ensures.items c.self.invariant

pub invariant_of-self-2 : goal.invariant_of-self-2
invariant_of-self-2 c =
    known_more c.self.inside.kinds _ c.number_of.ensures.kept c.self.inside.links.items c.push.new.self.items _ _ c.in_ok-push.ensures.items c.self.invariant c.in_ok-kind.ensures.is

pub returns-in_err-kind-clause-left : goal.returns-in_err-kind-clause-left
returns-in_err-kind-clause-left c =
    on_err c.from_residual.result _
    (edges_stay c.self.inside.kinds _ c.number_of.ensures.kept c.self.inside.links.items _ refl c.self.invariant ∙ c.self.view_is)

pub returns-in_err-push-clause-left : goal.returns-in_err-push-clause-left
returns-in_err-push-clause-left c =
    on_err c.from_residual-in_err-push.result _
    (edges_stay c.self.inside.kinds _ c.number_of.ensures.kept c.self.inside.links.items c.push.new.self.items c.in_err-push.ensures.items c.self.invariant ∙ c.self.view_is)

pub returns-clause-added : goal.returns-clause-added
returns-clause-added c =
    edges_more c.self.inside.kinds _ c.number_of.ensures.kept c.self.inside.links.items c.push.new.self.items _ _ c.in_ok-push.ensures.items c.self.invariant c.in_ok-kind.ensures.is
    ∙ ap (λ (es : List Edge). es ++ c.args.edge ∷ []) c.self.view_is
