use Rattle.std.proofs.lemmas.Option.{IfSome_then}
use Rattle.fmp_names.proofs.Fronts.{front_name}
use Rattle.fmp_names.proofs.names.Names.piece.Goals as goal

pub returns-clause-few : goal.returns-clause-few
returns-clause-few c =
    IfSome_then c.get.result c.get.ensures (λ p is. (c.self.invariant.1 c.place.result c.args.number p.now c.requires is.0 is.1).0)

pub returns-clause-name : goal.returns-clause-name
returns-clause-name c =
    IfSome_then c.get.result c.get.ensures (λ p is. rw (← c.self.view_is) (front_name _ c.args.kind c.place.result c.args.number _ p.now c.place.ensures.value c.self.invariant.1 c.requires is.0 is.1))
