use Rattle.std.proofs.Common.{ap, ◌∙◌}
use Rattle.fmp_search_kernel.specs.Walked.{Walked, origin_of}
use Rattle.fmp_search_kernel.proofs.Closing.{closes}
use Rattle.fmp_search_kernel.proofs.Going.{goes_where}
use Rattle.fmp_search_kernel.proofs.walker.Walker.go_closing.Goals as goal

pub returns-clause-goes : goal.returns-clause-goes
returns-clause-goes c =
    let same = c.close.ensures.same in
    goes_where c.args.self.now.place c.close.new.self c.is_allowed.new.self c.args.step c.args.event c.self.inside.seen c.is_marked-marked.result c.is_allowed.result c.requires.is
    (ap (λ (x : Walked). x.place.seen) c.self.view_is) c.is_marked-marked.ensures (ap (λ (x : Walked). x.place) same ∙ c.play.ensures.place) (ap (λ (x : Walked). x.made) same ∙ c.play.ensures.made)
    c.is_allowed.ensures.same c.is_allowed.ensures.allowed

pub returns-clause-closed : goal.returns-clause-closed
returns-clause-closed c =
    closes c.args.self.now.place c.play.new.self c.args.step c.args.event _ _ _ c.is_marked-marked.result c.requires.is
    (ap (λ (x : Walked). x.place.seen) c.self.view_is) c.is_marked-marked.ensures c.play.ensures.place c.play.ensures.made c.close.ensures.closed

pub returns-clause-origin : goal.returns-clause-origin
returns-clause-origin c = ap (λ (x : Walked). origin_of x.place) c.is_allowed.ensures.same ∙ ap (λ (x : Walked). origin_of x.place) c.close.ensures.same ∙ ap origin_of c.play.ensures.place

pub returns-in_err-close-clause-closed : goal.returns-in_err-close-clause-closed
returns-in_err-close-clause-closed c =
    closes c.args.self.now.place c.play.new.self c.args.step c.args.event _ _ _ c.is_marked-marked.result c.requires.is
    (ap (λ (x : Walked). x.place.seen) c.self.view_is) c.is_marked-marked.ensures c.play.ensures.place c.play.ensures.made c.close.ensures.closed

pub returns-in_err-close-clause-origin : goal.returns-in_err-close-clause-origin
returns-in_err-close-clause-origin c = ap (λ (x : Walked). origin_of x.place) c.close.ensures.same ∙ ap origin_of c.play.ensures.place
