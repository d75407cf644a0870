use Rattle.std.proofs.Common.{◌∙◌, ap, map, sym}
use Rattle.fmp_search_pattern.specs.Lasting.{is_so}
use Rattle.fmp_search_orders.specs.Made.{number_reported}
use Rattle.fmp_search_orders.specs.Places.{sight_at}
use Rattle.fmp_search_orders.specs.Watched.{bits_of}
use Rattle.fmp_search_kernel.specs.Walked.{Walked, origin_of}
use Rattle.fmp_search_kernel.proofs.Watching.{marked_none, eventless, watches_none, watches_so}
use Rattle.fmp_search_kernel.proofs.walker.Walker.watch_for.Goals as goal

pub returns-then-is_marked-clause-goes : goal.returns-then-is_marked-clause-goes
returns-then-is_marked-clause-goes c =
    let w = c.args.self.now.place in
    watches_none w c.requires.none c.args.step w _ (marked_none w c.requires.none c.args.step (sym c.is_marked.ensures ∙ c.if-is_marked.true))

pub returns-in_default-clause-goes : goal.returns-in_default-clause-goes
returns-in_default-clause-goes c =
    let w = c.args.self.now.place in
    watches_none w c.requires.none c.args.step w _ (eventless w c.requires.none c.args.step (sym c.event_of.ensures.is ∙ c.in_default.is))

pub returns-clause-goes : goal.returns-clause-goes
returns-clause-goes c =
    let w = c.args.self.now.place in
    let same = c.in_ok-passes.ensures.same in
    watches_so w c.requires.none c.args.step c.bits.new.self.place c.in-Some.event c.args.lasting.now c.in_ok-passes.passes _ _ c.play.new.self.made
    (sym c.is_marked.ensures ∙ c.if-is_marked.false) (sym c.in-Some.ensures.is) (ap (λ (x : Walked). x.place) same ∙ c.play.ensures.place) c.play.ensures.made
    (c.in_ok-passes.ensures.bits ∙ ap (λ (x : Walked). bits_of (map (λ l. is_so l (sight_at x.place c.play.new.self.made)) c.args.lasting.now)) (sym same))
    (c.number_of-number.ensures ∙ ap (number_reported w) c.in-Some.ensures.is)

pub returns-in_err-passes-clause-origin : goal.returns-in_err-passes-clause-origin
returns-in_err-passes-clause-origin c = ap (λ (x : Walked). origin_of x.place) c.bits.ensures.same ∙ ap origin_of c.play.ensures.place

pub returns-clause-origin : goal.returns-clause-origin
returns-clause-origin c = ap (λ (x : Walked). origin_of x.place) c.in_ok-passes.ensures.same ∙ ap origin_of c.play.ensures.place
