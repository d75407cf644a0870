use Rattle.std.proofs.Common.{◌∙◌, ap, drop, subst, sym}
use Rattle.std.proofs.lemmas.Option.{same_Some}
use Rattle.fmp_search.proofs.GuidedKeys.{guide_same}
use Rattle.fmp_search.proofs.guided.GuidedSpace.unpack.Goals as goal

pub unpack-requires : goal.unpack-requires
unpack-requires g c =
    let W = g.W.Space in
    let is = c.requires.1 in
    let same = same_Some _ _ (sym c.get.ensures ∙ is.is) in
    (c.requires.0.place, subst (λ k. W.IsKey (W.origin c.args.self.now.walker) c.args.tables.now.tables k c.requires.0.place) (sym (c.of_words-key.ensures is.key is.made same).0) is.there)

pub returns-clause-there : goal.returns-clause-there
returns-clause-there g c = λ p is.
    let W = g.W.Space in
    let s = c.args.self.now in
    let same = c.of_words-key.ensures is.key is.made (same_Some _ _ (sym c.get.ensures ∙ is.is)) in
    let there = c.in_ok-unpack.ensures.there p.place (subst (λ k. W.IsKey (W.origin s.walker) c.args.tables.now.tables k p.place) (sym same.0) is.there) in
    guide_same _ p there (ap (λ n. drop n s.choices.now) same.1 ∙ sym is.left)
