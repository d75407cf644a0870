use Rattle.std.proofs.Common.{[], drop, subst, sym}
use Rattle.std.proofs.lemmas.List.{append-nil}
use Rattle.fmp_search.specs.Guides.{guide}
use Rattle.fmp_search.specs.GuidedKeys.{IsGuidedKey}
use Rattle.fmp_interned.specs.Keys.{IsKeyOf}
use Rattle.fmp_search.proofs.GuidedKeys.{guided_kept, guided_key}
use Rattle.fmp_search.proofs.guided.GuidedSpace.pack.Goals as goal

pub returns-clause-key : goal.returns-clause-key
returns-clause-key g c =
    let W = g.W.Space in
    let s = c.args.self.now in
    let inner = W.IsKey (W.origin s.walker) c.pack.new.tables in
    subst (λ n. IsKeyOf (λ k p. IsGuidedKey inner s.choices.now c.number_of.new.self k p) (guide (drop s.made s.choices.now) (W.place s.walker)) n) (sym c.from.ensures)
    (guided_key s.choices.now inner c.number_of.new.self (W.place s.walker) c.in_ok-key.key s.made c.in_ok-number.number c.words_of.result c.validity.ensures.distinct c.in_ok-key.ensures.key s.within c.words_of.ensures
    c.in_ok-number.ensures.is)

-- where no number is given, what is kept stays
pub returns-in_err-key-clause-kept : goal.returns-in_err-key-clause-kept
returns-in_err-key-clause-kept g c =
    let W = g.W.Space in
    let s = c.args.self.now in
    let kept = c.args.tables.now.kept in
    guided_kept s.choices.now (W.IsKey (W.origin s.walker) c.args.tables.now.tables) (W.IsKey (W.origin s.walker) c.pack.new.tables) kept kept c.pack.ensures.kept ([], sym (append-nil kept))

pub returns-in_err-number-clause-kept : goal.returns-in_err-number-clause-kept
returns-in_err-number-clause-kept g c =
    let W = g.W.Space in
    let s = c.args.self.now in
    guided_kept s.choices.now (W.IsKey (W.origin s.walker) c.args.tables.now.tables) (W.IsKey (W.origin s.walker) c.pack.new.tables) c.args.tables.now.kept c.number_of.new.self c.pack.ensures.kept c.number_of.ensures.kept

pub returns-clause-kept : goal.returns-clause-kept
returns-clause-kept g c =
    let W = g.W.Space in
    let s = c.args.self.now in
    guided_kept s.choices.now (W.IsKey (W.origin s.walker) c.args.tables.now.tables) (W.IsKey (W.origin s.walker) c.pack.new.tables) c.args.tables.now.kept c.number_of.new.self c.pack.ensures.kept c.number_of.ensures.kept
