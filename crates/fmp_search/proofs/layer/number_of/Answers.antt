use Rattle.std.proofs.Common.{◌≡◌, ℕ, ◌+◌, List, Option, None, Some, arith, refl, subst, sym}
use Rattle.std.specs.Prelude.{slice_get, MatchOption}
use Rattle.fmp_interned.specs.Values.{IsNew}
use Rattle.fmp_search.specs.Fronts.{IsFront}
use Rattle.fmp_search.proofs.Growth.{none_of}
use Rattle.fmp_search.proofs.Fronts.{front_known, front_later, front_more}
use Rattle.fmp_search.proofs.Keys.{known_by, new_by}
use Rattle.fmp_search.proofs.layer.number_of.Goals as goal

pub overflow_cast-node : goal.overflow_cast-node
overflow_cast-node g c =
    let few = c.requires.front.explored.few in
    let small = c.args.store.now.small in
    let place = c.requires.place in
    omega (arith, few, small, place)

-- the number of a key that is kept, or that it is new
kept_as : (keys : List ℕ) (key : ℕ) (o p : Option ℕ) → o ≡ p → MatchOption o (IsNew keys key) (λ n. slice_get keys n ≡ Some key) → MatchOption p (IsNew keys key) (λ n. slice_get keys n ≡ Some key)
kept_as keys key o p is found = subst (λ (x : Option ℕ). MatchOption x (IsNew keys key) (λ n. slice_get keys n ≡ Some key)) is found

pub returns-in-Some : goal.returns-in-Some
returns-in-Some g c =
    let W = g.W.Space in
    let q = W.origin c.args.walker.now in
    let s = c.args.store.now in
    let later = W.IsKey q c.pack.new.tables in
    let front = front_later W.after (W.IsKey q s.tables) s.keys W.wanted q c.args.front.depth c.args.front.end later s.nodes.items c.args.at c.args.step c.pack.ensures.kept c.requires.front in
    let kept = kept_as s.keys c.in-Ok.key c.find.result (Some c.in-Some.number) c.in-Some.is c.find.ensures in
    let found = known_by W.after q later s.keys s.nodes.items front.keyed c.in-Ok.key c.in-Some.number (W.place c.args.walker.now) c.in-Ok.ensures.key kept in
    record {
      number = front_known W.after later s.keys W.wanted q c.args.front.depth c.args.front.end s.nodes.items c.args.at c.args.step c.in-Some.number (W.place c.args.walker.now) c.requires.place c.requires.made found front;
      stays = refl;
    }

-- where the key is not kept, the place is new
pub returns-then-is_full-clause-number : goal.returns-then-is_full-clause-number
returns-then-is_full-clause-number g c =
    let W = g.W.Space in
    let q = W.origin c.args.walker.now in
    let s = c.args.store.now in
    let later = W.IsKey q c.pack.new.tables in
    let front = front_later W.after (W.IsKey q s.tables) s.keys W.wanted q c.args.front.depth c.args.front.end later s.nodes.items c.args.at c.args.step c.pack.ensures.kept c.requires.front in
    let new = kept_as s.keys c.in-Ok.key c.find.result None (none_of c.find.result c.in_default-find.not-Some) c.find.ensures in
    (refl, c.is_full.ensures.0 c.if-is_full.true, new_by W.after q later s.keys s.nodes.items front.keyed c.in-Ok.key (W.place c.args.walker.now) c.in-Ok.ensures.key new)

pub push-requires-clause-new : goal.push-requires-clause-new
push-requires-clause-new g c = kept_as c.args.store.now.keys c.in-Ok.key c.find.result None (none_of c.find.result c.in_default-find.not-Some) c.find.ensures

pub returns-in-Ok-push-clause-number : goal.returns-in-Ok-push-clause-number
returns-in-Ok-push-clause-number g c =
    let W = g.W.Space in
    let q = W.origin c.args.walker.now in
    let s = c.args.store.now in
    let tables = c.pack.new.tables in
    let later = W.IsKey q tables in
    let front = front_later W.after (W.IsKey q s.tables) s.keys W.wanted q c.args.front.depth c.args.front.end later s.nodes.items c.args.at c.args.step c.pack.ensures.kept c.requires.front in
    let kept = kept_as s.keys c.in-Ok.key c.find.result None (none_of c.find.result c.in_default-find.not-Some) c.find.ensures in
    let new = new_by W.after q later s.keys s.nodes.items front.keyed c.in-Ok.key (W.place c.args.walker.now) c.in-Ok.ensures.key kept in
    let count = c.len.ensures in
    let long = c.push.new.self.nodes.ok.0 in
    let added = rw c.in-Ok-push.is at c.push.ensures.added in
    let more = front_more W.after later s.keys W.wanted q c.args.front.depth c.args.front.end c.push.new.self.keys s.nodes.items c.push.new.self.nodes.items c.args.at c.args.step c.in-Ok.key _ (W.place c.args.walker.now)
    added.1 c.requires.place c.requires.made c.requires.clean new c.in-Ok.ensures.key.there added.0 (omega (arith, count, long)) front in
    (subst (λ t. IsFront W.after (W.IsKey q t) c.push.new.self.keys W.wanted q c.args.front.depth c.args.front.end c.push.new.self.nodes.items c.args.at (c.args.step + 1)) (sym c.push.ensures.same.1) more.0, more.1, more.2)
