-- The keys of places, where one more is found.
use Rattle.std.proofs.Common.{◌≡◌, inl, inr, ℕ, ◌+◌, Option, None, Some, List, [], ◌∷◌, ◌++◌, length, get_or, ap, sym, subst, ◌∙◌, arith}
use Rattle.std.specs.Prelude.{slice_get}
use Rattle.std.proofs.lemmas.Grind.{common_steps}
use Rattle.std.proofs.lemmas.Option.{none-some, slice_get_within, slice_get-get_or}
use Rattle.fmp_interned.specs.Keys.{AreKeptBy, IsKeyOf}
use Rattle.fmp_interned.specs.Values.{IsNew}
use Rattle.fmp_interned.proofs.Numbers.{slice_get-pushed}
use Rattle.fmp_search.specs.declared.nodes.Node.{Node}
use Rattle.fmp_search.specs.Keys.{AreKeyed}
use Rattle.fmp_search.specs.Trees.{Found, found_at, IsAt, IsKnownAs}
use Rattle.fmp_search.proofs.Trees.{found-root, found-stays}

-- keys of places by their numbers, with one more
pub each_more : {P : Type 0} (IsKey : ℕ → P → Type 0) (place : ℕ → P) (keys : List ℕ) (key : ℕ) → ((i k : ℕ) → slice_get keys i ≡ Some k → IsKey k (place i)) → IsKey key (place (length keys)) →
    (i k : ℕ) → slice_get (keys ++ key ∷ []) i ≡ Some k → IsKey k (place i)
each_more IsKey place keys key each last i k there = elim (slice_get-pushed keys key k i there) [
  | inl here ↦ subst (λ n. IsKey n (place i)) (sym here.1) (subst (λ n. IsKey key (place n)) (sym here.0) last)
  | inr before ↦ each i k before
]

-- and one alone
pub each_one : {P : Type 0} (IsKey : ℕ → P → Type 0) (place : ℕ → P) (key : ℕ) → IsKey key (place 0) → (i k : ℕ) → slice_get (key ∷ []) i ≡ Some k → IsKey k (place i)
each_one IsKey place key first = each_more IsKey place [] key (λ i k there. absurd (none-some k there)) first

module _ {P : Type 0} (after : P → ℕ → Option P) (q : P) where
  -- the key of the first place
  pub keyed_first : (IsKey : ℕ → P → Type 0) (keys : List ℕ) (nodes : List Node) (first : ℕ) → nodes ≡ [] → keys ≡ first ∷ [] → IsKey first q → AreKeyed after IsKey q keys nodes
  keyed_first IsKey keys nodes first none one is = record {
    long = ap (λ (ks : List ℕ). length ks) one ∙ sym (ap (λ (ns : List Node). length ns + 1) none);
    each = λ i key at.
        each_one IsKey (λ k. (found_at after q nodes k).place) first (subst (λ (f : Found P). IsKey first f.place) (sym (found-root after q nodes)) is) i key
        (subst (λ (ks : List ℕ). slice_get ks i ≡ Some key) one at);
  }

  -- where there are more keys
  pub keyed_later : (IsKey later : ℕ → P → Type 0) (keys : List ℕ) (nodes : List Node) → AreKeptBy IsKey later → AreKeyed after IsKey q keys nodes → AreKeyed after later q keys nodes
  keyed_later IsKey later keys nodes kept all = record { long = all.long; each = λ i key at. kept key _ (all.each i key at) }

  -- one more place
  pub keyed_more : (IsKey : ℕ → P → Type 0) (keys : List ℕ) (nodes : List Node) (key : ℕ) (node : Node) (r : P) → AreKeyed after IsKey q keys nodes → IsKey key r →
      IsAt after q (nodes ++ node ∷ []) (length nodes + 1) r → AreKeyed after IsKey q (keys ++ key ∷ []) (nodes ++ node ∷ [])
  keyed_more IsKey keys nodes key node r all is at =
      let long = all.long in
      let place : ℕ → P = λ i. (found_at after q (nodes ++ node ∷ []) i).place in
      record {
        long = grind (arith, common_steps, long);
        each = each_more IsKey place keys key
            (λ i k before.
            let lt = slice_get_within keys i k before in
            subst (λ (f : Found P). IsKey k f.place) (sym (found-stays after q nodes node i (omega (arith, lt, long)))) (all.each i k before))
            (subst (λ (p : P). IsKey key p) (sym (ap place long ∙ at.1)) is);
      }

  module _ (IsKey : ℕ → P → Type 0) (keys : List ℕ) (nodes : List Node) (all : AreKeyed after IsKey q keys nodes) where
    -- the number of the key of a place is the number of that place
    pub known_by : (key number : ℕ) (r : P) → IsKeyOf IsKey r key → slice_get keys number ≡ Some key → IsKnownAs after q nodes r (Some number)
    known_by key number r of has =
        let lt = slice_get_within keys number key has in
        let long = all.long in
        (omega (arith, lt, long), of.only _ (all.each number key has))

    -- a place whose key is new is new
    pub new_by : (key : ℕ) (r : P) → IsKeyOf IsKey r key → IsNew keys key → IsKnownAs after q nodes r None
    new_by key r of new number le is =
        let long = all.long in
        let kept : ℕ = get_or keys number 0 in
        let there : slice_get keys number ≡ Some kept = slice_get-get_or keys number 0 (omega (arith, le, long)) in
        let same : kept ≡ key = of.one kept (subst (λ (p : P). IsKey kept p) is (all.each number kept there)) in
        new number (there ∙ ap (λ k. Some k) same)
