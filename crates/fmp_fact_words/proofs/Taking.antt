-- One word more of a row.
use Rattle.std.proofs.Common.{◌≡◌, ◌∙◌, ℕ, ◌+◌, ◌<◌, Bool, true, false, List, ◌++◌, length, drop, get_or, map, refl, sym, ap, append_assoc, Option, Some, None, Bor}
use Rattle.std.specs.Prelude.{is_some}
use Rattle.std.proofs.lemmas.Bool.{false≢true}
use Rattle.std.proofs.lemmas.List.{drop_more}
use Rattle.fmp_names.specs.Names.{NameLists}
use Rattle.fmp_facts.specs.declared.facts.Fact.{Fact}
use Rattle.fmp_fact_words.specs.Asking.{facts_in, joined, word_facts}

pub taken : (fs new : List Fact) (o rest whole : Option (List Fact)) (b : Bool) → b ≡ is_some o → b ≡ true → ((gs : List Fact) → o ≡ Some gs → new ≡ fs ++ gs)
    → joined (Some fs) (joined o rest) ≡ whole → joined (Some new) rest ≡ whole
taken fs new None rest whole b is has added before = absurd (false≢true (sym is ∙ has))
taken fs new (Some gs) None whole b is has added before = before
taken fs new (Some gs) (Some hs) whole b is has added before =
    ap (λ (xs : List Fact). Some xs) (ap (λ (xs : List Fact). xs ++ hs) (added gs refl) ∙ append_assoc fs gs hs) ∙ before

pub stopped : (fs : List Fact) (o rest whole : Option (List Fact)) (b : Bool) → b ≡ is_some o → b ≡ false → joined (Some fs) (joined o rest) ≡ whole → whole ≡ None
stopped fs None rest whole b is not before = sym before
stopped fs (Some gs) rest whole b is not before = absurd (false≢true (sym not ∙ is))

-- the words that are left begin with this one
pub word_here : (names : NameLists) (words : List (Bor (List ℕ))) (i : ℕ) (d : Bor (List ℕ)) → i < length words
    → facts_in names (map (λ (x : Bor (List ℕ)). x.now) (drop i words))
    ≡ joined (word_facts names (get_or words i d).now) (facts_in names (map (λ (x : Bor (List ℕ)). x.now) (drop (i + 1) words)))
word_here names words i d lt = ap (λ (xs : List (Bor (List ℕ))). facts_in names (map (λ (x : Bor (List ℕ)). x.now) xs)) (drop_more words i d lt)
