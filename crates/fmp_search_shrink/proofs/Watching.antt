-- What is known of a machine that answered events: whether its answers show what a question asks.
use Rattle.std.proofs.Common.{◌≡◌, ℕ, ◌+◌, ◌≤◌, Bool, true, false, List, [], ◌∷◌, length, inl, inr, sym, subst, ap, ◌∙◌, arith}
use Rattle.std.specs.Prelude.{replicate, slice_index_or}
use Rattle.std.proofs.lemmas.Bool.{cases_lt, true≢false}
use Rattle.fmp_codes.specs.declared.records.Event.{Event}
use Rattle.fmp_setup.specs.Setup.{Setup}
use Rattle.fmp_rules.specs.Arrivals.{numbered}
use Rattle.fmp_rules.specs.Boot.{booted}
use Rattle.fmp_rules.specs.Step.{answers}
use Rattle.fmp_law_lists.specs.Stands.{Stands}
use Rattle.fmp_search_pattern.specs.declared.question.Step.{Step}
use Rattle.fmp_search_orders.specs.declared.rules.Rules.{Rules}
use Rattle.fmp_search_orders.specs.Laws.{TakenAre}
use Rattle.fmp_search_orders.specs.Shown.{Shows}
use Rattle.fmp_search_shrink.specs.declared.showing.Watch.{Watch}
use Rattle.fmp_search_shrink.specs.Seen.{AreSeen, Watches}
use Rattle.fmp_search_shrink.proofs.Answering.{taken_at_boot}
use Rattle.fmp_search_shrink.proofs.Seeing.{seen_at_boot}

-- it does not hold of the next number, and of none before
pub none_up_to : (P : ℕ → Type 0) (i : ℕ) → ((n : ℕ) → n ≤ i → P n → ⊥) → (P (i + 1) → ⊥) → (n : ℕ) → n ≤ i + 1 → P n → ⊥
none_up_to P i before here n small holds = elim (cases_lt n (i + 1)) [
  | inl less ↦ before n (omega (arith, less)) holds
  | inr past ↦ let last : n ≡ i + 1 = omega (arith, past, small) in here (subst P last holds)
]

module _ (c : Setup) (rules : Rules) (question : List Step) where
  -- at boot
  pub watches_at_boot : (w : Watch) → Stands w.kernel (booted c) → length w.kernel.processors ≡ c.processors → w.taken ≡ replicate 8 0
      → w.numbers ≡ true ∷ replicate 255 false → Watches c rules question [] w
  watches_at_boot w stands processors taken numbers = record {
    stands = stands;
    processors = processors;
    taken_are = subst (λ (ns : List ℕ). TakenAre rules ns []) (sym taken) (taken_at_boot rules);
    sized = ap (λ (ns : List ℕ). length ns) taken;
    seen = subst (λ (ns : List Bool). AreSeen c rules question [] ns) (sym numbers) (seen_at_boot c rules question);
  }

  module _ (given : List Event) (w : Watch) (watches : Watches c rules question given w) where
    -- all steps may have been seen
    pub is_shown : slice_index_or w.numbers (length question) false ≡ true → Shows c rules question (answers numbered (booted c) given)
    is_shown seen = (watches.seen (length question) (omega arith)).0 seen

    -- or they may not
    pub not_shown : slice_index_or w.numbers (length question) false ≡ false → Shows c rules question (answers numbered (booted c) given) → ⊥
    not_shown unseen shown = true≢false (sym ((watches.seen (length question) (omega arith)).1 shown) ∙ unseen)
