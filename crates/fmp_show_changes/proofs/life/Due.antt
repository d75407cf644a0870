-- One processor more.
use Rattle.std.proofs.Common.{◌≡◌, ◌∙◌, ℕ, ◌+◌, Bool, true, false, [], ◌∷◌, ap, refl, sym}
use Rattle.std.specs.Prelude.{◌||◌}
use Rattle.std.specs.List.{list_any}
use Rattle.std.proofs.lemmas.List.Folds.{list_any-append}
use Rattle.fmp_codes.specs.Numbers.{as_proc}
use Rattle.fmp_codes.specs.declared.numbers.Proc.{Proc}
use Rattle.fmp_rules.specs.World.{processors_to}
use Rattle.fmp_step_words.proofs.EachProcessor.{processors_to-more}

module _ (f : Proc → Bool) (n : ℕ) where
  or_false : (b : Bool) → (b || false) ≡ b
  or_false true = refl
  or_false false = refl

  one_more : list_any f (processors_to (n + 1)) ≡ (list_any f (processors_to n) || f (as_proc (n + 1)))
  one_more =
      ap (list_any f) (processors_to-more n) ∙ (list_any-append f (processors_to n) (as_proc (n + 1) ∷ [])
      ∙ ap (λ b. list_any f (processors_to n) || b) (or_false (f (as_proc (n + 1)))))

  -- it is due on one of those before
  pub due_before : (due new : Bool) → due ≡ list_any f (processors_to n) → due ≡ true → new ≡ true → new ≡ list_any f (processors_to (n + 1))
  due_before due new so_far is now = now ∙ sym (one_more ∙ ap (λ b. b || f (as_proc (n + 1))) (sym so_far ∙ is))

  -- or it is, where it is due on this one
  pub due_here : (due new : Bool) (p : Proc) → due ≡ list_any f (processors_to n) → due ≡ false → p ≡ as_proc (n + 1) → new ≡ f p → new ≡ list_any f (processors_to (n + 1))
  due_here due new p so_far is here now = now ∙ (ap f here ∙ sym (one_more ∙ ap (λ b. b || f (as_proc (n + 1))) (sym so_far ∙ is)))
