-- Changes of the locks and flags of a processor.
use Rattle.std.proofs.Common.{◌≡◌, ℕ, zero, suc, ◌==◌, Bool, true, false, List, [], ◌∷◌, map, refl, sym, ap, ◌∙◌, subst, Option, Some, None}
use Rattle.std.specs.Prelude.{if◌then◌else◌, is_some, slice_index_or, slice_set, option_map, ◌-◌}
use Rattle.std.specs.Option.{option_or}
use Rattle.std.specs.List.{list_any}
use Rattle.std.proofs.lemmas.Bool.{both_ways, eq-eqb, or_parts, false≢true}
use Rattle.std.proofs.lemmas.List.{length-set}
use Rattle.std.proofs.Math.ListN.{get_or-map}
use Rattle.std.proofs.lemmas.Option.{none-some, same_Some}
use Rattle.fmp_codes.specs.declared.numbers.Proc.{Proc}
use Rattle.fmp_codes.specs.declared.numbers.Task.{Task}
use Rattle.fmp_codes.specs.declared.numbers.Object.{Object}
use Rattle.fmp_codes.specs.declared.records.Runner.TheVariants as runner
use Rattle.fmp_codes.proofs.Same.{processors_same}
use Rattle.fmp_rules.specs.declared.machine.Processor.{Processor}
use Rattle.fmp_rules.specs.World.{World, item, processor, handler, runner_of}
use Rattle.fmp_rules.specs.Processors.{is_at, with_lock, holds_lock, unlocked, opened}
use Rattle.fmp_rules.specs.Objects.{holder}
use Rattle.fmp_law_safety.specs.Safe.{IsNumberOf}
use Rattle.fmp_law_safety.proofs.Rests.{Rests}
use Rattle.fmp_law_safety.proofs.Keeps.{Occupied, KeepsOthers, keeps_then, keeps_processor_freeing, processor_here, occupied_by_one}

abbrev pub freed : Proc → Option Proc → Option Proc
freed p h = if is_at p h then None else h

still_held : (p q : Proc) (h : Option Proc) → freed p h ≡ Some q → (h ≡ Some q) × (q.number ≡ p.number → ⊥)
still_held p q None e = absurd (none-some q e)
still_held p q (Some r) e = go (p.number == r.number) refl e
  where
    go : (b : Bool) → (p.number == r.number) ≡ b → if◌then◌else◌ {A = Option Proc} b None (Some r) ≡ Some q → (Some r ≡ Some q) × (q.number ≡ p.number → ⊥)
    go true i bad = absurd (none-some q bad)
    go false i same = (same, λ (j : q.number ≡ p.number). both_ways (p.number == r.number) i (eq-eqb p.number r.number (sym j ∙ ap (λ (x : Proc). x.number) (sym (same_Some r q same)))))

no_holder : (hs : List (Option Proc)) (i : ℕ) (p q : Proc) → list_any (is_at p) hs ≡ false → slice_index_or hs i None ≡ Some q → q.number ≡ p.number → ⊥
no_holder [] i p q none e same = absurd (none-some q e)
no_holder (h ∷ hs) zero p q none e same =
    let at : is_at p (Some q) ≡ false = subst (λ x. is_at p x ≡ false) e (or_parts (is_at p h) (list_any (is_at p) hs) none).0 in
    both_ways _ at (eq-eqb p.number q.number (sym same))
no_holder (h ∷ hs) (suc i) p q none e same = no_holder hs i p q (or_parts (is_at p h) (list_any (is_at p) hs) none).1 e same

module _ {Q : Type 0} (w : World Q) (p : Proc) where
  pub freed_before : Rests w → (l : Object) (q : Proc) → item None (map (freed p) w.holders) l.number ≡ Some q → (holder w l ≡ Some q) × (q.number ≡ p.number → false ≡ true)
  freed_before r l q h =
      let kept = still_held p q (holder w l) (sym (get_or-map (freed p) w.holders (l.number - 1) None) ∙ h) in
      (kept.0, λ i. absurd (kept.1 i))

module _ {Q : Type 0} (w : World Q) (p : Proc) (within : IsNumberOf w.processors p.number) (there : is_some (runner_of w p) ≡ true) where
  -- the record of p changes, but not what runs
  pub occupied_with : (f : Processor) (hs : List (Option Proc)) → f.running ≡ (processor w p).running → (f.disabled ≡ true → is_some (processor w p).running ≡ true) →
      Occupied (record w { processors = slice_set w.processors (p.number - 1) f; holders = hs }) p
  occupied_with f hs e disabled =
      let v = record w { processors = slice_set w.processors (p.number - 1) f; holders = hs } in
      let here : processor v p ≡ f = processor_here w p within f hs w.due in
      let same : (processor v p).running ≡ (processor w p).running = ap (λ (c : Processor). c.running) here ∙ e in
      occupied_by_one v p (subst (λ (o : Option Task). is_some (option_or (handler w p) (option_map runner.Task o)) ≡ true) (sym same) there)
      (λ h. subst (λ (o : Option Task). is_some o ≡ true) (sym same) (disabled (sym (ap (λ (c : Processor). c.disabled) here) ∙ h)))

  -- its flags change, and p stays CPU-locked if it was
  pub keeps_flags : (f : Processor) → f.running ≡ (processor w p).running → (f.disabled ≡ true → is_some (processor w p).running ≡ true) →
      ((processor w p).locked ≡ true → f.locked ≡ true) → KeepsOthers w (record w { processors = slice_set w.processors (p.number - 1) f }) p
  keeps_flags f e disabled locked =
      keeps_processor_freeing w p within f w.holders w.due e (occupied_with f w.holders e disabled) (λ q d none. none)
      (λ r l q h. (h, λ i. locked (subst (λ (x : Proc). (processor w x).locked ≡ true) (processors_same q p i) (r.in_range.locked l q h))))

  module _ (some : (processor w p).disabled ≡ true → is_some (processor w p).running ≡ true) where
    -- p leaves the CPU-locked state, where it holds no spin lock
    pub keeps_unlocked_alone : holds_lock w p ≡ false → KeepsOthers w (with_lock w p false) p
    keeps_unlocked_alone none =
        let f : Processor = record (processor w p) { locked = false } in
        keeps_processor_freeing w p within f w.holders w.due refl (occupied_with f w.holders refl some) (λ q d none. none)
        (λ r l q h. (h, λ i. absurd (no_holder w.holders (l.number - 1) p q none h i)))

    -- p leaves it, and frees the spin lock that it holds
    pub keeps_unlocked : KeepsOthers w (unlocked w p) p
    keeps_unlocked =
        let f : Processor = record (processor w p) { locked = false } in
        keeps_processor_freeing w p within f (map (freed p) w.holders) w.due refl (occupied_with f (map (freed p) w.holders) refl some) (λ q d none. none)
        (freed_before w p)

module _ {Q : Type 0} (w : World Q) (p : Proc) (within : IsNumberOf w.processors p.number) where
  pub unlocked_here : processor (unlocked w p) p ≡ record (processor w p) { locked = false }
  unlocked_here = processor_here w p within (record (processor w p) { locked = false }) (map (freed p) w.holders) w.due

  within_unlocked : IsNumberOf (unlocked w p).processors p.number
  within_unlocked = (within.0, rw (length-set w.processors (p.number - 1) (record (processor w p) { locked = false })) within.1)

  pub opened_here : processor (opened w p) p ≡ record (processor w p) { locked = false; disabled = false }
  unfolding opened
  opened_here =
      processor_here (unlocked w p) p within_unlocked (record (processor (unlocked w p) p) { disabled = false }) (unlocked w p).holders w.due
      ∙ ap (λ (c : Processor). record c { disabled = false }) unlocked_here

  pub keeps_opened : is_some (runner_of w p) ≡ true → ((processor w p).disabled ≡ true → is_some (processor w p).running ≡ true) → KeepsOthers w (opened w p) p
  unfolding opened
  keeps_opened there some =
      let still : is_some (runner_of (unlocked w p) p) ≡ true =
      subst (λ (c : Processor). is_some (option_or (handler w p) (option_map runner.Task c.running)) ≡ true) (sym unlocked_here) there in
      keeps_then w p (unlocked w p) (opened w p) refl (keeps_unlocked w p within there some)
      (keeps_flags (unlocked w p) p within_unlocked still (record (processor (unlocked w p) p) { disabled = false }) refl (λ e. absurd (false≢true e)) (λ e. e))
