-- Where no task is ready nothing comes first.
use Rattle.std.proofs.Common.{◌≡◌, ℕ, zero, suc, ◌==◌, Bool, false, ◌&&◌, List, [], ◌∷◌, Option, None, length, map, refl, sym, ap, ◌∙◌, get_or}
use Rattle.std.specs.Prelude.{replicate}
use Rattle.fmp_codes.specs.Numbers.{as_task}
use Rattle.fmp_codes.specs.declared.numbers.Task.{Task}
use Rattle.fmp_setup.specs.declared.setup.TaskSetup.{TaskSetup}
use Rattle.fmp_rules.specs.World.{item, first, no_task, resting}
use Rattle.fmp_rules.specs.Arrivals.{in_order, inserted_if, is_ready_on, comes_before, priority_in}
use Rattle.fmp_rules.specs.Ordering.{is_runnable}
use Rattle.fmp_plain_machine.specs.Tops.{AreTops}

none_in_order : (q : Task → Bool) (before : Task → Task → Bool) (n : ℕ) → ((t : Task) → q t ≡ false) → in_order q before n ≡ []
none_in_order q before zero none = refl
none_in_order q before (suc n) none = ap (λ (b : Bool). inserted_if b before (as_task (suc n)) (in_order q before n)) (none (as_task (suc n))) ∙ none_in_order q before n none

rests : (setups : List TaskSetup) (i : ℕ) → is_runnable (get_or (map resting setups) i no_task) ≡ false
rests [] i = refl
rests (s ∷ ss) zero = refl
rests (s ∷ ss) (suc i) = rests ss i

none_at : (k i : ℕ) → ◌≡◌ {A = Option Task} (get_or (replicate k None) i None) None
none_at zero i = refl
none_at (suc k) zero = refl
none_at (suc k) (suc i) = none_at k i

pub no_tops : (setups : List TaskSetup) (ready : List ℕ) → AreTops (map resting setups) ready (replicate 8 None)
no_tops setups ready = record {
  places = refl;
  each = λ p. none_at 8 _
      ∙ sym (ap first (none_in_order (is_ready_on (map resting setups) p) (comes_before (priority_in (map resting setups)) ready) (length (map resting setups))
      (λ (t : Task). ap (λ (b : Bool). b && (item no_task (map resting setups) t.number).assigned.number == p.number) (rests setups _))));
}
