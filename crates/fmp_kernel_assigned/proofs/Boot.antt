-- What counts at boot.
use Rattle.std.proofs.Common.{◌≡◌, ℕ, zero, suc, ◌+◌, ◌-◌, ◌<◌, ◌≤◌, Bool, true, false, cond, Option, Some, None, List, [], ◌∷◌, length, map, get_or, refl, sym, ap, ◌∙◌, subst, arith}
use Rattle.std.specs.Prelude.{option_map, nat_lt}
use Rattle.std.proofs.lemmas.Bool.{lt-ltb, le-ltb}
use Rattle.std.proofs.lemmas.List.{get_or-map, length-map, ext_get_or}
use Rattle.fmp_setup.specs.declared.setup.CyclicSetup.{CyclicSetup}
use Rattle.fmp_rules.specs.declared.machine.TaskRecord.{TaskRecord}
use Rattle.fmp_rules.specs.declared.machine.Cyclic.{Cyclic}
use Rattle.fmp_rules.specs.declared.machine.Alarm.{Alarm}
use Rattle.fmp_rules.specs.Boot.{phase_left}
use Rattle.fmp_rules.specs.Objects.{no_cyclic}
use Rattle.fmp_rules.specs.World.{no_task}
use Rattle.fmp_time.specs.Left.{Left, ticks_of}
use Rattle.fmp_kernel_assigned.specs.Assignments.{lefts, blank_cyclic, blank_alarm}
use Rattle.fmp_kernel_assigned.specs.Counting.{IsAt, IsUnseen, AreInStep}
use Rattle.fmp_kernel_assigned.specs.Starting.{first_cyclic, start_left, started_at}
use Rattle.fmp_kernel_assigned.proofs.Lefts.{length-lefts, lefts-at}

-- One cyclic after the other.

pub none_started : (cyclics : List Cyclic) (k : ℕ) → started_at cyclics 0 k ≡ None
none_started cyclics k = elim (nat_lt k 96) as (λ (b : Bool). cond b None (cond (nat_lt (k - 96) 0) (start_left (get_or cyclics (k - 96) blank_cyclic)) None) ≡ None)
    [ true ↦ refl | false ↦ ap (λ (b : Bool). cond b (start_left (get_or cyclics (k - 96) blank_cyclic)) None) (le-ltb (k - 96) 0 (omega arith)) ]

-- All.

none_at : {X : Type 0} (ss : List X) (i : ℕ) → get_or {A = Option ℕ} (map (λ s. None) ss) i None ≡ None
none_at [] i = refl
none_at (s ∷ ss) zero = refl
none_at (s ∷ ss) (suc i) = none_at ss i

phase_same : (s : CyclicSetup) → option_map ticks_of (start_left (first_cyclic s)) ≡ phase_left s
phase_same s = elim s.starts as (λ (b : Bool). option_map ticks_of (cond b (Some (record { processor = s.class.initial; ticks = s.phase + 1 })) None) ≡ cond b (Some (s.phase + 1)) None) [ true ↦ refl | false ↦ refl ]

start_at : (c : Cyclic) → IsAt c.assigned (start_left c)
start_at c = elim c.setup.starts as (λ (b : Bool). IsAt c.assigned (cond b (Some (record { processor = c.assigned; ticks = c.setup.phase + 1 })) None)) [ true ↦ refl | false ↦ tt ]

module _ (cyclics : List Cyclic) (left : List (Option Left)) (few : length cyclics ≤ 32) (all : length left ≡ 128) (h : (k : ℕ) → k < 128 → get_or left k None ≡ started_at cyclics (length cyclics) k) where
  low : (k : ℕ) → k < 96 → get_or left k None ≡ None
  low k l = h k (omega (arith, l)) ∙ ap (λ (b : Bool). cond b None (cond (nat_lt (k - 96) (length cyclics)) (start_left (get_or cyclics (k - 96) blank_cyclic)) None)) (lt-ltb k 96 l)

  high : (i : ℕ) → i < length cyclics → get_or left (96 + i) None ≡ start_left (get_or cyclics i blank_cyclic)
  high i l =
      let at : 96 + i - 96 ≡ i = omega arith in
      h (96 + i) (omega (arith, l, few))
      ∙ ap (λ (b : Bool). cond b None (cond (nat_lt (96 + i - 96) (length cyclics)) (start_left (get_or cyclics (96 + i - 96) blank_cyclic)) None)) (le-ltb (96 + i) 96 (omega arith))
      ∙ ap (λ (b : Bool). cond b (start_left (get_or cyclics (96 + i - 96) blank_cyclic)) None) (lt-ltb (96 + i - 96) (length cyclics) (omega (arith, at, l)))
      ∙ ap (λ (j : ℕ). start_left (get_or cyclics j blank_cyclic)) at

  past : (k : ℕ) → 96 + length cyclics ≤ k → k < 128 → get_or left k None ≡ None
  past k f g = h k g
      ∙ ap (λ (b : Bool). cond b None (cond (nat_lt (k - 96) (length cyclics)) (start_left (get_or cyclics (k - 96) blank_cyclic)) None)) (le-ltb k 96 (omega (arith, f)))
      ∙ ap (λ (b : Bool). cond b (start_left (get_or cyclics (k - 96) blank_cyclic)) None) (le-ltb (k - 96) (length cyclics) (omega (arith, f)))

  pub none_left : {X : Type 0} (place n : ℕ) (ss : List X) → length ss ≡ n → place + n ≤ 96 → lefts left place n ≡ map (λ s. None) ss
  none_left place n ss e l =
      ext_get_or None (lefts left place n) (map (λ s. None) ss) (length-lefts left place n ∙ sym (length-map ss (λ s. None) ∙ e))
      (λ i g. let within : i < n = omega (arith, g, length-lefts left place n) in
      lefts-at left place n i within ∙ ap (option_map ticks_of) (low (place + i) (omega (arith, within, l))) ∙ sym (none_at ss i))

  pub phases_left : (setups : List CyclicSetup) → cyclics ≡ map first_cyclic setups → lefts left 96 (length cyclics) ≡ map phase_left setups
  phases_left setups e =
      let same : length cyclics ≡ length setups = ap length e ∙ length-map setups first_cyclic in
      ext_get_or None (lefts left 96 (length cyclics)) (map phase_left setups) (length-lefts left 96 (length cyclics) ∙ same ∙ sym (length-map setups phase_left))
      (λ i g. let within : i < length cyclics = omega (arith, g, length-lefts left 96 (length cyclics)) in
      lefts-at left 96 (length cyclics) i within ∙ ap (option_map ticks_of) (high i within)
      ∙ ap (λ (cs : List Cyclic). option_map ticks_of (start_left (get_or cs i blank_cyclic))) e
      ∙ ap (λ (c : Cyclic). option_map ticks_of (start_left c)) (get_or-map first_cyclic setups i no_cyclic blank_cyclic (omega (arith, within, same)))
      ∙ phase_same (get_or setups i no_cyclic)
      ∙ sym (get_or-map phase_left setups i no_cyclic None (omega (arith, within, same))))

  pub boot_step : (tasks : List TaskRecord) (alarms : List Alarm) → length tasks ≤ 64 → length alarms ≤ 32 → AreInStep tasks cyclics alarms left
  boot_step tasks alarms few_tasks few_alarms = record {
    tasks_at = λ i l. subst (IsAt (get_or tasks i no_task).assigned) (sym (low (0 + i) (omega (arith, l, few_tasks)))) tt;
    cyclics_at = λ i l. subst (IsAt (get_or cyclics i blank_cyclic).assigned) (sym (high i l)) (start_at (get_or cyclics i blank_cyclic));
    alarms_at = λ i l. subst (IsAt (get_or alarms i blank_alarm).assigned) (sym (low (64 + i) (omega (arith, l, few_alarms)))) tt;
    no_tasks = λ k f g. subst IsUnseen (sym (low k (omega (arith, g)))) tt;
    no_cyclics = past;
    no_alarms = λ k f g. low k g;
    few_tasks = few_tasks;
    few_cyclics = few;
    few_alarms = few_alarms;
    all = all;
  }
