-- A task changes. Where it came first on a processor, what does is looked for there. On another one it comes first where it is ready
-- and ahead of what came first there.
use Rattle.std.proofs.Common.{◌≡◌, ℕ, zero, suc, ◌-◌, ◌≤◌, ◌<◌, ◌==◌, Bool, true, false, ◌&&◌, IsTrue, inl, inr, List, [], ◌∷◌, length, Option, None, Some, if◌then◌else◌, refl, sym, ap, ◌∙◌, subst, arith, get_or, set}
use Rattle.std.proofs.lemmas.Bool.{cases_Bool, eqb-true, eqb-false}
use Rattle.std.proofs.lemmas.List.{get_or-set_same, get_or-set_other, length-set}
use Rattle.fmp_codes.specs.declared.numbers.Proc.{Proc}
use Rattle.fmp_codes.specs.declared.numbers.Task.{Task}
use Rattle.fmp_codes.proofs.Same.{processors_same, tasks_same}
use Rattle.fmp_rules.specs.World.{item, with_item, no_task}
use Rattle.fmp_rules.specs.Arrivals.{is_ready_on, comes_before, priority_in}
use Rattle.fmp_rules.specs.Ordering.{is_runnable}
use Rattle.fmp_rules.specs.declared.machine.TaskRecord.{TaskRecord}
use Rattle.fmp_plain_machine.specs.Tops.{AreTops, ahead, is_task, looked, raised, top_among}
use Rattle.fmp_plain_machine.proofs.Least.{Alike, IsLeast, least_first, least_same, least_changed}

-- where there is no record a task is not ready
there : (records : List TaskRecord) (i : ℕ) → is_runnable (get_or records i no_task) ≡ true → i < length records
there [] i ready_now = absurd (grind (arith, ready_now))
there (r ∷ rs) zero ready_now = omega arith
there (r ∷ rs) (suc i) ready_now = let less : i < length rs = there rs i ready_now in omega (arith, less)

left_true : (b c : Bool) → (b && c) ≡ true → b ≡ true
left_true true c both = refl
left_true false c both = both

right_true : (b c : Bool) → (b && c) ≡ true → c ≡ true
right_true true c both = both
right_true false c both = absurd (grind (arith, both))

never : (b : Bool) → (b && false) ≡ false
never true = refl
never false = refl

module _ (before after : List TaskRecord) (numbers numbers' : List ℕ) (t : Task) (tops : List (Option Task))
    (few : length before ≤ 64) (long : length after ≡ length before)
    (same_records : (u : Task) → (u.number ≡ t.number → ⊥) → item no_task after u.number ≡ item no_task before u.number)
    (same_numbers : (u : Task) → (u.number ≡ t.number → ⊥) → item 0 numbers' u.number ≡ item 0 numbers u.number)
    (are : AreTops before numbers tops) where
  -- the processor that it was on
  abbrev pub home : Proc
  home = (item no_task before t.number).assigned

  -- what came first on a processor, as the least of those that were ready there
  was_least : (p : Proc) → IsLeast (priority_in before) numbers (is_ready_on before p) (length before) (item None tops p.number)
  was_least p = subst (λ (o : Option Task). IsLeast (priority_in before) numbers (is_ready_on before p) (length before) o) (sym (are.each p))
      (least_first (priority_in before) numbers (is_ready_on before p) (length before) few)

  -- it came first on no processor but the one that it was on
  nowhere : (p : Proc) (o : Option Task) → (home.number ≡ p.number → is_task t o ≡ false) → IsLeast (priority_in before) numbers (is_ready_on before p) (length before) o → is_task t o ≡ false
  unfolding IsLeast
  nowhere p None other least = refl
  nowhere p (Some u) other least =
      elim (cases_Bool (u.number == t.number)) [
        | inl b ↦
            let e : u ≡ t = tasks_same u t (eqb-true u.number t.number b) in
            let at_p : (item no_task before u.number).assigned.number ≡ p.number = eqb-true _ _ (right_true _ _ least.1.0) in
            other (subst (λ (x : Task). (item no_task before x.number).assigned.number ≡ p.number) e at_p)
        | inr b ↦ b
      ]

  -- it did not come first on this one
  abbrev Off : Proc → Type 0
  Off p = is_task t (item None tops p.number) ≡ false

  off_others : (p : Proc) → (home.number ≡ p.number → ⊥) → Off p
  off_others p d = nowhere p _ (λ e. absurd (d e)) (was_least p)

  off_all : Off home → (p : Proc) → Off p
  off_all other p = nowhere p _ (λ e. subst (λ (k : ℕ). is_task t (item None tops k) ≡ false) e other) (was_least p)

  is_new : (p : Proc) → Off p → top_among after numbers' (length after) p
      ≡ (if is_ready_on after p t then ahead (comes_before (priority_in after) numbers') t (item None tops p.number) else item None tops p.number)
  unfolding Alike
  is_new p off =
      let in_range : is_ready_on after p t ≡ true → t.number ≤ length before = λ ready_now.
      let less : t.number - 1 < length after = there after (t.number - 1) (left_true _ _ ready_now) in
      omega (arith, less, long, t.least) in
      rw long (least_same (priority_in after) numbers' (is_ready_on after p) (length before) _ _
      (least_first (priority_in after) numbers' (is_ready_on after p) (length before) few)
      (least_changed (priority_in before) (priority_in after) numbers numbers' (is_ready_on before p) (is_ready_on after p) (length before) t
      (λ u d. (ap (λ (r : TaskRecord). is_runnable r && r.assigned.number == p.number) (same_records u d), (ap (λ (r : TaskRecord). r.priority.number) (same_records u d), same_numbers u d)))
      (item None tops p.number) off in_range (was_least p)))

  new_if : (p : Proc) → Off p → (b : Bool) → is_ready_on after p t ≡ b → top_among after numbers' (length after) p
      ≡ (if b then ahead (comes_before (priority_in after) numbers') t (item None tops p.number) else item None tops p.number)
  new_if p off b is = is_new p off ∙ ap (λ (c : Bool). if c then ahead (comes_before (priority_in after) numbers') t (item None tops p.number) else item None tops p.number) is

  -- what comes first on each processor, where that is known but for the one that the task is on now
  module _ (known : List (Option Task)) (long_known : length known ≡ 8)
      (else_known : (p : Proc) → is_ready_on after p t ≡ false → item None known p.number ≡ top_among after numbers' (length after) p)
      (here_known : (p : Proc) → (item no_task after t.number).assigned.number ≡ p.number
      → Off p × (item None known p.number ≡ item None tops p.number)) where
    raised_ready : (r : TaskRecord) → item no_task after t.number ≡ r → is_runnable r ≡ true
        → AreTops after numbers' (set known (r.assigned.number - 1) (ahead (comes_before (priority_in after) numbers') t (item None known r.assigned.number)))
    raised_ready r here ready_now = record {
      places = length-set known (r.assigned.number - 1) _ ∙ long_known;
      each = λ p.
          let q = r.assigned in let least = p.least in let q_least = q.least in let q_most = q.most in
          let found : Option Task = ahead (comes_before (priority_in after) numbers') t (item None known q.number) in
          let mine : is_ready_on after p t ≡ (q.number == p.number) =
          ap (λ (x : TaskRecord). is_runnable x && x.assigned.number == p.number) here ∙ ap (λ (b : Bool). b && q.number == p.number) ready_now in
          elim (cases_Bool (q.number == p.number)) [
            | inl b ↦
                let same : q.number ≡ p.number = eqb-true q.number p.number b in
                let known_here = here_known p (ap (λ (x : TaskRecord). x.assigned.number) here ∙ same) in
                ap (λ (k : ℕ). get_or (set known (q.number - 1) found) (k - 1) None) (sym same)
                ∙ get_or-set_same known (q.number - 1) found None (omega (arith, long_known, q_least, q_most))
                ∙ ap (λ (k : ℕ). ahead (comes_before (priority_in after) numbers') t (item None known k)) same
                ∙ ap (ahead (comes_before (priority_in after) numbers') t) known_here.1
                ∙ sym (new_if p known_here.0 true (mine ∙ b))
            | inr b ↦
                get_or-set_other known (q.number - 1) (p.number - 1) found None (λ e. eqb-false q.number p.number b (omega (arith, e, least, q_least)))
                ∙ else_known p (mine ∙ b)
          ];
    }

    raised_idle : is_runnable (item no_task after t.number) ≡ false → AreTops after numbers' known
    raised_idle idle = record {
      places = long_known;
      each = λ p. else_known p (ap (λ (b : Bool). b && (item no_task after t.number).assigned.number == p.number) idle);
    }

    raised_known : AreTops after numbers' (raised after numbers' t known)
    raised_known =
        elim (cases_Bool (is_runnable (item no_task after t.number))) [
          | inl b ↦ rw b (raised_ready (item no_task after t.number) refl b)
          | inr b ↦ rw b (raised_idle b)
        ]

  -- it came first nowhere
  pub raised_tops : Off home → AreTops after numbers' (raised after numbers' t tops)
  raised_tops other =
      let off = off_all other in
      raised_known tops are.places (λ p out. sym (new_if p (off p) false out)) (λ p here. (off p, refl))

  -- what is looked for where it was
  found : List (Option Task)
  found = set tops (home.number - 1) (top_among after numbers' (length after) home)

  found_long : length found ≡ 8
  unfolding found
  found_long = length-set tops (home.number - 1) _ ∙ are.places

  found_there : (p : Proc) → home.number ≡ p.number → item None found p.number ≡ top_among after numbers' (length after) p
  unfolding found
  found_there p same =
      let least = home.least in let most = home.most in let places = are.places in
      ap (λ (k : ℕ). item None (set tops (home.number - 1) (top_among after numbers' (length after) home)) k) (sym same)
      ∙ get_or-set_same tops (home.number - 1) (top_among after numbers' (length after) home) None (omega (arith, places, least, most))
      ∙ ap (top_among after numbers' (length after)) (processors_same home p same)

  found_else : (p : Proc) → (home.number ≡ p.number → ⊥) → item None found p.number ≡ item None tops p.number
  unfolding found
  found_else p d = let least = home.least in let p_least = p.least in
      get_or-set_other tops (home.number - 1) (p.number - 1) (top_among after numbers' (length after) home) None (λ e. d (omega (arith, e, least, p_least)))

  found_out : (p : Proc) → is_ready_on after p t ≡ false → item None found p.number ≡ top_among after numbers' (length after) p
  found_out p out =
      elim (cases_Bool (home.number == p.number)) [
        | inl b ↦ found_there p (eqb-true home.number p.number b)
        | inr b ↦ let d = eqb-false home.number p.number b in found_else p d ∙ sym (new_if p (off_others p d) false out)
      ]

  -- it is still there
  found_still : (item no_task after t.number).assigned.number ≡ home.number → AreTops after numbers' found
  found_still still = record {
    places = found_long;
    each = λ p.
        elim (cases_Bool (home.number == p.number)) [
          | inl b ↦ found_there p (eqb-true home.number p.number b)
          | inr b ↦
              let d = eqb-false home.number p.number b in
              found_out p (ap (λ (k : ℕ). is_runnable (item no_task after t.number) && k == p.number) still ∙ ap (λ (c : Bool). is_runnable (item no_task after t.number) && c) b ∙ never (is_runnable (item no_task after t.number)))
        ];
  }

  -- it is on another one
  found_moved : ((item no_task after t.number).assigned.number ≡ home.number → ⊥) → AreTops after numbers' (raised after numbers' t found)
  found_moved moved = raised_known found found_long found_out (λ p here. let d : home.number ≡ p.number → ⊥ = λ e. moved (here ∙ sym e) in (off_others p d, found_else p d))

  pub looked_tops : AreTops after numbers' (looked after numbers' t home tops)
  unfolding found
  looked_tops =
      elim (cases_Bool ((item no_task after t.number).assigned.number == home.number)) [
        | inl b ↦ rw b (found_still (eqb-true _ _ b))
        | inr b ↦ rw b (found_moved (eqb-false _ _ b))
      ]

-- The record of a task and its number change. Where the task came first on its processor there was a walk.
module _ (records : List TaskRecord) (ready : List ℕ) (t : Task) (changed : TaskRecord) (tops : List (Option Task)) (are : AreTops records ready tops)
    (after : List TaskRecord) (few : length after ≤ 64) (is_after : after ≡ with_item records t.number changed)
    (new : List (Option Task)) (was_top : Bool) (is : was_top ≡ is_task t (item None tops (item no_task records t.number).assigned.number)) where
  long : length after ≡ length records
  long = ap length is_after ∙ length-set records (t.number - 1) changed

  others : (u : Task) → (u.number ≡ t.number → ⊥) → item no_task after u.number ≡ item no_task records u.number
  others u d = ap (λ (rs : List TaskRecord). item no_task rs u.number) is_after
      ∙ get_or-set_other records (t.number - 1) (u.number - 1) changed no_task (λ e. d (omega (arith, e, t.least, u.least)))

  abbrev pub was_on : Proc
  was_on = (item no_task records t.number).assigned

  renewed : (ready' : List ℕ) → ((u : Task) → (u.number ≡ t.number → ⊥) → item 0 ready' u.number ≡ item 0 ready u.number)
      → (IsTrue was_top → new ≡ looked after ready' t was_on tops) → (was_top ≡ false → new ≡ raised after ready' t tops) → AreTops after ready' new
  renewed ready' same walked moved =
      elim (cases_Bool was_top) [
        | inl b ↦
            subst (λ (x : List (Option Task)). AreTops after ready' x) (sym (walked b))
            (looked_tops records after ready ready' t tops (omega (arith, few, long)) long others same are)
        | inr b ↦
            subst (λ (x : List (Option Task)). AreTops after ready' x) (sym (moved b))
            (raised_tops records after ready ready' t tops (omega (arith, few, long)) long others same are (sym is ∙ b))
      ]

  pub set_renewed : (p : Proc) → p ≡ was_on → (IsTrue was_top → new ≡ looked after ready t p tops) → (was_top ≡ false → new ≡ raised after ready t tops) → AreTops after ready new
  set_renewed p e walked moved = renewed ready (λ u d. refl) (λ b. walked b ∙ ap (λ (q : Proc). looked after ready t q tops) e) moved

  pub put_renewed : (ready' : List ℕ) (number : ℕ) → ready' ≡ with_item ready t.number number
      → (p : Proc) → p ≡ was_on → (IsTrue was_top → new ≡ looked after ready' t p tops) → (was_top ≡ false → new ≡ raised after ready' t tops) → AreTops after ready' new
  put_renewed ready' number is_ready p e walked moved =
      renewed ready' (λ u d. ap (λ (ns : List ℕ). item 0 ns u.number) is_ready
      ∙ get_or-set_other ready (t.number - 1) (u.number - 1) number 0 (λ e'. d (omega (arith, e', t.least, u.least)))) (λ b. walked b ∙ ap (λ (q : Proc). looked after ready' t q tops) e) moved
