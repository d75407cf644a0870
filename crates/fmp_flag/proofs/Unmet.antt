-- Tasks that wait only for what is not set do so after the pattern or the queue has changed.
use Rattle.std.proofs.Common.{◌≡◌, ℕ, ◌⊎◌, inl, inr, ◌||◌, ◌==◌, Bool, true, false, not, List, [], ◌∷◌, map, refl, sym, ap, ◌∙◌, ⊎_elim}
use Rattle.std.specs.Prelude.{nat_lt, bit_or}
use Rattle.std.proofs.lemmas.Bool.{cases_eq, cond_both, ne_eqb}
use Rattle.fmp_codes.specs.declared.numbers.Task.{Task}
use Rattle.fmp_rules.specs.World.{item}
use Rattle.fmp_rules.specs.Objects.{holds}
use Rattle.fmp_rules.proofs.Patterns.{unmet_with_none}
use Rattle.fmp_kernel_parts.specs.Tasks.{has_task}
use Rattle.fmp_waitq.specs.Queue.{Waiter, task_of, has_waiter, left_by, put_ranked, joined_by}
use Rattle.fmp_waitq.proofs.Waiters.{waits_is, waited_before}
use Rattle.fmp_flag.specs.declared.wanted.Wanted.{Wanted}
use Rattle.fmp_flag.specs.Eventflags.{EventflagState, no_bits, is_met, cleared, and_release, served, bits_set, WaitsUnmet}

-- Who waits.

or_swap : (a b c : Bool) → (a || (b || c)) ≡ (b || (a || c))
or_swap true true c = refl
or_swap true false c = refl
or_swap false true c = refl
or_swap false false c = refl

has_waiter-put_ranked : (t : Task) (x : Waiter) (es : List Waiter) → has_waiter t (put_ranked x es) ≡ ((t.number == x.task.number) || has_waiter t es)
has_waiter-put_ranked t x [] = refl
has_waiter-put_ranked t x (e ∷ es) =
    cond_both (nat_lt x.rank e.rank) (x ∷ e ∷ es) (e ∷ put_ranked x es) (λ (fs : List Waiter). has_waiter t fs ≡ ((t.number == x.task.number) || has_waiter t (e ∷ es)))
    (λ _. refl)
    (λ _. ap (λ (b : Bool). (t.number == e.task.number) || b) (has_waiter-put_ranked t x es) ∙ or_swap (t.number == e.task.number) (t.number == x.task.number) (has_waiter t es))

-- What is set.

-- what tasks of one number want is met alike
met_same : (x : ℕ) (ws : List Wanted) (t u : Task) → t.number ≡ u.number → is_met x ws t ≡ is_met x ws u
met_same x ws t u e = ap (λ (n : ℕ). holds x (item no_bits ws n).pattern (item no_bits ws n).mode) e

-- The queue changes.

-- nothing that these want is set in x
abbrev pub Unmet : List Wanted → ℕ → List Waiter → Type 0
Unmet ws x es = (t : Task) → has_waiter t es ≡ true → is_met x ws t ≡ false

pub unmet_left : (ws : List Wanted) (x : ℕ) (u : Task) (es : List Waiter) → Unmet ws x es → Unmet ws x (left_by u es)
unmet_left ws x u es h t e = h t (waited_before t u es e).1

pub unmet_joined : (ws : List Wanted) (x : ℕ) (w : Waiter) (es : List Waiter) → is_met x ws w.task ≡ false → Unmet ws x es → Unmet ws x (put_ranked w es)
unmet_joined ws x w es m h t e =
    ⊎_elim (λ (same : t.number ≡ w.task.number). met_same x ws t w.task same ∙ m)
    (λ (other : t.number ≡ w.task.number → ⊥).
    h t (sym (ap (λ (b : Bool). b || has_waiter t es) (ne_eqb t.number w.task.number other)) ∙ sym (has_waiter-put_ranked t w es) ∙ e))
    (cases_eq t.number w.task.number)

pub unmet_reordered : (ws : List Wanted) (x : ℕ) (w : Waiter) (es : List Waiter) → has_waiter w.task es ≡ true → Unmet ws x es → Unmet ws x (joined_by w es)
unmet_reordered ws x w es there h = unmet_joined ws x w (left_by w.task es) (h w.task there) (unmet_left ws x w.task es h)

-- The queue is served.

-- who waits is one of these tasks, or nothing that he wants is set in x
abbrev UnmetBut : List Wanted → ℕ → List Task → List Waiter → Type 0
UnmetBut ws x ts es = (t : Task) → has_waiter t es ≡ true → (has_task t ts ≡ true) ⊎ (is_met x ws t ≡ false)

module _ (ws : List Wanted) (s : EventflagState) (x : ℕ) (t : Task) (ts : List Task) (but : UnmetBut ws x (t ∷ ts) s.waiters) where
  unmet_after : Unmet ws 0 s.waiters → UnmetBut ws (cleared s x) ts (left_by t s.waiters)
  unmet_after none u e = let parts = waited_before u t s.waiters e in go parts.0 (none u parts.1) (but u parts.1)
    where
      go : not (u.number == t.number) ≡ true → is_met 0 ws u ≡ false → (has_task u (t ∷ ts) ≡ true) ⊎ (is_met x ws u ≡ false) → (has_task u ts ≡ true) ⊎ (is_met (cleared s x) ws u ≡ false)
      go d z (inl i) = inl (later (u.number == t.number) d i)
        where
          later : (b : Bool) → not b ≡ true → (b || has_task u ts) ≡ true → has_task u ts ≡ true
          later true d i = cc
          later false d i = i
      go d z (inr n) = inr (cond_both s.eventflag.setup.clears 0 x (λ (y : ℕ). is_met y ws u ≡ false) (λ _. z) (λ _. n))

  unmet_passed : is_met x ws t ≡ false → UnmetBut ws x ts s.waiters
  unmet_passed passed u e = go (but u e)
    where
      go : (has_task u (t ∷ ts) ≡ true) ⊎ (is_met x ws u ≡ false) → (has_task u ts ≡ true) ⊎ (is_met x ws u ≡ false)
      go (inr n) = inr n
      go (inl i) =
          ⊎_elim (λ (same : u.number ≡ t.number). inr (met_same x ws u t same ∙ passed))
          (λ (other : u.number ≡ t.number → ⊥). inl (sym (ap (λ (b : Bool). b || has_task u ts) (ne_eqb u.number t.number other)) ∙ i))
          (cases_eq u.number t.number)

unmet_served : (ws : List Wanted) (s : EventflagState) (x : ℕ) (ts : List Task) → Unmet ws 0 s.waiters → UnmetBut ws x ts s.waiters → WaitsUnmet ws (served s ws x ts).0
unmet_served ws s x [] none but = λ t e. go t (but t e)
  where
    go : (t : Task) → (has_task t [] ≡ true) ⊎ (is_met x ws t ≡ false) → is_met x ws t ≡ false
    go t (inl i) = cc
    go t (inr n) = n
unmet_served ws s x (t ∷ ts) none but =
    cond_both (is_met x ws t) (and_release t x (served (record s { waiters = left_by t s.waiters }) ws (cleared s x) ts)) (served s ws x ts)
    (λ (did : EventflagState × List (Task × ℕ)). WaitsUnmet ws did.0)
    (λ _. unmet_served ws (record s { waiters = left_by t s.waiters }) (cleared s x) ts (unmet_left ws 0 t s.waiters none) (unmet_after ws s x t ts but none))
    (λ passed. unmet_served ws s x ts none (unmet_passed ws s x t ts but passed))

pub unmet_bits_set : (ws : List Wanted) (s : EventflagState) (bits : ℕ) → WaitsUnmet ws s → WaitsUnmet ws (bits_set s ws bits).0
unmet_bits_set ws s bits h =
    unmet_served ws s (bit_or s.eventflag.pattern bits) (map task_of s.waiters)
    (λ t e. unmet_with_none s.eventflag.pattern (item no_bits ws t.number).pattern (item no_bits ws t.number).mode (h t e)) (λ t e. inl (waits_is t s.waiters ∙ e))
