-- Changes that are put in their places leave there what the model says.
use Rattle.std.proofs.Common.{◌≡◌, ◌⊎◌, ◌<◌, ℕ, zero, suc, Bool, true, false, not, ◌||◌, eqb, List, [], ◌∷◌, ◌++◌, inl, inr, refl, sym, ap, subst, ◌∙◌, arith}
use Rattle.std.proofs.lemmas.Bool.{cases_Bool, eqb-false, eqb-true, and_parts, and_cases}
use Rattle.std.proofs.lemmas.Slice.Eq.{bytes_eq-Decides}
use Rattle.std.specs.Str.{bytes_eq}
use Rattle.fmp_codes.specs.declared.records.Event.{Event}
use Rattle.fmp_setup.specs.Setup.{Setup}
use Rattle.fmp_run_view.specs.declared.signal.Signal.{Signal}
use Rattle.fmp_run_view.specs.declared.signal.Signal.TheVariants.{Running, Flags, Due, State, Place, Rest, Semaphore, Eventflag, DataQueue, Pool, Cyclic, Alarm, SpinLock}
use Rattle.fmp_run_view.specs.declared.signal.TheConstants.{SIGNALS}
use Rattle.fmp_run_view.specs.Changes.{Change, change_if, changes_between, changes_over, changes_to}
use Rattle.fmp_run_view.specs.Moments.{Moment, at_boot, following}
use Rattle.fmp_run_view.specs.Signals.{count}
use Rattle.fmp_run_view.specs.Tables.{AreReported, Table, after_all, is_at, put, rank, report, report_since_boot, with_change}
use Rattle.fmp_run_view.specs.Values.{value_text}

-- the signal of a rank
abbrev ranked : ℕ → Signal
ranked zero = Running
ranked (suc zero) = Flags
ranked (suc (suc zero)) = Due
ranked (suc (suc (suc zero))) = State
ranked (suc (suc (suc (suc zero)))) = Place
ranked (suc (suc (suc (suc (suc zero))))) = Rest
ranked (suc (suc (suc (suc (suc (suc zero)))))) = Semaphore
ranked (suc (suc (suc (suc (suc (suc (suc zero))))))) = Eventflag
ranked (suc (suc (suc (suc (suc (suc (suc (suc zero)))))))) = DataQueue
ranked (suc (suc (suc (suc (suc (suc (suc (suc (suc zero))))))))) = Pool
ranked (suc (suc (suc (suc (suc (suc (suc (suc (suc (suc zero)))))))))) = Cyclic
ranked (suc (suc (suc (suc (suc (suc (suc (suc (suc (suc (suc zero))))))))))) = Alarm
ranked _ = SpinLock

ranked_back : (s : Signal) → ranked (rank s) ≡ s
ranked_back Running = refl
ranked_back Flags = refl
ranked_back Due = refl
ranked_back State = refl
ranked_back Place = refl
ranked_back Rest = refl
ranked_back Semaphore = refl
ranked_back Eventflag = refl
ranked_back DataQueue = refl
ranked_back Pool = refl
ranked_back Cyclic = refl
ranked_back Alarm = refl
ranked_back SpinLock = refl

same_rank : (s u : Signal) → rank s ≡ rank u → s ≡ u
same_rank s u same = sym (ranked_back s) ∙ ap ranked same ∙ ranked_back u

-- each change is to what the model says
abbrev Sound : Moment → List Change → Type 0
Sound v [] = Unit {0}
Sound v (x ∷ xs) = (x.text ≡ value_text v x.signal x.place) × Sound v xs

-- one of them is of this signal and place
abbrev IsIn : Signal → ℕ → List Change → Type 0
IsIn s i [] = ⊥
IsIn s i (x ∷ xs) = ((s ≡ x.signal) × (i ≡ x.place)) ⊎ IsIn s i xs

sound-append : (v : Moment) (xs ys : List Change) → Sound v xs → Sound v ys → Sound v (xs ++ ys)
sound-append v [] ys a b = b
sound-append v (x ∷ xs) ys a b = (a.0, sound-append v xs ys a.1 b)

in-first : (s : Signal) (i : ℕ) (xs ys : List Change) → IsIn s i xs → IsIn s i (xs ++ ys)
in-first s i [] ys here = absurd here
in-first s i (x ∷ xs) ys (inl here) = inl here
in-first s i (x ∷ xs) ys (inr others) = inr (in-first s i xs ys others)

in-second : (s : Signal) (i : ℕ) (xs ys : List Change) → IsIn s i ys → IsIn s i (xs ++ ys)
in-second s i [] ys here = here
in-second s i (x ∷ xs) ys here = inr (in-second s i xs ys here)

not_off : (x : Change) (s : Signal) (i : ℕ) → s ≡ x.signal → i ≡ x.place → is_at s i x ≡ false → ⊥
not_off x s i signal place off =
    elim (and_cases (eqb (rank s) (rank x.signal)) (eqb i x.place) off) [
      | inl f ↦ eqb-false (rank s) (rank x.signal) f (ap rank signal)
      | inr f ↦ eqb-false i x.place f place
    ]

module _ (v : Moment) where
  -- what is right stays so, and so is what is put
  with_right : (x : Change) (t : Table) (s : Signal) (i : ℕ) → x.text ≡ value_text v x.signal x.place → t s i ≡ value_text v s i → with_change x t s i ≡ value_text v s i
  with_right x t s i here right =
      elim (cases_Bool (is_at s i x)) [
        | inl at ↦
            let p = and_parts (eqb (rank s) (rank x.signal)) (eqb i x.place) at in
            let signal : s ≡ x.signal = same_rank s x.signal (eqb-true (rank s) (rank x.signal) p.0) in
            let place : i ≡ x.place = eqb-true i x.place p.1 in
            rw at (rw (signal, place) here)
        | inr off ↦ rw off right
      ]

  put_right : (xs : List Change) (t : Table) (s : Signal) (i : ℕ) → Sound v xs → t s i ≡ value_text v s i → put xs t s i ≡ value_text v s i
  put_right [] t s i sound right = right
  put_right (x ∷ xs) t s i sound right = put_right xs (with_change x t) s i sound.1 (with_right x t s i sound.0 right)

  at_its_place : (x : Change) (t : Table) (s : Signal) (i : ℕ) → s ≡ x.signal → i ≡ x.place → x.text ≡ value_text v x.signal x.place → with_change x t s i ≡ value_text v s i
  at_its_place x t s i signal place here =
      elim (cases_Bool (is_at s i x)) [
        | inl at ↦ rw at (rw (signal, place) here)
        | inr off ↦ absurd (not_off x s i signal place off)
      ]

  put_reported : (xs : List Change) (t : Table) (s : Signal) (i : ℕ) → Sound v xs → IsIn s i xs → put xs t s i ≡ value_text v s i
  put_reported [] t s i sound is = absurd is
  put_reported (x ∷ xs) t s i sound (inl is) = put_right xs (with_change x t) s i sound.1 (at_its_place x t s i is.0 is.1 sound.0)
  put_reported (x ∷ xs) t s i sound (inr others) = put_reported xs (with_change x t) s i sound.1 others

-- a change, or none where both texts are the same
module _ (all : Bool) (v : Moment) (s : Signal) (i : ℕ) (old : List ℕ) where
  sound_if : Sound v (change_if all s i old (value_text v s i))
  sound_if =
      elim (cases_Bool (all || not (bytes_eq old (value_text v s i)))) [
        | inl t ↦ rw t (refl, tt)
        | inr f ↦ rw f tt
      ]

  in_if : (all || not (bytes_eq old (value_text v s i))) ≡ true → IsIn s i (change_if all s i old (value_text v s i))
  in_if t = rw t (inl (refl, refl))

module _ (c : Setup) (all : Bool) (m v : Moment) where
  sound_to : (s : Signal) (n : ℕ) → Sound v (changes_to c all m v s n)
  unfolding changes_to
  sound_to s zero = tt
  sound_to s (suc n) = sound-append v (changes_to c all m v s n) (change_if all s n (value_text m s n) (value_text v s n)) (sound_to s n) (sound_if all v s n (value_text m s n))

  sound_over : (signals : List Signal) → Sound v (changes_over c all m v signals)
  sound_over [] = tt
  sound_over (s ∷ signals) = sound-append v (changes_to c all m v s (count c s)) (changes_over c all m v signals) (sound_to s (count c s)) (sound_over signals)

  -- it is told
  abbrev IsReported : Signal → ℕ → Type 0
  IsReported s i = (all || not (bytes_eq (value_text m s i) (value_text v s i))) ≡ true

  in_to : (s : Signal) (i n : ℕ) → i < n → IsReported s i → IsIn s i (changes_to c all m v s n)
  unfolding changes_to
  in_to s i zero low is = absurd (omega arith)
  in_to s i (suc n) low is =
      let here = change_if all s n (value_text m s n) (value_text v s n) in
      elim (cases_Bool (eqb i n)) [
        | inl t ↦
            let same : i ≡ n = eqb-true i n t in
            in-second s i (changes_to c all m v s n) here (rw same (in_if all v s n (value_text m s n) (rw same at is)))
        | inr f ↦
            let other : i ≡ n → ⊥ = eqb-false i n f in
            let lower : i < n = omega arith in
            in-first s i (changes_to c all m v s n) here (in_to s i n lower is)
      ]

  -- it is one of these
  abbrev IsOne : Signal → List Signal → Type 0
  IsOne s [] = ⊥
  IsOne s (u ∷ signals) = (s ≡ u) ⊎ IsOne s signals

  in_over : (s : Signal) (i : ℕ) (signals : List Signal) → IsOne s signals → i < count c s → IsReported s i → IsIn s i (changes_over c all m v signals)
  in_over s i [] one low is = absurd one
  in_over s i (u ∷ signals) (inl same) low is =
      in-first s i (changes_to c all m v u (count c u)) (changes_over c all m v signals) (subst (λ (x : Signal). IsIn s i (changes_to c all m v x (count c x))) same (in_to s i (count c s) low is))
  in_over s i (u ∷ signals) (inr others) low is =
      in-second s i (changes_to c all m v u (count c u)) (changes_over c all m v signals) (in_over s i signals others low is)

  every : (s : Signal) → IsOne s SIGNALS.now
  every Running = inl refl
  every Flags = inr (inl refl)
  every Due = inr (inr (inl refl))
  every State = inr (inr (inr (inl refl)))
  every Place = inr (inr (inr (inr (inl refl))))
  every Rest = inr (inr (inr (inr (inr (inl refl)))))
  every Semaphore = inr (inr (inr (inr (inr (inr (inl refl))))))
  every Eventflag = inr (inr (inr (inr (inr (inr (inr (inl refl)))))))
  every DataQueue = inr (inr (inr (inr (inr (inr (inr (inr (inl refl))))))))
  every Pool = inr (inr (inr (inr (inr (inr (inr (inr (inr (inl refl)))))))))
  every Cyclic = inr (inr (inr (inr (inr (inr (inr (inr (inr (inr (inl refl))))))))))
  every Alarm = inr (inr (inr (inr (inr (inr (inr (inr (inr (inr (inr (inl refl)))))))))))
  every SpinLock = inr (inr (inr (inr (inr (inr (inr (inr (inr (inr (inr (inr (inl refl))))))))))))

  report_right : (t : Table) (s : Signal) (i : ℕ) → i < count c s → IsReported s i → put (changes_between c all m v) t s i ≡ value_text v s i
  unfolding changes_between
  report_right t s i low is = put_reported v (changes_over c all m v SIGNALS.now) t s i (sound_over SIGNALS.now) (in_over s i SIGNALS.now (every s) low is)

  kept_right : (t : Table) (s : Signal) (i : ℕ) → t s i ≡ value_text v s i → put (changes_between c all m v) t s i ≡ value_text v s i
  unfolding changes_between
  kept_right t s i right = put_right v (changes_over c all m v SIGNALS.now) t s i (sound_over SIGNALS.now) right

-- texts that are not told apart are the same
same_texts : (old new : List ℕ) → not (bytes_eq old new) ≡ false → old ≡ new
same_texts old new same =
    elim (cases_Bool (bytes_eq old new)) [
      | inl t ↦ (bytes_eq-Decides old new).0 t
      | inr f ↦ absurd (let wrong : true ≡ false = rw f at same in cc)
    ]

module _ (c : Setup) where
  -- what is right at each place is so after an event
  next_right : (m v : Moment) (t : Table) → ((s : Signal) (i : ℕ) → i < count c s → t s i ≡ value_text m s i) → (s : Signal) (i : ℕ) → i < count c s
      → put (changes_between c false m v) t s i ≡ value_text v s i
  next_right m v t right s i low =
      elim (cases_Bool (not (bytes_eq (value_text m s i) (value_text v s i)))) [
        | inl report ↦ report_right c false m v t s i low report
        | inr same ↦ kept_right c false m v t s i (right s i low ∙ same_texts (value_text m s i) (value_text v s i) same)
      ]

  all_right : (m : Moment) (es : List Event) (t : Table) → ((s : Signal) (i : ℕ) → i < count c s → t s i ≡ value_text m s i) → (s : Signal) (i : ℕ) → i < count c s
      → report c m es t s i ≡ value_text (after_all m es) s i
  all_right m [] t right s i low = right s i low
  all_right m (e ∷ es) t right s i low =
      all_right (following m e) es (put (changes_between c false m (following m e)) t) (next_right m (following m e) t right) s i low

pub are_reported : (c : Setup) (es : List Event) → AreReported c es
unfolding report_since_boot
are_reported c es s i low =
    all_right c (at_boot c) es (put (changes_between c true (at_boot c) (at_boot c)) (λ signal j. []))
    (λ u j within. report_right c true (at_boot c) (at_boot c) (λ signal k. []) u j within refl) s i low
