-- The state after some events and the records of their answers, one event after the other.
use Rattle.std.proofs.Common.{◌≡◌, ◌||◌, ℕ, zero, suc, List, [], ◌∷◌, ◌++◌, length, refl, ap}
use Rattle.std.specs.Prelude.{is_some, take}
use Rattle.std.proofs.lemmas.Bool.{cond_both}
use Rattle.fmp_codes.specs.declared.records.Event.{Event}
use Rattle.fmp_codes.specs.declared.records.Event.TheVariants as events
use Rattle.fmp_codes.specs.declared.records.Record.{Record}
use Rattle.fmp_setup.specs.Setup.{has_time}
use Rattle.fmp_rules.specs.World.{processor, handler, runner_of, is_held}
use Rattle.fmp_rules.specs.Arrivals.{State, numbered}
use Rattle.fmp_rules.specs.Step.{settled, before_event, unchanged, step, replay, answers}

-- a record names its event
pub step_event : (m : State) (e : Event) → (step numbered m e).1.event ≡ e
unfolding settled before_event unchanged
step_event m (events.Call p c) = cond_both (is_some (runner_of m p)) _ _ (λ (x : State × Record). x.1.event ≡ events.Call p c) (λ _. refl) (λ _. refl)
step_event m (events.Tick p) =
    cond_both (has_time m.timer p) _ _ (λ (x : State × Record). x.1.event ≡ events.Tick p)
    (λ _. cond_both ((processor m p).locked || is_some (handler m p)) _ _ (λ (x : State × Record). x.1.event ≡ events.Tick p) (λ _. refl) (λ _. refl)) (λ _. refl)
step_event m (events.Ipi p) = cond_both (is_held m p) _ _ (λ (x : State × Record). x.1.event ≡ events.Ipi p) (λ _. refl) (λ _. refl)

-- there are as many records as events
pub length-answers : (m : State) (es : List Event) → length (answers numbered m es) ≡ length es
length-answers m [] = refl
length-answers m (e ∷ es) = ap suc (length-answers (step numbered m e).0 es)

-- one event more
pub replay_more : (m : State) (es : List Event) (e : Event) → replay numbered m (es ++ e ∷ []) ≡ (step numbered (replay numbered m es) e).0
replay_more m [] e = refl
replay_more m (x ∷ es) e = replay_more (step numbered m x).0 es e

pub answers_more : (m : State) (es : List Event) (e : Event) → answers numbered m (es ++ e ∷ []) ≡ answers numbered m es ++ (step numbered (replay numbered m es) e).1 ∷ []
answers_more m [] e = refl
answers_more m (x ∷ es) e = ap (λ rs. (step numbered m x).1 ∷ rs) (answers_more (step numbered m x).0 es e)

-- the first of some events have the first of their records
pub answers_take : (n : ℕ) (m : State) (es : List Event) → answers numbered m (take n es) ≡ take n (answers numbered m es)
answers_take zero m es = refl
answers_take (suc n) m [] = refl
answers_take (suc n) m (e ∷ es) = ap (λ rs. (step numbered m e).1 ∷ rs) (answers_take n (step numbered m e).0 es)
