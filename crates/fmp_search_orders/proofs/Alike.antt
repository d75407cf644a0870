-- What a place says of events and lines is what its history says.
use Rattle.std.proofs.Common.{◌≡◌, ℕ, zero, suc, ◌+◌, ◌≤◌, Bool, true, false, ◌&&◌, ◌||◌, not, ◌∙◌, Option, None, Some, inl, inr, refl, ap, sym, subst, arith}
use Rattle.std.specs.Prelude.{nat_lt, is_none, is_some, drop}
use Rattle.std.proofs.lemmas.Bool.{and_parts, cases_Bool, cases_eq, ltb-true, ltb-false, lt-ltb, le-ltb}
use Rattle.fmp_codes.specs.Numbers.{as_proc, within}
use Rattle.fmp_codes.proofs.Same.{processors_same}
use Rattle.fmp_codes.specs.declared.numbers.Proc.{Proc}
use Rattle.fmp_codes.specs.declared.records.Record.{Record}
use Rattle.fmp_setup.specs.Setup.{Setup, has_time}
use Rattle.fmp_rules.specs.Arrivals.{State}
use Rattle.fmp_rules.specs.World.{World, processor, runner_of}
use Rattle.fmp_kernel_order.specs.Queues.{Queues}
use Rattle.fmp_law_lists.specs.Stands.{Stands}
use Rattle.fmp_trace.specs.Lines.{core_text}
use Rattle.fmp_facts.specs.Asking.{Asked}
use Rattle.fmp_show_facts.specs.Facts.{is_so}
use Rattle.fmp_search_orders.specs.declared.rules.Rules.{Rules}
use Rattle.fmp_search_orders.specs.Orders.{each, is_left, is_near, may_tick}
use Rattle.fmp_search_orders.specs.Sights.{is_untimed, is_out_of_time, is_over, padded, sight}

-- nothing that is asked of a state looks at its order
so_alike : (k : World Queues) (m : State) → Stands k m → is_so k ≡ is_so m
unfolding is_so
so_alike k m stands = ap (λ (w : World Queues). is_so w) stands.same

-- tests that are the same of each of the first processors
each_same : (f g : Proc → Bool) (n : ℕ) → ((p : Proc) → p.number ≤ n → f p ≡ g p) → each f n ≡ each g n
each_same f g zero same = refl
each_same f g (suc n) same =
    let low : within 8 (suc n) ≤ suc n = omega arith in
    ap (λ b. b && f (as_proc (suc n))) (each_same f g n (λ p here. same p (omega (arith, here)))) ∙ ap (λ b. each g n && b) (same (as_proc (suc n)) low)

-- and a test that each of them passes
pub each_at : (f : Proc → Bool) (n : ℕ) → each f n ≡ true → (p : Proc) → p.number ≤ n → f p ≡ true
each_at f zero all p here = absurd (let least = p.least in omega (arith, least, here))
each_at f (suc n) all p here = elim (cases_eq p.number (suc n)) [
  | inl last ↦
      let most = p.most in
      let same : as_proc (suc n) ≡ p = processors_same (as_proc (suc n)) p (let least = p.least in omega (arith, last, least, most)) in
      subst (λ (q : Proc). f q ≡ true) same (and_parts (each f n) (f (as_proc (suc n))) all).1
  | inr before ↦ each_at f n (and_parts (each f n) (f (as_proc (suc n))) all).0 p (omega (arith, here, before))
]

-- counts that are the same for each processor whose ticks count, or, without a limit, all so many less
pub record AreShifted (c : Setup) (rules : Rules) (a b : ℕ → ℕ) : Type 0 where
  pub less : ℕ
  pub limited : is_some rules.ticks ≡ true → less ≡ 0
  pub are : (p : Proc) → p.number ≤ c.processors → has_time c.timer p ≡ true → a p.number + less ≡ b p.number

pub unshifted : (c : Setup) (rules : Rules) (a b : ℕ → ℕ) → ((p : Proc) → a p.number ≡ b p.number) → AreShifted c rules a b
unshifted c rules a b same = record { less = 0; limited = λ some. refl; are = λ p here time. let e = same p in omega (arith, e) }

lt_shifted : (a b m n k : ℕ) → a + k ≡ b → m + k ≡ n → nat_lt a m ≡ nat_lt b n
lt_shifted a b m n k e f = elim (cases_Bool (nat_lt a m)) [
  | inl less ↦ let lt = ltb-true a m less in less ∙ sym (lt-ltb b n (omega (arith, e, f, lt)))
  | inr past ↦ let le = ltb-false a m past in past ∙ sym (le-ltb b n (omega (arith, e, f, le)))
]

module _ (c : Setup) (rules : Rules) (a b : ℕ → ℕ) (shifted : AreShifted c rules a b) where
  near_same : (drift : Option ℕ) (m n : ℕ) → m + shifted.less ≡ n → is_near c drift a m ≡ is_near c drift b n
  near_same None m n e = refl
  near_same (Some d) m n e =
      each_same (λ q. not (has_time c.timer q) || nat_lt m (a q.number + d)) (λ q. not (has_time c.timer q) || nat_lt n (b q.number + d)) c.processors
      (λ q here. beside q here (has_time c.timer q) refl)
    where
      beside : (q : Proc) → q.number ≤ c.processors → (time : Bool) → has_time c.timer q ≡ time → (not time || nat_lt m (a q.number + d)) ≡ (not time || nat_lt n (b q.number + d))
      beside q here false is = refl
      beside q here true is = let f = shifted.are q here is in lt_shifted m n (a q.number + d) (b q.number + d) shifted.less e (omega (arith, f))

  left_same : (most : Option ℕ) → (is_some most ≡ true → shifted.less ≡ 0) → (m n : ℕ) → m + shifted.less ≡ n → is_left most m ≡ is_left most n
  left_same None limited m n e = refl
  left_same (Some most) limited m n e = let none = limited refl in ap (λ k. nat_lt k most) (omega (arith, e, none))

  pub may_tick_same : (p : Proc) → p.number ≤ c.processors → may_tick c rules a p ≡ may_tick c rules b p
  may_tick_same p here = by (has_time c.timer p) refl
    where
      by : (time : Bool) → has_time c.timer p ≡ time →
          (time && (is_left rules.ticks (a p.number) && is_near c rules.drift a (a p.number))) ≡ (time && (is_left rules.ticks (b p.number) && is_near c rules.drift b (b p.number)))
      by false is = refl
      by true is =
          let e = shifted.are p here is in
          ap (λ x. x && is_near c rules.drift a (a p.number)) (left_same rules.ticks shifted.limited (a p.number) (b p.number) e)
          ∙ ap (λ x. is_left rules.ticks (b p.number) && x) (near_same rules.drift (a p.number) (b p.number) e)

  time_same : is_out_of_time c rules a ≡ is_out_of_time c rules b
  time_same =
      each_same (λ p. not (has_time c.timer p && is_left rules.ticks (a p.number))) (λ p. not (has_time c.timer p && is_left rules.ticks (b p.number))) c.processors
      (λ p here. by p here (has_time c.timer p) refl)
    where
      by : (p : Proc) → p.number ≤ c.processors → (time : Bool) → has_time c.timer p ≡ time → not (time && is_left rules.ticks (a p.number)) ≡ not (time && is_left rules.ticks (b p.number))
      by p here false is = refl
      by p here true is = ap not (left_same rules.ticks shifted.limited (a p.number) (b p.number) (shifted.are p here is))

  over_same : (k : World Queues) (m : State) → Stands k m → is_over c rules a k ≡ is_over c rules b m
  unfolding is_over
  over_same k m stands =
      ap (λ x. each (λ p. is_none (runner_of k p) && not (processor k p).latch) c.processors && (is_untimed k || x)) time_same
      ∙ ap (λ (w : World Queues). each (λ p. is_none (runner_of w p) && not (processor w p).latch) c.processors && (is_untimed w || is_out_of_time c rules b)) stands.same

  pub sight_shifted : (k : World Queues) (m : State) (r : Record) → Stands k m → sight c rules a k r ≡ sight c rules b m r
  unfolding sight
  sight_shifted k m r stands =
      ap (λ (so : Asked → Bool). record { line = padded (drop 2 (core_text c.names 1 r)); is_so = so; over = is_over c rules a k }) (so_alike k m stands)
      ∙ ap (λ (over : Bool). record { line = padded (drop 2 (core_text c.names 1 r)); is_so = is_so m; over = over }) (over_same k m stands)

-- counts that are the same
pub sight_same : (c : Setup) (rules : Rules) (a b : ℕ → ℕ) → ((p : Proc) → a p.number ≡ b p.number) → (k : World Queues) (m : State) (r : Record) → Stands k m →
    sight c rules a k r ≡ sight c rules b m r
sight_same c rules a b same = sight_shifted c rules a b (unshifted c rules a b same)
