-- What the turn of a mover that can move gives.
use Rattle.std.proofs.Common.{◌≡◌, ℕ, ◌-◌, ◌<◌, inl, inr, true, List, length, set, refl, ap, subst, ◌∙◌, arith}
use Rattle.std.proofs.lemmas.List.{set-get_or}
use Rattle.std.specs.Prelude.{is_some, None, slice_index_or}
use Rattle.fmp_codes.specs.declared.numbers.Proc.{Proc}
use Rattle.fmp_smp.specs.declared.seeded.Mover.TheVariants.{Cpu, Clock}
use Rattle.fmp_smp.specs.Rounds.{Rounds, next_of, Gives}
use Rattle.fmp_smp.specs.Seeds.{CanMove, AreSeated, Goes, is_recorded}
use Rattle.fmp_smp.proofs.Moving.{turn_moves, tick_moves}
use Rattle.fmp_smp.proofs.Seating.{seat_own, turn_full, turn_seated, tick_full, tick_seated}
use Rattle.fmp_world.specs.declared.seats.Turn.{Turn}
use Rattle.fmp_world.specs.declared.seats.Turn.TheVariants.{Made, Nothing, Full}
use Rattle.fmp_smp_histories.specs.Scripted.{choice}
use Rattle.fmp_world.specs.Turns.{Turns}
use Rattle.fmp_world.specs.Views.{History, Seat, ClockSeat}

-- a list whose changed place holds what it held
set_same : {X : Type 0} (xs : List X) (i : ℕ) (x y : X) → y ≡ x → x ≡ slice_index_or xs i x → set xs i y ≡ xs
set_same xs i x y same at = ap (set xs i) (same ∙ at) ∙ set-get_or xs i x

module _ (w : History) (r : Rounds) (cpus : List Seat) (clock : ClockSeat) (seated : AreSeated w cpus clock) where
  pub tick_goes : (t : Turn) (w' : History) (r' : Rounds) (clock' : ClockSeat) → CanMove w r Clock → Gives r w clock t r' w' clock'
      → Goes w r Clock (is_recorded t) w' r' × AreSeated w' cpus clock'
  tick_goes (Made report) w' r' clock' can gives = (tick_moves w r clock report w' r' clock' gives, tick_seated w cpus clock seated (next_of r) report w' clock' gives.2)
  tick_goes Nothing w' r' clock' can gives = let left = can.0 in let none = gives.0 in cc
  tick_goes Full w' r' clock' can gives = elim gives.1 [
    | inl past ↦ let here = can.1 in absurd (omega (arith, past, here))
    | inr ticks ↦ ((tick_full w cpus clock seated (next_of r) w' clock' ticks, gives.3, gives.2), rw (gives.3, gives.4) seated)
  ]

  pub turn_goes : (p : Proc) (s : Seat) (t : Turn) (w' : History) (s' : Seat) → CanMove w r (Cpu p) → s ≡ slice_index_or cpus (p.number - 1) s → Turns w s t w' s'
      → Goes w r (Cpu p) (is_recorded t) w' r × AreSeated w' (set cpus (p.number - 1) s') clock
  turn_goes p s t w' s' can at turns = went t turns
    where
      within : p.number - 1 < length cpus
      within = let count = seated.seats.count in let small = can.1 in omega (arith, p.least, count, small)

      own : s.processor ≡ p
      own = seat_own w cpus clock seated p s within at

      went : (t : Turn) → Turns w s t w' s' → Goes w r (Cpu p) (is_recorded t) w' r × AreSeated w' (set cpus (p.number - 1) s') clock
      went (Made report) turns = (turn_moves w r p s report w' s' turns own, turn_seated w cpus clock seated p s report w' s' within at turns)
      went Nothing turns =
          let has : is_some (choice w.config w.scripts w.records p) ≡ true = can.0 in
          let none : choice w.config w.scripts w.records p ≡ None = subst (λ q. choice w.config w.scripts w.records q ≡ None) own turns.1 in
          cc
      went Full turns =
          let same = set_same cpus (p.number - 1) s s' turns.2 at in
          ((turn_full w cpus clock seated p s w' s' within at turns, turns.1, refl), rw (same, turns.1) seated)
