-- The receipts of the seats after one more record, and that a seat is full only where the history is.
use Rattle.std.proofs.Common.{◌≡◌, ℕ, ◌+◌, ◌-◌, ◌<◌, ◌≤◌, ◌==◌, ◌⊎◌, inl, inr, Bool, true, false, List, [], ◌∷◌, ◌++◌, length, set, refl, ap, sym, subst, ◌∙◌, arith}
use Rattle.std.specs.Prelude.{slice_index_or}
use Rattle.std.proofs.lemmas.Bool.{cases_eq, eq-eqb, ne_eqb}
use Rattle.std.proofs.lemmas.List.{get_or-set_same, get_or-set_other, length-set}
use Rattle.fmp_codes.specs.declared.numbers.Proc.{Proc}
use Rattle.fmp_codes.specs.declared.records.Event.{Event}
use Rattle.fmp_codes.specs.declared.records.Event.TheVariants as event
use Rattle.fmp_codes.proofs.Same.{processors_same}
use Rattle.fmp_codes.specs.Records.{is_tick}
use Rattle.fmp_setup.specs.Setup.{Setup}
use Rattle.fmp_text_scripts.specs.Scripts.{Steps}
use Rattle.fmp_smp.specs.Seeds.{AreSeated}
use Rattle.fmp_smp.proofs.Moving.{IsOwn, choice_own, report_event}
use Rattle.fmp_world.specs.declared.seats.Receipt.{Receipt}
use Rattle.fmp_world.specs.declared.seats.Turn.TheVariants.{Made, Full}
use Rattle.fmp_world.specs.Ends.{is_of_cpu, receipts_from, receipts_of_clock, SeatFits}
use Rattle.fmp_world.specs.Turns.{opening, IsOpening, is_full, report_after, receipt_of, Turns, Ticks}
use Rattle.fmp_world.specs.Views.{History, Seat, ClockSeat}
use Rattle.fmp_world.specs.Findings.{receipt}
use Rattle.fmp_world.proofs.Judging.{fullness}
use Rattle.fmp_world.proofs.Receipts.{report_too, unreported, few_receipts}

-- ---- a seat is full only where the history is

full_so : (w : History) (test : Event → Bool) (room : ℕ) (receipts : List Receipt) → room ≡ w.turns → receipts ≡ receipts_from test 1 w.records
    → (w.turns ≤ length w.records) ⊎ (room ≤ length receipts) → is_full w ≡ true
full_so w test room receipts rooms are (inl full) = (fullness w).1 full
full_so w test room receipts rooms are (inr full) =
    let few = few_receipts test 1 w.records in
    let all : room ≤ length (receipts_from test 1 w.records) = subst (λ l. room ≤ length l) are full in
    (fullness w).1 (omega (arith, few, all, rooms))

-- ---- the seats after a turn

-- the receipt of an event is that of its record
receipt_reported : (w : History) (e : Event) → receipt_of w e ≡ receipt (1 + length w.records) (report_after w e)
receipt_reported w e =
    let number : length w.records + 1 ≡ 1 + length w.records = omega arith in
    ap (λ n. receipt_at n e) number ∙ ap (receipt_at (1 + length w.records)) (sym (report_event w e))
  where
    receipt_at : ℕ → Event → Receipt
    receipt_at n x = record { number = n; event = x; answer = (report_after w e).answer }

-- what stands in a list after one place of it changed
after_set : {X : Type 0} (P : ℕ → X → Type 0) (xs : List X) (i : ℕ) (x : X) → i < length xs → P i x → ((k : ℕ) (d : X) → k < length xs → (k ≡ i → ⊥) → P k (slice_index_or xs k d))
    → (k : ℕ) (d : X) → k < length (set xs i x) → P k (slice_index_or (set xs i x) k d)
after_set P xs i x within here others k d below =
    let small : k < length xs = subst (λ n. k < n) (length-set xs i x) below in
    elim (cases_eq k i) [
      | inl same ↦ rw same (subst (P i) (sym (get_or-set_same xs i x d within)) here)
      | inr other ↦ subst (P k) (sym (get_or-set_other xs i k x d other)) (others k d small other)
    ]

-- before the first record
pub seated_at_first : (c : Setup) (scripts : List Steps) (turns : ℕ) (cpus : List Seat) (clock : ClockSeat) → IsOpening turns cpus c.processors → clock ≡ record { room = turns; receipts = [] }
    → AreSeated (opening c scripts turns) cpus clock
seated_at_first c scripts turns cpus clock fresh empty = record {
  seats = record {
    count = fresh.0;
    fit = λ k d below. let seat = fresh.1 k d (subst (λ n. k < n) fresh.0 below) in (seat.0, seat.2);
    clock_reported = ap (λ (s : ClockSeat). s.receipts) empty;
  };
  rooms = λ k d below. (fresh.1 k d (subst (λ n. k < n) fresh.0 below)).1;
  clock_room = ap (λ (s : ClockSeat). s.room) empty;
}

module _ (w : History) (cpus : List Seat) (clock : ClockSeat) (seated : AreSeated w cpus clock) where
  -- the seat of a processor
  pub seat_fits : (p : Proc) (s : Seat) → p.number - 1 < length cpus → s ≡ slice_index_or cpus (p.number - 1) s → SeatFits (p.number - 1) w.records s × (s.room ≡ w.turns)
  seat_fits p s within at =
      subst (λ (x : Seat). SeatFits (p.number - 1) w.records x × (x.room ≡ w.turns)) (sym at)
      (seated.seats.fit (p.number - 1) s within, seated.rooms (p.number - 1) s within)

  pub seat_own : (p : Proc) (s : Seat) → p.number - 1 < length cpus → s ≡ slice_index_or cpus (p.number - 1) s → s.processor ≡ p
  seat_own p s within at = let fits = (seat_fits p s within at).0.0 in processors_same s.processor p (omega (arith, fits, p.least))

  pub turn_full : (p : Proc) (s : Seat) (w' : History) (s' : Seat) → p.number - 1 < length cpus → s ≡ slice_index_or cpus (p.number - 1) s → Turns w s Full w' s' → is_full w ≡ true
  turn_full p s w' s' within at turns =
      let fits = seat_fits p s within at in
      full_so w (is_of_cpu (p.number - 1 + 1)) s.room s.receipts fits.1 fits.0.1 turns.0

  pub turn_seated : (p : Proc) (s : Seat) (report : Receipt) (w' : History) (s' : Seat) → p.number - 1 < length cpus → s ≡ slice_index_or cpus (p.number - 1) s → Turns w s (Made report) w' s'
      → AreSeated w' (set cpus (p.number - 1) s') clock
  turn_seated p s report w' s' within at turns =
      let i = p.number - 1 in
      let made = report_after w report.event in
      let fits = seat_fits p s within at in
      let own : IsOwn s.processor report.event = choice_own w.config w.scripts w.records s.processor report.event turns.1 in
      let event = report_event w report.event in
      let here : is_of_cpu (i + 1) made.event ≡ true = rw event (own.2 (i + 1) ∙ eq-eqb s.processor.number (i + 1) fits.0.0) in
      let receipts : s.receipts ++ report ∷ [] ≡ receipts_from (is_of_cpu (i + 1)) 1 (w.records ++ made ∷ []) =
      ap (λ l. l ++ report ∷ []) fits.0.1
      ∙ ap (λ x. receipts_from (is_of_cpu (i + 1)) 1 w.records ++ x ∷ []) (turns.2.receipt ∙ receipt_reported w report.event)
      ∙ sym (report_too (is_of_cpu (i + 1)) w.records made here) in
      let Good : ℕ → Seat → Type 0 = λ k x. SeatFits k (w.records ++ made ∷ []) x × (x.room ≡ w.turns) in
      let new : Good i s' = subst (Good i) (sym turns.3) ((fits.0.0, receipts), fits.1) in
      let others : (k : ℕ) (d : Seat) → k < length cpus → (k ≡ i → ⊥) → Good k (slice_index_or cpus k d) = λ k d below other.
      let old = seated.seats.fit k d below in
      let elsewhere : (s.processor.number == k + 1) ≡ false = ne_eqb s.processor.number (k + 1) (λ e. other (omega (arith, e, fits.0.0))) in
      let past : is_of_cpu (k + 1) made.event ≡ false = rw event (own.2 (k + 1) ∙ elsewhere) in
      ((old.0, old.1 ∙ sym (unreported (is_of_cpu (k + 1)) w.records made past)), seated.rooms k d below) in
      let all = after_set Good cpus i s' within new others in
      let timed : is_tick made.event ≡ false = rw event own.1 in
      subst (λ x. AreSeated x (set cpus i s') clock) (sym turns.2.history) (record {
        seats = record {
          count = length-set cpus i s' ∙ seated.seats.count;
          fit = λ k d below. (all k d below).0;
          clock_reported = seated.seats.clock_reported ∙ sym (unreported is_tick w.records made timed);
        };
        rooms = λ k d below. (all k d below).1;
        clock_room = seated.clock_room;
      })

  -- ---- the seats after a tick

  pub tick_full : (p : Proc) (w' : History) (clock' : ClockSeat) → Ticks w clock p Full w' clock' → is_full w ≡ true
  tick_full p w' clock' ticks = full_so w is_tick clock.room clock.receipts seated.clock_room seated.seats.clock_reported ticks.0

  pub tick_seated : (p : Proc) (report : Receipt) (w' : History) (clock' : ClockSeat) → Ticks w clock p (Made report) w' clock' → AreSeated w' cpus clock'
  tick_seated p report w' clock' ticks =
      let e : Event = event.Tick p in
      let made = report_after w e in
      let event = report_event w e in
      let here : is_tick made.event ≡ true = rw event refl in
      let receipts : clock.receipts ++ report ∷ [] ≡ receipts_of_clock (w.records ++ made ∷ []) =
      ap (λ l. l ++ report ∷ []) seated.seats.clock_reported
      ∙ ap (λ x. receipts_of_clock w.records ++ x ∷ []) (ticks.2.receipt ∙ receipt_reported w e)
      ∙ sym (report_too is_tick w.records made here) in
      let past : (k : ℕ) → is_of_cpu (k + 1) made.event ≡ false = λ k. rw event refl in
      let seated_so : AreSeated (record w { records = w.records ++ made ∷ [] }) cpus (record clock { receipts = clock.receipts ++ report ∷ [] }) = record {
        seats = record {
          count = seated.seats.count;
          fit = λ k d below. let old = seated.seats.fit k d below in (old.0, old.1 ∙ sym (unreported (is_of_cpu (k + 1)) w.records made (past k)));
          clock_reported = receipts;
        };
        rooms = seated.rooms;
        clock_room = seated.clock_room;
      } in
      rw (ticks.2.history, ticks.3) seated_so
