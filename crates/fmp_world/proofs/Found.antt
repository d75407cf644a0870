-- What the judge finds, with one record more, and what it says of the seats.
use Rattle.std.proofs.Common.{◌≡◌, ℕ, ◌+◌, ◌-◌, ◌<◌, ◌≤◌, ◌==◌, ◌≢◌, ◌↔◌, inl, inr, ◌∙◌, Bool, true, false, ◌&&◌, cond, List, [], ◌∷◌, ◌++◌, length, take, Some, IsTrue, slice_get, slice_index, slice_set, slice_index_or, refl, ap, sym, subst, arith, length-append}
use Rattle.std.proofs.lemmas.Bool.{cases_Bool, eqb-true, eqb-false, eq-eqb, ne_eqb, cases_lt}
use Rattle.std.proofs.lemmas.List.{length-set}
use Rattle.std.proofs.lemmas.List.Elements.{All-tail}
use Rattle.std.proofs.lemmas.Option.{slice_get_past, slice_get-get_or}
use Rattle.std.proofs.Math.Seq.{take-length}
use Rattle.fmp_codes.specs.Numbers.{as_proc}
use Rattle.fmp_codes.specs.Records.{processor_of, AreOn, is_taken, is_tick}
use Rattle.fmp_codes.specs.declared.numbers.Proc.{Proc}
use Rattle.fmp_codes.specs.declared.records.Event.{Event}
use Rattle.fmp_codes.specs.declared.records.Event.TheVariants as event
use Rattle.fmp_codes.specs.declared.records.Record.{Record}
use Rattle.fmp_codes.proofs.Counters.{set_here, set_there}
use Rattle.fmp_world.specs.declared.findings.Findings.{Findings}
use Rattle.fmp_world.specs.declared.seats.Receipt.{Receipt}
use Rattle.fmp_world.specs.Ends as ends
use Rattle.fmp_smp_histories.specs.Counted as history
use Rattle.fmp_world.specs.Ends.{is_of_cpu, receipts_from, AreSeats}
use Rattle.fmp_world.specs.Findings.{seat_of, is_of_seat, report_of, receipts_at, report_at, receipt, is_taken_tick, counted, Begin, ArePassed, AreTaken, Finds, Takes, AllPassed}
use Rattle.fmp_smp_histories.specs.Histories.{events_of}
use Rattle.fmp_world.specs.Views.{Seat, ClockSeat}
use Rattle.fmp_world.proofs.Receipts.{report_too, unreported, receipts_same, taken_more}

-- ---- a beginning that is one longer

begins_more : (report front : List Receipt) (x : Receipt)
    → (take (length (front ++ x ∷ [])) report ≡ front ++ x ∷ []) ↔ ((take (length front) report ≡ front) × (slice_get report (length front) ≡ Some x))
begins_more [] [] x = (λ e. cc, λ p. let q = p.1 in cc)
begins_more (y ∷ report) [] x = (λ e. let same : y ≡ x = cc in (refl, ap Some same), λ p. let q = p.1 in let same : y ≡ x = cc in ap (λ z. z ∷ []) same)
begins_more [] (z ∷ front) x = (λ e. cc, λ p. let q = p.1 in cc)
begins_more (y ∷ report) (z ∷ front) x =
    let rest = begins_more report front x in (
      λ e. let head : y ≡ z = cc in let tail : take (length (front ++ x ∷ [])) report ≡ front ++ x ∷ [] = cc in let p = rest.0 tail in (cc (head, p.0), p.1),
      λ p. let q = p.0 in let head : y ≡ z = cc in let tail : take (length front) report ≡ front = cc in cc (head, rest.1 (tail, p.1)),
    )

-- ---- the seats of events

seat_small : (e : Event) → seat_of e < 9
seat_small (event.Call p c) = let most = p.most in omega arith
seat_small (event.Tick p) = omega arith
seat_small (event.Ipi p) = let most = p.most in omega arith

cpu_number : (p : Proc) (k : ℕ) → (p.number == k + 1) ≡ (p.number - 1 == k)
cpu_number p k = let least = p.least in elim (cases_Bool (p.number == k + 1)) [
  | inl e ↦ let same = eqb-true p.number (k + 1) e in e ∙ sym (eq-eqb (p.number - 1) k (omega (arith, same)))
  | inr e ↦ let other = eqb-false p.number (k + 1) e in e ∙ sym (ne_eqb (p.number - 1) k (λ q. other (omega (arith, q, least))))
]

of_cpu : (k : ℕ) → k < 8 → (e : Event) → is_of_cpu (k + 1) e ≡ is_of_seat k e
of_cpu k small (event.Call p c) = cpu_number p k
of_cpu k small (event.Tick p) = sym (ne_eqb 8 k (λ q. omega (arith, q, small)))
of_cpu k small (event.Ipi p) = cpu_number p k

of_clock : (e : Event) → is_tick e ≡ is_of_seat 8 e
of_clock (event.Call p c) = let most = p.most in sym (ne_eqb (p.number - 1) 8 (λ q. omega (arith, q, most)))
of_clock (event.Tick p) = refl
of_clock (event.Ipi p) = let most = p.most in sym (ne_eqb (p.number - 1) 8 (λ q. omega (arith, q, most)))

cpu_reported : (k : ℕ) → k < 8 → (h : List Record) → ends.receipts_of_cpu (k + 1) h ≡ report_at k h
cpu_reported k small h = receipts_same (is_of_cpu (k + 1)) (is_of_seat k) (of_cpu k small) 1 h

clock_reported : (h : List Record) → ends.receipts_of_clock h ≡ report_at 8 h
clock_reported h = receipts_same is_tick (is_of_seat 8) of_clock 1 h

-- a processor that the machine has not is told nothing
off : (n k : ℕ) (e : Event) → (processor_of e).number ≤ n → n ≤ k → k < 8 → is_of_seat k e ≡ false
off n k (event.Call p c) on past small = let least = p.least in ne_eqb (p.number - 1) k (λ q. omega (arith, q, least, on, past))
off n k (event.Tick p) on past small = ne_eqb 8 k (λ q. omega (arith, q, small))
off n k (event.Ipi p) on past small = let least = p.least in ne_eqb (p.number - 1) k (λ q. omega (arith, q, least, on, past))

none_reported : (n k m : ℕ) (h : List Record) → AreOn n (events_of h) → n ≤ k → k < 8 → receipts_from (is_of_seat k) m h ≡ []
none_reported n k m [] on past small = refl
none_reported n k m (r ∷ h) on past small =
    let P : Event → Type 0 = λ e. (processor_of e).number ≤ n in
    let here = off n k r.event (on 0 r.event (omega arith)) past small in
    ap (λ b. cond b (receipt m r ∷ receipts_from (is_of_seat k) (m + 1) h) (receipts_from (is_of_seat k) (m + 1) h)) here
    ∙ none_reported n k (m + 1) h (All-tail P r.event (events_of h) on) past small

-- ---- one record more

module _ (h : List Record) (r : Record) where
  passed_more : (counts : List ℕ) → ArePassed counts h → length counts ≡ 9
      → ArePassed (slice_set counts (seat_of r.event) (slice_index counts (seat_of r.event) + 1)) (h ++ r ∷ [])
  passed_more counts passed long k small = elim (cases_Bool (is_of_seat k r.event)) [
    | inl is ↦
        let same : k ≡ seat_of r.event = sym (eqb-true (seat_of r.event) k is) in
        let long_more = ap length (report_too (is_of_seat k) h r is) ∙ length-append (report_at k h) (receipt (1 + length h) r ∷ []) in
        let before = passed k small in
        let at : slice_index counts (seat_of r.event) ≡ slice_index counts k = ap (slice_index counts) (sym same) in
        set_here counts (seat_of r.event) k _ same (omega (arith, long, small)) ∙ omega (arith, at, before, long_more)
    | inr is ↦
        let other : k ≢ seat_of r.event = λ q. eqb-false (seat_of r.event) k is (sym q) in
        set_there counts (seat_of r.event) k _ other ∙ passed k small ∙ ap length (sym (unreported (is_of_seat k) h r is))
  ]

  begin_more : (cpus : List Seat) (clock : ClockSeat)
      → Begin cpus clock (h ++ r ∷ [])
      ↔ (Begin cpus clock h × (slice_get (receipts_at cpus clock (seat_of r.event)) (length (report_at (seat_of r.event) h)) ≡ Some (receipt (1 + length h) r)))
  begin_more cpus clock =
      let j = seat_of r.event in
      let own : is_of_seat j r.event ≡ true = eq-eqb j j refl in
      let one = begins_more (receipts_at cpus clock j) (report_at j h) (receipt (1 + length h) r) in (
        λ all. (
          λ k small. elim (cases_Bool (is_of_seat k r.event)) [
            | inl is ↦ ((begins_more (receipts_at cpus clock k) (report_at k h) (receipt (1 + length h) r)).0 (rw (report_too (is_of_seat k) h r is) at (all k small))).0
            | inr is ↦ rw (unreported (is_of_seat k) h r is) at (all k small)
          ],
          (one.0 (rw (report_too (is_of_seat j) h r own) at (all j (seat_small r.event)))).1,
        ),
        λ both k small. elim (cases_Bool (is_of_seat k r.event)) [
          | inl is ↦
              let same : j ≡ k = eqb-true j k is in
              rw (report_too (is_of_seat k) h r is)
              ((begins_more (receipts_at cpus clock k) (report_at k h) (receipt (1 + length h) r)).1
              (both.0 k small, subst (λ i. slice_get (receipts_at cpus clock i) (length (report_at i h)) ≡ Some (receipt (1 + length h) r)) same both.1))
          | inr is ↦ rw (unreported (is_of_seat k) h r is) (both.0 k small)
        ],
      )

  -- a tick that its processor took is counted there
  tick_counts : (p : Proc) (taken : Bool) (counts : List ℕ) (k : ℕ) → k < 8 → length counts ≡ 8
      → slice_index (cond taken (slice_set counts (p.number - 1) (slice_index counts (p.number - 1) + 1)) counts) k ≡ slice_index counts k + cond ((p.number == k + 1) && taken) 1 0
  tick_counts p false counts k small long = elim (cases_Bool (p.number == k + 1)) [
    | inl is ↦ rw is (omega arith)
    | inr is ↦ rw is (omega arith)
  ]
  tick_counts p true counts k small long = elim (cases_Bool (p.number == k + 1)) [
    | inl is ↦
        let same : k ≡ p.number - 1 = omega (arith, eqb-true p.number (k + 1) is) in
        let at : slice_index counts (p.number - 1) ≡ slice_index counts k = ap (slice_index counts) (sym same) in
        rw is (set_here counts (p.number - 1) k _ same (omega (arith, long, small)) ∙ ap (λ n. n + 1) at)
    | inr is ↦
        let least = p.least in
        let other : k ≢ p.number - 1 = λ q. eqb-false p.number (k + 1) is (omega (arith, q, least)) in
        rw is (set_there counts (p.number - 1) k _ other ∙ omega arith)
  ]

  counted_at : (e : Event) → r.event ≡ e → (counts : List ℕ) (k : ℕ) → k < 8 → length counts ≡ 8
      → slice_index (counted counts r) k ≡ slice_index counts k + cond (history.is_taken_tick (k + 1) r) 1 0
  counted_at (event.Call p c) is counts k small long = rw is (omega arith)
  counted_at (event.Ipi p) is counts k small long = rw is (omega arith)
  counted_at (event.Tick p) is counts k small long = rw is (tick_counts p (is_taken r.answer) counts k small long)

  taken_too : (counts : List ℕ) → AreTaken counts h → length counts ≡ 8 → AreTaken (counted counts r) (h ++ r ∷ [])
  taken_too counts taken long k small =
      counted_at r.event refl counts k small long ∙ ap (λ n. n + cond (history.is_taken_tick (k + 1) r) 1 0) (taken k small) ∙ sym (taken_more (k + 1) h r)

  counted_long : (b : Bool) (counts : List ℕ) (at n : ℕ) → length (cond b (slice_set counts at n) counts) ≡ length counts
  counted_long true counts at n = length-set counts at n
  counted_long false counts at n = refl

  -- what is found, with one record more
  pub finds_more : (f f' : Findings) (cpus : List Seat) (clock : ClockSeat) → Finds f cpus clock h → Takes f cpus clock (1 + length h) r f' → Finds f' cpus clock (h ++ r ∷ [])
  finds_more f f' cpus clock finds takes =
      let at : slice_index f.passed (seat_of r.event) ≡ length (report_at (seat_of r.event) h) = finds.passed (seat_of r.event) (seat_small r.event) in
      let more = begin_more cpus clock in
      record {
        places = ap length takes.passed ∙ length-set f.passed _ _ ∙ finds.places;
        passed = rw takes.passed (passed_more f.passed finds.passed finds.places);
        processors = ap length takes.taken ∙ counted_long (is_taken_tick r) f.taken _ _ ∙ finds.processors;
        taken = rw takes.taken (taken_too f.taken finds.taken finds.processors);
        fits = (
          λ t. let both = takes.fits.0 t in more.1 (finds.fits.0 both.0, rw at at both.1),
          λ all. let both = more.0 all in takes.fits.1 (finds.fits.1 both.0, rw at both.1),
        );
      }

-- ---- what it says of the seats

pub no_seat : Seat
no_seat = record { processor = as_proc 1; room = 0; receipts = [] }

module _ (f : Findings) (n : ℕ) (cpus : List Seat) (clock : ClockSeat) (h : List Record) (finds : Finds f cpus clock h) (on : AreOn n (events_of h)) (few : length cpus ≤ 8) where
  at_cpu : (k : ℕ) (d : Seat) → k < length cpus → receipts_at cpus clock k ≡ (slice_index_or cpus k d).receipts
  at_cpu k d small = ap (report_of clock) (slice_get-get_or cpus k d small)

  at_clock : (k : ℕ) → length cpus ≤ k → receipts_at cpus clock k ≡ clock.receipts
  at_clock k past = ap (report_of clock) (slice_get_past cpus k past)

  -- as many receipts as were told are all of them
  whole : (k : ℕ) (report : List Receipt) → k < 9 → receipts_at cpus clock k ≡ report → Begin cpus clock h → length report ≡ slice_index f.passed k → report ≡ report_at k h
  whole k report small is begin long =
      let count : length report ≡ length (report_at k h) = long ∙ finds.passed k small in
      let front : take (length (report_at k h)) report ≡ report_at k h = rw is at (begin k small) in
      sym (take-length report) ∙ ap (λ i. take i report) count ∙ front

  pub seats_are : IsTrue f.fits → length cpus ≡ n → AllPassed cpus f.passed → length clock.receipts ≡ slice_index f.passed 8 → AreSeats n cpus clock h
  seats_are fits count passed last =
      let begin = finds.fits.0 fits in
      record {
        count = count;
        fit = λ k d small.
            let own = passed k d small in
            (own.0, whole k _ (omega (arith, small, few)) (at_cpu k d small) begin own.1 ∙ sym (cpu_reported k (omega (arith, small, few)) h));
        clock_reported = whole 8 clock.receipts (omega arith) (at_clock 8 few) begin last ∙ sym (clock_reported h);
      }

  front_is : (k : ℕ) (report : List Receipt) → receipts_at cpus clock k ≡ report → report ≡ report_at k h → take (length (report_at k h)) (receipts_at cpus clock k) ≡ report_at k h
  front_is k report is same = rw (is, same) (take-length (report_at k h))

  pub seats_begin : AreSeats n cpus clock h → IsTrue f.fits
  seats_begin seats = finds.fits.1 (λ k small. elim (cases_lt k (length cpus)) [
    | inl inside ↦ front_is k _ (at_cpu k no_seat inside) ((seats.fit k no_seat inside).1 ∙ cpu_reported k (omega (arith, inside, few)) h)
    | inr past ↦ elim (cases_lt k 8) [
      | inl below ↦
          let none : report_at k h ≡ [] = none_reported n k 1 h on (omega (arith, past, seats.count)) below in
          rw none refl
      | inr clocks ↦
          let last : k ≡ 8 = omega (arith, small, clocks) in
          rw last (front_is 8 clock.receipts (at_clock 8 few) (seats.clock_reported ∙ clock_reported h))
    ]
  ])

  pub clock_passed : AreSeats n cpus clock h → length clock.receipts ≡ slice_index f.passed 8
  clock_passed seats = ap length (seats.clock_reported ∙ clock_reported h) ∙ sym (finds.passed 8 (omega arith))
