-- What is known of a run that the judge let pass.
use Rattle.std.proofs.Common.{◌≡◌, ℕ, ◌<◌, ◌≤◌, ◌↔◌, List, [], ◌∷◌, ◌++◌, length, map, slice_index_or, sym, subst, ◌∙◌, arith, inl, inr, length-append}
use Rattle.std.proofs.Math.Seq.{get_or-append_seam}
use Rattle.std.proofs.Math.ListN.{get_or-append}
use Rattle.std.proofs.lemmas.List.{get_or-map, length-map}
use Rattle.fmp_codes.specs.declared.records.Record.{Record}
use Rattle.fmp_text_scripts.specs.Scripts.{Steps}
use Rattle.fmp_setup.specs.Setup.{Setup}
use Rattle.fmp_world.specs.declared.finishing.Ended.{Ended}
use Rattle.fmp_world.specs.declared.finishing.Ended.TheVariants.{Quiet}
use Rattle.fmp_world.specs.declared.seats.Receipt.{Receipt}
use Rattle.fmp_world.specs.Ends.{AreReceipts, AreSeats, EndsQuiet, IsSmpRun, IsWhole}
use Rattle.fmp_setup.specs.Valid.{IsValid}
use Rattle.fmp_rules.specs.Boot.{booted}
use Rattle.fmp_law_safety.specs.Runs.{IsSafeThroughout}
use Rattle.fmp_law_safety.proofs.Booted.{runs_safe}
use Rattle.fmp_law_lists.specs.Headline.{HeadlineThroughout}
use Rattle.fmp_law_lists.proofs.Along.{headline_throughout}
use Rattle.fmp_smp_histories.specs.Histories.{events_of, IsRunOf}
use Rattle.fmp_smp_histories.specs.Scripted.{Scripted}
use Rattle.fmp_world.proofs.Bits.{events_fit}
use Rattle.fmp_world.specs.Views.{ClockSeat, History, Seat}
use Rattle.fmp_world.proofs.Found.{no_seat}

abbrev report_in : Seat → List Receipt
report_in s = s.receipts

seam : (xs : List (List Receipt)) (x : List Receipt) (n : ℕ) → length xs ≡ n → slice_index_or (xs ++ x ∷ []) n [] ≡ x
seam xs x n is = rw (sym is) (get_or-append_seam xs x [] [])

receipts_are : (n : ℕ) (cpus : List Seat) (clock : ClockSeat) (h : List Record) → AreSeats n cpus clock h → AreReceipts n (map report_in cpus ++ clock.receipts ∷ []) h
receipts_are n cpus clock h seats =
    let len : length (map report_in cpus) ≡ n = simp length-map seats.count in
    record {
      count = omega (arith, length-append (map report_in cpus) (clock.receipts ∷ []));
      cpus = λ k small.
          let inside : k < length cpus = omega (arith, seats.count) in
          get_or-append (map report_in cpus) (clock.receipts ∷ []) [] k (omega arith)
          ∙ get_or-map report_in cpus k no_seat [] inside
          ∙ (seats.fit k no_seat inside).1;
      clock = seam (map report_in cpus) clock.receipts n len ∙ seats.clock_reported;
    }

pub run_of : (w : History) (cpus : List Seat) (clock : ClockSeat) (c : Setup) (s : List Steps) (ticks turns : ℕ) (receipts : List (List Receipt)) (ended : Ended)
    → IsRunOf w.config w.records × Scripted w.config w.scripts w.records × (length w.records ≤ w.turns) → IsValid c
    → IsWhole w cpus clock c s ticks turns → (ended ≡ Quiet) ↔ EndsQuiet w.config ticks w.records → receipts ≡ map report_in cpus ++ clock.receipts ∷ []
    → IsSmpRun c s ticks turns w.records receipts ended
run_of w cpus clock c s ticks turns receipts ended known valid whole quiet report =
    let run : IsRunOf c w.records = rw whole.config at known.0 in
    let safe : IsSafeThroughout (booted c) (events_of w.records) = runs_safe c (events_of w.records) valid run.on in
    let scripted : Scripted c s w.records = rw (whole.config, whole.scripted) at known.1 in
    record {
      run = run;
      safe = safe;
      headline = subst (HeadlineThroughout c (events_of w.records)) (sym run.answers) (headline_throughout c (events_of w.records) valid run.on);
      scripted = scripted;
      in_bits = λ fit. events_fit c s fit w.records scripted;
      report = rw report (receipts_are c.processors cpus clock w.records whole.seats);
      taken_within = whole.taken_within;
      within = rw whole.room at known.2;
      quiet = rw whole.config at quiet;
      limit = λ is. elim whole.ended [
        | inl e ↦ let q = quiet.1 (rw whole.config e) in cc
        | inr full ↦ omega (arith, known.2, whole.room)
      ];
    }
