-- The machine with lists plays lines as that with numbers does.
use Rattle.std.proofs.Common.{◌≡◌, ℕ, ◌+◌, ◌≤◌, Bool, true, false, Option, None, Some, List, [], ◌∷◌, Result, Ok, Err, length, slice_get, is_some}
use Rattle.std.proofs.Common.{option_and_then, refl, sym, subst, ◌∙◌}
use Rattle.fmp_codes.specs.Records.{processor_of}
use Rattle.fmp_codes.specs.declared.records.Event.{Event}
use Rattle.fmp_codes.specs.declared.records.Record.{Record}
use Rattle.fmp_names.specs.Names.{AreValid}
use Rattle.fmp_setup.specs.Setup.{Setup}
use Rattle.fmp_setup.specs.Valid.{IsValid}
use Rattle.fmp_rules.specs.Arrivals.{Arrivals, State, numbered}
use Rattle.fmp_rules.specs.Boot.{boot, booted}
use Rattle.fmp_rules.specs.Step.{step}
use Rattle.fmp_rules.specs.World.{World}
use Rattle.fmp_law_safety.specs.Safe.{Safe, IsNumberOf}
use Rattle.fmp_law_safety.proofs.Booted.{booted_safe, count_booted}
use Rattle.fmp_law_safety.proofs.Listed.{numbered_lists}
use Rattle.fmp_law_safety.proofs.Stepping.{numbered_tops, safe_step}
use Rattle.fmp_kernel_order.specs.Queues.{Queues, listed, no_queues}
use Rattle.fmp_law_lists.specs.Stands.{Stands}
use Rattle.fmp_law_lists.proofs.Boots.{boot_stands}
use Rattle.fmp_law_lists.proofs.Steps.{lists_refine}
use Rattle.fmp_search.specs.Runs.{run}
use Rattle.fmp_text.specs.Limits.{most_events}
use Rattle.fmp_text.specs.declared.fault.TextKind.{TextKind}
use Rattle.fmp_trace_partial.specs.Saying.{line_said}
use Rattle.fmp_trace_partial.specs.declared.telling.Said.{Said}
use Rattle.fmp_trace_orders.specs.Matching.{OrdersMatch}
use Rattle.fmp_trace_orders.specs.Playing.{Playing, is_right, kept_if, plays_said, plays_read, plays_line, plays}
use Rattle.fmp_trace_orders.proofs.ReadLines.{said_on, few_before}

module _ (c : Setup) (lines : List (List ℕ)) (valid : IsValid c) (names_valid : AreValid c.names) (few : length lines ≤ most_events) where
  abbrev of : {Q : Type 0} → World Q → Playing Q
  of w = record { config = c; lines = lines; machine = w }

  -- the one machine stands for the other, which is safe and has the processors of the configuration
  record Alike (a : World Queues) (b : State) : Type 0 where
    stands : Stands a b
    safe : Safe numbered b
    count : length b.processors ≡ c.processors

  -- both lead to such machines, or neither leads anywhere
  abbrev Both : Option (Playing Queues) → Option (Playing Arrivals) → Type 0
  Both None None = Unit {0}
  Both (Some k) (Some m) = (a : World Queues) × (b : State) × (k ≡ of a) × (m ≡ of b) × Alike a b
  Both _ _ = ⊥

  kept_both : (right : Bool) (a a' : World Queues) (b b' : State) → Alike a' b' → Both (kept_if right (of a) a') (kept_if right (of b) b')
  kept_both true a a' b b' alike = (a', b', refl, refl, alike)
  kept_both false a a' b b' alike = tt

  said_both : (a : World Queues) (b : State) (n : ℕ) (line : List ℕ) (s : Said) → Alike a b → (processor_of s.entry.event).number ≤ c.processors →
      Both (plays_said listed (of a) n line s) (plays_said numbered (of b) n line s)
  said_both a b n line s alike on =
      let e : Event = s.entry.event in
      let count = alike.count in
      let there : IsNumberOf b.processors (processor_of e).number = ((processor_of e).least, rw count on) in
      let did = lists_refine a b e alike.stands alike.safe there in
      let goes_on = safe_step numbered numbered_tops numbered_lists b e alike.safe there in
      subst (λ (r : Record). Both (kept_if (is_right c.names n s r line) (of a) (step listed a e).0) (plays_said numbered (of b) n line s)) (sym did.same)
      (kept_both (is_right c.names n s (step numbered b e).1 line) a (step listed a e).0 b (step numbered b e).0
      (record { stands = did.stands; safe = goes_on.safe; count = goes_on.count ∙ count }))

  read_both : (a : World Queues) (b : State) (n : ℕ) (line : List ℕ) (read : Result Said TextKind) → Alike a b →
      ((s : Said) → read ≡ Ok s → (processor_of s.entry.event).number ≤ c.processors) →
      Both (plays_read listed (of a) n line read) (plays_read numbered (of b) n line read)
  read_both a b n line (Ok s) alike on = said_both a b n line s alike (on s refl)
  read_both a b n line (Err kind) alike on = tt

  line_both : (a : World Queues) (b : State) (j : ℕ) (line : Option (List ℕ)) → Alike a b → slice_get lines j ≡ line →
      Both (plays_line listed (of a) (j + 1) line) (plays_line numbered (of b) (j + 1) line)
  line_both a b j None alike here = tt
  line_both a b j (Some line) alike here =
      read_both a b (j + 1) line (line_said c.names (j + 1) line) alike
      (λ s read. said_on c (j + 1) line s valid names_valid (few_before lines j line few here) read)

  plays_both : (a : World Queues) (b : State) (j : ℕ) → Alike a b → Both (plays listed (of a) j) (plays numbered (of b) j)
  unfolding plays
  plays_both a b j alike = line_both a b j (slice_get lines j) alike refl

  abbrev RunBoth : List ℕ → Type 0
  RunBoth order = (a : World Queues) (b : State) → Alike a b → Both (run (plays listed) (of a) order) (run (plays numbered) (of b) order)

  next_both : (k : Option (Playing Queues)) (m : Option (Playing Arrivals)) (order : List ℕ) → RunBoth order → Both k m →
      Both (option_and_then (λ x. run (plays listed) x order) k) (option_and_then (λ x. run (plays numbered) x order) m)
  next_both None None order others both = tt
  next_both (Some k) (Some m) order others (a, b, k_is, m_is, alike) = rw (k_is, m_is) (others a b alike)
  next_both None (Some m) order others both = absurd both
  next_both (Some k) None order others both = absurd both

  run_both : (order : List ℕ) → RunBoth order
  run_both [] a b alike = (a, b, refl, refl, alike)
  run_both (j ∷ js) a b alike = next_both (plays listed (of a) j) (plays numbered (of b) j) js (run_both js) (plays_both a b j alike)

  some_both : (k : Option (Playing Queues)) (m : Option (Playing Arrivals)) → Both k m → is_some k ≡ is_some m
  some_both None None both = refl
  some_both (Some k) (Some m) both = refl
  some_both None (Some m) both = absurd both
  some_both (Some k) None both = absurd both

  pub orders_match : OrdersMatch c lines
  orders_match order =
      some_both (run (plays listed) (of (boot listed (no_queues c) c)) order) (run (plays numbered) (of (booted c)) order)
      (run_both order (boot listed (no_queues c) c) (booted c)
      (record { stands = boot_stands c valid.few_tasks; safe = booted_safe c valid; count = count_booted c }))
