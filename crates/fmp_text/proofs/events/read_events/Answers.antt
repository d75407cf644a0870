use Rattle.std.proofs.Common.{◌≡◌, ◌∙◌, ◌+◌, ◌-◌, ℕ, ◌<◌, ◌≤◌, List, None, Some, [], inl, arith, ap, sym, refl, take, drop, length, vec_len, true, false}
use Rattle.std.proofs.lemmas.Grind.{common_steps}
use Rattle.std.proofs.lemmas.Bool.{le-ltb, lt-ltb}
use Rattle.std.proofs.lemmas.List.{append-nil}
use Rattle.fmp_bytes.proofs.Cutting.{take-to_end}
use Rattle.fmp_text.specs.Limits.{most_bytes, most_events}
use Rattle.fmp_names.specs.Names.{NameLists}
use Rattle.fmp_text.specs.Lines.{is_skipped}
use Rattle.fmp_text.specs.Events.{Reading, at_end, reading_of, reading_from, with_events}
use Rattle.fmp_text.proofs.Limited.{reading_on, reading_in_bits}
use Rattle.fmp_text.proofs.Scanned.{IsScanned, said_as, scan_event, scan_past, scan_fault, scan_last}
use Rattle.fmp_text.proofs.events.read_events.Goals as goal
use Rattle.fmp_text.proofs.events.read_events.Goals.{After-first_said-next, After-is_skipped}

-- the next scan of the text
scan : (c : After-first_said-next) → IsScanned c.args.names.now (reading_from c.args.names.now false 0 0 [] c.args.text.now) c.loop-found.events.items false (vec_len c.loop-found.events) c.loop-found.lines c.loop-found.used c.args.text.now (take (length c.args.text.now - c.loop-found.used) (drop c.loop-found.used c.args.text.now)) c.first_said-next.result
scan c = record { is = c.loop-found.invariant.reading; is_tail = take-to_end c.args.text.now c.loop-found.used; scans = c.first_said-next.ensures.gives }

judged : (names : NameLists) (text : List ℕ) → length text ≤ most_bytes → reading_of names text ≡ reading_from names false 0 0 [] text
unfolding reading_of
judged names text fits = rw (le-ltb most_bytes (length text) fits) refl

pub returns-then-text-gt-MOST_BYTES-clause-err : goal.returns-then-text-gt-MOST_BYTES-clause-err
unfolding reading_of
returns-then-text-gt-MOST_BYTES-clause-err c = inl (rw (lt-ltb _ _ c.if-text-gt-MOST_BYTES.true) refl)

pub returns-in-Err-clause-err : goal.returns-in-Err-clause-err
returns-in-Err-clause-err c =
    inl (ap (λ (r : Reading). r.fault) (judged c.args.names.now c.args.text.now (omega arith) ∙ scan_fault _ _ _ _ _ _ _ _ _ _ c.in-Err.kind (scan (goal.at.returns-in-Err-clause-err c).After-first_said-next) c.in-Err.is))

pub returns-then-len-eq-MOST_EVENTS-clause-err : goal.returns-then-len-eq-MOST_EVENTS-clause-err
returns-then-len-eq-MOST_EVENTS-clause-err c =
    let said = said_as _ _ (Some c.in-Some.event) c.in-Ok.is c.in-Some.is in
    let full : most_events ≤ vec_len c.loop-found.events = grind (arith, common_steps) in
    inl (ap (λ (r : Reading). r.fault) (judged c.args.names.now c.args.text.now (omega arith)
    ∙ scan_past _ _ _ _ _ _ _ _ _ _ c.in-Some.event (scan (goal.at.returns-then-len-eq-MOST_EVENTS-clause-err c).After-first_said-next) said full))

pub loop-found-preserved : goal.loop-found-preserved
loop-found-preserved c =
    let said = said_as _ _ (Some c.in-Some.event) c.in-Ok.is c.in-Some.is in
    let room : vec_len c.loop-found.events < most_events = grind (arith, common_steps, c.loop-found.invariant.few) in
    let next = scan_event _ _ _ _ _ _ _ _ _ _ c.in-Some.event (scan (goal.at.loop-found-preserved c).After-first_said-next) said room in
    record {
      within = grind (arith, common_steps);
      lines = grind (arith, common_steps);
      few = grind (arith, common_steps);
      counted = grind (arith, common_steps);
      room = grind (arith, common_steps);
      reading = grind (arith, common_steps, next);
    }

last : (c : After-is_skipped) → IsScanned c.args.names.now (reading_from c.args.names.now false 0 0 [] c.args.text.now) c.loop-found.events.items false (vec_len c.loop-found.events) c.loop-found.lines c.loop-found.used c.args.text.now (take (length c.args.text.now - c.loop-found.used) (drop c.loop-found.used c.args.text.now)) c.first_said-next.result
    → reading_of c.args.names.now c.args.text.now ≡ with_events c.loop-found.events.items (at_end false (c.first_said-next.result.lines + 1) (drop (c.loop-found.used + c.first_said-next.result.used) c.args.text.now))
last c from =
    let said = said_as _ _ None c.in-Ok.is c.in_default.is in
    judged c.args.names.now c.args.text.now (omega arith) ∙ scan_last _ _ _ _ _ _ _ _ _ _ from said (c.first_said-next.ensures.whole said)

skipped : (c : After-is_skipped) → c.is_skipped.result ≡ is_skipped (drop (c.loop-found.used + c.first_said-next.result.used) c.args.text.now)
skipped c = c.is_skipped.ensures ∙ ap is_skipped (take-to_end c.args.text.now (c.loop-found.used + c.first_said-next.result.used))

pub returns-then-is_skipped-clause-ok : goal.returns-then-is_skipped-clause-ok
returns-then-is_skipped-clause-ok c =
    let p = (goal.at.returns-then-is_skipped-clause-ok c).After-is_skipped in
    let test : is_skipped (drop (c.loop-found.used + c.first_said-next.result.used) c.args.text.now) ≡ true = sym (skipped p) ∙ c.if-is_skipped.true in
    rw (test, append-nil) at (last p (scan (goal.at.returns-then-is_skipped-clause-ok c).After-first_said-next))

pub returns-else-is_skipped-clause-err : goal.returns-else-is_skipped-clause-err
returns-else-is_skipped-clause-err c =
    let p = (goal.at.returns-else-is_skipped-clause-err c).After-is_skipped in
    let test : is_skipped (drop (c.loop-found.used + c.first_said-next.result.used) c.args.text.now) ≡ false = sym (skipped p) ∙ c.if-is_skipped.false in
    inl (ap (λ (r : Reading). r.fault) (rw test at (last p (scan (goal.at.returns-else-is_skipped-clause-err c).After-first_said-next))))

pub returns-then-is_skipped-clause-on : goal.returns-then-is_skipped-clause-on
returns-then-is_skipped-clause-on c = reading_on c.args.names.now c.args.text.now c.loop-found.events.items (returns-then-is_skipped-clause-ok c)

pub returns-then-is_skipped-clause-in_bits : goal.returns-then-is_skipped-clause-in_bits
returns-then-is_skipped-clause-in_bits c = reading_in_bits c.args.names.now c.args.text.now c.loop-found.events.items c.validity.ensures (returns-then-is_skipped-clause-ok c)
