use Rattle.std.proofs.Common.{◌≡◌, ◌<◌, ◌≤◌, ◌+◌, ◌^◌, ◌++◌, [], ◌∷◌, false, true, Some, refl, sym, ap, subst, ◌∙◌, arith}
use Rattle.fmp_bytes.proofs.Cutting.{shorter}
use Rattle.fmp_codes.specs.declared.records.Record.{Record}
use Rattle.fmp_rules.specs.Boot.{booted}
use Rattle.fmp_bytes.specs.Bytes.{pieces_of}
use Rattle.fmp_rules.specs.Arrivals.{State, numbered}
use Rattle.fmp_rules.specs.Step.{step}
use Rattle.fmp_names.specs.Names.{AreValid, NameLists}
use Rattle.fmp_plain.specs.Run.{Run}
use Rattle.fmp_law_safety.proofs.Counted.{counts_booted}
use Rattle.fmp_text.specs.Limits.{most_events}
use Rattle.fmp_trace.specs.Heads.{event_of}
use Rattle.fmp_trace.proofs.Numbered.{goes_on}
use Rattle.fmp_trace_check.specs.Walking.{following, own_core, prints_answer}
use Rattle.fmp_trace_check.specs.Watching.{watched_from}
use Rattle.fmp_trace_check.proofs.Watched.{watched_after, watched_nowhere}
use Rattle.fmp_trace_check.proofs.OwnLines.{goes_after, stops_here, stops_nowhere, is_own, reads_begin, is_within}
use Rattle.fmp_trace_check.proofs.walking.walk_within.Goals as goal
use Rattle.fmp_trace_check.proofs.walking.walk_within.Goals.{then-not-own-via-then-not-own, then-not-own-via-else-not-own+then-number-gt-MOST_EVENTS}

pub loop-line-init : goal.loop-line-init
loop-line-init g c =
    let state_is : c.in_ok-player.player.plain.state ≡ booted c.args.config.now = ap (λ (m : Run). m.state) c.in_ok-player.ensures.state in
    let steps_are : c.in_ok-player.player.plain.steps ≡ 0 = ap (λ (m : Run). m.steps) c.in_ok-player.ensures.state in
    record {
      read = reads_begin c.args.config.now.names c.args.text.now _ refl;
      stop = rw state_is refl;
      watched = rw state_is refl;
      goes = record { safe = c.in_ok-player.ensures.safe; counts = rw state_is (counts_booted c.args.config.now c.names-names.ensures.valid) };
      steps = omega (arith, steps_are);
      count = omega (arith, c.in_ok-player.ensures.count);
      left = omega arith;
    }

pub loop-line-smaller : goal.loop-line-smaller
loop-line-smaller g c = shorter 10 c.loop-line.rest.now c.in-Some.after.now c.in-Some.ensures.rest

pub returns-then-not-own-clause-stop : goal.returns-then-not-own-clause-stop
returns-then-not-own-clause-stop g c =
    let named = c.names-names.ensures.value in
    let n = c.loop-line.number in
    let w = c.loop-line.player.plain.state in
    let line = c.in-Some.line.now in
    let names = c.args.config.now.names in
    let state_is : c.play-own.new.self.plain.state ≡ following w (event_of names line) = rw named at c.play-own.ensures.state in
    let own_is : c.play-own.new.self.own ≡ own_core names w n (event_of names line) = rw named at c.play-own.ensures.own in
    elim c.then-not-own.branch [
      | then-not-own-via-then-not-own b ↦
          let other : prints_answer c.names-names.result.now w n line (event_of c.names-names.result.now line) ≡ false = sym c.play-own.ensures.same ∙ b.if-not-own.true in
          rw (state_is, own_is) (sym (stops_here names w n c.loop-line.rest.now line c.in-Some.after.now c.in-Some.ensures.line c.in-Some.ensures.rest (rw named at other)) ∙ c.loop-line.invariant.stop)
      | then-not-own-via-else-not-own+then-number-gt-MOST_EVENTS b ↦
          let small : n < 2 ^ 64 = omega (arith, c.loop-line.invariant.left, c.requires) in
          let passes = c.in_ok-validate_from.ensures in
          let few = is_within names (subst AreValid named c.validity.ensures) n small c.loop-line.rest.now line c.in-Some.after.now passes.0 c.in-Some.ensures.line c.in-Some.ensures.rest (rw named at passes.1) in
          absurd (omega (arith, few, b.if-number-gt-MOST_EVENTS.true))
    ]

pub returns-then-not-own-clause-left : goal.returns-then-not-own-clause-left
returns-then-not-own-clause-left g c = omega (arith, c.requires, c.loop-line.invariant.left, shorter 10 c.loop-line.rest.now c.in-Some.after.now c.in-Some.ensures.rest)

pub loop-line-preserved : goal.loop-line-preserved
loop-line-preserved g c =
    let named = c.names-names.ensures.value in
    let n = c.loop-line.number in
    let w = c.loop-line.player.plain.state in
    let line = c.in-Some.line.now in
    let names = c.args.config.now.names in
    let so_far = c.loop-line.invariant.read in
    let state_is : c.play-own.new.self.plain.state ≡ following w (event_of names line) = rw named at c.play-own.ensures.state in
    let test : prints_answer c.names-names.result.now w n line (event_of c.names-names.result.now line) ≡ true = sym c.play-own.ensures.same ∙ c.if-not-own.false in
    let event = c.play-own.new.self.report.event in
    let after = c.in-Some.after.now in
    let report : event_of names line ≡ Some event = rw named at (c.play-own.ensures.report c.if-not-own.false) in
    let state_too : c.play-own.new.self.plain.state ≡ (step numbered w event).0 = state_is ∙ ap (following w) report in
    let said = c.play-own.new.self.report in
    let answer : said ≡ (step numbered w event).1 = c.play-own.ensures.answer c.if-not-own.false in
    let saw : c.watch.new.self ≡ g.W.Watcher.watched c.loop-line.watcher names n (step numbered w event).1 (step numbered w event).0 =
    c.in_ok-watch.ensures
    ∙ ap (λ (lists : NameLists). g.W.Watcher.watched c.loop-line.watcher lists n said c.machine.result.now) named
    ∙ ap (g.W.Watcher.watched c.loop-line.watcher names n said) (c.machine.ensures ∙ state_too)
    ∙ ap (λ (r : Record). g.W.Watcher.watched c.loop-line.watcher names n r (step numbered w event).0) answer in
    let few : n ≤ most_events = c.if-number-gt-MOST_EVENTS.false in
    let own = is_own c.args.config.now c.names-names.ensures.valid (subst AreValid named c.validity.ensures) w n few c.loop-line.invariant.goes line (rw named at test) in
    record {
      read = (so_far.0 ++ own.1.0 ∷ [], goes_on names _ so_far.0 n c.loop-line.rest.now so_far.1 line c.in-Some.after.now own.1.0 c.in-Some.ensures.line c.in-Some.ensures.rest own.1.1);
      watched = ap (λ (x : State). watched_from g.W.Watcher.watched names x (n + 1) (pieces_of 10 after) c.watch.new.self) state_too
          ∙ ap (watched_from g.W.Watcher.watched names (step numbered w event).0 (n + 1) (pieces_of 10 after)) saw
          ∙ sym (watched_after g.W.Watcher.watched names w n c.loop-line.rest.now line after event c.loop-line.watcher c.in-Some.ensures.line c.in-Some.ensures.rest report)
          ∙ c.loop-line.invariant.watched;
      stop = rw state_is (sym (goes_after names w n c.loop-line.rest.now line c.in-Some.after.now c.in-Some.ensures.line c.in-Some.ensures.rest (rw named at test)) ∙ c.loop-line.invariant.stop);
      goes = rw state_is own.0;
      steps = omega (arith, c.loop-line.invariant.steps, c.play-own.ensures.steps);
      count = omega (arith, c.play-own.ensures.count);
      left = omega (arith, c.loop-line.invariant.left, shorter 10 c.loop-line.rest.now c.in-Some.after.now c.in-Some.ensures.rest);
    }

pub returns-clause-stop : goal.returns-clause-stop
returns-clause-stop g c = sym (stops_nowhere c.args.config.now.names c.loop-line.player.plain.state c.loop-line.number c.loop-line.rest.now c.in_default.ensures.none) ∙ c.loop-line.invariant.stop

pub returns-clause-watched : goal.returns-clause-watched
returns-clause-watched g c = λ none.
    sym (watched_nowhere g.W.Watcher.watched c.args.config.now.names c.loop-line.player.plain.state c.loop-line.number c.loop-line.rest.now c.loop-line.watcher c.in_default.ensures.none) ∙ c.loop-line.invariant.watched
