use Rattle.std.proofs.Common.{◌≡◌, ◌<◌, ◌≤◌, ◌+◌, ◌-◌, ◌/◌, ◌∙◌, List, length, suc, take, ap, arith, subst, sym}
use Rattle.fmp_search_pattern.specs.declared.question.Step.{Step}
use Rattle.fmp_search_orders.specs.Shown.{NoneShows}
use Rattle.fmp_run_explore.specs.Came.{SomeShows}
use Rattle.fmp_run_explore.specs.Explored.{Finds}
use Rattle.fmp_run_explore.proofs.Come.{begun, is_unknown, none_shown, some_shown}
use Rattle.fmp_run_explore.proofs.searched.Searched.came.Goals as goal
use Rattle.fmp_run_explore.proofs.searched.Searched.came.Goals.{in-Shown, in-Never}

pub loop-beyond-init : goal.loop-beyond-init
loop-beyond-init g c =
    let self = c.args.self.now in
    let all = ap (λ (q : List Step). length q) (c.steps-beyond.ensures ∙ c.question-question.ensures) in
    begun self.config self.scripts self.rules self.question (length c.steps-beyond.result.now) all c.requires.none

pub loop-beyond-preserved : goal.loop-beyond-preserved
loop-beyond-preserved g c =
    let self = c.args.self.now in
    let Comes : List Step → Type 0 = SomeShows self.config self.scripts self.rules in
    let Fails : List Step → Type 0 = NoneShows self.config self.scripts self.rules in
    let come = c.loop-beyond.come in
    let beyond = c.loop-beyond.beyond in
    let kept = c.loop-beyond.invariant in
    let apart = kept.apart in
    let within = kept.within in
    let far = c.loop-beyond-test.true in
    let middle = come + (beyond - come) / 2 in
    let asked : c.in_ok-first.first ≡ take middle self.question = c.in_ok-first.ensures ∙ ap (take middle) c.question-question.ensures in
    let report = c.in_ok-found.ensures.finds in
    let room = c.args.bounds.places.count - 1 in
    elim c.match-found.branch [
      | in-Shown w ↦
          let some = some_shown self.config self.scripts self.rules c.in_ok-first.first c.args.bounds.turns.count room report.0 c.in_ok-found.found report.1 w.in-Shown.is in
          record {
            come = subst (λ n. Comes (take n self.question)) (sym w.come-is) (subst Comes asked some);
            none = subst (λ n. Fails (take n self.question)) (sym w.beyond-is) kept.none;
            apart = subst (λ n. c.match-found.come < n) (sym w.beyond-is) (subst (λ n. n < beyond) (sym w.come-is) (omega (arith, far, apart)));
            within = subst (λ n. n ≤ length self.question) (sym w.beyond-is) within;
          }
      | in-Never w ↦
          let none = none_shown self.config self.scripts self.rules c.in_ok-first.first c.args.bounds.turns.count room report.0 c.in_ok-found.found report.1 w.in-Never.is in
          record {
            come = subst (λ n. Comes (take n self.question)) (sym w.come-is) kept.come;
            none = subst (λ n. Fails (take n self.question)) (sym w.beyond-is) (subst Fails asked none);
            apart = subst (λ n. c.match-found.come < n) (sym w.beyond-is) (subst (λ n. n < middle) (sym w.come-is) (omega (arith, far, apart)));
            within = subst (λ n. n ≤ length self.question) (sym w.beyond-is) (omega (arith, far, apart, within));
          }
    ]

pub returns : goal.returns
returns g c =
    let self = c.args.self.now in
    let kept = c.loop-beyond.invariant in
    let apart = kept.apart in
    let near = c.loop-beyond-test.false in
    let next : c.loop-beyond.beyond ≡ suc c.loop-beyond.come = omega (arith, apart, near) in
    record {
      come = kept.come;
      last = subst (λ n. NoneShows self.config self.scripts self.rules (take n self.question)) next kept.none;
    }

pub returns-in-NotWithin : goal.returns-in-NotWithin
returns-in-NotWithin g c =
    let self = c.args.self.now in
    let come = c.loop-beyond.come in
    let beyond = c.loop-beyond.beyond in
    let kept = c.loop-beyond.invariant in
    let apart = kept.apart in
    let within = kept.within in
    let far = c.loop-beyond-test.true in
    let middle = come + (beyond - come) / 2 in
    let asked : c.in_ok-first.first ≡ take middle self.question = c.in_ok-first.ensures ∙ ap (take middle) c.question-question.ensures in
    let report = c.in_ok-found.ensures.finds in
    let found = c.in_ok-found.found in
    record {
      steps = middle;
      found = found;
      text = report.0;
      fewer = omega (arith, far, apart, within);
      finds = subst (λ q. Finds self.config self.scripts self.rules q c.args.bounds.turns.count (c.args.bounds.places.count - 1) report.0 found) asked report.1;
      ended = c.in_ok-found.ensures.ended;
      unknown = is_unknown found c.in-NotWithin.is;
    }
