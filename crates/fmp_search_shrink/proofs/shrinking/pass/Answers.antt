use Rattle.std.proofs.Common.{◌≡◌, ◌∙◌, ◌+◌, ◌-◌, ◌<◌, ◌≤◌, List, length, ap, sym, subst, inl, inr, arith}
use Rattle.std.specs.Prelude.{min}
use Rattle.std.proofs.Math.Nat.{min-eq_left, min-le_right}
use Rattle.std.proofs.lemmas.Bool.{false≢true}
use Rattle.fmp_codes.specs.Records.{AreOn}
use Rattle.fmp_codes.specs.declared.records.Event.{Event}
use Rattle.fmp_search_shrink.specs.Runners.{IsPartOf}
use Rattle.fmp_search_shrink.proofs.Parts.{part_of_itself, part_of_part}
use Rattle.fmp_search_shrink.specs.Shrinking.{AnswersShow, KeepsTo, without}
use Rattle.fmp_search_shrink.proofs.Without.{before_or_here, without_is_part, without_is_long, without_is_on, without_is_shorter}
use Rattle.fmp_search_shrink.proofs.shrinking.pass.Goals as goal

pub loop-at-init : goal.loop-at-init
loop-at-init c = record {
  left = (part_of_itself c.args.events.items, c.requires.shows, c.requires.keeps);
  on = c.requires.on;
  most = omega arith;
  fewer = λ is. cc;
  none = λ one same i small. absurd (omega (arith, small));
  within = omega arith;
}

pub do_without-requires-clause-on : goal.do_without-requires-clause-on
do_without-requires-clause-on c =
    let left = c.loop-at.left.items in
    let at = c.loop-at.at in
    let end = at + c.min.result in
    let rest : c.in_ok-rest.rest.items ≡ without left at end = c.in_ok-rest.ensures ∙ ap (λ (l : List Event). without l at end) c.as_slice.ensures.value in
    subst (AreOn c.args.config.now.processors) (sym (c.as_slice-in-loop-at.ensures.value ∙ rest)) (without_is_on c.args.config.now.processors left at end c.loop-at.invariant.on)

pub loop-at-preserved-then-branch : goal.loop-at-preserved-then-branch
loop-at-preserved-then-branch c =
    let left = c.loop-at.left.items in
    let at = c.loop-at.at in
    let end = at + c.min.result in
    let so_far = c.loop-at.invariant in
    let here = c.loop-at-test.true in
    let len = c.len.ensures in
    let len_again = c.len-in-loop-at.ensures in
    let least = c.min.ensures in
    let some = c.requires.size in
    let most = min-le_right c.args.size (c.len-in-loop-at.result - at) in
    let rest : c.in_ok-rest.rest.items ≡ without left at end = c.in_ok-rest.ensures ∙ ap (λ (l : List Event). without l at end) c.as_slice.ensures.value in
    let goes : at < end = omega (arith, here, len, len_again, least, some) in
    let within : end ≤ length left = omega (arith, here, len, len_again, least, most) in
    let shorter = without_is_shorter left at end goes within in
    let long = without_is_long left at end (omega (arith, here, len)) in
    let most_before = so_far.most in
    let done = c.in_ok-do_without.ensures.0 c.if-branch.true in
    record {
      left = (
        subst (λ (l : List Event). IsPartOf l c.args.events.items) (sym rest) (part_of_part (without left at end) left c.args.events.items (without_is_part left at end (omega (arith, goes))) so_far.left.0),
        subst (λ (l : List Event). AnswersShow c.args.config.now c.args.question.now l) c.as_slice-in-loop-at.ensures.value done.0,
        subst (λ (l : List Event). KeepsTo c.args.config.now c.args.keeping.now l) c.as_slice-in-loop-at.ensures.value done.1,
      );
      on = subst (AreOn c.args.config.now.processors) (sym rest) (without_is_on c.args.config.now.processors left at end so_far.on);
      most = rw rest (omega (arith, shorter, most_before));
      fewer = λ is. rw rest (omega (arith, shorter, most_before));
      none = λ one same. cc;
      within = rw rest long;
    }

pub loop-at-preserved : goal.loop-at-preserved
loop-at-preserved c =
    let left = c.loop-at.left.items in
    let at = c.loop-at.at in
    let end = at + c.min.result in
    let so_far = c.loop-at.invariant in
    let here = c.loop-at-test.true in
    let len = c.len.ensures in
    let len_again = c.len-in-loop-at.ensures in
    let least = c.min.ensures in
    let most = min-le_right c.args.size (c.len-in-loop-at.result - at) in
    let rest : c.in_ok-rest.rest.items ≡ without left at end = c.in_ok-rest.ensures ∙ ap (λ (l : List Event). without l at end) c.as_slice.ensures.value in
    record {
      left = so_far.left;
      on = so_far.on;
      most = so_far.most;
      fewer = so_far.fewer;
      none = λ one same i small shown kept.
          let single : min c.args.size (c.len-in-loop-at.result - at) ≡ c.args.size = min-eq_left {n = c.args.size} {m = c.len-in-loop-at.result - at} (omega (arith, one, here, len, len_again)) in
          let next : end ≡ at + 1 = omega (arith, least, single, one) in
          elim (before_or_here i at (omega (arith, small, next))) [
            | inl before ↦ so_far.none one same i before shown kept
            | inr is ↦
                let shown_there : AnswersShow c.args.config.now c.args.question.now (without left at end) = rw next (rw (← is) shown) in
                let kept_there : KeepsTo c.args.config.now c.args.keeping.now (without left at end) = rw next (rw (← is) kept) in
                let same_list = sym (c.as_slice-in-loop-at.ensures.value ∙ rest) in
                let yes = c.in_ok-do_without.ensures.1 (
                  subst (λ (l : List Event). AnswersShow c.args.config.now c.args.question.now l) same_list shown_there,
                  subst (λ (l : List Event). KeepsTo c.args.config.now c.args.keeping.now l) same_list kept_there,
                ) in
                let no = c.if-branch.false in
                false≢true (sym no ∙ yes)
          ];
      within = omega (arith, here, len, len_again, least, most);
    }

pub returns-clause-none : goal.returns-clause-none
returns-clause-none c = λ one same i small. c.loop-at.invariant.none one same i (let past = c.loop-at-test.false in let len = c.len.ensures in omega (arith, small, past, len))
