-- What an event leads to.
use Rattle.std.proofs.Common.{◌≡◌, ◌≤◌, ℕ, ◌+◌, Bool, true, false, cond, ◌&&◌, not, Option, Some, None, Result, Ok, Err, [], ◌∷◌, ap, sym, subst, ◌∙◌, refl, arith}
use Rattle.std.specs.Prelude.{is_some, IfOk}
use Rattle.fmp_codes.specs.declared.records.Event.{Event}
use Rattle.fmp_codes.specs.declared.numbers.Proc.{Proc}
use Rattle.fmp_codes.specs.declared.records.Event.TheVariants as event
use Rattle.fmp_codes.specs.declared.records.Record.{Record}
use Rattle.fmp_codes.specs.declared.records.Runner.{Runner}
use Rattle.fmp_rules.specs.World.{World}
use Rattle.fmp_rules.specs.Step.{step}
use Rattle.fmp_kernel_order.specs.Queues.{Queues, listed}
use Rattle.fmp_smp_histories.specs.Scripted.{asked_at}
use Rattle.fmp_search.specs.declared.space.Noted.{Noted}
use Rattle.fmp_search.specs.Runs.{Goes, Watches}
use Rattle.fmp_search_pattern.specs.Questions.{allows}
use Rattle.fmp_search_pattern.specs.Sights.{Sight}
use Rattle.fmp_search_kernel.specs.Walked.{Walked}
use Rattle.fmp_search_orders.specs.Places.{Place, event_of, is_marked, next_place, went, sight_at, after, report_of, report, call_of, is_asked_at, position_at}

-- what the kernel did of an event leads where the definitions say
pub went_is : (w w' : Place) (mark : Bool) (e : Event) (k : World Queues) (r : Record) → (k, r) ≡ step listed w.machine e → w' ≡ went w mark (k, r) →
    w' ≡ went w mark (step listed w.machine e)
went_is w w' mark e k r did same = same ∙ ap (went w mark) did

pub counted_le : (mark : Bool) (n k : ℕ) → k ≡ cond mark (n + 1) n → k ≤ n + 1
counted_le true n k e = omega (arith, e)
counted_le false n k e = omega (arith, e)

-- a place to which one may go
chosen : (may made : Bool) (q w : Place) → made ≡ may → w ≡ q → Goes (cond may (Some q) None) made w
chosen true made q w e f = (e, f)
chosen false made q w e f = e

kept : (may : Bool) (q w : Place) → is_some (cond may (Some q) None) ≡ true → w ≡ q → cond may (Some q) None ≡ Some w
kept true q w some e = ap Some (sym e)
kept false q w some e = cc

module _ (w w' : Place) (s : ℕ) (e : Event) (is : event_of w s ≡ Some e) (there : w' ≡ went w (is_marked s) (step listed w.machine e)) where
  abbrev may : Place → Bool
  may x = allows x.question w.seen (is_marked s) (sight_at x (step listed w.machine e).1)

  -- a step goes where its event leads, where that may be marked so
  pub goes_to : (made : Bool) → made ≡ may w' → Goes (after w s) made w'
  unfolding after
  goes_to made may_is = rw is (chosen (may (went w (is_marked s) (step listed w.machine e))) made _ w' (may_is ∙ ap may there) there)

pub not_gone : (w w' : Place) (s : ℕ) → event_of w s ≡ None → Goes (after w s) false w'
unfolding after
not_gone w w' s is = rw is refl

-- what is told of a step by whether it was made
pub watches_gone : (o : Option Place) (is : Noted) (made : Bool) (w : Place) → Goes o made w → made ≡ false → Watches o is None w
watches_gone None is made w goes not = refl
watches_gone (Some x) is made w goes not = cc

pub watches_made : (o : Option Place) (is told : Noted) (made : Bool) (w : Place) → Goes o made w → made ≡ true → told ≡ is → Watches o is (Some told) w
watches_made None is told made w goes so same = cc
watches_made (Some x) is told made w goes so same = (ap Some same, goes.1)

pub not_watched : (w w' : Place) (s : ℕ) (is : Noted) → event_of w s ≡ None → Watches (after w s) is None w'
unfolding after
not_watched w w' s is none = rw none refl

-- where no event may be marked so, no step leads anywhere that marks its event so
pub none_goes : (w : Place) (s : ℕ) → ((sight : Sight) → allows w.question w.seen (is_marked s) sight ≡ false) → after w s ≡ None
unfolding after
none_goes w s never = by (event_of w s)
  where
    by : (o : Option Event) → next_place w (is_marked s) o ≡ None
    by None = refl
    by (Some e) = rw (never (sight_at (went w (is_marked s) (step listed w.machine e)) (step listed w.machine e).1)) refl

-- a call comes next where who runs is not to wait for an interrupt
pub call_some : (w : Place) (p : Proc) (o : Option Runner) → is_some (call_of w p o) ≡ (is_some o && not (w.rules.prompt && is_asked_at w p))
call_some w p None = refl
call_some w p (Some r) = by (w.rules.prompt && is_asked_at w p)
  where
    by : (b : Bool) → is_some (cond b None (Some (event.Call p (asked_at w.config w.scripts r (position_at w p r))))) ≡ not b
    by true = refl
    by false = refl

pub report_is : (w : Place) (s : ℕ) (e : Event) (r : Record) → event_of w s ≡ Some e → r ≡ (step listed w.machine e).1 → report w s ≡ r ∷ []
unfolding report
report_is w s e r is same = ap (report_of w) is ∙ ap (λ (x : Record). x ∷ []) (sym same)

-- what one who went to a place by an event, and was then told whether it may be marked so, knows of the step
pub goes_where :
    {E : Type 0} (w : Place) (v v' : Walked) (s : ℕ) (e : Event) (seen : ℕ) (mark : Bool) (o : Result Bool E) → event_of w s ≡ Some e → seen ≡ w.seen →
    mark ≡ is_marked s → v.place ≡ went w mark (step listed w.machine e) → v.made ≡ (step listed w.machine e).1 → v' ≡ v →
    IfOk o (λ r. r ≡ allows v.place.question seen mark (sight_at v.place v.made)) → IfOk o (λ made. Goes (after w s) made v'.place)
goes_where w v v' s e seen mark (Err x) is seen_is mark_is there report same may = tt
goes_where w v v' s e seen mark (Ok made) is seen_is mark_is there report same may =
    let r = (step listed w.machine e).1 in
    let there' = subst (λ (b : Bool). v.place ≡ went w b (step listed w.machine e)) mark_is there in
    let by_seen = subst (λ (n : ℕ). made ≡ allows v.place.question n mark (sight_at v.place v.made)) seen_is may in
    let by_mark = subst (λ (b : Bool). made ≡ allows v.place.question w.seen b (sight_at v.place v.made)) mark_is by_seen in
    let by_reported = subst (λ (x : Record). made ≡ allows v.place.question w.seen (is_marked s) (sight_at v.place x)) report by_mark in
    subst (λ (x : Walked). Goes (after w s) made x.place) (sym same) (goes_to w v.place s e is there' made by_reported)
