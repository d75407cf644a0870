-- How far an order was followed, and where it ends.
use Rattle.std.proofs.Common.{◌≡◌, ◌∙◌, ℕ, zero, suc, ◌+◌, ◌-◌, ◌≤◌, ◌==◌, Bool, List, [], ◌∷◌, ◌++◌, length, length-append, append_assoc, Option, Some, None, refl, ap, sym, subst, arith}
use Rattle.std.specs.Prelude.{IfNone, IfSome}
use Rattle.std.specs.Option.{option_and_then, option_map_or}
use Rattle.std.proofs.lemmas.List.{append-nil}
use Rattle.fmp_codes.specs.declared.records.Event.{Event}
use Rattle.fmp_codes.specs.declared.records.Record.{Record}
use Rattle.fmp_text_scripts.specs.Scripts.{Steps}
use Rattle.fmp_setup.specs.Setup.{Setup}
use Rattle.fmp_setup.specs.Valid.{IsValid}
use Rattle.fmp_rules.specs.Step.{step}
use Rattle.fmp_kernel_order.specs.Queues.{listed}
use Rattle.fmp_smp_histories.specs.Histories.{events_of}
use Rattle.fmp_smp_histories.proofs.Histories.{events_more}
use Rattle.fmp_search_orders.specs.declared.rules.Rules.{Rules}
use Rattle.fmp_search_orders.specs.Places.{Place, event_of, origin}
use Rattle.fmp_search_orders.specs.Laws.{LeadsTo}
use Rattle.fmp_search_orders.proofs.Begun.{on_start, on_event, on_more}
use Rattle.fmp_search_kernel.specs.Walked.{Walked}
use Rattle.fmp_search_random.specs.declared.drawing.Drawing.{Drawing}
use Rattle.fmp_search_random.specs.declared.drawing.Draws.{Draws}
use Rattle.fmp_search_random.specs.Drawn.{GoesOn, IsDrawn, after_step, choices, first, gone, next_event, next_step, rules_of, walk}

-- an event that is drawn is one of a step
step_of : (f : ℕ → Option Event) (o : Option ℕ) (e : Event) → option_and_then f o ≡ Some e → (k : ℕ) × (f k ≡ Some e)
step_of f None e is = cc
step_of f (Some k) e is = (k, is)

-- no event is drawn, or none may be
pub nobody_goes : (n : ℕ) (d : Draws) (w : Place) → next_event d w ≡ None → walk n d w ≡ ([], w)
unfolding walk
nobody_goes zero d w none = refl
nobody_goes (suc n) d w none =
    ap (λ (o : Option Event). option_map_or (λ e. let rest = walk n (after_step d w) (gone w e) in (e ∷ rest.0, rest.1)) o ([], w)) none

-- as many were as may be
pub none_left : (n : ℕ) (d : Draws) (w : Place) → n ≡ 0 → walk n d w ≡ ([], w)
unfolding walk
none_left n d w none = ap (λ (k : ℕ). walk k d w) none

-- one is drawn
one_goes : (n : ℕ) (d : Draws) (w : Place) (e : Event) → next_event d w ≡ Some e
    → walk (suc n) d w ≡ (e ∷ (walk n (after_step d w) (gone w e)).0, (walk n (after_step d w) (gone w e)).1)
unfolding walk
one_goes n d w e is =
    ap (λ (o : Option Event). option_map_or (λ e. let rest = walk n (after_step d w) (gone w e) in (e ∷ rest.0, rest.1)) o ([], w)) is

-- a walker that follows a step which was drawn
pub follows : (v v' : Walked) (d d' : Draws) (left k : ℕ) (o : Option Event) → 1 ≤ left → next_step d v.place ≡ Some k → d' ≡ after_step d v.place
    → o ≡ event_of v.place k → IfSome o (λ e. v'.place ≡ gone v.place e) → IfNone o (v' ≡ v) → GoesOn v.place d left o v'.place d'
follows v v' d d' left k None least drawn moved is there same =
    (nobody_goes left d v.place (ap (option_and_then (event_of v.place)) drawn ∙ sym is), ap (λ (x : Walked). x.place) same)
follows v v' d d' left k (Some e) least drawn moved is there same =
    (least, ap (option_and_then (event_of v.place)) drawn ∙ sym is, there, moved)

-- what was drawn before, and what is drawn from there on
abbrev joined : List Event → List Event × Place → List Event × Place
joined events rest = (events ++ rest.0, rest.1)

-- these events were drawn, so many more may be, and the place is where they led
pub record IsSoFar (drawing : Drawing) (seed : ℕ) (c : Setup) (scripts : List Steps) (ticks turns : ℕ) (events : List Event) (left : ℕ) (d : Draws) (w : Place) : Type 0 where
  pub records : List Record
  pub marks : List Bool
  pub leads : LeadsTo c scripts (rules_of drawing ticks) [] w records marks
  pub events_are : events ≡ events_of records
  pub count : length events + left ≡ turns
  pub walked : walk turns (first drawing.stalls seed) (origin c scripts (rules_of drawing ticks) []) ≡ (events ++ (walk left d w).0, (walk left d w).1)

module _ (drawing : Drawing) (seed : ℕ) (c : Setup) (scripts : List Steps) (ticks turns : ℕ) (valid : IsValid c) where
  abbrev rules : Rules
  rules = rules_of drawing ticks

  abbrev begin : Place
  begin = origin c scripts rules []

  pub so_begun : (events : List Event) (d : Draws) (w : Place) → events ≡ [] → d ≡ first drawing.stalls seed → w ≡ begin
      → IsSoFar drawing seed c scripts ticks turns events turns d w
  so_begun events d w none same is =
      let start = on_start c scripts rules valid in
      rw (none, same, is) (record { records = []; marks = start.0; leads = start.1; events_are = refl; count = omega arith; walked = refl })

  module _ (events : List Event) (left : ℕ) (d : Draws) (w : Place) (far : IsSoFar drawing seed c scripts ticks turns events left d w) where
    -- one event more
    pub so_more : (e : Event) (w' : Place) (d' : Draws) (more : List Event) (rest : ℕ) → GoesOn w d left (Some e) w' d' → more ≡ events ++ e ∷ [] → rest ≡ left - 1
        → IsSoFar drawing seed c scripts ticks turns more rest d' w'
    so_more e w' d' more rest goes are is =
        let there : (marks : List Bool) × LeadsTo c scripts rules [] w far.records marks = (far.marks, far.leads) in
        let drawn = step_of (event_of w) (next_step d w) e goes.1 in
        let report : Record = (step listed w.machine e).1 in
        let on = on_more c scripts rules valid w far.records there drawn.0 e drawn.1 in
        let event : report.event ≡ e = on_event c scripts rules valid w far.records there drawn.0 e drawn.1 in
        let least = goes.0 in
        let one : left ≡ suc rest = omega (arith, least, is) in
        let count = far.count in
        let following : List Event × Place = walk rest d' w' in
        let next : walk left d w ≡ (e ∷ following.0, following.1) =
        ap (λ (n : ℕ). walk n d w) one ∙ one_goes rest d w e goes.1 ∙ ap (λ (x : Draws). (e ∷ (walk rest x (gone w e)).0, (walk rest x (gone w e)).1)) (sym goes.3)
        ∙ ap (λ (x : Place). (e ∷ (walk rest d' x).0, (walk rest d' x).1)) (sym goes.2) in
        let together : events ++ e ∷ following.0 ≡ more ++ following.0 = sym (append_assoc events (e ∷ []) following.0) ∙ ap (λ (es : List Event). es ++ following.0) (sym are) in
        record {
          records = far.records ++ report ∷ [];
          marks = on.0;
          leads = subst (λ (x : Place). LeadsTo c scripts rules [] x (far.records ++ report ∷ []) on.0) (sym goes.2) on.1;
          events_are =
              are ∙ ap (λ (es : List Event). es ++ e ∷ []) far.events_are ∙ ap (λ (x : Event). events_of far.records ++ x ∷ []) (sym event)
              ∙ sym (events_more far.records report);
          count = let long = ap length are in omega (arith, count, one, long, length-append events (e ∷ []));
          walked = far.walked ∙ ap (joined events) next ∙ ap (λ (es : List Event). (es, following.1)) together;
        }

    -- and none more
    pub so_whole : (w' : Place) (d' : Draws) (quiet : Bool) → GoesOn w d left None w' d' → quiet ≡ (length (choices w') == 0) → IsDrawn drawing seed c scripts ticks turns events quiet
    so_whole w' d' quiet goes quiet_is =
        let count = far.count in
        record {
          place = w';
          records = far.records;
          walked =
              far.walked ∙ ap (joined events) goes.0 ∙ ap (λ (es : List Event). (es, w)) (append-nil events) ∙ ap (λ (x : Place). (events, x)) (sym goes.1);
          order = far.leads.order;
          events_are = far.events_are;
          within = omega (arith, count);
          quiet_is = quiet_is;
        }
