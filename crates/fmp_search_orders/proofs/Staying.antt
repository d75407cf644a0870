-- What stays for ever, over places and over orders.
use Rattle.std.proofs.Common.{◌≡◌, ◌∙◌, ℕ, ◌+◌, Bool, true, false, cond, List, [], ◌∷◌, ◌++◌, length, Option, Some, None, refl, ap, sym, subst, arith, append_assoc}
use Rattle.std.specs.Option.{option_and_then, option_map_or}
use Rattle.std.proofs.lemmas.Grind.{common_steps}
use Rattle.std.proofs.lemmas.List.{append-nil, append_cancel_left, map-append}
use Rattle.fmp_codes.specs.declared.records.Event.{Event}
use Rattle.fmp_codes.specs.declared.records.Record.{Record}
use Rattle.fmp_text_scripts.specs.Scripts.{Steps}
use Rattle.fmp_setup.specs.Setup.{Setup}
use Rattle.fmp_setup.specs.Valid.{IsValid}
use Rattle.fmp_rules.specs.Arrivals.{State, numbered}
use Rattle.fmp_rules.specs.Boot.{booted}
use Rattle.fmp_rules.specs.Step.{step, replay, answers}
use Rattle.fmp_kernel_order.specs.Queues.{listed}
use Rattle.fmp_smp_histories.specs.Histories.{events_of, state_after}
use Rattle.fmp_smp_histories.proofs.Histories.{run_more}
use Rattle.fmp_search.specs.Runs.{run}
use Rattle.fmp_search.specs.Forever.{EndsForEver}
use Rattle.fmp_search_pattern.specs.Questions.{allows}
use Rattle.fmp_search_pattern.specs.Sights.{Sight}
use Rattle.fmp_search_orders.specs.declared.rules.Rules.{Rules}
use Rattle.fmp_search_orders.specs.Orders.{MayHappen, IsOrder}
use Rattle.fmp_search_orders.specs.Shown.{last_sight}
use Rattle.fmp_search_orders.specs.Places.{Place, origin, event_of, is_marked, went, sight_at, allowed, next_place, after, report_of, report, records}
use Rattle.fmp_search_orders.specs.Laws.{LeadsTo}
use Rattle.fmp_search_orders.specs.Lasting.{EndsSo, test_there, step_test, LastingAnswer}
use Rattle.fmp_search_orders.proofs.Longer.{order_more, same_sight}
use Rattle.fmp_search_orders.proofs.Runs.{at_end, may_step, step_may, run_leads}
use Rattle.fmp_search_orders.proofs.Begun.{OnOrder, on_start, on_more, on_next, passed}

-- the answers to events, one of them and those after it
answers_at : (m : State) (es fs : List Event) (e : Event) →
    answers numbered m (es ++ e ∷ fs) ≡ answers numbered m es ++ (step numbered (replay numbered m es) e).1 ∷ answers numbered (step numbered (replay numbered m es) e).0 fs
answers_at m [] fs e = refl
answers_at m (x ∷ es) fs e = ap (λ rs. (step numbered m x).1 ∷ rs) (answers_at (step numbered m x).0 es fs e)

module _ (c : Setup) (scripts : List Steps) (rules : Rules) (valid : IsValid c) (h : List Record) (order : IsOrder c scripts rules h) (r : Record) (more : List Record)
    (longer : IsOrder c scripts rules (h ++ r ∷ more)) where
  may : MayHappen c scripts rules h r.event
  may =
      let end = at_end c scripts rules [] valid h more r in
      subst (λ (x : List Record). MayHappen c scripts rules x r.event) end.1 (longer.in_order (length h) r end.0)

  answer : r ≡ (step numbered (state_after c h) r.event).1
  unfolding state_after
  answer =
      let state = replay numbered (booted c) (events_of h) in
      let did = (step numbered state r.event).1 in
      let rest = answers numbered (step numbered state r.event).0 (events_of more) in
      let events : events_of (h ++ r ∷ more) ≡ events_of h ++ r.event ∷ events_of more = map-append (λ (x : Record). x.event) h (r ∷ more) in
      let own : h ++ r ∷ more ≡ h ++ did ∷ rest =
      longer.run.answers ∙ ap (answers numbered (booted c)) events ∙ answers_at (booted c) (events_of h) (events_of more) r.event
      ∙ ap (λ (x : List Record). x ++ did ∷ rest) (sym order.run.answers) in
      let following : r ∷ more ≡ did ∷ rest = append_cancel_left h (r ∷ more) (did ∷ rest) own in
      cc

  -- where an order goes on with some records, it goes on with the first of them
  pub next_order : IsOrder c scripts rules (h ++ r ∷ [])
  next_order = record { run = run_more c h r.event r order.run answer refl may.0; in_order = order_more c scripts rules h r order.in_order may }

module _ (c : Setup) (scripts : List Steps) (rs : Rules) (valid : IsValid c) where
  abbrev pub On : Place → List Record → Type 0
  On w h = OnOrder c scripts rs valid w h

  -- a place after one event more, which is not marked
  pub record Next (w : Place) (h : List Record) (r : Record) : Type 0 where
    pub step_number : ℕ
    pub event_is : event_of w step_number ≡ Some r.event
    pub goes : after w step_number ≡ Some (went w false (step listed w.machine r.event))
    pub report_is : r ≡ (step listed w.machine r.event).1
    pub on : On (went w false (step listed w.machine r.event)) (h ++ r ∷ [])

  goes_there : (w : Place) (h : List Record) → On w h → (s : ℕ) (e : Event) → event_of w s ≡ Some e → is_marked s ≡ false → after w s ≡ Some (went w false (step listed w.machine e))
  unfolding after
  goes_there w h on s e here unmarked =
      let did = step listed w.machine e in
      let free : allows w.question w.seen false (sight_at (went w false did) did.1) ≡ true =
      ap (λ q. allows q w.seen false (sight_at (went w false did) did.1)) on.1.question_is ∙ passed c scripts rs valid w.seen (sight_at (went w false did) did.1) in
      ap (next_place w (is_marked s)) here ∙ ap (λ b. allowed w b did) unmarked ∙ ap (λ b. cond b (Some (went w false did)) None) free

  -- where an order goes on, so do the places
  pub next_of : (w : Place) (h : List Record) → On w h → (r : Record) (more : List Record) → IsOrder c scripts rs (h ++ r ∷ more) → Next w h r
  next_of w h on r more longer =
      let one = next_order c scripts rs valid h on.1.order r more longer in
      let report = (on_next c scripts rs valid w h on r one).1 in
      let end = at_end c scripts rs [] valid h [] r in
      let may : MayHappen c scripts rs h r.event = subst (λ x. MayHappen c scripts rs x r.event) end.1 (one.in_order (length h) r end.0) in
      let found = may_step c scripts rs [] w h on.0 on.1 r.event false may in
      record {
        step_number = found.0;
        event_is = found.1;
        goes = goes_there w h on found.0 r.event found.1 found.2;
        report_is = report;
        on = subst (λ (x : Record). On (went w false (step listed w.machine r.event)) (h ++ x ∷ [])) (sym report) (on_more c scripts rs valid w h on found.0 r.event found.1);
      }

  -- and so on
  pub record Walk (w : Place) (h g : List Record) : Type 0 where
    pub steps : List ℕ
    pub place : Place
    pub leads : run after w steps ≡ Some place
    pub on : On place (h ++ g)
    pub long : length steps ≡ length g

  pub walk : (g rest : List Record) (w : Place) (h : List Record) → On w h → IsOrder c scripts rs (h ++ (g ++ rest)) → Walk w h g
  walk [] rest w h on order = record { steps = []; place = w; leads = refl; on = subst (λ x. On w x) (sym (append-nil h)) on; long = refl }
  walk (r ∷ g) rest w h on order =
      let one = next_of w h on r (g ++ rest) order in
      let v = went w false (step listed w.machine r.event) in
      let more = walk g rest v (h ++ r ∷ []) one.on (subst (λ x. IsOrder c scripts rs x) (sym (append_assoc h (r ∷ []) (g ++ rest))) order) in
      let long = more.long in
      record {
        steps = one.step_number ∷ more.steps;
        place = more.place;
        leads = ap (λ o. option_and_then (λ x. run after x more.steps) o) one.goes ∙ more.leads;
        on = subst (λ x. On more.place x) (append_assoc h (r ∷ []) g) more.on;
        long = grind (arith, common_steps, long);
      }

  -- the event of a step that can be made at a place to which an order leads
  pub record Made (w : Place) (h : List Record) (s : ℕ) (u : Place) : Type 0 where
    pub event : Event
    pub event_is : event_of w s ≡ Some event
    pub next_is : u ≡ went w false (step listed w.machine event)
    pub on : On u (h ++ (step listed w.machine event).1 ∷ [])

  refused : (n : ℕ) (text : Sight) → allows [] n true text ≡ false
  unfolding allows
  refused n text = refl

  some_place : (a b : Place) → Some a ≡ Some b → a ≡ b
  some_place a b is = cc

  made_by : (w : Place) (h : List Record) (on : On w h) (s : ℕ) (u : Place) (o : Option Event) → event_of w s ≡ o → (m : Bool) → is_marked s ≡ m → next_place w m o ≡ Some u → Made w h s u
  made_by w h on s u None is m mark goes = cc
  made_by w h on s u (Some e) is true mark goes =
      let did = step listed w.machine e in
      let never : allows w.question w.seen true (sight_at (went w true did) did.1) ≡ false =
      ap (λ q. allows q w.seen true (sight_at (went w true did) did.1)) on.1.question_is ∙ refused w.seen (sight_at (went w true did) did.1) in
      let none : None ≡ Some u = sym (ap (λ b. cond b (Some (went w true did)) None) never) ∙ goes in
      cc
  made_by w h on s u (Some e) is false mark goes =
      let did = step listed w.machine e in
      let free : allows w.question w.seen false (sight_at (went w false did) did.1) ≡ true =
      ap (λ q. allows q w.seen false (sight_at (went w false did) did.1)) on.1.question_is ∙ passed c scripts rs valid w.seen (sight_at (went w false did) did.1) in
      let there : went w false did ≡ u = some_place _ _ (sym (ap (λ b. cond b (Some (went w false did)) None) free) ∙ goes) in
      record { event = e; event_is = is; next_is = sym there; on = subst (λ x. On x (h ++ did.1 ∷ [])) there (on_more c scripts rs valid w h on s e is) }

  pub made_of : (w : Place) (h : List Record) → On w h → (s : ℕ) (u : Place) → after w s ≡ Some u → Made w h s u
  unfolding after
  made_of w h on s u goes = made_by w h on s u (event_of w s) refl (is_marked s) refl goes

  module _ (test : Sight → Bool) where
    abbrev q : Place
    q = origin c scripts rs []

    -- the test of a step is that of the last record of the order that it makes
    same_test : (w : Place) (h : List Record) (on : On w h) (s : ℕ) (e : Event) → event_of w s ≡ Some e →
        step_test test w s ≡ test (last_sight c rs (h ++ (step listed w.machine e).1 ∷ []) (step listed w.machine e).1)
    same_test w h on s e is =
        let may = step_may c scripts rs [] w h on.0 on.1 s e is in
        ap (test_there test w) is ∙ ap test (same_sight c scripts rs [] valid w h on.0 on.1 e may false)

    -- an order that ends so is a run that does
    record Ends (n : ℕ) : Type 0 where
      steps : List ℕ
      ends : EndsForEver after (step_test test) q steps
      long : length steps ≡ n

    run_of : (h : List Record) → EndsSo c scripts rs test h → Ends (length h)
    run_of h so =
        let order : IsOrder c scripts rs (so.before ++ so.last ∷ []) = subst (λ x. IsOrder c scripts rs x) so.is so.order in
        let first = walk so.before (so.last ∷ []) q [] (on_start c scripts rs valid) order in
        let p = first.place in
        let one = next_of p so.before first.on so.last [] order in
        let v = went p false (step listed p.machine so.last.event) in
        let on_h : On v h = subst (λ x. On v x) (sym so.is) one.on in
        let long = first.long in
        let many : length h ≡ length so.before + 1 = ap length so.is ∙ grind (arith, common_steps) in
        record {
          steps = first.steps ++ one.step_number ∷ [];
          ends = record {
            before = first.steps;
            last = one.step_number;
            is = refl;
            place = p;
            next = v;
            leads = first.leads;
            goes = one.goes;
            passes = same_test p so.before first.on one.step_number so.last.event one.event_is
                ∙ subst (λ (x : Record). test (last_sight c rs (so.before ++ x ∷ []) x) ≡ true) one.report_is (subst (λ x. test (last_sight c rs x so.last) ≡ true) so.is so.stays.there);
            for_ever = λ steps t u s leads goes.
                let led = run_leads c scripts rs [] valid steps v t h on_h.0 on_h.1 leads in
                let on_t : On t (h ++ records v steps) = (led.1, subst (λ x. LeadsTo c scripts rs [] t x led.1) led.3 led.4) in
                let made = made_of t (h ++ records v steps) on_t s u goes in
                let did = step listed t.machine made.event in
                same_test t (h ++ records v steps) on_t s made.event made.event_is ∙ so.stays.stays (records v steps) did.1 made.on.1.order;
          };
          long = grind (arith, common_steps, long, many);
        }

    -- what is told along a run of one step more
    records_more : (steps : List ℕ) (s : ℕ) (w p : Place) (e : Event) (v : Place) → run after w steps ≡ Some p → event_of p s ≡ Some e → after p s ≡ Some v →
        records w (steps ++ s ∷ []) ≡ records w steps ++ (step listed p.machine e).1 ∷ []
    unfolding report
    records_more [] s w p e v leads is goes =
        let same : w ≡ p = some_place w p leads in
        subst (λ x. report_of w (event_of w s) ++ option_map_or (λ r. records r []) (after w s) [] ≡ (step listed x.machine e).1 ∷ []) same
        (ap (λ o. report_of w o ++ option_map_or (λ r. records r []) (after w s) []) (subst (λ x. event_of x s ≡ Some e) (sym same) is)
        ∙ ap (λ o. (step listed w.machine e).1 ∷ option_map_or (λ r. records r []) o []) (subst (λ x. after x s ≡ Some v) (sym same) goes))
    records_more (a ∷ steps) s w p e v leads is goes = more (λ x on. records_more steps s x p e v on is goes) (after w a) leads
      where
        more : ((x : Place) → run after x steps ≡ Some p → records x (steps ++ s ∷ []) ≡ records x steps ++ (step listed p.machine e).1 ∷ []) →
            (o : Option Place) → option_and_then (λ r. run after r steps) o ≡ Some p →
            report_of w (event_of w a) ++ option_map_or (λ r. records r (steps ++ s ∷ [])) o [] ≡ (report_of w (event_of w a) ++ option_map_or (λ r. records r steps) o []) ++ (step listed p.machine e).1 ∷ []
        more rest None on = cc
        more rest (Some x) on =
            ap (λ (h : List Record). report_of w (event_of w a) ++ h) (rest x on) ∙ sym (append_assoc (report_of w (event_of w a)) (records x steps) ((step listed p.machine e).1 ∷ []))

    -- and a run that ends so is an order that does
    order_of : (steps : List ℕ) → EndsForEver after (step_test test) q steps → EndsSo c scripts rs test (records q steps) × (length (records q steps) ≡ length steps)
    order_of steps ends =
        let start = on_start c scripts rs valid in
        let led = run_leads c scripts rs [] valid ends.before q ends.place [] start.0 start.1 ends.leads in
        let hb = records q ends.before in
        let on_p : On ends.place hb = (led.1, subst (λ x. LeadsTo c scripts rs [] ends.place x led.1) led.3 led.4) in
        let made = made_of ends.place hb on_p ends.last ends.next ends.goes in
        let did = step listed ends.place.machine made.event in
        let h = hb ++ did.1 ∷ [] in
        let is : records q steps ≡ h = ap (records q) ends.is ∙ records_more ends.before ends.last q ends.place made.event ends.next ends.leads made.event_is ends.goes in
        let report : led.0 ≡ hb = led.3 in
        let of_hb : length led.0 ≡ length hb = ap length report in
        let of_led = led.2 in
        let long : length hb ≡ length ends.before = omega (arith, of_hb, of_led) in
        let many : length steps ≡ length ends.before + 1 = ap length ends.is ∙ grind (arith, common_steps) in
        let all : length h ≡ length hb + 1 = grind (arith, common_steps) in (
          record {
            before = hb;
            last = did.1;
            is = is;
            order = subst (λ x. IsOrder c scripts rs x) (sym is) made.on.1.order;
            stays = record {
              there = subst (λ x. test (last_sight c rs x did.1) ≡ true) (sym is) (sym (same_test ends.place hb on_p ends.last made.event made.event_is) ∙ ends.passes);
              stays = λ more r order.
                  let order' : IsOrder c scripts rs ((h ++ more) ++ r ∷ []) = subst (λ x. IsOrder c scripts rs ((x ++ more) ++ r ∷ [])) is order in
                  let first = walk more (r ∷ []) ends.next h made.on (subst (λ x. IsOrder c scripts rs x) (append_assoc h more (r ∷ [])) order') in
                  let one = next_of first.place (h ++ more) first.on r [] order' in
                  let passes = ends.for_ever first.steps first.place (went first.place false (step listed first.place.machine r.event)) one.step_number first.leads one.goes in
                  let at = sym (same_test first.place (h ++ more) first.on one.step_number r.event one.event_is) ∙ passes in
                  let own = subst (λ (x : Record). test (last_sight c rs ((h ++ more) ++ x ∷ []) x) ≡ true) (sym one.report_is) at in
                  subst (λ x. test (last_sight c rs ((x ++ more) ++ r ∷ []) r) ≡ true) (sym is) own;
            };
          },
          ap length is ∙ omega (arith, long, many, all),
        )

    pub lasting : LastingAnswer c scripts rs test
    lasting = record {
      never = λ none h so. let r = run_of h so in none r.steps r.ends;
      found = λ steps ends. order_of steps ends;
      runs = λ h so. let r = run_of h so in (r.steps, (r.ends, r.long));
      shortest = λ steps short.
          let own = order_of steps short.ends in
          let long = own.1 in
          record {
            ends = own.0;
            shortest = λ g so. let r = run_of g so in let less = short.shortest r.steps r.ends in let as_long = r.long in omega (arith, long, less, as_long);
          };
    }

pub lasting_answer : (c : Setup) (scripts : List Steps) (rs : Rules) (test : Sight → Bool) → IsValid c → LastingAnswer c scripts rs test
lasting_answer c scripts rs test valid = lasting c scripts rs valid test
