-- What the run of one seed comes to, and those of many.
use Rattle.std.proofs.Common.{◌≡◌, ◌∙◌, ◌≤◌, ◌<◌, ◌+◌, ◌^◌, ◌==◌, ◌⊎◌, inl, inr, ℕ, Bool, true, false, cond, List, [], Option, Some, None, length, take, ap, sym, subst, refl, arith, Ok}
use Rattle.std.specs.Option.{IfSome}
use Rattle.std.specs.Global.{Vec}
use Rattle.std.specs.List.{All}
use Rattle.std.proofs.lemmas.Bool.{cases_lt}
use Rattle.std.proofs.lemmas.List.{length-map, length-take-le, take_all}
use Rattle.std.proofs.lemmas.List.Elements.{All-take}
use Rattle.fmp_calls.specs.Arguments.{EventInBits}
use Rattle.fmp_codes.specs.Records.{AreOn, processor_of}
use Rattle.fmp_codes.specs.declared.records.Event.{Event}
use Rattle.fmp_codes.specs.declared.records.Record.{Record}
use Rattle.fmp_names.specs.Names.{AreValid, NameLists}
use Rattle.fmp_text_scripts.specs.ScriptGrammar.{SpellsScripts}
use Rattle.fmp_text_scripts.specs.Scripts.{Steps, AreInBits}
use Rattle.fmp_setup.specs.Setup.{Setup}
use Rattle.fmp_setup.specs.Valid.{IsValid}
use Rattle.fmp_rules.specs.Arrivals.{numbered}
use Rattle.fmp_rules.specs.Boot.{booted}
use Rattle.fmp_rules.specs.Step.{answers}
use Rattle.fmp_trace.specs.Lines.{lines_from}
use Rattle.fmp_trace_check.specs.Checking.{PrintsAnswers}
use Rattle.fmp_search_pattern.specs.declared.question.Step.{Step}
use Rattle.fmp_search_orders.proofs.Bits.{order_fits}
use Rattle.fmp_search_random.specs.Drawn as drawn
use Rattle.fmp_search_question.proofs.Short.{question_short}
use Rattle.fmp_smp_histories.specs.Histories.{events_of}
use Rattle.fmp_world.specs.declared.finishing.Ended.{Ended}
use Rattle.fmp_run_texts.proofs.Yes.{own_trace}
use Rattle.fmp_run_texts.specs.Texts.{SaysConfig}
use Rattle.fmp_run_seeds.specs.declared.orders.SeedOrder.{SeedOrder}
use Rattle.fmp_run_seeds.specs.declared.orders.SeedOrder.TheVariants.{InTurn, Drawn}
use Rattle.fmp_run_seeds.specs.declared.orders.SeedRuns.{SeedRuns}
use Rattle.fmp_run_seeds.specs.declared.seeking.SeedFound.{SeedFound}
use Rattle.fmp_run_seeds.specs.declared.seeking.SeedSearch.{SeedSearch}
use Rattle.fmp_run_seeds.specs.declared.seeking.SeedSearch.TheVariants as search
use Rattle.fmp_run_seeds.specs.Orders.{AreOfSeed, IsRunOfSeed, is_quiet}
use Rattle.fmp_run_seeds.specs.Found.{ArePassed, AsksFor, Comes, IsFound, IsPassed, Reaches, Seeks, Sought, Tries, is_stuck, waiting_after}

module _ (seed ticks turns : ℕ) (c : Setup) (scripts : List Steps) (es : List Event) (quiet : Bool) where
  -- the events of a run are on its processors, as many as there may be at most, and within the bits of their kinds where the scripts' calls are
  pub events_on : (order : SeedOrder) → AreOfSeed order seed c scripts ticks turns es quiet → AreOn c.processors es
  events_on InTurn run = subst (AreOn c.processors) (sym run.3) run.2.run.run.on
  events_on (Drawn drawing) run = subst (AreOn c.processors) (sym run.events_are) run.order.run.on

  pub few : (order : SeedOrder) → AreOfSeed order seed c scripts ticks turns es quiet → length es ≤ turns
  few InTurn run =
      let long = ap (λ (l : List Event). length l) run.3 in
      let within = run.2.run.within in
      omega (arith, long, length-map run.0 (λ (r : Record). r.event), within)
  few (Drawn drawing) run = run.within

  pub fitting : (order : SeedOrder) → AreOfSeed order seed c scripts ticks turns es quiet → AreInBits scripts → All EventInBits es
  fitting InTurn run fit = subst (All EventInBits) (sym run.3) (run.2.run.in_bits fit)
  fitting (Drawn drawing) run fit =
      subst (All EventInBits) (sym run.events_are) (order_fits c scripts (drawn.rules_of drawing ticks) fit run.records run.order.in_order)

module _ (runs : SeedRuns) (c : Setup) (scripts : List Steps) (asked : Option (List Step)) (seed : ℕ) (es : List Event) (at : Option ℕ) (comes : Comes runs c scripts asked seed es at) where
  comes_few : length es ≤ 1000000
  comes_few = let few_turns = runs.limits.turns.few in let short = few seed runs.limits.ticks.count runs.limits.turns.count c scripts es comes.quiet runs.order comes.run in omega (arith, short, few_turns)

  comes_on : AreOn c.processors es
  comes_on = events_on seed runs.limits.ticks.count runs.limits.turns.count c scripts es comes.quiet runs.order comes.run

  comes_fitting : AreInBits scripts → All EventInBits es
  comes_fitting = fitting seed runs.limits.ticks.count runs.limits.turns.count c scripts es comes.quiet runs.order comes.run

  module _ (n : ℕ) (within : n ≤ length es) where
    -- so are the first of them
    pub first_on : AreOn c.processors (take n es)
    first_on = All-take (λ (e : Event). (processor_of e).number ≤ c.processors) n es comes_on

    pub first_few : length (take n es) ≤ 1000000
    first_few = let most = comes_few in let long = length-take-le n es within in omega (arith, most, long)

    -- the trace of the first of them
    pub first_trace : (text : List ℕ) → IsValid c → AreValid c.names → AreInBits scripts → text ≡ lines_from c.names 1 (answers numbered (booted c) (take n es))
        → PrintsAnswers c text (take n es)
    first_trace text valid names_valid fit prints =
        own_trace c text (take n es) valid names_valid first_on (All-take EventInBits n es (comes_fitting fit)) first_few prints

-- ---- a run in turn

-- it is not what is looked for where something is left to do or nobody waits
pub not_stuck : (quiet : Bool) (waiting : List ℕ) → (quiet ≡ false) ⊎ ((length waiting == 0) ≡ true) → is_stuck quiet waiting ≡ false
not_stuck false waiting free = refl
not_stuck true waiting (inl is) = cc
not_stuck true waiting (inr is) = rw is refl

pub stuck_so : (quiet : Bool) (waiting : List ℕ) → quiet ≡ true → (length waiting == 0) ≡ false → is_stuck quiet waiting ≡ true
stuck_so quiet waiting is some = rw (is, some) refl

module _ (runs : SeedRuns) (c : Setup) (scripts : List Steps) (seed : ℕ) (in_turn : runs.order ≡ InTurn) (h : List Record) (ended : Ended)
    (run : IsRunOfSeed seed c scripts runs.limits.ticks.count runs.limits.turns.count h ended) (waiting : List ℕ) (tells : waiting ≡ waiting_after c (events_of h)) where
  of_turn : AreOfSeed runs.order seed c scripts runs.limits.ticks.count runs.limits.turns.count (events_of h) (is_quiet ended)
  of_turn =
      subst (λ (o : SeedOrder). AreOfSeed o seed c scripts runs.limits.ticks.count runs.limits.turns.count (events_of h) (is_quiet ended)) (sym in_turn) (h, ended, run, refl, refl)

  at_so : (b : Bool) → is_stuck (is_quiet ended) waiting ≡ b
      → cond b (Some (length (events_of h))) None ≡ cond (is_stuck (is_quiet ended) (waiting_after c (events_of h))) (Some (length (events_of h))) None
  at_so b is = ap (λ (x : Bool). cond x (Some (length (events_of h))) None) (sym is ∙ ap (is_stuck (is_quiet ended)) tells)

  pub turn_passes : is_stuck (is_quiet ended) waiting ≡ false → IsPassed runs c scripts None seed
  turn_passes free = (events_of h, record { quiet = is_quiet ended; run = of_turn; is_at = at_so false free })

  pub turn_reaches : (front : Vec Event) → front.items ≡ events_of h → is_stuck (is_quiet ended) waiting ≡ true → Reaches runs c scripts None seed (Some front)
  turn_reaches front is stuck = (
    events_of h,
    length (events_of h),
    record { quiet = is_quiet ended; run = of_turn; is_at = at_so true stuck },
    omega arith,
    is ∙ sym (take_all (length (events_of h)) (events_of h) (omega arith)),
  )

-- a question that was read is short
pub asked_short : (names : NameLists) (text : Option (List ℕ)) (asked : Option (List Step)) → AsksFor names text asked → IfSome asked (λ q. length q ≤ 255)
asked_short names None None asks = tt
asked_short names None (Some question) asks = absurd asks
asked_short names (Some text) None asks = absurd asks
asked_short names (Some text) (Some question) asks = question_short names text question asks

-- the front of a run that comes to what is looked for: on the processors, few, and with its trace and its waiting tasks what was found
module _ (runs : SeedRuns) (c : Setup) (scripts : List Steps) (asked : Option (List Step)) (seed : ℕ) (front : Vec Event) (reaches : Reaches runs c scripts asked seed (Some front)) where
  is_front : front.items ≡ take reaches.1 reaches.0
  is_front = reaches.4

  pub front_on : AreOn c.processors front.items
  front_on = subst (AreOn c.processors) (sym is_front) (first_on runs c scripts asked seed reaches.0 (Some reaches.1) reaches.2 reaches.1 reaches.3)

  pub front_few : length front.items < 2 ^ 32
  front_few =
      let most = subst (λ (l : List Event). length l ≤ 1000000) (sym is_front) (first_few runs c scripts asked seed reaches.0 (Some reaches.1) reaches.2 reaches.1 reaches.3) in
      omega (arith, most)

  pub front_found : (text waiting : List ℕ) (line : ℕ) → line ≡ length front.items → IsValid c → AreValid c.names → AreInBits scripts
      → text ≡ lines_from c.names 1 (answers numbered (booted c) front.items) → waiting ≡ waiting_after c front.items
      → IsFound runs c scripts asked text seed line waiting
  front_found text waiting line is valid names_valid fit prints tells =
      let at : line ≡ reaches.1 = is ∙ ap (λ (l : List Event). length l) is_front ∙ length-take-le reaches.1 reaches.0 reaches.3 in
      subst (λ (n : ℕ). IsFound runs c scripts asked text seed n waiting) (sym at)
      (record {
        events = reaches.0;
        comes = reaches.2;
        within = reaches.3;
        answers = first_trace runs c scripts asked seed reaches.0 (Some reaches.1) reaches.2 reaches.1 reaches.3 text valid names_valid fit
            (prints ∙ ap (λ (l : List Event). lines_from c.names 1 (answers numbered (booted c) l)) is_front);
        tells = tells ∙ ap (waiting_after c) is_front;
      })

-- one seed more whose run is not looked for
pub one_more : (runs : SeedRuns) (c : Setup) (scripts : List Steps) (asked : Option (List Step)) (first next : ℕ) → ArePassed runs c scripts asked first next
    → IsPassed runs c scripts asked next → ArePassed runs c scripts asked first (next + 1)
one_more runs c scripts asked first next before is seed least small = elim (cases_lt seed next) [
  | inl less ↦ before seed least less
  | inr past ↦
      let same : next ≡ seed = omega arith in
      subst (IsPassed runs c scripts asked) same is
]

-- what was read, and what is written of it
pub sought_by : (c : Setup) (scripts : List Steps) (config_text script_text : List ℕ) (question_text : Option (List ℕ)) (asked : Option (List Step)) (runs : SeedRuns)
    (first last : ℕ) (output : List ℕ) (found : SeedSearch) → SaysConfig config_text c → SpellsScripts c.names script_text scripts
    → AsksFor c.names question_text asked → Seeks runs c scripts asked first last output found
    → Sought config_text script_text question_text runs first last output found
sought_by c scripts config_text script_text question_text asked runs first last output found says spells asks seeks = record {
  config = c;
  scripts = scripts;
  asked = asked;
  says = says;
  spells = spells;
  asks = asks;
  seeks = seeks;
}

-- the run of this seed is looked for, and those before it are not
pub is_first : (runs : SeedRuns) (c : Setup) (scripts : List Steps) (asked : Option (List Step)) (first last seed : ℕ) (found : SeedFound × Vec ℕ)
    → Tries runs c scripts asked seed (Some found) → first ≤ seed → seed ≤ last → ArePassed runs c scripts asked first seed
    → Seeks runs c scripts asked first last found.1.items (search.Found found.0)
is_first runs c scripts asked first last seed found (is, same) low high before = (
  subst (λ (s : ℕ). IsFound runs c scripts asked found.1.items s found.0.line found.0.waiting.items) (sym same) is,
  omega (arith, same, low),
  omega (arith, same, high),
  subst (ArePassed runs c scripts asked first) (sym same) before,
)
