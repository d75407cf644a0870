-- All statements: what they say is judged so, and what is judged they say.
use Rattle.std.proofs.Common.{◌≡◌, ℕ, ◌⊎◌, Bool, true, false, leb, ltb, eqb, cond, inl, inr, [], length, Some, Ok, refl, sym, ap, ◌∙◌, arith}
use Rattle.std.specs.Option.{ok_or}
use Rattle.std.proofs.lemmas.Bool.{and_parts, and_from, leb-true, le-leb, ltb-true, lt-ltb, eqb-true, ne_eqb}
use Rattle.std.proofs.lemmas.List.{nil_from_length}
use Rattle.fmp_bytes.proofs.Parsed.{ok_or_parts, bind_parts}
use Rattle.fmp_bytes.specs.Results.{◌>>=◌}
use Rattle.fmp_codes.specs.Numbers.{as_proc}
use Rattle.fmp_config_statements.specs.declared.fault.ConfigKind.TheVariants.{UnknownClass}
use Rattle.fmp_config_statements.specs.declared.table.Range.{Range}
use Rattle.fmp_config_statements.specs.declared.table.StatementName.{StatementName}
use Rattle.fmp_config_statements.specs.declared.table.StatementName.TheVariants as statements
use Rattle.fmp_config_statements.specs.Faults.{fault_at}
use Rattle.fmp_config_statements.specs.Forms.{Form}
use Rattle.fmp_config_statements.specs.Words.{Word}
use Rattle.fmp_config.specs.declared.draft.Phase.TheVariants as phases
use Rattle.fmp_config.specs.Drafts.{Draft}
use Rattle.fmp_config.specs.Objects.{new_name}
use Rattle.fmp_config.specs.Judging.{count_processors, timer_of, choose_timer, set_limits, define_class, begin_class, judged}
use Rattle.fmp_config.specs.Numbers.{number_within, numbers_of, class_of}
use Rattle.fmp_config.proofs.Defined.{new_and_room}
use Rattle.fmp_setup.specs.declared.setup.Class.{Class}
use Rattle.fmp_setup.specs.declared.setup.Timer.{Timer}
use Rattle.fmp_setup.specs.declared.setup.Timer.TheVariants as timer
use Rattle.fmp_setup.specs.Building.{class_named, with_class, with_timer, with_limits, with_processors}
use Rattle.fmp_setup.specs.Setup.{Setup}
use Rattle.fmp_law_config.specs.Stages.{Stage, SpellsNumber, is_processor}
use Rattle.fmp_law_config.specs.Meaning.{DefinesClass, ChoosesTimer, Says}
use Rattle.fmp_law_config.proofs.Results.{ok_is}
use Rattle.fmp_law_config.proofs.Numerals.{number_some, is_signed, value_at_is_spelled, number_within-spelled, number_within_parts}
use Rattle.fmp_law_config.proofs.Classes.{class_of-spelled, class_of_is_spelled}
use Rattle.fmp_law_config.proofs.Stages.{phrase_of, stage_of, AreUnsigned, IsBounded, numbers_of-spelled, numbers_read}
use Rattle.fmp_law_config.proofs.Judged.{LeadsTo, new_name-is, creates-says, created_says}

-- ---- the timer

module _ (c : Setup) (bounded : IsBounded c) (word : Word) where
  abbrev pub processors : Range
  processors = record { least = 1; most = c.processors }

  timer_of-local : word.text ≡ [] → timer_of c word ≡ Ok timer.Local
  unfolding timer_of
  timer_of-local none = rw none refl

  timer_of-global : (n : ℕ) → SpellsNumber c.names word.text n → is_processor c.processors n ≡ true → timer_of c word ≡ Ok (timer.Global (as_proc n))
  unfolding timer_of
  timer_of-global n s is =
      let test : eqb (length word.text) 0 ≡ false = ne_eqb (length word.text) 0 (λ e. number_some c.names word.text n s (nil_from_length word.text e)) in
      let parts = and_parts (leb 1 n) (leb n c.processors) is in
      let read = number_within-spelled c.names processors word n s (leb-true 1 n parts.0) (leb-true n c.processors parts.1) in
      rw test (rw read refl)

  abbrev pub TimerIs : Timer → Type 0
  TimerIs t = ((word.text ≡ []) × (timer.Local ≡ t)) ⊎ ((n : ℕ) × SpellsNumber c.names word.text n × (is_processor c.processors n ≡ true) × (timer.Global (as_proc n) ≡ t))

  timer_parts : (t : Timer) (none : Bool) → eqb (length word.text) 0 ≡ none → is_signed word.text ≡ false
      → cond none (Ok timer.Local) (number_within c.names processors word >>= λ n. Ok (timer.Global (as_proc n))) ≡ Ok t → TimerIs t
  timer_parts t true test unsigned e = inl (nil_from_length word.text (eqb-true (length word.text) 0 test), ok_is timer.Local t e)
  timer_parts t false test unsigned e =
      let p = bind_parts (number_within c.names processors word) (λ n. Ok (timer.Global (as_proc n))) t e in
      let q = number_within_parts c.names processors word p.0 p.1 in
      let low = q.1 in
      let high = q.2 in
      let few = bounded.processors in
      inr (p.0, value_at_is_spelled c.names bounded.named word p.0 q.0 unsigned (omega (arith, high, few)), and_from (leb 1 p.0) (leb p.0 c.processors) (le-leb 1 p.0 low) (le-leb p.0 c.processors high), ok_is (timer.Global (as_proc p.0)) t p.2)

  timer_is : (t : Timer) → timer_of c word ≡ Ok t → is_signed word.text ≡ false → TimerIs t
  unfolding timer_of
  timer_is t e unsigned = timer_parts t (eqb (length word.text) 0) refl unsigned e

-- ---- what is said is judged so

module _ (d : Draft) (bounded : IsBounded d.setup) (f : Form) (next : Stage) where
  timer-says : ChoosesTimer (stage_of d) (phrase_of f.pieces) next → LeadsTo (choose_timer d f) next
  unfolding choose_timer
  timer-says s =
      elim s [
        | inl none ↦ let read = timer_of-local d.setup bounded f.pieces.first none.0 in (record d { setup = with_timer d.setup timer.Local; timer_stood = true }, rw read refl, none.1)
        | inr some ↦
            let read = timer_of-global d.setup bounded f.pieces.first some.0 some.1 some.2 in
            (record d { setup = with_timer d.setup (timer.Global (as_proc some.0)); timer_stood = true }, rw read refl, some.3)
      ]

  class-says : DefinesClass (stage_of d) (phrase_of f.pieces) next → LeadsTo (define_class d f) next
  unfolding define_class
  class-says s =
      let new = new_name-is d.setup (ltb (length d.setup.classes) 32) f.line f.pieces.name s.name_is_new (lt-ltb (length d.setup.classes) 32 s.few) in
      let class = class_of-spelled d.setup bounded.processors bounded.named f.line f.pieces s.initial s.members s.initial_is s.members_are s.initial_within s.members_within s.begins_within in
      (_, rw (new, class) refl, s.says)

  pub says_judged : (name : StatementName) → Says (stage_of d) name (phrase_of f.pieces) next → LeadsTo (judged d name f) next
  unfolding judged count_processors set_limits begin_class
  says_judged statements.Include s = (d, refl, s)
  says_judged statements.Processors s = let read = numbers_of-spelled d.setup statements.Processors f.pieces s.0 s.1 in (_, rw read refl, s.2)
  says_judged statements.Timer s = timer-says s
  says_judged statements.Limits s = let read = numbers_of-spelled d.setup statements.Limits f.pieces s.0 s.1 in (_, rw read refl, s.2)
  says_judged statements.DefClass s = class-says s
  says_judged statements.Class s = let found = s.1 in (record d { open_class = Some (record { line = f.line; class = s.0 }); phase = phases.Body }, rw found refl, s.2)
  says_judged (statements.Create kind) s = creates-says d kind f next s

-- ---- what is judged is said

module _ (d after : Draft) (bounded : IsBounded d.setup) (f : Form) (unsigned : AreUnsigned (phrase_of f.pieces)) where
  timer_says : choose_timer d f ≡ Ok after → ChoosesTimer (stage_of d) (phrase_of f.pieces) (stage_of after)
  unfolding choose_timer
  timer_says e =
      let p = bind_parts (timer_of d.setup f.pieces.first) (λ t. Ok (record d { setup = with_timer d.setup t; timer_stood = true })) after e in
      let same = ok_is (record d { setup = with_timer d.setup p.0; timer_stood = true }) after p.2 in
      elim (timer_is d.setup bounded f.pieces.first p.0 p.1 unsigned.first) [
        | inl none ↦ inl (none.0, ap stage_of (sym same) ∙ ap (λ (t : Timer). stage_of (record d { setup = with_timer d.setup t; timer_stood = true })) (sym none.1))
        | inr some ↦ inr (some.0, some.1, some.2, ap stage_of (sym same) ∙ ap (λ (t : Timer). stage_of (record d { setup = with_timer d.setup t; timer_stood = true })) (sym some.3))
      ]

  class_says : define_class d f ≡ Ok after → DefinesClass (stage_of d) (phrase_of f.pieces) (stage_of after)
  unfolding define_class
  class_says e =
      let new = bind_parts (new_name d.setup (ltb (length d.setup.classes) 32) f.line f.pieces.name) _ after e in
      let class = bind_parts (class_of d.setup f.line f.pieces) (λ class. Ok (record d { setup = with_class d.setup f.pieces.name.text class })) after new.2 in
      let fresh = new_and_room d.setup (ltb (length d.setup.classes) 32) f.line f.pieces.name new.1 in
      let s = class_of_is_spelled d.setup bounded.processors bounded.named f.line f.pieces class.0 class.1 unsigned.first unsigned.series in
      record {
        initial = s.initial;
        members = s.members;
        name_is_new = fresh.0;
        few = ltb-true (length d.setup.classes) 32 fresh.1;
        initial_is = s.initial_is;
        members_are = s.members_are;
        initial_within = s.initial_within;
        members_within = s.members_within;
        begins_within = s.begins_within;
        says = ap stage_of (sym (ok_is _ after class.2)) ∙ ap (λ (x : Class). stage_of (record d { setup = with_class d.setup f.pieces.name.text x })) (sym s.is);
      }

  processors_say : count_processors d f ≡ Ok after → Says (stage_of d) statements.Processors (phrase_of f.pieces) (stage_of after)
  unfolding count_processors
  processors_say e =
      let p = bind_parts (numbers_of d.setup statements.Processors f.pieces) (λ n. Ok (record d { setup = with_processors d.setup n.first; phase = phases.Head })) after e in
      let read = numbers_read d.setup bounded.named statements.Processors f.pieces p.0 p.1 unsigned in
      let first = read.first_within in
      let second = read.second_within in
      (p.0, read.spelled (omega (arith, first)) (omega (arith, second)), ap stage_of (sym (ok_is _ after p.2)))

  limits_say : set_limits d f ≡ Ok after → Says (stage_of d) statements.Limits (phrase_of f.pieces) (stage_of after)
  unfolding set_limits
  limits_say e =
      let p = bind_parts (numbers_of d.setup statements.Limits f.pieces) (λ n. Ok (record d { setup = with_limits d.setup (record { wakeups = n.first; priorities = n.second }); limits_stood = true })) after e in
      let read = numbers_read d.setup bounded.named statements.Limits f.pieces p.0 p.1 unsigned in
      let first = read.first_within in
      let second = read.second_within in
      (p.0, read.spelled (omega (arith, first)) (omega (arith, second)), ap stage_of (sym (ok_is _ after p.2)))

  begins_say : begin_class d f ≡ Ok after → Says (stage_of d) statements.Class (phrase_of f.pieces) (stage_of after)
  unfolding begin_class
  begins_say e =
      let p = bind_parts (ok_or (class_named d.setup f.pieces.name.text) (fault_at UnknownClass f.pieces.name)) (λ class. Ok (record d { open_class = Some (record { line = f.line; class = class }); phase = phases.Body })) after e in
      (p.0, ok_or_parts (class_named d.setup f.pieces.name.text) (fault_at UnknownClass f.pieces.name) p.0 p.1, ap stage_of (sym (ok_is _ after p.2)))

  pub judged_says : (name : StatementName) → judged d name f ≡ Ok after → Says (stage_of d) name (phrase_of f.pieces) (stage_of after)
  unfolding judged
  judged_says statements.Include e = ap stage_of (sym (ok_is d after e))
  judged_says statements.Processors e = processors_say e
  judged_says statements.Timer e = timer_says e
  judged_says statements.Limits e = limits_say e
  judged_says statements.DefClass e = class_says e
  judged_says statements.Class e = begins_say e
  judged_says (statements.Create kind) e = created_says d kind f bounded after e unsigned
