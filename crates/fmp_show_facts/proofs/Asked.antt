-- What two words ask.
use Rattle.std.proofs.Common.{◌≡◌, ◌∙◌, ℕ, Bool, true, false, ◌&&◌, ◌||◌, List, [], ◌∷◌, ◌++◌, eqb, map, Option, Some, None, refl, ap, subst}
use Rattle.std.specs.Prelude.{option_map, codes}
use Rattle.std.specs.List.{list_any}
use Rattle.std.proofs.lemmas.Bool.{and_parts, eqb-true, false_from_ne_true, false≢true}
use Rattle.fmp_bytes.specs.Bytes.{is_of}
use Rattle.fmp_codes.specs.declared.kinds.ObjectKind.{ObjectKind}
use Rattle.fmp_codes.specs.declared.kinds.ObjectKind.TheVariants as objects
use Rattle.fmp_names.specs.Names.{AreValid, NameLists, is_name}
use Rattle.fmp_rules.specs.Arrivals.{State}
use Rattle.fmp_facts.specs.declared.facts.Fact.{Fact}
use Rattle.fmp_facts.specs.declared.facts.Fact.TheVariants as fact
use Rattle.fmp_facts.specs.declared.facts.Key.{Key}
use Rattle.fmp_facts.specs.declared.facts.Key.TheVariants as keys
use Rattle.fmp_facts.specs.declared.facts.Kind.{Kind}
use Rattle.fmp_facts.specs.declared.facts.Subject.TheVariants as subject
use Rattle.fmp_facts.specs.declared.facts.Thing.{Thing}
use Rattle.fmp_facts.specs.declared.facts.Thing.TheVariants as thing
use Rattle.fmp_facts.specs.declared.facts.WaitKind.{WaitKind}
use Rattle.fmp_facts.specs.declared.facts.WaitKind.TheVariants as waiting
use Rattle.fmp_fact_words.specs.Asking.{after_subject, asked_by, asked_if, asked_of_kinds, facts_in, is_star, kind_of, kinds_of, may_all_be, may_be, thing_in}
use Rattle.fmp_fact_words.specs.Reading.{object_in, processor_in, task_in}
use Rattle.fmp_fact_words.specs.Told.{IsTold}
use Rattle.fmp_fact_words.specs.Words.{called, key_word, wait_word, word_of}
use Rattle.fmp_fact_words.proofs.Named.{called_is, fact_read, name_is, object_read, other_read, task_read}
use Rattle.fmp_fact_words.proofs.Numbers.{processor_read}
use Rattle.fmp_show_facts.specs.Facts.{count_of, has_all, is_so, some_has_all, thing_is}
use Rattle.fmp_show_facts.specs.Things.{AreTold, IsObjectTold, IsThingTold, thing_word}

star_wait : (kind : WaitKind) → is_star (wait_word kind) ≡ false
star_wait waiting.Sleep = refl
star_wait waiting.Delay = refl
star_wait waiting.Semaphore = refl
star_wait waiting.Eventflag = refl
star_wait waiting.Send = refl
star_wait waiting.Receive = refl
star_wait waiting.Pool = refl

star_has : (key : Key) → is_star (key_word key ++ codes "=*") ≡ false
star_has keys.Run = refl
star_has keys.Ready = refl
star_has keys.Due = refl
star_has keys.Left = refl
star_has keys.Priority = refl
star_has keys.Activations = refl
star_has keys.Wakeups = refl
star_has keys.Count = refl
star_has keys.Pattern = refl
star_has keys.Values = refl
star_has keys.FreeBlocks = refl
star_has keys.Held = refl

module _ (names : NameLists) (valid : AreValid names) where
  -- ---- a thing is read of its word

  no_processor : (kind : ObjectKind) (n : ℕ) (told : IsObjectTold names kind n) → processor_in names.processors (called names kind n) ≡ None
  no_processor kind n told = ap (processor_in names.processors) (called_is names valid kind n told.0) ∙ told.2

  no_task : (kind : ObjectKind) (n : ℕ) (told : IsObjectTold names kind n) → (objects.Task ≡ kind → ⊥) → task_in names (called names kind n) ≡ None
  no_task kind n told other = ap (task_in names) (called_is names valid kind n told.0) ∙ ap (option_map _) (told.1 objects.Task other)

  none_of : (kind other : ObjectKind) (n : ℕ) (told : IsObjectTold names kind n) → (other ≡ kind → ⊥) → object_in names other (called names kind n) ≡ None
  none_of kind other n told differs = other_read names valid kind other n told.0 (told.1 other differs)

  thing_read : (x : Thing) → IsThingTold names x → thing_in names (thing_word names x) ≡ Some x
  unfolding thing_in
  thing_read (thing.Processor p) few = rw (processor_read names.processors p few) refl
  thing_read (thing.Task t) told = rw (no_processor objects.Task t.number told, task_read names valid t told.0) refl
  thing_read (thing.Semaphore o) told =
      let k = objects.Semaphore in
      rw (no_processor k o.number told, no_task k o.number told (λ e. absurd cc), object_read names valid k o told.0) refl
  thing_read (thing.Eventflag o) told =
      let k = objects.Eventflag in
      let n = o.number in
      rw (no_processor k n told, no_task k n told (λ e. absurd cc), none_of k objects.Semaphore n told (λ e. absurd cc), object_read names valid k o told.0) refl
  thing_read (thing.DataQueue o) told =
      let k = objects.DataQueue in
      let n = o.number in
      rw (
        no_processor k n told,
        no_task k n told (λ e. absurd cc),
        none_of k objects.Semaphore n told (λ e. absurd cc),
        none_of k objects.Eventflag n told (λ e. absurd cc),
        object_read names valid k o told.0,
      ) refl
  thing_read (thing.Pool o) told =
      let k = objects.Pool in
      let n = o.number in
      rw (
        no_processor k n told,
        no_task k n told (λ e. absurd cc),
        none_of k objects.Semaphore n told (λ e. absurd cc),
        none_of k objects.Eventflag n told (λ e. absurd cc),
        none_of k objects.DataQueue n told (λ e. absurd cc),
        object_read names valid k o told.0,
      ) refl
  thing_read (thing.Cyclic o) told =
      let k = objects.Cyclic in
      let n = o.number in
      rw (
        no_processor k n told,
        no_task k n told (λ e. absurd cc),
        none_of k objects.Semaphore n told (λ e. absurd cc),
        none_of k objects.Eventflag n told (λ e. absurd cc),
        none_of k objects.DataQueue n told (λ e. absurd cc),
        none_of k objects.Pool n told (λ e. absurd cc),
        object_read names valid k o told.0,
      ) refl
  thing_read (thing.Alarm o) told =
      let k = objects.Alarm in
      let n = o.number in
      rw (
        no_processor k n told,
        no_task k n told (λ e. absurd cc),
        none_of k objects.Semaphore n told (λ e. absurd cc),
        none_of k objects.Eventflag n told (λ e. absurd cc),
        none_of k objects.DataQueue n told (λ e. absurd cc),
        none_of k objects.Pool n told (λ e. absurd cc),
        none_of k objects.Cyclic n told (λ e. absurd cc),
        object_read names valid k o told.0,
      ) refl
  thing_read (thing.SpinLock o) told =
      let k = objects.SpinLock in
      let n = o.number in
      rw (
        no_processor k n told,
        no_task k n told (λ e. absurd cc),
        none_of k objects.Semaphore n told (λ e. absurd cc),
        none_of k objects.Eventflag n told (λ e. absurd cc),
        none_of k objects.DataQueue n told (λ e. absurd cc),
        none_of k objects.Pool n told (λ e. absurd cc),
        none_of k objects.Cyclic n told (λ e. absurd cc),
        none_of k objects.Alarm n told (λ e. absurd cc),
        object_read names valid k o told.0,
      ) refl

  -- ---- no fact's word is a star

  star_name : (word : List ℕ) → is_name word ≡ true → is_star word ≡ false
  unfolding is_name is_of
  star_name [] named = absurd (false≢true named)
  star_name (b ∷ word) named =
      false_from_ne_true _ (λ h. let star = eqb-true b 42 (and_parts (eqb b 42) (is_star word) h).0 in false≢true (subst (λ (c : ℕ). is_name (c ∷ word) ≡ true) star named))

  no_star : (f : Fact) → IsTold names f → is_star (word_of names f) ≡ false
  unfolding word_of
  no_star (fact.WaitsFor kind) told = star_wait kind
  no_star (fact.WaitsAt kind o) told =
      ap is_star (called_is names valid kind o.number told.0) ∙ star_name told.0.word (name_is names valid kind o.number told.0)
  no_star (fact.Runs t) told = refl
  no_star fact.RunsNone told = refl
  no_star (fact.HasReady t) told = refl
  no_star fact.Locked told = refl
  no_star fact.Disabled told = refl
  no_star fact.Latched told = refl
  no_star (fact.HasDue r) told = refl
  no_star fact.Dormant told = refl
  no_star fact.Running told = refl
  no_star fact.Ready told = refl
  no_star (fact.On p) told = refl
  no_star fact.Suspended told = refl
  no_star fact.Waits told = refl
  no_star (fact.Left n) told = refl
  no_star (fact.Priority n) told = refl
  no_star (fact.Activations n) told = refl
  no_star (fact.Wakeups n) told = refl
  no_star (fact.Count n) told = refl
  no_star (fact.Pattern n) told = refl
  no_star fact.Empty told = refl
  no_star (fact.HasValue v) told = refl
  no_star (fact.FreeBlocks n) told = refl
  no_star fact.Stopped told = refl
  no_star fact.Due told = refl
  no_star fact.Free told = refl
  no_star (fact.HeldBy p) told = refl
  no_star (fact.Has key) told = star_has key

  -- ---- what they ask

  -- the words of several facts
  facts_read : (fs : List Fact) → AreTold names fs → facts_in names (map (word_of names) fs) ≡ Some fs
  facts_read [] told = refl
  facts_read (f ∷ fs) told = rw (no_star f told.0, fact_read names valid f told.0, facts_read fs told.1) refl

  asks : (x : Thing) (f : Fact) (fs : List Fact) → IsThingTold names x → AreTold names (f ∷ fs) → may_all_be (f ∷ fs) (kind_of x) ≡ true
      → asked_by names (thing_word names x ∷ map (word_of names) (f ∷ fs)) ≡ record { subject = subject.One x; facts = f ∷ fs } ∷ []
  unfolding asked_by
  asks x f fs told_x told may =
      ap (λ (o : Option Thing). after_subject names o (thing_word names x) (map (word_of names) (f ∷ fs))) (thing_read x told_x)
      ∙ ap (asked_if (Some x)) (facts_read (f ∷ fs) told) ∙ rw may refl

  alone : (b : Bool) → (b || false) ≡ b
  alone true = refl
  alone false = refl

  pub facts_mean : (x : Thing) (f : Fact) (fs : List Fact) → IsThingTold names x → AreTold names (f ∷ fs) → may_all_be (f ∷ fs) (kind_of x) ≡ true
      → (w : State) → list_any (is_so w) (asked_by names (thing_word names x ∷ map (word_of names) (f ∷ fs))) ≡ has_all w (f ∷ fs) x
  unfolding is_so
  facts_mean x f fs told_x told may w = ap (list_any (is_so w)) (asks x f fs told_x told may) ∙ alone (has_all w (f ∷ fs) x)

  both_true : (b : Bool) → (b && true) ≡ b
  both_true true = refl
  both_true false = refl

  pub fact_means : (x : Thing) (f : Fact) → IsThingTold names x → IsTold names f → may_be (kind_of x) f ≡ true
      → (w : State) → list_any (is_so w) (asked_by names (thing_word names x ∷ word_of names f ∷ [])) ≡ thing_is w x f
  fact_means x f told_x told_f may w = facts_mean x f [] told_x (told_f, tt) (ap (λ b. b && true) may) w ∙ both_true (thing_is w x f)

  -- without a thing they are asked of any thing of the kind that may have them
  asks_any : (k : Kind) (f : Fact) (fs : List Fact) → AreTold names (f ∷ fs) → thing_in names (word_of names f) ≡ None → kinds_of f ≡ k ∷ [] → may_all_be (f ∷ fs) k ≡ true
      → asked_by names (map (word_of names) (f ∷ fs)) ≡ record { subject = subject.Any k; facts = f ∷ fs } ∷ []
  unfolding asked_by
  asks_any k f fs told nothing kind may =
      ap (λ (o : Option Thing). after_subject names o (word_of names f) (map (word_of names) fs)) nothing
      ∙ ap (asked_if None) (facts_read (f ∷ fs) told) ∙ ap (asked_of_kinds (f ∷ fs)) kind ∙ rw may refl

  pub some_mean : (k : Kind) (f : Fact) (fs : List Fact) → AreTold names (f ∷ fs) → thing_in names (word_of names f) ≡ None → kinds_of f ≡ k ∷ [] → may_all_be (f ∷ fs) k ≡ true
      → (w : State) → list_any (is_so w) (asked_by names (map (word_of names) (f ∷ fs))) ≡ some_has_all w (f ∷ fs) k (count_of w k)
  unfolding is_so
  some_mean k f fs told nothing kind may w = ap (list_any (is_so w)) (asks_any k f fs told nothing kind may) ∙ alone (some_has_all w (f ∷ fs) k (count_of w k))

  -- a thing alone, or with a star, asks nothing of a state
  pub nothing_asked : (x : Thing) → IsThingTold names x
      → (asked_by names (thing_word names x ∷ []) ≡ []) × (asked_by names (thing_word names x ∷ codes "*" ∷ []) ≡ [])
  unfolding asked_by
  nothing_asked x told = (
    ap (λ (o : Option Thing). after_subject names o (thing_word names x) []) (thing_read x told),
    ap (λ (o : Option Thing). after_subject names o (thing_word names x) (codes "*" ∷ [])) (thing_read x told),
  )
