-- Several releases in one event: of the waiters of an eventflag, and of those whose time is over.
use Rattle.std.proofs.Common.{◌≡◌, ℕ, pos, ◌-◌, ◌==◌, Bool, true, false, ◌||◌, inl, List, [], ◌∷◌, refl, sym, ap, ◌∙◌, subst, Option, Some, None}
use Rattle.std.specs.Prelude.{All, if◌then◌else◌, slice_index_or}
use Rattle.std.proofs.lemmas.Bool.{eqb-true, cond_both, ne_eqb, false≢true}
use Rattle.std.proofs.lemmas.List.{length-set}
use Rattle.std.proofs.lemmas.List.Elements.{All-nil, All-cons, All-head, All-tail}
use Rattle.std.proofs.lemmas.Option.{none-some}
use Rattle.fmp_codes.specs.declared.numbers.Task.{Task}
use Rattle.fmp_codes.specs.declared.numbers.Object.{Object}
use Rattle.fmp_codes.specs.declared.calls.Mode.{Mode}
use Rattle.fmp_codes.specs.declared.codes.Code.TheVariants as code
use Rattle.fmp_codes.specs.declared.records.Answer.TheVariants as answer
use Rattle.fmp_codes.specs.declared.records.Event.{Event}
use Rattle.fmp_codes.specs.declared.records.Release.{Release}
use Rattle.fmp_codes.proofs.Same.{tasks_same}
use Rattle.fmp_rules.specs.declared.machine.TaskRecord.{TaskRecord}
use Rattle.fmp_rules.specs.declared.machine.Wait.{Wait}
use Rattle.fmp_rules.specs.declared.machine.Wait.TheVariants as wait
use Rattle.fmp_rules.specs.World.{World, no_task, item, task}
use Rattle.fmp_rules.specs.Objects.{holds}
use Rattle.fmp_rules.specs.Ordering.{Ordering}
use Rattle.fmp_rules.specs.Tasks.{make_ready}
use Rattle.fmp_rules.specs.SyncCalls.{is_met, cleared, served}
use Rattle.fmp_rules.specs.Tick.{code_of, released}
use Rattle.fmp_law_safety.proofs.Items.{item_after, item_put, item_other}
use Rattle.fmp_setup.specs.Setup.{Setup}
use Rattle.fmp_rules.specs.Tick.{is_over}
use Rattle.fmp_law_balance.specs.Waits.Asked.{OpenWait}
use Rattle.fmp_law_balance.specs.Waits.Waits.{OpenWaits, is_released}
use Rattle.fmp_law_balance.specs.Waits.Releases.{sets, Gives, Fits, NoneTwice}
use Rattle.fmp_law_balance.specs.Waits.Laws.{Waits}
use Rattle.fmp_law_balance.proofs.waits.Named.{HasOpen, open_of}
use Rattle.fmp_law_balance.proofs.waits.Words.{SameCounts, IsKept, same_counts_then, counts_wait, report_ended}

-- what is open when this task is released
abbrev without : OpenWaits → Task → OpenWaits
without pending u t = if u.number == t.number then None else pending t

-- what either of two things leaves
pub one_by_one : {A : Type 0} (a b : Bool) (x o : A) → (if b then x else (if a then x else o)) ≡ (if a || b then x else o)
one_by_one true true x o = refl
one_by_one true false x o = refl
one_by_one false b x o = refl

still_open : {A : Type 0} (b : Bool) (o : Option A) (a : A) → (if b then None else o) ≡ Some a → o ≡ Some a
still_open true o a e = absurd (none-some a e)
still_open false o a e = e

-- the released task has an open wait, of which and of the release this is so
abbrev pub Ends : (OpenWait → Release → Type 0) → OpenWaits → Release → Type 0
Ends So pending x = (o : OpenWait) × (pending x.task ≡ Some o) × So o x

-- what ends a wait that is still open when u is released ends one that was open before
ends_before : (So : OpenWait → Release → Type 0) (pending : OpenWaits) (u : Task) (xs : List Release) → All (Ends So (without pending u)) xs → All (Ends So pending) xs
ends_before So pending u xs all i d below =
    let x = all i d below in
    (x.0, still_open _ _ x.0 x.1, x.2)

module _ {Q : Type 0} (config : Setup) (k : Ordering Q) where
  counts_ready : (w : World Q) (u : Task) → SameCounts w (make_ready k w u)
  counts_ready w u = counts_wait w u (record (task w u) { wait = None }) None w.order

  report_ready : (w : World Q) (pending : OpenWaits) → ((t : Task) → IsKept config w t (pending t)) → (u t : Task) → IsKept config (make_ready k w u) t (without pending u t)
  report_ready w pending report u t = report_ended config w pending report u (record (task w u) { wait = None }) w.order refl refl t

  -- who does not wait does not wait when another one is released
  still_none : (w : World Q) (u t : Task) → (task w t).wait ≡ None → (task (make_ready k w u) t).wait ≡ None
  still_none w u t e = item_after no_task w.tasks u.number (record (task w u) { wait = None }) (λ (r : TaskRecord). r.wait ≡ None) t.number (λ i. refl) e

  none_now : (w : World Q) (u : Task) → (task (make_ready k w u) u).wait ≡ None
  none_now w u = item_put no_task w.tasks u.number (record (task w u) { wait = None }) (λ (r : TaskRecord). r.wait ≡ None) refl refl

-- The waiters of an eventflag.

-- a wait that is met is one for bits that are set
met_parts : (x : ℕ) (o : Option Wait) → is_met x o ≡ true → (g : Object) × (y : ℕ) × (m : Mode) × (o ≡ Some (wait.Eventflag g y m)) × (holds x y m ≡ true)
met_parts x (Some (wait.Eventflag g y m)) e = (g, y, m, refl, e)
met_parts x (Some wait.Sleep) e = absurd (false≢true e)
met_parts x _ e = absurd (false≢true e)

-- who of these waits for a flag waits for this one
abbrev pub AreForFlag : {Q : Type 0} → World Q → Object → List Task → Type 0
AreForFlag w f ts = All (λ t. (g : Object) (y : ℕ) (m : Mode) → (task w t).wait ≡ Some (wait.Eventflag g y m) → g ≡ f) ts

module _ {Q : Type 0} (config : Setup) (k : Ordering Q) (f : Object) where
  pub served_reported : (w : World Q) (pending : OpenWaits) → ((t : Task) → IsKept config w t (pending t)) → (x : ℕ) (ts : List Task) →
      (t : Task) → IsKept config (served k w f x ts).0 t (if is_released t (served k w f x ts).1 then None else pending t)
  served_reported w pending report x [] t = report t
  served_reported w pending report x (u ∷ ts) t =
      cond_both (is_met x (task w u).wait) _ _ (λ (did : World Q × List Release). IsKept config did.0 t (if is_released t did.1 then None else pending t))
      (λ _.
      let rest = served k (make_ready k w u) f (cleared w f x) ts in
      subst (IsKept config rest.0 t) (one_by_one (u.number == t.number) (is_released t rest.1) None (pending t))
      (served_reported (make_ready k w u) (without pending u) (report_ready config k w pending report u) (cleared w f x) ts t))
      (λ _. served_reported w pending report x ts t)

  pub served_counts : (w : World Q) (x : ℕ) (ts : List Task) → SameCounts w (served k w f x ts).0
  served_counts w x [] = (refl, refl, length-set w.eventflags (f.number - 1) _, refl)
  served_counts w x (u ∷ ts) =
      cond_both (is_met x (task w u).wait) _ _ (λ (did : World Q × List Release). SameCounts w did.0)
      (λ _. same_counts_then w (make_ready k w u) (served k (make_ready k w u) f (cleared w f x) ts).0 (counts_ready config k w u) (served_counts (make_ready k w u) (cleared w f x) ts)) (λ _. served_counts w x ts)

  -- who does not wait is not released
  served_none : (w : World Q) (t : Task) → (task w t).wait ≡ None → (x : ℕ) (ts : List Task) → is_released t (served k w f x ts).1 ≡ false
  served_none w t none x [] = refl
  served_none w t none x (u ∷ ts) =
      cond_both (is_met x (task w u).wait) _ _ (λ (did : World Q × List Release). is_released t did.1 ≡ false)
      (λ met.
      let parts = met_parts x (task w u).wait met in
      let other : u.number ≡ t.number → ⊥ = λ e. none-some (wait.Eventflag parts.0 parts.1 parts.2) (sym none ∙ ap (λ (v : Task). (task w v).wait) (sym (tasks_same u t e)) ∙ parts.3) in
      ap (λ b. b || is_released t (served k (make_ready k w u) f (cleared w f x) ts).1) (ne_eqb u.number t.number other)
      ∙ served_none (make_ready k w u) t (still_none config k w u t none) (cleared w f x) ts)
      (λ _. served_none w t none x ts)

  pub served_once : (w : World Q) (x : ℕ) (ts : List Task) → NoneTwice (served k w f x ts).1
  served_once w x [] = tt
  served_once w x (u ∷ ts) =
      cond_both (is_met x (task w u).wait) _ _ (λ (did : World Q × List Release). NoneTwice did.1)
      (λ _. (served_none (make_ready k w u) u (none_now config k w u) (cleared w f x) ts, served_once (make_ready k w u) (cleared w f x) ts)) (λ _. served_once w x ts)

  module _ (e : Event) (set : sets f e ≡ true) where
    abbrev pub ByCall : OpenWait → Release → Type 0
    ByCall o x = Fits config o e (answer.Done code.Accepted None) x

    served_one : (w : World Q) (pending : OpenWaits) → ((t : Task) → IsKept config w t (pending t)) → (x : ℕ) (u : Task) →
        ((g : Object) (y : ℕ) (m : Mode) → (task w u).wait ≡ Some (wait.Eventflag g y m) → g ≡ f) → is_met x (task w u).wait ≡ true →
        Ends ByCall pending (record { task = u; code = code.Accepted; value = Some (pos x) })
    served_one w pending report x u here met =
        let parts = met_parts x (task w u).wait met in
        let was : HasOpen (pending u) (wait.Eventflag parts.0 parts.1 parts.2) _ _ = open_of (pending u) (task w u).wait _ _ (report u).0 (wait.Eventflag parts.0 parts.1 parts.2) parts.3 in
        let this : sets parts.0 e ≡ true = subst (λ (g : Object). sets g e ≡ true) (sym (here parts.0 parts.1 parts.2 parts.3)) set in (
          was.what,
          was.is,
          inl (record { accepted = refl; code = refl; given = subst (λ y. Gives e u y (Some (pos x))) (sym was.wait) (this, (x, refl, parts.4)) }),
        )

    for_flag_after : (w : World Q) (u : Task) (ts : List Task) → AreForFlag w f ts → AreForFlag (make_ready k w u) f ts
    for_flag_after w u ts all i d below g y m =
        item_after no_task w.tasks u.number (record (task w u) { wait = None }) (λ (r : TaskRecord). r.wait ≡ Some (wait.Eventflag g y m) → g ≡ f) _
        (λ _ h. absurd (none-some _ h)) (all i d below g y m)

    pub served_fit : (w : World Q) (pending : OpenWaits) → ((t : Task) → IsKept config w t (pending t)) → (x : ℕ) (ts : List Task) → AreForFlag w f ts → All (Ends ByCall pending) (served k w f x ts).1
    served_fit w pending report x [] all = All-nil (Ends ByCall pending)
    served_fit w pending report x (u ∷ ts) all =
        let P : Task → Type 0 = λ t. (g : Object) (y : ℕ) (m : Mode) → (task w t).wait ≡ Some (wait.Eventflag g y m) → g ≡ f in
        let here = All-head P u ts all in
        let others = All-tail P u ts all in
        cond_both (is_met x (task w u).wait) _ _ (λ (did : World Q × List Release). All (Ends ByCall pending) did.1)
        (λ met.
        let v : World Q = make_ready k w u in
        All-cons (Ends ByCall pending) (record { task = u; code = code.Accepted; value = Some (pos x) }) (served k v f (cleared w f x) ts).1 (served_one w pending report x u here met)
        (ends_before ByCall pending u _ (served_fit v (without pending u) (report_ready config k w pending report u) (cleared w f x) ts (for_flag_after w u ts others))))
        (λ _. served_fit w pending report x ts others)

-- Those whose time is over.

-- the wait of a task whose ticks are over ends so
abbrev pub IsDue : OpenWait → Release → Type 0
IsDue o x = (o.left ≡ Some 0) × (x.code ≡ code_of (Some o.wait)) × (x.value ≡ None)

-- each task stands here once
abbrev pub Distinct : List Task → Type 0
Distinct [] = Unit {0}
Distinct (t ∷ ts) = All (λ u. u.number ≡ t.number → ⊥) ts × Distinct ts

module _ {Q : Type 0} (config : Setup) (k : Ordering Q) where
  pub released_reported : (w : World Q) (pending : OpenWaits) → ((t : Task) → IsKept config w t (pending t)) → (ts : List Task) →
      (t : Task) → IsKept config (released k w ts).0 t (if is_released t (released k w ts).1 then None else pending t)
  released_reported w pending report [] t = report t
  released_reported w pending report (u ∷ ts) t =
      let rest = released k (make_ready k w u) ts in
      subst (IsKept config rest.0 t) (one_by_one (u.number == t.number) (is_released t rest.1) None (pending t))
      (released_reported (make_ready k w u) (without pending u) (report_ready config k w pending report u) ts t)

  pub released_counts : (w : World Q) (ts : List Task) → SameCounts w (released k w ts).0
  released_counts w [] = (refl, refl, refl, refl)
  released_counts w (u ∷ ts) = same_counts_then w (make_ready k w u) (released k (make_ready k w u) ts).0 (counts_ready config k w u) (released_counts (make_ready k w u) ts)

  released_others : (w : World Q) (t : Task) (ts : List Task) → All (λ u. u.number ≡ t.number → ⊥) ts → is_released t (released k w ts).1 ≡ false
  released_others w t [] all = refl
  released_others w t (u ∷ ts) all =
      let P : Task → Type 0 = λ v. v.number ≡ t.number → ⊥ in
      ap (λ b. b || is_released t (released k (make_ready k w u) ts).1) (ne_eqb u.number t.number (All-head P u ts all))
      ∙ released_others (make_ready k w u) t ts (All-tail P u ts all)

  pub released_once : (w : World Q) (ts : List Task) → Distinct ts → NoneTwice (released k w ts).1
  released_once w [] distinct = tt
  released_once w (u ∷ ts) distinct = (released_others (make_ready k w u) u ts distinct.0, released_once (make_ready k w u) ts distinct.1)

  none_left : (o : Option ℕ) → is_over o ≡ true → o ≡ Some 0
  none_left None e = absurd (false≢true e)
  none_left (Some n) e = ap Some (eqb-true n 0 e)

  released_one : (w : World Q) (pending : OpenWaits) → ((t : Task) → IsKept config w t (pending t)) → (u : Task) → is_over (item None w.waits_left u.number) ≡ true →
      Ends IsDue pending (record { task = u; code = code_of (task w u).wait; value = None })
  released_one w pending report u over = go (pending u) refl (report u).0
    where
      go : (x : Option OpenWait) → pending u ≡ x → Waits x (task w u).wait (item None w.waits_left u.number) (task w u).assigned → Ends IsDue pending (record { task = u; code = code_of (task w u).wait; value = None })
      go None is h = absurd (none-some 0 (sym h.left ∙ none_left (item None w.waits_left u.number) over))
      go (Some o) is h = (o, is, (sym h.left ∙ none_left (item None w.waits_left u.number) over, ap code_of h.wait, refl))

  pub released_fit : (w : World Q) (pending : OpenWaits) → ((t : Task) → IsKept config w t (pending t)) → (ts : List Task) → Distinct ts → All (λ t. is_over (item None w.waits_left t.number) ≡ true) ts →
      All (Ends IsDue pending) (released k w ts).1
  released_fit w pending report [] distinct all = All-nil (Ends IsDue pending)
  released_fit w pending report (u ∷ ts) distinct all =
      let P : Task → Type 0 = λ t. is_over (item None w.waits_left t.number) ≡ true in
      let v : World Q = make_ready k w u in
      All-cons (Ends IsDue pending) (record { task = u; code = code_of (task w u).wait; value = None }) (released k v ts).1 (released_one w pending report u (All-head P u ts all))
      (ends_before IsDue pending u _
      (released_fit v (without pending u) (report_ready config k w pending report u) ts distinct.1
      (λ i d below.
      let t : Task = slice_index_or ts i d in
      subst (λ o. is_over o ≡ true) (sym (item_other None w.waits_left u.number None t.number t.least u.least (distinct.0 i d below))) (All-tail P u ts all i d below))))
