-- One change after another, and the changes of one cell.
use Rattle.std.proofs.Common.{◌≡◌, ℕ, ◌<◌, ◌≤◌, List, length, refl, sym, ap, ◌∙◌, subst, ⊎_elim, Option, None}
use Rattle.std.specs.Prelude.{slice_index_or, slice_set}
use Rattle.std.proofs.lemmas.Bool.{cases_eq, cases_lt}
use Rattle.std.proofs.lemmas.List.{get_or-set_same, get_or-set_other, length-set, get_or_past}
use Rattle.fmp_codes.specs.declared.numbers.Task.{Task}
use Rattle.fmp_rules.specs.declared.machine.TaskRecord.{TaskRecord}
use Rattle.fmp_rules.specs.World.{World, no_task, task, item, with_item}
use Rattle.fmp_rules.specs.Ordering.{with_task}
use Rattle.fmp_law_footprint.specs.Cells.{Cell, OfTask, CountsOf, WaitOf, LeftOf, SpotOf, ReadyOn, Shape, at, on, standing, tally}
use Rattle.fmp_law_footprint.specs.Shapes.{frame}
use Rattle.fmp_law_footprint.specs.Footprints.{InQueue, InTimed, Closed, Leaves, Orders, Moves}

-- If an item is put at a place where the same is seen of it as of the old one, the same is seen at every place.
pub seen_after : {X Y : Type 0} (see : X → Y) (blank : X) (xs : List X) (m : ℕ) (x : X) (n : ℕ) → (n ≡ m → see x ≡ see (slice_index_or xs m blank))
    → see (slice_index_or (slice_set xs m x) n blank) ≡ see (slice_index_or xs n blank)
seen_after see blank xs m x n here =
    ⊎_elim
    (λ (e : n ≡ m).
    ⊎_elim
    (λ (h : m < length xs). ap (λ i. see (slice_index_or (slice_set xs m x) i blank)) e ∙ ap see (get_or-set_same xs m x blank h) ∙ here e ∙ ap
    (λ i. see (slice_index_or xs i blank)) (sym e))
    (λ (h : length xs ≤ m).
    let past : length (slice_set xs m x) ≤ n = rw (length-set xs m x, e) h in
    let past_old : length xs ≤ n = rw e h in
    ap see (get_or_past (slice_set xs m x) n blank past ∙ sym (get_or_past xs n blank past_old)))
    (cases_lt m (length xs)))
    (λ (d : n ≡ m → ⊥). ap see (get_or-set_other xs m n x blank d))
    (cases_eq n m)

-- What holds of all items still holds of all after one is put at a place, if it holds of that one.
pub holds_after : {X : Type 0} (P : ℕ → X → Type 0) (blank : X) (xs : List X) (m : ℕ) (x : X) → P m x → ((n : ℕ) → P n (slice_index_or xs n blank)) → (n : ℕ)
    → P n (slice_index_or (slice_set xs m x) n blank)
holds_after P blank xs m x new old n =
    ⊎_elim
    (λ (e : n ≡ m).
    ⊎_elim
    (λ (h : m < length xs). subst (λ i. P i (slice_index_or (slice_set xs m x) i blank)) (sym e) (subst (P m) (sym (get_or-set_same xs m x blank h)) new))
    (λ (h : length xs ≤ m).
    let past : length (slice_set xs m x) ≤ n = rw (length-set xs m x, e) h in
    let past_old : length xs ≤ n = rw e h in
    subst (P n) (get_or_past xs n blank past_old ∙ sym (get_or_past (slice_set xs m x) n blank past)) (old n))
    (cases_lt m (length xs)))
    (λ (d : n ≡ m → ⊥). subst (P n) (sym (get_or-set_other xs m n x blank d)) (old n))
    (cases_eq n m)

-- what is seen of an item whose place is not in S stays
pub seen_but : {X Y : Type 0} (S : Cell → Type 0) (cell : ℕ → Cell) (see : X → Y) (blank : X) (xs : List X) (m : ℕ) (x : X)
    → ((S (cell m) → ⊥) → see x ≡ see (slice_index_or xs m blank))
    → (n : ℕ) → (S (cell n) → ⊥) → see (slice_index_or (slice_set xs m x) n blank) ≡ see (slice_index_or xs n blank)
seen_but S cell see blank xs m x same n off = seen_after see blank xs m x n (λ e. same (subst (λ i. S (cell i) → ⊥) e off))

-- What the task at a place may become: what S does not have of it stays, and S has all the places where it then stands.
pub record Becomes (S : Cell → Type 0) (n : ℕ) (old new : TaskRecord) : Type 0 where
  pub standing : (S (OfTask n) → ⊥) → standing new ≡ standing old
  pub tally : (S (CountsOf n) → ⊥) → tally new ≡ tally old
  pub wait : (S (WaitOf n) → ⊥) → new.wait ≡ old.wait
  pub ready : S (SpotOf n) → S (ReadyOn (on new.assigned))
  pub queue : S (SpotOf n) → InQueue S new.wait

-- The fields of a state.

module _ {Q : Type 0} (S : Cell → Type 0) (w : World Q) where
  pub leaves_all : Leaves S w w
  leaves_all c off = refl

  pub leaves_then : (u v : World Q) → Leaves S w u → Leaves S u v → Leaves S w v
  leaves_then u v a b c off = b c off ∙ a c off

  -- the order is none of the fields
  pub leaves_order : (x : Q) → Leaves S w (record w { order = x })
  leaves_order x (OfTask n) off = refl
  leaves_order x _ off = refl

  pub leaves_task : (t : Task) (r : TaskRecord) → Becomes S (at t) (task w t) r → Leaves S w (with_task w t r)
  leaves_task t r b (OfTask n) off = seen_but S OfTask standing no_task w.tasks (at t) r b.standing n off
  leaves_task t r b (CountsOf n) off = seen_but S CountsOf tally no_task w.tasks (at t) r b.tally n off
  leaves_task t r b (WaitOf n) off = seen_but S WaitOf (λ (x : TaskRecord). x.wait) no_task w.tasks (at t) r b.wait n off
  leaves_task t r b Shape off = λ i. record (frame w) { tasks = length-set w.tasks (at t) r i }
  leaves_task t r b _ off = refl

  pub leaves_left : (t : Task) (left : Option ℕ) → ((S (LeftOf (at t)) → ⊥) → left ≡ item None w.waits_left t.number)
      → Leaves S w (record w { waits_left = with_item w.waits_left t.number left })
  leaves_left t left same (LeftOf n) off = seen_but S LeftOf (λ (x : Option ℕ). x) None w.waits_left (at t) left same n off
  leaves_left t left same Shape off = λ i. record (frame w) { waits_left = length-set w.waits_left (at t) left i }
  leaves_left t left same _ off = refl

-- The fields and the order.

module _ {Q : Type 0} (Part : Cell → Type 0) (part : Q → (c : Cell) → Part c) (S : Cell → Type 0) (Inside : Q → Type 0) where
  pub moves_all : (w : World Q) → Moves Part part S Inside w w
  moves_all w g = record { closed = g.closed; inside = g.inside; leaves = leaves_all S w; spares = λ c off. refl }

  pub moves_then : (u v w : World Q) → Moves Part part S Inside u v → Moves Part part S Inside v w → Moves Part part S Inside u w
  moves_then u v w a b g =
      let x = a g in
      let y = b (record { closed = x.closed; inside = x.inside }) in
      record { closed = y.closed; inside = y.inside; leaves = leaves_then S u v w x.leaves y.leaves; spares = λ c off. y.spares c off ∙ x.spares c off }

  -- something changes besides the tasks
  pub moves_beside : (w v : World Q) → v.tasks ≡ w.tasks → v.waits_left ≡ w.waits_left → v.order ≡ w.order → Leaves S w v → Moves Part part S Inside w v
  moves_beside w v tasks left order leaves g = record {
    closed = subst (λ rs. Closed S rs v.waits_left) (sym tasks) (subst (λ ns. Closed S w.tasks ns) (sym left) g.closed);
    inside = subst Inside (sym order) g.inside;
    leaves = leaves;
    spares = λ c off. ap (λ q. part q c) order;
  }

  -- the order changes
  pub moves_order : (w : World Q) (x : Q) → (Closed S w.tasks w.waits_left → Orders Part part S Inside w.order x) → Moves Part part S Inside w (record w { order = x })
  moves_order w x orders g =
      let did = orders g.closed g.inside in
      record { closed = g.closed; inside = did.0; leaves = leaves_order S w x; spares = did.1 }

  pub moves_task : (w : World Q) (t : Task) (r : TaskRecord) → Becomes S (at t) (task w t) r → Moves Part part S Inside w (with_task w t r)
  moves_task w t r b g = record {
    closed = record {
      ready = holds_after (λ n x. S (SpotOf n) → S (ReadyOn (on x.assigned))) no_task w.tasks (at t) r b.ready g.closed.ready;
      queue = holds_after (λ n x. S (SpotOf n) → InQueue S x.wait) no_task w.tasks (at t) r b.queue g.closed.queue;
      timed = g.closed.timed;
    };
    inside = g.inside;
    leaves = leaves_task S w t r b;
    spares = λ c off. refl;
  }

  pub moves_left : (w : World Q) (t : Task) (left : Option ℕ) → ((S (LeftOf (at t)) → ⊥) → left ≡ item None w.waits_left t.number) → (S (SpotOf (at t)) → InTimed S left)
      → Moves Part part S Inside w (record w { waits_left = with_item w.waits_left t.number left })
  moves_left w t left same timed g = record {
    closed = record {
      ready = g.closed.ready;
      queue = g.closed.queue;
      timed = holds_after (λ n x. S (SpotOf n) → InTimed S x) None w.waits_left (at t) left timed g.closed.timed;
    };
    inside = g.inside;
    leaves = leaves_left S w t left same;
    spares = λ c off. refl;
  }
