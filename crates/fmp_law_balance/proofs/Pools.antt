-- Pools: a block was handed out once more than it was given back, or as often.
use Rattle.std.proofs.Common.{◌≡◌, ℕ, ◌+◌, ◌<◌, ◌≤◌, ◌==◌, ℤ, pos, negsuc, Bool, true, false, not, List, length, take, set, refl, sym, ap, ◌∙◌, subst, arith, Option, Some, None, ⊎_elim, position}
use Rattle.std.specs.Prelude.{if◌then◌else◌, is_some, is_none, unwrap_or, slice_index_or, slice_set, count_by}
use Rattle.std.proofs.lemmas.Bool.{cond_both, cases_eq, cases_lt, eq-eqb, ne_eqb, not-true, cond-false, false≢true, true≢false}
use Rattle.std.proofs.lemmas.List.{get_or-set_same, get_or-set_other, get_or_past, get_or-take, length-take}
use Rattle.std.proofs.lemmas.List.Quantifiers.{position-Some}
use Rattle.fmp_codes.specs.Numbers.{as_object}
use Rattle.fmp_codes.specs.declared.numbers.Proc.{Proc}
use Rattle.fmp_codes.specs.declared.numbers.Task.{Task}
use Rattle.fmp_codes.specs.declared.numbers.Object.{Object}
use Rattle.fmp_codes.specs.declared.calls.Call.{Call}
use Rattle.fmp_codes.specs.declared.calls.Call.TheVariants as call
use Rattle.fmp_codes.specs.declared.calls.SyncCall.TheVariants as sync
use Rattle.fmp_codes.specs.declared.calls.BufferCall.{BufferCall}
use Rattle.fmp_codes.specs.declared.calls.BufferCall.TheVariants as buffer
use Rattle.fmp_codes.specs.declared.codes.Code.{Code}
use Rattle.fmp_codes.specs.declared.codes.Code.TheVariants as code
use Rattle.fmp_codes.specs.declared.records.Answer.{Answer}
use Rattle.fmp_codes.specs.declared.records.Answer.TheVariants as answer
use Rattle.fmp_codes.specs.declared.records.Event.{Event}
use Rattle.fmp_codes.specs.declared.records.Event.TheVariants as event
use Rattle.fmp_codes.specs.declared.records.Record.{Record}
use Rattle.fmp_rules.specs.Effects.{Effect}
use Rattle.fmp_rules.specs.declared.machine.Pool.{Pool}
use Rattle.fmp_rules.specs.declared.machine.QueueKind.TheVariants as kind
use Rattle.fmp_rules.specs.declared.machine.Wait.TheVariants as wait
use Rattle.fmp_rules.specs.World.{World, first, runner_of}
use Rattle.fmp_rules.specs.Objects.{pool, free_block}
use Rattle.fmp_rules.specs.Ordering.{Ordering, queue, begin_wait}
use Rattle.fmp_rules.specs.Rows.{called, refused, plain, done_or_wait}
use Rattle.fmp_rules.specs.Arguments.{caller, object_named, is_zero, forever, ticks_of}
use Rattle.fmp_rules.specs.BufferCalls.{with_handed, given, returned, is_handed, block_of, tget_mpf, pget_mpf, rel_mpf, buffer_row}
use Rattle.fmp_rules.specs.Tick.{tick}
use Rattle.fmp_rules.specs.Step.{row_of, step}
use Rattle.fmp_law_safety.specs.Safe.{IsNumberOf}
use Rattle.fmp_law_safety.proofs.Items.{item_same, item_other}
use Rattle.fmp_law_balance.specs.Accepted.{is_accepted, accepted_value, one_if, names, is_block}
use Rattle.fmp_law_balance.specs.Pools.{gets, returns, given_back, handed_out}
use Rattle.fmp_law_balance.proofs.Objects.{object_known, by_object}
use Rattle.fmp_law_balance.proofs.Called.{refuses, by_called, not_accepted}
use Rattle.fmp_law_balance.proofs.LeavesCalls.{leaves_call}
use Rattle.fmp_law_balance.proofs.Ticks.{leaves_tick}
use Rattle.fmp_law_balance.proofs.Steps.{report, by_step}

-- Marks of blocks.

-- what holds of this block, and of all others
by_block : (P : ℕ → Bool → Type 0) (c b : ℕ) → P c true → ((c ≡ b → ⊥) → P b false) → P b (c == b)
by_block P c b same other =
    ⊎_elim (λ (e : c ≡ b). subst (P b) (sym (eq-eqb c b e)) (subst (λ x. P x true) e same)) (λ (d : c ≡ b → ⊥). subst (P b) (sym (ne_eqb c b d)) (other d))
    (cases_eq c b)

-- a block is marked
abbrev pub mark : List Bool → ℕ → ℕ
mark hs b = one_if (slice_index_or hs b false)

marked : (hs : List Bool) (c b : ℕ) → c < length hs → slice_index_or hs c false ≡ false → mark hs b + one_if (c == b) ≡ mark (set hs c true) b + 0
marked hs c b within free =
    by_block (λ x same. mark hs x + one_if same ≡ mark (set hs c true) x + 0) c b (rw (free, get_or-set_same hs c true false within) refl)
    (λ d. rw (get_or-set_other hs c b true false (λ e. d (sym e))) refl)

unmarked : (hs : List Bool) (c b : ℕ) → c < length hs → slice_index_or hs c false ≡ true → mark hs b + 0 ≡ mark (set hs c false) b + (if c == b then 1 else 0)
unmarked hs c b within out =
    by_block (λ x same. mark hs x + 0 ≡ mark (set hs c false) x + (if same then 1 else 0)) c b (rw (out, get_or-set_same hs c false false within) refl)
    (λ d. rw (get_or-set_other hs c b false false (λ e. d (sym e))) refl)

-- a block that is one of the first n, and its mark
record IsMarked (n : ℕ) (hs : List Bool) (c : ℕ) (b : Bool) : Type 0 where
  within : c < length hs
  mark : slice_index_or hs c false ≡ b

marked_among : (n : ℕ) (hs : List Bool) (c : ℕ) (b : Bool) → c < length (take n hs) → slice_index_or (take n hs) c false ≡ b → IsMarked n hs c b
marked_among n hs c b below e =
    let few : c < n = omega (arith, below, length-take n hs) in
    record { within = omega (arith, below, length-take n hs); mark = sym (get_or-take n hs c false few) ∙ e }

-- the least block that is free
free_among : (n : ℕ) (hs : List Bool) → is_some (position not (take n hs)) ≡ true → IsMarked n hs (unwrap_or (position not (take n hs)) 0) false
free_among n hs e = go (position not (take n hs)) refl e
  where
    go : (o : Option ℕ) → position not (take n hs) ≡ o → is_some o ≡ true → IsMarked n hs (unwrap_or o 0) false
    go None i bad = absurd (false≢true bad)
    go (Some c) i _ = let found = position-Some not (take n hs) c false i in marked_among n hs c false found.0 (not-true _ found.1)

-- a block that is handed out
out_among : (n : ℕ) (hs : List Bool) (c : ℕ) → slice_index_or (take n hs) c false ≡ true → IsMarked n hs c true
out_among n hs c e =
    ⊎_elim (λ (h : c < length (take n hs)). marked_among n hs c true h e)
    (λ (h : length (take n hs) ≤ c). absurd (false≢true (sym (get_or_past (take n hs) c false h) ∙ e))) (cases_lt c (length (take n hs)))

module _ {Q : Type 0} (w : World Q) (m : Object) (b : ℕ) where
  -- from w to v, where this is told
  abbrev pub Hands : World Q → Record → Type 0
  Hands v r = mark (pool w m).handed b + handed_out m b r ≡ mark (pool v m).handed b + given_back m b r

  -- what is not accepted hands nothing out and gives nothing back
  nothing_handed : (r : Record) → is_accepted r.answer ≡ false → Hands w r
  nothing_handed r e =
      let none : given_back m b r ≡ 0 = cond_both (is_block b (returns m r.event)) _ _ (λ n. n ≡ 0) (λ _. ap one_if e) (λ _. refl) in
      let neither : handed_out m b r ≡ 0 =
      cond_both (gets m r.event) _ _ (λ n. n ≡ 0) (λ _. no_value r.answer e)
      (λ _. cond_both (is_some (returns m r.event)) _ _ (λ n. n ≡ 0) (λ _. cond-false (is_accepted r.answer) (count_by (λ x. is_block b x.value) r.releases) 0 e) (λ _. refl)) in
      rw (none, neither) refl
    where
      no_value : (a : Answer) → is_accepted a ≡ false → one_if (is_block b (accepted_value a)) ≡ 0
      no_value (answer.Done code.Accepted v) no_e = absurd (true≢false no_e)
      no_value _ no_e = refl

  -- the pools stay, and nothing is told of one
  pub untouched : (v : World Q) → v.pools ≡ w.pools → mark (pool w m).handed b + 0 ≡ mark (pool v m).handed b + 0
  untouched v e = ap (λ (xs : List Pool). mark (pool (record w { pools = xs }) m).handed b + 0) (sym e)

module _ {Q : Type 0} (k : Ordering Q) (w : World Q) (p : Proc) (b : ℕ) (o : Object) (within : IsNumberOf w.pools o.number) where
  pool_here : (c : ℕ) (h : Bool) → (pool (with_handed w o c h) o).handed ≡ slice_set (pool w o).handed c h
  pool_here c h = ap (λ (x : Pool). x.handed) (item_same _ w.pools o.number _ within.0 within.1)

  pool_there : (m : Object) (c : ℕ) (h : Bool) → (o.number ≡ m.number → ⊥) → pool (with_handed w o c h) m ≡ pool w m
  pool_there m c h d = item_other _ w.pools o.number _ m.number m.least o.least (λ e. d (sym e))

  -- what a call does that asks for a block of this pool or of another
  abbrev Get : World Q × Effect → Object → Bool → Type 0
  Get did m same =
      mark (pool w m).handed b + (if same then one_if (is_block b (accepted_value did.1.answer)) else 0) ≡ mark (pool did.0 m).handed b + 0

  given_law : is_some (free_block w o) ≡ true → (m : Object) → Get (given w o (unwrap_or (free_block w o) 0)) m (o.number == m.number)
  given_law e m =
      let c = unwrap_or (free_block w o) 0 in
      let free = free_among (pool w o).setup.blocks (pool w o).handed e in
      by_object (Get (given w o c)) o m (rw (pool_here c true) (marked (pool w o).handed c b free.within free.mark))
      (λ d. ap (λ (x : Pool). mark x.handed b + 0) (sym (pool_there m c true d)))

  nothing_got : (v : World Q) (m : Object) (same : Bool) → v.pools ≡ w.pools → mark (pool w m).handed b + (if same then 0 else 0) ≡ mark (pool v m).handed b + 0
  nothing_got v m true e = untouched w m b v e
  nothing_got v m false e = untouched w m b v e

  given_or_waits_law : (m : Object) (timeout : ℤ) →
      Get (done_or_wait k w p (is_some (free_block w o)) (given w o (unwrap_or (free_block w o) 0)) (wait.Pool o) timeout) m (o.number == m.number)
  given_or_waits_law m timeout =
      cond_both (is_some (free_block w o)) _ _ (λ did. Get did m (o.number == m.number)) (λ e. given_law e m)
      (λ _. cond_both (is_zero timeout) _ _ (λ did. Get did m (o.number == m.number)) (λ _. nothing_got w m (o.number == m.number) refl)
      (λ _. nothing_got (begin_wait k w (caller w p) (wait.Pool o) (ticks_of timeout)) m (o.number == m.number) refl))

  -- what a return of this block does, to this pool or to another
  abbrev Return : ℕ → World Q × Effect → Object → Bool → Type 0
  Return c did m same =
      mark (pool w m).handed b
      + (if is_some (if◌then◌else◌ {A = Option ℤ} same (Some (pos c)) None) then (if is_accepted did.1.answer then count_by (λ x. is_block b x.value) did.1.releases else 0) else 0)
      ≡ mark (pool did.0 m).handed b + (if is_block b (if same then Some (pos c) else None) then one_if (is_accepted did.1.answer) else 0)

  one_counted : (n : ℕ) (same : Bool) → n + (0 + (if same then 1 else 0)) ≡ n + (if same then 1 else 0)
  one_counted n true = refl
  one_counted n false = refl

  returned_law : (c : ℕ) → slice_index_or (take (pool w o).setup.blocks (pool w o).handed) c false ≡ true → (t : Option Task) (m : Object) →
      Return c (returned k w o c t) m (o.number == m.number)
  returned_law c e None m =
      let out = out_among (pool w o).setup.blocks (pool w o).handed c e in
      by_object (Return c (returned k w o c None)) o m (rw (pool_here c false) (unmarked (pool w o).handed c b out.within out.mark))
      (λ d. ap (λ (x : Pool). mark x.handed b + 0) (sym (pool_there m c false d)))
  returned_law c e (Some t) m =
      by_object (Return c (returned k w o c (Some t))) o m (one_counted (mark (pool w o).handed b) (c == b)) (λ d. refl)

module _ {Q : Type 0} (k : Ordering Q) (w : World Q) (p : Proc) (m : Object) (b : ℕ) (few : length w.pools ≤ 32) where
  abbrev named_by : ℤ → Object
  named_by id = unwrap_or (object_named w.pools id) (as_object 1)

  abbrev CallHands : Call → World Q × Effect → Type 0
  CallHands c did = Hands w m b did.0 (report (event.Call p c) (runner_of w p) did.1)

  refused_hands : (c : Call) (x : Code) → refuses x ≡ true → CallHands c (w, refused x)
  refused_hands c x e = nothing_handed w m b (report (event.Call p c) (runner_of w p) (refused x)) (not_accepted x e)

  abbrev GetBy : ℤ → World Q × Effect → Type 0
  GetBy id did =
      mark (pool w m).handed b + (if names m id then one_if (is_block b (accepted_value did.1.answer)) else 0) ≡ mark (pool did.0 m).handed b + 0

  gets_law : (id timeout : ℤ) → is_some (object_named w.pools id) ≡ true →
      GetBy id (done_or_wait k w p (is_some (free_block w (named_by id))) (given w (named_by id) (unwrap_or (free_block w (named_by id)) 0)) (wait.Pool (named_by id)) timeout)
  gets_law id timeout known =
      let o = object_known w.pools id few known in
      rw (o.names m) (given_or_waits_law k w p b (named_by id) o.within m timeout)

  polls_law : (id : ℤ) → is_some (object_named w.pools id) ≡ true → is_none (free_block w (named_by id)) ≡ false →
      GetBy id (given w (named_by id) (unwrap_or (free_block w (named_by id)) 0))
  polls_law id known free =
      let o = object_known w.pools id few known in
      rw (o.names m) (given_law k w p b (named_by id) o.within (there (free_block w (named_by id)) free) m)
    where
      there : (o : Option ℕ) → is_none o ≡ false → is_some o ≡ true
      there None bad = absurd (true≢false bad)
      there (Some c) _ = refl

  returns_law : (id blk : ℤ) → is_some (object_named w.pools id) ≡ true → is_handed w (named_by id) blk ≡ true → (t : Option Task) →
      CallHands (call.Buffer (buffer.RelMpf id blk)) (returned k w (named_by id) (block_of blk) t)
  returns_law id (negsuc c) known out t = absurd (false≢true out)
  returns_law id (pos c) known out t =
      let o = object_known w.pools id few known in
      rw (o.names m) (returned_law k w p b (named_by id) o.within c out t m)

  hands_buffer : (c : BufferCall) → CallHands (call.Buffer c) (called w p (buffer_row k w p c))
  unfolding tget_mpf pget_mpf rel_mpf
  hands_buffer (buffer.GetMpf id) =
      by_called w p (CallHands (call.Buffer (buffer.GetMpf id))) (tget_mpf k w p id forever) tt (refused_hands (call.Buffer (buffer.GetMpf id))) (λ a. gets_law id forever a.known)
  hands_buffer (buffer.TgetMpf id timeout) =
      by_called w p (CallHands (call.Buffer (buffer.TgetMpf id timeout))) (tget_mpf k w p id timeout) tt (refused_hands (call.Buffer (buffer.TgetMpf id timeout)))
      (λ a. gets_law id timeout a.known)
  hands_buffer (buffer.PgetMpf id) =
      by_called w p (CallHands (call.Buffer (buffer.PgetMpf id))) (pget_mpf w id) (refl, tt) (refused_hands (call.Buffer (buffer.PgetMpf id))) (λ a. polls_law id a.known a.errors.0)
  hands_buffer (buffer.RelMpf id blk) =
      by_called w p (CallHands (call.Buffer (buffer.RelMpf id blk))) (rel_mpf k w id blk) tt (refused_hands (call.Buffer (buffer.RelMpf id blk)))
      (λ a. returns_law id blk a.known a.proper (first (queue k w kind.Pool (named_by id))))
  hands_buffer c = untouched w m b (called w p (buffer_row k w p c)).0 (leaves_call k w p (call.Buffer c)).pools

  hands_call : (c : Call) → CallHands c (called w p (row_of k w p c))
  hands_call (call.Buffer c) = hands_buffer c
  hands_call (call.Sync (sync.SigSem id)) = untouched w m b (called w p (row_of k w p (call.Sync (sync.SigSem id)))).0 (leaves_call k w p (call.Sync (sync.SigSem id))).pools
  hands_call (call.Sync c) = untouched w m b (called w p (row_of k w p (call.Sync c))).0 (leaves_call k w p (call.Sync c)).pools
  hands_call c = untouched w m b (called w p (row_of k w p c)).0 (leaves_call k w p c).pools

-- each step keeps what was handed out beside what was given back
pub hands_step : {Q : Type 0} (k : Ordering Q) (m : Object) (b : ℕ) (w : World Q) → length w.pools ≤ 32 → (e : Event) → Hands w m b (step k w e).0 (step k w e).1
hands_step k m b w few e =
    by_step k w (Hands w m b) (λ v cs r x ps h. h) (λ p c. hands_call k w p m b few c)
    (λ p c none. nothing_handed w m b (report (event.Call p c) (runner_of w p) (plain answer.Idle)) refl)
    (λ p. untouched w m b (tick k w p).0 (leaves_tick k w p).pools) (λ e r a no_call no_e. nothing_handed w m b (report e r (plain a)) no_e) e
