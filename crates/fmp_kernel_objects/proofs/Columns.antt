-- What is told of all objects of a kind, field by field: a look-up of it, and a change of one object.
use Rattle.std.proofs.Common.{◌≡◌, ℕ, List, [], ◌∷◌, get_or, set, map, refl, sym, ap, ◌∙◌}
use Rattle.std.proofs.lemmas.List.{map-id, map-set, set-get_or}
use Rattle.std.proofs.lemmas.Simd.{map-map}
use Rattle.std.proofs.lemmas.Option.{unwrap_or-slice_get}
use Rattle.std.proofs.Math.ListN.{get_or-map}
use Rattle.fmp_rules.specs.Objects.{blank_semaphore, blank_eventflag, no_data_queue, blank_pool}
use Rattle.fmp_sem.specs.Semaphores.{SemaphoreState}
use Rattle.fmp_flag.specs.Eventflags.{EventflagState}
use Rattle.fmp_dtq.specs.DataQueue.{DataQueue}
use Rattle.fmp_mpf.specs.MemoryPool.{MemoryPool}
use Rattle.fmp_kernel_objects.specs.Rows.{rows_of, with_values, with_senders, with_receivers}
use Rattle.fmp_kernel_objects.specs.Kinds.{no_semaphore, no_eventflag, no_queue, no_pool}

pub changed : {X Y : Type 0} (f : X → Y) (xs : List X) (i : ℕ) (x : X) → map f (set xs i x) ≡ set (map f xs) i (f x)
changed f xs i x = map-set f xs i x

pub kept : {X : Type 0} (xs : List X) (i : ℕ) (x : X) → set xs i (get_or xs i x) ≡ xs
kept = set-get_or

pub semaphore_at : (ss : List SemaphoreState) (i : ℕ) → (get_or ss i no_semaphore).semaphore ≡ get_or (map (λ s. s.semaphore) ss) i blank_semaphore
semaphore_at ss i = sym (get_or-map (λ s. s.semaphore) ss i no_semaphore)

pub semaphore_waiters_at : (ss : List SemaphoreState) (i : ℕ) → (get_or ss i no_semaphore).waiters ≡ get_or (map (λ s. s.waiters) ss) i []
semaphore_waiters_at ss i = sym (get_or-map (λ s. s.waiters) ss i no_semaphore)

pub eventflag_at : (fs : List EventflagState) (i : ℕ) → (get_or fs i no_eventflag).eventflag ≡ get_or (map (λ f. f.eventflag) fs) i blank_eventflag
eventflag_at fs i = sym (get_or-map (λ f. f.eventflag) fs i no_eventflag)

pub eventflag_waiters_at : (fs : List EventflagState) (i : ℕ) → (get_or fs i no_eventflag).waiters ≡ get_or (map (λ f. f.waiters) fs) i []
eventflag_waiters_at fs i = sym (get_or-map (λ f. f.waiters) fs i no_eventflag)

pub setup_at : (qs : List DataQueue) (i : ℕ) → (get_or qs i no_queue).setup ≡ get_or (map (λ q. q.setup) qs) i no_data_queue
setup_at qs i = sym (get_or-map (λ q. q.setup) qs i no_queue)

pub values_at : (qs : List DataQueue) (i : ℕ) → (get_or qs i no_queue).values ≡ get_or (map (λ q. q.values) qs) i []
values_at qs i = sym (get_or-map (λ q. q.values) qs i no_queue)

pub senders_at : (qs : List DataQueue) (i : ℕ) → (get_or qs i no_queue).senders ≡ get_or (map (λ q. q.senders) qs) i []
senders_at qs i = sym (get_or-map (λ q. q.senders) qs i no_queue)

pub receivers_at : (qs : List DataQueue) (i : ℕ) → (get_or qs i no_queue).receivers ≡ get_or (map (λ q. q.receivers) qs) i []
receivers_at qs i = sym (get_or-map (λ q. q.receivers) qs i no_queue)

pub pool_at : (ms : List MemoryPool) (i : ℕ) → (get_or ms i no_pool).pool ≡ get_or (map (λ m. m.pool) ms) i blank_pool
pool_at ms i = sym (get_or-map (λ m. m.pool) ms i no_pool)

pub pool_waiters_at : (ms : List MemoryPool) (i : ℕ) → (get_or ms i no_pool).waiters ≡ get_or (map (λ m. m.waiters) ms) i []
pool_waiters_at ms i = sym (get_or-map (λ m. m.waiters) ms i no_pool)

pub ruleset columns = (
  unwrap_or-slice_get,
  changed,
  kept,
  semaphore_at,
  semaphore_waiters_at,
  eventflag_at,
  eventflag_waiters_at,
  setup_at,
  values_at,
  senders_at,
  receivers_at,
  pool_at,
  pool_waiters_at,
)

-- a field of what is made of each setup
pub of_each : {X Y Z : Type 0} (g : Y → Z) (f : X → Y) (xs : List X) → map g (map f xs) ≡ map (λ x. g (f x)) xs
of_each g f xs = map-map g f xs

pub as_they_are : {X : Type 0} (xs : List X) → map (λ x. x) xs ≡ xs
as_they_are xs = map-id xs

pub ruleset made = (of_each, as_they_are)

-- the rows of two columns of a list
rows_told : {A B X Y : Type 0} (make : A → B → Y) (f : X → A) (g : X → B) (xs : List X) → rows_of make (map f xs) (map g xs) ≡ map (λ x. make (f x) (g x)) xs
rows_told make f g [] = refl
rows_told {A} {B} {X} {Y} make f g (x ∷ xs) = ap (λ (ys : List Y). make (f x) (g x) ∷ ys) (rows_told make f g xs)

pub semaphores_told : (xs : List SemaphoreState) → rows_of (λ s es. record { semaphore = s; waiters = es }) (map (λ s. s.semaphore) xs) (map (λ s. s.waiters) xs) ≡ xs
semaphores_told xs = rows_told (λ s es. record { semaphore = s; waiters = es }) (λ (s : SemaphoreState). s.semaphore) (λ s. s.waiters) xs ∙ map-id xs

pub eventflags_told : (xs : List EventflagState) → rows_of (λ f es. record { eventflag = f; waiters = es }) (map (λ f. f.eventflag) xs) (map (λ f. f.waiters) xs) ≡ xs
eventflags_told xs = rows_told (λ f es. record { eventflag = f; waiters = es }) (λ (f : EventflagState). f.eventflag) (λ f. f.waiters) xs ∙ map-id xs

pub pools_told : (xs : List MemoryPool) → rows_of (λ m es. record { pool = m; waiters = es }) (map (λ m. m.pool) xs) (map (λ m. m.waiters) xs) ≡ xs
pools_told xs = rows_told (λ m es. record { pool = m; waiters = es }) (λ (m : MemoryPool). m.pool) (λ m. m.waiters) xs ∙ map-id xs

pub queues_told : (xs : List DataQueue) →
    rows_of with_receivers (rows_of with_senders (rows_of with_values (map (λ q. q.setup) xs) (map (λ q. q.values) xs)) (map (λ q. q.senders) xs)) (map (λ q. q.receivers) xs) ≡ xs
queues_told xs =
    ap (λ (qs : List DataQueue). rows_of with_receivers (rows_of with_senders qs (map (λ q. q.senders) xs)) (map (λ q. q.receivers) xs))
    (rows_told with_values (λ (q : DataQueue). q.setup) (λ q. q.values) xs)
    ∙ ap (λ (qs : List DataQueue). rows_of with_receivers qs (map (λ q. q.receivers) xs))
    (rows_told with_senders (λ (q : DataQueue). with_values q.setup q.values) (λ q. q.senders) xs)
    ∙ rows_told with_receivers (λ (q : DataQueue). with_senders (with_values q.setup q.values) q.senders) (λ q. q.receivers) xs
    ∙ map-id xs
