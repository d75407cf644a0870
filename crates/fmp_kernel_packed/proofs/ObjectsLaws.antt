-- The numbers of objects: each kernel has one list of them, which is that of no other.
use Rattle.std.proofs.Common.{◌≡◌, ◌∙◌, ℕ, ◌+◌, List, ◌++◌, length, map, refl, ap, sym, subst, append_assoc, arith}
use Rattle.std.proofs.lemmas.Grind.{common_steps}
use Rattle.std.proofs.lemmas.List.{length-map}
use Rattle.fmp_interned.specs.Parts.{AddsNumbers, AreNumbersOf}
use Rattle.fmp_interned.proofs.Parts.{numbers_stay, same_numbers}
use Rattle.fmp_kernel_objects.specs.Rows.{semaphores_in, eventflags_in, queues_in, pools_in}
use Rattle.fmp_kernel_objects.specs.Objects.{AllObjects}
use Rattle.fmp_kernel_packed.specs.Kept.{KeptObjects, AreObjectsBefore, AreObjectsOnce}
use Rattle.fmp_kernel_packed.specs.Packed.{AreColumns, AreObjects}
use Rattle.fmp_kernel_packed.proofs.Joined.{as_many, first_part, same_begun, same_kept}

-- there is one list of numbers, where no two that are kept are the same
pub objects_one : (kept : KeptObjects) (a : AllObjects) (ns ms : List ℕ) → AreObjectsOnce kept → AreObjects kept a ns → AreObjects kept a ms → ns ≡ ms
objects_one kept a ns ms once one other =
    let pools = same_numbers kept.pools one.pools other.pools (pools_in a) once.pools one.of_pools other.of_pools in
    let eventflags = same_numbers kept.eventflags one.eventflags other.eventflags (eventflags_in a) once.eventflags one.of_eventflags other.of_eventflags in
    let semaphores = same_numbers kept.semaphores one.semaphores other.semaphores (semaphores_in a) once.semaphores one.of_semaphores other.of_semaphores in
    let data_queues = same_numbers kept.data_queues one.data_queues other.data_queues (queues_in a) once.data_queues one.of_data_queues other.of_data_queues in
    let joined : one.pools ++ (one.eventflags ++ (one.semaphores ++ one.data_queues)) ≡ other.pools ++ (other.eventflags ++ (other.semaphores ++ other.data_queues)) =
    rw (pools, eventflags, semaphores, data_queues) refl in
    one.are ∙ joined ∙ sym other.are

-- there are as many of each kind as in their columns
module _ (a : AllObjects) (columns : AreColumns a) where
  pub pools_long : length (pools_in a) ≡ length a.pools
  pools_long = sym (length-map (pools_in a) (λ m. m.pool)) ∙ ap length columns.pools

  pub eventflags_long : length (eventflags_in a) ≡ length a.eventflags
  eventflags_long = sym (length-map (eventflags_in a) (λ f. f.eventflag)) ∙ ap length columns.eventflags

  pub semaphores_long : length (semaphores_in a) ≡ length a.semaphores
  semaphores_long = sym (length-map (semaphores_in a) (λ s. s.semaphore)) ∙ ap length columns.semaphores

  pub queues_long : length (queues_in a) ≡ length a.data_queues
  queues_long = sym (length-map (queues_in a) (λ q. q.setup)) ∙ ap length columns.data_queues

-- objects of which the same is told are the same
same_columns : (a b : AllObjects) → AreColumns a → AreColumns b → pools_in a ≡ pools_in b → eventflags_in a ≡ eventflags_in b → semaphores_in a ≡ semaphores_in b →
    queues_in a ≡ queues_in b → a ≡ b
same_columns a b one other pools eventflags semaphores queues =
    let semaphore = sym one.semaphores ∙ ap (map (λ s. s.semaphore)) semaphores ∙ other.semaphores in
    let semaphore_waiters = sym one.semaphore_waiters ∙ ap (map (λ s. s.waiters)) semaphores ∙ other.semaphore_waiters in
    let eventflag = sym one.eventflags ∙ ap (map (λ f. f.eventflag)) eventflags ∙ other.eventflags in
    let eventflag_waiters = sym one.eventflag_waiters ∙ ap (map (λ f. f.waiters)) eventflags ∙ other.eventflag_waiters in
    let setups = sym one.data_queues ∙ ap (map (λ q. q.setup)) queues ∙ other.data_queues in
    let contents = sym one.contents ∙ ap (map (λ q. q.values)) queues ∙ other.contents in
    let senders = sym one.senders ∙ ap (map (λ q. q.senders)) queues ∙ other.senders in
    let receivers = sym one.receivers ∙ ap (map (λ q. q.receivers)) queues ∙ other.receivers in
    let pool = sym one.pools ∙ ap (map (λ m. m.pool)) pools ∙ other.pools in
    let pool_waiters = sym one.pool_waiters ∙ ap (map (λ m. m.waiters)) pools ∙ other.pool_waiters in
    rw (semaphore, semaphore_waiters, eventflag, eventflag_waiters, setups, contents, senders, receivers, pool, pool_waiters) refl

-- the numbers are those of no others, of which there are as many
pub objects_only : (kept : KeptObjects) (a b : AllObjects) (ns : List ℕ) → length a.pools ≡ length b.pools → length a.eventflags ≡ length b.eventflags →
    length a.semaphores ≡ length b.semaphores → AreObjects kept a ns → AreObjects kept b ns → a ≡ b
objects_only kept a b ns pools eventflags semaphores one other =
    let x = one.columns in
    let y = other.columns in
    let first = same_begun kept.pools one.pools other.pools (pools_in a) (pools_in b) (one.eventflags ++ (one.semaphores ++ one.data_queues))
    (other.eventflags ++ (other.semaphores ++ other.data_queues)) (pools_long a x ∙ pools ∙ sym (pools_long b y)) one.of_pools other.of_pools (sym one.are ∙ other.are) in
    let next = same_begun kept.eventflags one.eventflags other.eventflags (eventflags_in a) (eventflags_in b) (one.semaphores ++ one.data_queues)
    (other.semaphores ++ other.data_queues) (eventflags_long a x ∙ eventflags ∙ sym (eventflags_long b y)) one.of_eventflags other.of_eventflags first.1 in
    let last = same_begun kept.semaphores one.semaphores other.semaphores (semaphores_in a) (semaphores_in b) one.data_queues other.data_queues
    (semaphores_long a x ∙ semaphores ∙ sym (semaphores_long b y)) one.of_semaphores other.of_semaphores next.1 in
    let queues = same_kept kept.data_queues one.data_queues other.data_queues (queues_in a) (queues_in b) last.1 one.of_data_queues other.of_data_queues in
    same_columns a b x y first.0 next.0 last.0 queues

-- the numbers stay those where others are kept, too
pub objects_stays : (kept more : KeptObjects) (a : AllObjects) (ns : List ℕ) → AreObjectsBefore kept more → AreObjects kept a ns → AreObjects more a ns
objects_stays kept more a ns before is = record {
  pools = is.pools;
  eventflags = is.eventflags;
  semaphores = is.semaphores;
  data_queues = is.data_queues;
  are = is.are;
  of_pools = numbers_stay kept.pools more.pools is.pools (pools_in a) before.pools is.of_pools;
  of_eventflags = numbers_stay kept.eventflags more.eventflags is.eventflags (eventflags_in a) before.eventflags is.of_eventflags;
  of_semaphores = numbers_stay kept.semaphores more.semaphores is.semaphores (semaphores_in a) before.semaphores is.of_semaphores;
  of_data_queues = numbers_stay kept.data_queues more.data_queues is.data_queues (queues_in a) before.data_queues is.of_data_queues;
  columns = is.columns;
}

-- there are as many numbers as objects
pub objects_long : (kept : KeptObjects) (a : AllObjects) (ns : List ℕ) → AreObjects kept a ns →
    length ns ≡ length a.pools + length a.eventflags + length a.semaphores + length a.data_queues
objects_long kept a ns is =
    let are = is.are in
    let pools = as_many kept.pools is.pools (pools_in a) is.of_pools ∙ pools_long a is.columns in
    let eventflags = as_many kept.eventflags is.eventflags (eventflags_in a) is.of_eventflags ∙ eventflags_long a is.columns in
    let semaphores = as_many kept.semaphores is.semaphores (semaphores_in a) is.of_semaphores ∙ semaphores_long a is.columns in
    let data_queues = as_many kept.data_queues is.data_queues (queues_in a) is.of_data_queues ∙ queues_long a is.columns in
    grind (arith, common_steps, are, pools, eventflags, semaphores, data_queues)

-- the numbers of each kind
pub record AreApart (kept : KeptObjects) (a : AllObjects) (pools eventflags semaphores data_queues : List ℕ) : Type 0 where
  pub of_pools : AreNumbersOf kept.pools pools (pools_in a)
  pub of_eventflags : AreNumbersOf kept.eventflags eventflags (eventflags_in a)
  pub of_semaphores : AreNumbersOf kept.semaphores semaphores (semaphores_in a)
  pub of_data_queues : AreNumbersOf kept.data_queues data_queues (queues_in a)

-- numbers are told apart by how many there are of each kind
pub objects_apart : (kept : KeptObjects) (a : AllObjects) (numbers pools rest eventflags others semaphores data_queues : List ℕ) → AreObjects kept a numbers →
    numbers ≡ pools ++ rest → rest ≡ eventflags ++ others → others ≡ semaphores ++ data_queues → length pools ≡ length a.pools → length eventflags ≡ length a.eventflags →
    length semaphores ≡ length a.semaphores → AreApart kept a pools eventflags semaphores data_queues
objects_apart kept a numbers pools rest eventflags others semaphores data_queues are one two three as_pools as_eventflags as_semaphores =
    let columns = are.columns in
    let first = first_part kept.pools are.pools pools (pools_in a) (are.eventflags ++ (are.semaphores ++ are.data_queues)) rest (as_pools ∙ sym (pools_long a columns)) are.of_pools
    (sym are.are ∙ one) in
    let next = first_part kept.eventflags are.eventflags eventflags (eventflags_in a) (are.semaphores ++ are.data_queues) others (as_eventflags ∙ sym (eventflags_long a columns))
    are.of_eventflags (first.1 ∙ two) in
    let end = first_part kept.semaphores are.semaphores semaphores (semaphores_in a) are.data_queues data_queues (as_semaphores ∙ sym (semaphores_long a columns)) are.of_semaphores
    (next.1 ∙ three) in record {
      of_pools = first.0;
      of_eventflags = next.0;
      of_semaphores = end.0;
      of_data_queues = subst (λ (ns : List ℕ). AreNumbersOf kept.data_queues ns (queues_in a)) end.1 are.of_data_queues;
    }

four_joined : (s a b c d : List ℕ) → (((s ++ a) ++ b) ++ c) ++ d ≡ s ++ (a ++ (b ++ (c ++ d)))
four_joined s a b c d = simp append_assoc

-- the numbers of all are added where those of each kind are, one after the other
pub objects_added : (kept : KeptObjects) (a : AllObjects) (start one two three end : List ℕ) → AddsNumbers kept.pools (pools_in a) start one →
    AddsNumbers kept.eventflags (eventflags_in a) one two → AddsNumbers kept.semaphores (semaphores_in a) two three → AddsNumbers kept.data_queues (queues_in a) three end →
    AreColumns a → (ns : List ℕ) × (end ≡ start ++ ns) × AreObjects kept a ns
objects_added kept a start one two three end pools eventflags semaphores data_queues columns = (
  pools.0 ++ (eventflags.0 ++ (semaphores.0 ++ data_queues.0)),
  data_queues.1 ∙ ap (λ (ns : List ℕ). ns ++ data_queues.0) (semaphores.1 ∙ ap (λ (ns : List ℕ). ns ++ semaphores.0) (eventflags.1 ∙ ap (λ (ns : List ℕ). ns ++ eventflags.0) pools.1)) ∙
      four_joined start pools.0 eventflags.0 semaphores.0 data_queues.0,
  record {
    pools = pools.0;
    eventflags = eventflags.0;
    semaphores = semaphores.0;
    data_queues = data_queues.0;
    are = refl;
    of_pools = pools.2;
    of_eventflags = eventflags.2;
    of_semaphores = semaphores.2;
    of_data_queues = data_queues.2;
    columns = columns;
  },
)
