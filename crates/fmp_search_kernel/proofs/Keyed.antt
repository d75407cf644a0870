-- Keys of places: each place has one, which is that of no other.
use Rattle.std.proofs.Common.{◌≡◌, ◌∙◌, ℕ, ◌+◌, ◌*◌, ◌/◌, ◌%◌, ◌^◌, ◌≤◌, List, ◌++◌, ◌-◌, length, take, refl, ap, sym, subst, arith}
use Rattle.std.specs.Prelude.{replicate, slice_index, slice_range}
use Rattle.std.proofs.lemmas.List.{length-take-le}
use Rattle.fmp_interned.specs.Trees.{IsTree}
use Rattle.fmp_interned.specs.Keys.{AreKeptBy, IsKeyOf}
use Rattle.fmp_interned.specs.Values.{AreDistinct, IsBeginning}
use Rattle.fmp_interned.proofs.Trees.{one_tree, tree_list, tree_stays}
use Rattle.fmp_kernel_order.specs.Queues.{Queues}
use Rattle.fmp_kernel_packed.specs.Kept.{ArePartsBefore, ArePartsOnce, KeptParts}
use Rattle.fmp_kernel_packed.specs.Kernels.{IsKernel}
use Rattle.fmp_kernel_packed.proofs.Laws.{kernel_one, kernel_only, kernel_stays}
use Rattle.fmp_rules.specs.World.{World}
use Rattle.fmp_search.proofs.InHalves.{halves_same}
use Rattle.fmp_setup.specs.Setup.{Setup}
use Rattle.fmp_search_orders.specs.Places.{Place}
use Rattle.fmp_search_kernel.specs.Keys.{count_of_words, words_of, IsPackable, IsPadded, IsPlaceKey, KeptPlaces}
use Rattle.fmp_search_kernel.specs.Walked.{origin_of}
use Rattle.fmp_search_kernel.proofs.Padded.{filled, padded_same, parts_are, told, told_count, told_long, told_same, AreParts, AreTold}

-- a place whose runs begin where those of another do
abbrev pub place_at : Place → World Queues → List ℕ → List ℕ → List ℕ → List ℕ → ℕ → Place
place_at o machine tasks handlers taken idled seen = record o { machine = machine; tasks = tasks; handlers = handlers; taken = taken; idled = idled; seen = seen }

-- places that differ in nothing
pub same_at : (o o' : Place) (m m' : World Queues) (ts ts' hs hs' us us' vs vs' : List ℕ) (s s' : ℕ) → o ≡ o' → m ≡ m' → ts ≡ ts' → hs ≡ hs' → us ≡ us' → vs ≡ vs' → s ≡ s' →
    place_at o m ts hs us vs s ≡ place_at o' m' ts' hs' us' vs' s'
same_at o o' m m' ts ts' hs hs' us us' vs vs' s s' origin machine tasks handlers taken idled seen =
    ap (λ (x : Place). place_at x m ts hs us vs s) origin
    ∙ ap (λ (x : World Queues). place_at o' x ts hs us vs s) machine
    ∙ ap (λ (x : List ℕ). place_at o' m' x hs us vs s) tasks
    ∙ ap (λ (x : List ℕ). place_at o' m' ts' x us vs s) handlers
    ∙ ap (λ (x : List ℕ). place_at o' m' ts' hs' x vs s) taken
    ∙ ap (λ (x : List ℕ). place_at o' m' ts' hs' us' x s) idled
    ∙ ap (place_at o' m' ts' hs' us' vs') seen

module _ (p r : Place) (c d : ℕ) (one : IsPackable p) (other : IsPackable r) (config : p.config ≡ r.config) where
  abbrev pub AreToldAlike : Type 0
  AreToldAlike = AreTold r.config.processors (length r.config.tasks) p.seen r.seen p.taken r.taken p.idled r.idled p.handlers r.handlers p.tasks r.tasks c d

  taken_long : length p.taken ≡ length r.taken
  taken_long = one.roomy.taken_sized ∙ sym other.roomy.taken_sized

  idled_long : length p.idled ≡ length r.idled
  idled_long = one.roomy.idled_sized ∙ sym other.roomy.idled_sized

  handlers_long : length p.handlers ≡ length r.handlers
  handlers_long = one.roomy.handlers_sized ∙ sym other.roomy.handlers_sized

  tasks_long : length p.tasks ≡ length r.tasks
  tasks_long = one.roomy.tasks_sized ∙ sym other.roomy.tasks_sized

  -- places of one configuration are told by lists that are as long
  pub words_long : length (words_of p c) ≡ length (words_of r d)
  words_long =
      ap (λ (s : Setup). length (told s.processors (length s.tasks) p.seen p.taken p.idled p.handlers p.tasks c)) config
      ∙ told_long r.config.processors (length r.config.tasks) p.seen r.seen p.taken r.taken p.idled r.idled p.handlers r.handlers p.tasks r.tasks c d taken_long idled_long handlers_long tasks_long

  -- and where these are the same, all that they tell is the same
  pub words_same : words_of p c ≡ words_of r d → AreToldAlike
  words_same is =
      told_same r.config.processors (length r.config.tasks) p.seen r.seen p.taken r.taken p.idled r.idled p.handlers r.handlers p.tasks r.tasks c d taken_long idled_long handlers_long tasks_long
      (sym (ap (λ (s : Setup). told s.processors (length s.tasks) p.seen p.taken p.idled p.handlers p.tasks c) config) ∙ is)

  -- so the places are the same, where the machines are and the runs begin at the same place
  pub place_same : origin_of p ≡ origin_of r → p.machine ≡ r.machine → AreToldAlike → p ≡ r
  place_same origin machine alike =
      same_at (origin_of p) (origin_of r) p.machine r.machine p.tasks r.tasks p.handlers r.handlers p.taken r.taken p.idled r.idled p.seen r.seen origin machine
      (padded_same (length r.config.tasks) p.tasks r.tasks tasks_long (subst (λ (s : Setup). IsPadded (length s.tasks) p.tasks) config one.tasks) other.tasks alike.xs_same)
      (padded_same r.config.processors p.handlers r.handlers handlers_long (subst (λ (s : Setup). IsPadded s.processors p.handlers) config one.handlers) other.handlers alike.ws_same)
      (padded_same r.config.processors p.taken r.taken taken_long (subst (λ (s : Setup). IsPadded s.processors p.taken) config one.taken) other.taken alike.us_same)
      (padded_same r.config.processors p.idled r.idled idled_long (subst (λ (s : Setup). IsPadded s.processors p.idled) config one.idled) other.idled alike.vs_same)
      alike.seen

-- the numbers of a kernel, said of what is the same
pub kernel_moved : (kept kept' : KeptParts) (start start' w w' : World Queues) (m m' n n' : ℕ) → kept ≡ kept' → start ≡ start' → w ≡ w' → m ≡ m' → n ≡ n' → IsKernel kept start w m n →
    IsKernel kept' start' w' m' n'
kernel_moved kept kept' start start' w w' m m' n n' parts begun machine number counting is =
    subst (λ (x : ℕ). IsKernel kept' start' w' m' x) counting
    (subst (λ (x : ℕ). IsKernel kept' start' w' x n) number
    (subst (λ (x : World Queues). IsKernel kept' start' x m n) machine
    (subst (λ (x : World Queues). IsKernel kept' x w m n) begun (subst (λ (x : KeptParts). IsKernel x start w m n) parts is))))

module _ (o : Place) (kept : KeptPlaces) where
  -- a key is of one place alone
  pub one_place : (p r : Place) (key : ℕ) → IsPlaceKey o kept key p → IsPlaceKey o kept key r → p ≡ r
  one_place p r key g h =
      let from : origin_of p ≡ origin_of r = g.origin ∙ sym h.origin in
      let config : p.config ≡ r.config = ap (λ (x : Place). x.config) from in
      let list = tree_list kept.pairs (words_of p g.counting) (words_of r h.counting) (key % 2 ^ 32) (words_long p r g.counting h.counting g.packable h.packable config) g.tree h.tree in
      let alike = words_same p r g.counting h.counting g.packable h.packable config list in
      let kernel =
      kernel_moved kept.parts kept.parts (origin_of p).machine (origin_of r).machine p.machine p.machine (key / 2 ^ 32) (key / 2 ^ 32) g.counting h.counting refl
      (ap (λ (x : Place). x.machine) from) refl refl alike.counting g.kernel
      in
      place_same p r g.counting h.counting g.packable h.packable config from
      (kernel_only kept.parts (origin_of r).machine p.machine r.machine (key / 2 ^ 32) h.counting kernel h.kernel) alike

  -- a place has one key, which is of no other
  pub place_key : (r : Place) (key : ℕ) → ArePartsOnce kept.parts → AreDistinct kept.pairs → IsPlaceKey o kept key r → IsKeyOf (IsPlaceKey o kept) r key
  place_key r key once distinct h = record {
    there = h;
    one = λ k g.
        let same = kernel_one kept.parts (origin_of r).machine r.machine (key / 2 ^ 32) (k / 2 ^ 32) h.counting g.counting once h.kernel g.kernel in
        let tree = subst (λ (n : ℕ). IsTree kept.pairs (words_of r n) (k % 2 ^ 32)) same.1 g.tree in
        halves_same k key same.0 (one_tree kept.pairs (words_of r h.counting) (k % 2 ^ 32) (key % 2 ^ 32) distinct tree h.tree);
    only = λ p g. one_place p r key g h;
  }

-- keys stay those of their places where what is kept before comes first
pub place_kept : (o : Place) (old new : KeptPlaces) → ArePartsBefore old.parts new.parts → IsBeginning old.pairs new.pairs → AreKeptBy (IsPlaceKey o old) (IsPlaceKey o new)
place_kept o old new before begins k p g = record {
  origin = g.origin;
  packable = g.packable;
  counting = g.counting;
  kernel = kernel_stays old.parts new.parts (origin_of p).machine p.machine (k / 2 ^ 32) g.counting before g.kernel;
  tree = tree_stays old.pairs new.pairs (words_of p g.counting) (k % 2 ^ 32) begins g.tree;
}

-- a list becomes a part of numbers, and 0 after it
abbrev pub Fills : List ℕ → ℕ → ℕ → List ℕ → List ℕ → Type 0
Fills numbers from to old new = new ≡ slice_range numbers from to ++ replicate (length old - length (slice_range numbers from to)) 0

-- positions and counts are those of a place
pub record AreBecome (p : Place) (tasks handlers taken idled : List ℕ) (seen : ℕ) : Type 0 where
  pub tasks_are : tasks ≡ p.tasks
  pub handlers_are : handlers ≡ p.handlers
  pub taken_are : taken ≡ p.taken
  pub idled_are : idled ≡ p.idled
  pub seen_is : seen ≡ p.seen

-- the numbers that tell a place of a configuration with so many processors and tasks
module _ (c : Setup) (p : Place) (counting : ℕ) (config : p.config ≡ c) (few : c.processors ≤ 8) (many : length c.tasks ≤ 64) (packable : IsPackable p) where
  abbrev pub n : ℕ
  n = c.processors

  abbrev pub t : ℕ
  t = length c.tasks

  roomy_taken : n ≤ length p.taken
  roomy_taken = let long = packable.roomy.taken_sized in omega (arith, long, few)

  roomy_idled : n ≤ length p.idled
  roomy_idled = let long = packable.roomy.idled_sized in omega (arith, long, few)

  roomy_handlers : n ≤ length p.handlers
  roomy_handlers = let long = packable.roomy.handlers_sized in omega (arith, long, few)

  roomy_tasks : t ≤ length p.tasks
  roomy_tasks = let long = packable.roomy.tasks_sized in omega (arith, long, many)

  told_is : words_of p counting ≡ told n t p.seen p.taken p.idled p.handlers p.tasks counting
  told_is = ap (λ (s : Setup). told s.processors (length s.tasks) p.seen p.taken p.idled p.handlers p.tasks counting) config

  -- there are as many as are wanted
  pub words_count : length (words_of p counting) ≡ count_of_words c
  words_count = ap length told_is ∙ told_count n t p.seen counting p.taken p.idled p.handlers p.tasks roomy_taken roomy_idled roomy_handlers roomy_tasks

  -- each is found where it was told
  pub words_parts : (numbers : List ℕ) → numbers ≡ words_of p counting →
      AreParts numbers (take n p.taken) (take n p.idled) (take n p.handlers) (take t p.tasks) n counting
  words_parts numbers is =
      parts_are numbers (take n p.taken) (take n p.idled) (take n p.handlers) (take t p.tasks) p.seen counting n (length-take-le n p.taken roomy_taken) (length-take-le n p.idled roomy_idled)
      (length-take-le n p.handlers roomy_handlers) (is ∙ told_is)

  -- numbers become those of the place, where each list gets what tells its first ones, and 0 after them
  pub words_become : (numbers tasks handlers taken idled tasks' handlers' taken' idled' : List ℕ) (m : ℕ) → numbers ≡ words_of p counting → m ≡ n → length tasks ≡ 64 → length handlers ≡ 8 →
      length taken ≡ 8 → length idled ≡ 8 →
      Fills numbers 1 (1 + m) taken taken' → Fills numbers (1 + m) (1 + 2 * m) idled idled' → Fills numbers (1 + 2 * m) (1 + 3 * m) handlers handlers' →
      Fills numbers (1 + 3 * m) (length numbers - 1) tasks tasks' → AreBecome p tasks' handlers' taken' idled' (slice_index numbers 0)
  words_become numbers tasks handlers taken idled tasks' handlers' taken' idled' m is as_many tl hl ul vl us vs ws xs =
      let parts : AreParts numbers (take n p.taken) (take n p.idled) (take n p.handlers) (take t p.tasks) m counting =
      subst (λ (k : ℕ). AreParts numbers (take n p.taken) (take n p.idled) (take n p.handlers) (take t p.tasks) k counting) (sym as_many) (words_parts numbers is)
      in
      let padded_tasks = subst (λ (s : Setup). IsPadded (length s.tasks) p.tasks) config packable.tasks in
      let padded_handlers = subst (λ (s : Setup). IsPadded s.processors p.handlers) config packable.handlers in
      let padded_taken = subst (λ (s : Setup). IsPadded s.processors p.taken) config packable.taken in
      let padded_idled = subst (λ (s : Setup). IsPadded s.processors p.idled) config packable.idled in
      record {
        tasks_are = filled t p.tasks _ tasks' (length tasks) parts.xs_part roomy_tasks (tl ∙ sym packable.roomy.tasks_sized) padded_tasks xs;
        handlers_are = filled n p.handlers _ handlers' (length handlers) parts.ws_part roomy_handlers (hl ∙ sym packable.roomy.handlers_sized) padded_handlers ws;
        taken_are = filled n p.taken _ taken' (length taken) parts.us_part roomy_taken (ul ∙ sym packable.roomy.taken_sized) padded_taken us;
        idled_are = filled n p.idled _ idled' (length idled) parts.vs_part roomy_idled (vl ∙ sym packable.roomy.idled_sized) padded_idled vs;
        seen_is = ap (λ (l : List ℕ). slice_index l 0) is;
      }
