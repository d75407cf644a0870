-- Places by keys: what a kernel is made of, and the positions and counts beside it.
use Rattle.std.specs.Prelude.{◌≡◌, ℕ, ◌+◌, ◌*◌, ◌/◌, ◌%◌, ◌^◌, List, [], ◌∷◌, ◌++◌, drop, length, replicate, take}
use Rattle.fmp_interned.specs.Trees.{IsTree}
use Rattle.fmp_kernel_packed.specs.declared.packed.Packed.{Packed}
use Rattle.fmp_kernel_packed.specs.Kept.{KeptParts}
use Rattle.fmp_kernel_packed.specs.Kernels.{IsKernel}
use Rattle.fmp_search_kernel.specs.Walked.{origin_of, IsRoomy}
use Rattle.fmp_search_orders.specs.Places.{Place}
use Rattle.fmp_setup.specs.Setup.{Setup}

-- what kernels are made of, and the pairs of the trees of the numbers beside them
pub record KeptPlaces : Type 0 where
  pub parts : KeptParts
  pub pairs : List (List ℕ)

-- from a place on all numbers are 0
abbrev pub IsPadded : ℕ → List ℕ → Type 0
IsPadded count numbers = drop count numbers ≡ replicate (length (drop count numbers)) 0

-- there are no positions and counts of tasks and processors that there are not, and there is room for one step more
pub record IsPackable (p : Place) : Type 0 where
  pub tasks : IsPadded (length p.config.tasks) p.tasks
  pub handlers : IsPadded p.config.processors p.handlers
  pub taken : IsPadded p.config.processors p.taken
  pub idled : IsPadded p.config.processors p.idled
  pub roomy : IsRoomy p.tasks p.handlers p.taken p.idled p.seen 1

-- how many numbers are told beside a kernel
abbrev pub count_of_words : Setup → ℕ
count_of_words c = 2 + 3 * c.processors + length c.tasks

-- how many steps of the question were seen, what processors have taken and have idled, where handlers and tasks have come to, and the number of what counts
abbrev pub words_of : Place → ℕ → List ℕ
words_of p counting =
    let n = p.config.processors in
    p.seen ∷ (take n p.taken ++ (take n p.idled ++ (take n p.handlers ++ (take (length p.config.tasks) p.tasks ++ counting ∷ []))))

-- where all runs begin at one place, a number is the key of another: its upper half is that of what its kernel is made of, and its lower half that of the
-- numbers beside it
pub record IsPlaceKey (o : Place) (kept : KeptPlaces) (key : ℕ) (p : Place) : Type 0 where
  pub origin : origin_of p ≡ origin_of o
  pub packable : IsPackable p
  pub counting : ℕ
  pub kernel : IsKernel kept.parts (origin_of p).machine p.machine (key / 2 ^ 32) counting
  pub tree : IsTree kept.pairs (words_of p counting) (key % 2 ^ 32)

-- these are the numbers of the kernel of a place, and those beside it
pub record AreOfPlace (o : Place) (kept : KeptPlaces) (p : Place) (numbers : List ℕ) (packed : Packed) : Type 0 where
  pub words : numbers ≡ words_of p packed.counting
  pub kernel : IsKernel kept.parts (origin_of o).machine p.machine packed.machine packed.counting
