-- What a page has to know of the configuration, a line each.
use Rattle.std.specs.Prelude.{ℕ, zero, suc, ◌+◌, Option, None, Some, List, [], ◌∷◌, ◌++◌, option_map, slice_get, codes, decimal}
use Rattle.fmp_codes.specs.declared.kinds.ObjectKind.{ObjectKind}
use Rattle.fmp_codes.specs.declared.kinds.ObjectKind.TheVariants.{Task, Semaphore, DataQueue, Pool, Cyclic}
use Rattle.fmp_setup.specs.Setup.{Setup}
use Rattle.fmp_setup.specs.declared.setup.Timer.{Timer}
use Rattle.fmp_setup.specs.declared.setup.Timer.TheVariants as timers
use Rattle.fmp_trace.specs.Values.{named}
use Rattle.fmp_run_list.specs.Listing.Listing.{count, processors_line, word}
use Rattle.fmp_run_list.specs.declared.listing.listing.TheConstants.{KINDS}

module _ (c : Setup) where
  -- of what stands at this place the priority at boot, the greatest count, how many values or blocks it has, or the period
  abbrev pub limit : ObjectKind → ℕ → Option ℕ
  limit Task i = option_map (λ s. s.priority.number) (slice_get c.tasks i)
  limit Semaphore i = option_map (λ s. s.most) (slice_get c.semaphores i)
  limit DataQueue i = option_map (λ s. s.capacity) (slice_get c.data_queues i)
  limit Pool i = option_map (λ s. s.blocks) (slice_get c.pools i)
  limit Cyclic i = option_map (λ s. s.period) (slice_get c.cyclics i)
  limit _ i = None

abbrev pub limit_text : Option ℕ → List ℕ
limit_text None = []
limit_text (Some n) = codes " " ++ decimal n

unfoldable pub object_line : Setup → ObjectKind → ℕ → List ℕ
object_line c kind i = word kind ++ codes " " ++ named c.names kind (i + 1) ++ limit_text (limit c kind i) ++ codes "\n"

-- those of the first n places
unfoldable pub objects_to : Setup → ObjectKind → ℕ → List ℕ
objects_to c kind zero = []
objects_to c kind (suc i) = objects_to c kind i ++ object_line c kind i

-- those of some kinds
abbrev pub objects_over : Setup → List ObjectKind → List ℕ
objects_over c [] = []
objects_over c (kind ∷ kinds) = objects_to c kind (count c kind) ++ objects_over c kinds

-- the processor whose ticks count for all, or 0
abbrev pub master_number : Timer → ℕ
master_number timers.Local = 0
master_number (timers.Global p) = p.number

unfoldable pub timer_line : Timer → List ℕ
timer_line timer = codes "timer " ++ decimal (master_number timer) ++ codes "\n"

-- the version of this form
unfoldable pub version_line : List ℕ
version_line = codes "view 1\n"

unfoldable pub setup_text : Setup → List ℕ
setup_text c = version_line ++ processors_line c.processors ++ timer_line c.timer ++ objects_over c KINDS.now
