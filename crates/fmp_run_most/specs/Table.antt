-- The table of the figures: a line for each thing.
use Rattle.std.specs.Prelude.{ℕ, ◌+◌, ◌-◌, Bool, true, false, List, [], ◌∷◌, ◌++◌, codes, decimal, Option, None, Some, option_map, slice_get, slice_index, if◌then◌else◌}
use Rattle.fmp_codes.specs.declared.kinds.ObjectKind.TheVariants.{Task, Semaphore, Eventflag, DataQueue, Pool}
use Rattle.fmp_setup.specs.Setup.{Setup}
use Rattle.fmp_trace.specs.Values.{named}
use Rattle.fmp_run_most.specs.declared.figure.Figure.{Figure}
use Rattle.fmp_run_most.specs.declared.figure.Measure.{Measure}
use Rattle.fmp_run_most.specs.declared.figure.Measure.TheVariants as measure

-- the thing of a figure, where it is the first one of that
abbrev pub thing_by : Setup → ℕ → Measure → List ℕ
thing_by c n measure.Ready = codes "P" ++ decimal n
thing_by c n measure.Activations = named c.names Task n
thing_by c n measure.LeastCount = named c.names Semaphore n
thing_by c n measure.EventflagWaits = named c.names Eventflag n
thing_by c n measure.Values = named c.names DataQueue n
thing_by c n measure.LeastFree = named c.names Pool n
thing_by c n other = []

-- what stands before its number
abbrev pub word_of : Measure → List ℕ
word_of measure.Ready = codes " ready="
word_of measure.Activations = codes " act="
word_of measure.Wakeups = codes " wup="
word_of measure.LeastCount = codes " count="
word_of measure.MostCount = codes ".."
word_of measure.Values = codes " values="
word_of measure.Senders = codes " sdtq="
word_of measure.Receivers = codes " rdtq="
word_of measure.LeastFree = codes " free="
word_of other = codes " waits="

-- how much of it there may be, where the configuration says that
abbrev pub limit_by : Setup → ℕ → Measure → Option ℕ
limit_by c n measure.MostCount = option_map (λ s. s.most) (slice_get c.semaphores (n - 1))
limit_by c n measure.Values = option_map (λ d. d.capacity) (slice_get c.data_queues (n - 1))
limit_by c n measure.LeastFree = option_map (λ m. m.blocks) (slice_get c.pools (n - 1))
limit_by c n other = None

abbrev pub limit_text : Option ℕ → List ℕ
limit_text None = []
limit_text (Some n) = codes " of " ++ decimal n

-- it is the last figure of its thing
abbrev pub ends_line : Measure → Bool
ends_line measure.Ready = true
ends_line measure.Wakeups = true
ends_line measure.SemaphoreWaits = true
ends_line measure.EventflagWaits = true
ends_line measure.Receivers = true
ends_line measure.PoolWaits = true
ends_line other = false

-- the end of a line says where it is not known of all orders
abbrev pub end_text : Bool → Bool → List ℕ
end_text whole true = if whole then codes "\n" else codes " at least\n"
end_text whole false = []

unfoldable pub figure_text : Setup → Bool → Figure → ℕ → List ℕ
figure_text c whole f n =
    thing_by c f.number f.measure ++ word_of f.measure ++ decimal n ++ limit_text (limit_by c f.number f.measure) ++ end_text whole (ends_line f.measure)

-- what is told of figures, of which the first has this place among all
abbrev pub table_from : Setup → Bool → List ℕ → ℕ → List Figure → List ℕ
table_from c whole bounds k [] = []
table_from c whole bounds k (f ∷ fs) = figure_text c whole f (slice_index bounds k) ++ table_from c whole bounds (k + 1) fs

abbrev pub table_text : Setup → Bool → List Figure → List ℕ → List ℕ
table_text c whole figures bounds = table_from c whole bounds 0 figures
