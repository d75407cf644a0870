-- What runs of processors that follow scripts promise, and one that leaves events out.
use Rattle.std.specs.Prelude.{◌≡◌, ℕ, Bool, false, Result, IfErr, IfOk, IfSome}
use Rattle.fmp_cli.specs.declared.shrink.ShrinkRequest.{ShrinkRequest}
use Rattle.fmp_cli.specs.declared.smp.SmpRequest.{SmpRequest}
use Rattle.fmp_run_devices.specs.Ends.{Ends, SinkEnd, SourceEnd}
use Rattle.fmp_run_texts.specs.declared.fault.RunFault.{RunFault}
use Rattle.fmp_run_texts.specs.declared.fault.RunFault.TheVariants.{Write}
use Rattle.fmp_run_texts.specs.declared.status.Status.{Status}
use Rattle.fmp_run_texts.specs.Faults.{is_thread_fault}
use Rattle.fmp_run_texts.specs.Owed.{OwesTexts, WritesOut}
use Rattle.fmp_run_texts.specs.Texts.{FirstConfigFault, FirstScriptFault}
use Rattle.fmp_run_explore.specs.declared.fault.ExploreFault.{ExploreFault}
use Rattle.fmp_run_explore.specs.declared.fault.ExploreFault.TheVariants.{Run}
use Rattle.fmp_run_explore.specs.Faults as faults
use Rattle.fmp_run_explore.specs.Faults.{OwesSearch}
use Rattle.fmp_run_seeds.specs.declared.seeking.SeedSearch.{SeedSearch}
use Rattle.fmp_run_seeds.specs.Found as seeds
use Rattle.fmp_run_shrink.specs.declared.finding.Shrinking.{Shrinking}
use Rattle.fmp_run_shrink.specs.Faults.{IsEventFault}
use Rattle.fmp_run_shrink.specs.Shrunk as shrunk
use Rattle.fmp_run_smp.specs.Scripted.{IsPlayBegun, IsPlayedToEnd, status_by}
use Rattle.fmp_world.specs.declared.finishing.Ended.{Ended}
use Rattle.fmp_cli_runs.specs.declared.scripts.Played.{Played}
use Rattle.fmp_cli_runs.specs.Asked.{question_of, runs_of}

-- What `fmpsim smp` promises of one run: it writes the trace of processors that follow scripts, in threads or in the order of the seed, and tells who waits at
-- the end.
pub record Plays (request : SmpRequest) (configs scripts : Ends SourceEnd) (trace : Ends SinkEnd) (result : Result Played RunFault) : Type 0 where
  -- What it owes to both texts and to its devices, whatever it writes.
  pub owes : OwesTexts FirstConfigFault FirstScriptFault configs scripts trace result result
  -- What it writes: the trace of a run with the limits that were asked for, in the order of the seed where one was given. The status says how the run
  -- ended, and the lines that are told are those of the tasks that wait there.
  pub writes : WritesOut (λ c s old new played. (ended : Ended) × (played.status ≡ status_by request.strict ended played.waiting.items)
      × IsPlayedToEnd request.seed c s request.limits.ticks.count request.limits.turns.count old new ended played.waiting.items)
      (λ c s. IsPlayBegun c s request.limits.ticks.count request.limits.turns.count) Write configs scripts trace result
  -- Where a seed was given no thread was started.
  pub no_thread_fault : IfSome request.seed (λ seed. IfErr result (λ fault. is_thread_fault fault ≡ false))

-- What `fmpsim smp --seeds` promises: it makes the run of each seed from the first to the last, up to the first that is looked for: that shows what the request
-- asks, or else ends quiet while a task waits. It tells that one, and writes its trace up to there.
pub record Seeks (request : SmpRequest) (first last : ℕ) (over : Bool) (configs scripts : Ends SourceEnd) (trace : Ends SinkEnd)
    (result : Result SeedSearch ExploreFault) : Type 0 where
  -- What it owes to both texts, to its question and to its devices, whatever it writes.
  pub owes : OwesSearch faults.IsScriptFault (λ text. seeds.IsQuestionFault text (question_of request)) configs scripts trace result
  -- What it tells, the first of these seeds whose run is looked for, by the orders and with the limits that were asked for, and the line where it is;
  -- and what it writes, its trace up to there. Or there is none such, and nothing is written.
  pub writes : WritesOut (λ c s. seeds.IsSought c s (question_of request) (runs_of request) first last)
      (λ c s. seeds.IsBegun c s (question_of request) (runs_of request) first last) (Run Write) configs scripts trace result
  -- Seeds are left only where the search was ended.
  pub ended : IfOk result (seeds.IsEndedBy over)

-- What `fmpsim shrink` promises: it writes the events that are left where none can go without that what the request asks is no longer shown. The status says
-- whether it was shown at all.
pub record Shrinks (request : ShrinkRequest) (configs events : Ends SourceEnd) (output : Ends SinkEnd) (result : Result Status ExploreFault) : Type 0 where
  -- What it owes to both texts, to its question and to its devices, whatever it writes.
  pub owes : OwesSearch IsEventFault (λ text. faults.IsQuestionFault text request.question.now) configs events output result
  -- What it writes: the events that are left. The status says whether what is asked was shown at all.
  pub writes : WritesOut (λ c es old new status. (finding : Shrinking) × (status ≡ shrunk.status_of finding)
      × shrunk.IsShrunkOut c es request.question.now request.runs old new finding) (λ c es. shrunk.IsBegun c es request.question.now request.runs)
      (Run Write) configs events output result
