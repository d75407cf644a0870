-- What searches promise, `fmpsim explore`: they go through the orders of what scripts ask.
use Rattle.std.specs.Prelude.{◌≡◌, ◌-◌, ◌<◌, ◌↔◌, ℕ, Bool, List, length, Result, IfErr, IfOk, Err}
use Rattle.fmp_cli.specs.declared.explore.ExploreRequest.{ExploreRequest}
use Rattle.fmp_text.specs.Limits.{most_bytes}
use Rattle.fmp_run_devices.specs.Devices.{IsKnown, bytes_of}
use Rattle.fmp_run_devices.specs.Ends.{Ends, SinkEnd, SourceEnd}
use Rattle.fmp_run_texts.specs.declared.fault.RunFault.{RunFault}
use Rattle.fmp_run_texts.specs.declared.fault.RunFault.TheVariants.{Write}
use Rattle.fmp_run_texts.specs.declared.status.Status.{Status}
use Rattle.fmp_run_texts.specs.Owed.{OwesTexts, WritesOut}
use Rattle.fmp_run_texts.specs.Texts.{FirstConfigFault, FirstScriptFault}
use Rattle.fmp_run_explore.specs.declared.fault.ExploreFault.{ExploreFault}
use Rattle.fmp_run_explore.specs.declared.fault.ExploreFault.TheVariants.{Run}
use Rattle.fmp_run_explore.specs.declared.finding.Finding.{Finding}
use Rattle.fmp_run_explore.specs.declared.searched.Outcome.{Outcome}
use Rattle.fmp_run_explore.specs.Explored.{IsBegun, IsEndedBy, IsExplored, status_of}
use Rattle.fmp_run_explore.specs.Faults.{IsQuestionFault, IsScriptFault, OwesSearch}
use Rattle.fmp_run_explore.specs.Searched.{IsOfTexts}
use Rattle.fmp_run_explore_from.specs.declared.fault.FromFault.{FromFault}
use Rattle.fmp_run_explore_from.specs.declared.fault.FromFault.TheVariants as from
use Rattle.fmp_run_explore_from.specs.Explored.{IsBegunFrom, IsExploredFrom}
use Rattle.fmp_run_explore_from.specs.Faults as from_faults
use Rattle.fmp_run_forever.specs.declared.staying.Stayed.{Stayed}
use Rattle.fmp_run_forever.specs.Asked as lasting
use Rattle.fmp_run_forever.specs.Stayed as stayed
use Rattle.fmp_run_most.specs.declared.settling.Reach.{Reach}
use Rattle.fmp_run_most.specs.Most as most
use Rattle.fmp_run_most.specs.Runs as table
use Rattle.fmp_cli_runs.specs.Asked.{rules_of}

-- Whether an order shows what a request asks. What was found is given, with what was searched.
pub record Searches (request : ExploreRequest) (over : Bool) (configs scripts : Ends SourceEnd) (output : Ends SinkEnd) (result : Result Outcome ExploreFault) : Type 0 where
  -- What it owes to both texts, to its question and to its devices, whatever it writes.
  pub owes : OwesSearch IsScriptFault (λ text. IsQuestionFault text request.question.now) configs scripts output result
  -- What it writes: what is known of all orders by these rules.
  pub writes : WritesOut (λ c s old new o. IsExplored c s request.question.now (rules_of request) request.bounds.turns.count
      (request.bounds.places.count - 1) old new o.finding)
      (λ c s. IsBegun c s request.question.now (rules_of request) request.bounds.turns.count (request.bounds.places.count - 1))
      (Run Write) configs scripts output result
  -- Less is known than was asked for, with room that is left, only where the search was ended.
  pub ended : IfOk result (λ o. IsEndedBy over o.finding)
  -- Beside that it gives what it searched, for what may be asked besides.
  pub searched : IsKnown configs.old.left → IsKnown scripts.old.left
      → IfOk result (λ o. IsOfTexts (bytes_of configs.old.left) (bytes_of scripts.old.left) request.question.now (rules_of request) o.searched)

-- The same of the orders that go on from a trace.
pub record SearchesFrom (begun_text : List ℕ) (request : ExploreRequest) (over : Bool) (configs scripts : Ends SourceEnd) (output : Ends SinkEnd)
    (result : Result Status FromFault) : Type 0 where
  -- What it owes to both texts, to its question and to its devices, whatever it writes.
  pub owes : from_faults.OwesSearchFrom (λ text. from_faults.IsQuestionFault text request.question.now) configs scripts output result
  -- What it writes: what is known of all orders by these rules that go on from the trace. The status says which that is.
  pub writes : WritesOut (λ c s old new status. (finding : Finding) × (status ≡ status_of finding) × IsEndedBy over finding
      × IsExploredFrom c s begun_text request.question.now (rules_of request) request.bounds.turns.count (request.bounds.places.count - 1) old new finding)
      (λ c s. IsBegunFrom c s begun_text request.question.now (rules_of request) request.bounds.turns.count (request.bounds.places.count - 1))
      (from.Explore (Run Write)) configs scripts output result
  -- A line of the trace that no order has is the first one.
  pub stray : IsKnown configs.old.left → IsKnown scripts.old.left
      → IfErr result (from_faults.IsStrayFault (bytes_of configs.old.left) (bytes_of scripts.old.left) (rules_of request) begun_text)
  -- A trace is too long whatever the texts are.
  pub long : (result ≡ Err from.Long) ↔ (most_bytes < length begun_text)

-- Whether something that a request asks stays for ever in an order. What was found is given, with what was asked.
pub record SearchesForever (request : ExploreRequest) (configs scripts : Ends SourceEnd) (output : Ends SinkEnd) (result : Result Stayed ExploreFault) : Type 0 where
  -- What it owes to both texts, to its question and to its devices, whatever it writes.
  pub owes : OwesSearch IsScriptFault (λ text. lasting.IsQuestionFault text request.question.now) configs scripts output result
  -- What it writes: what is known of all orders by these rules.
  pub writes : WritesOut (λ c s old new found. stayed.IsExplored c s request.question.now (rules_of request) request.bounds.turns.count
      (request.bounds.places.count - 1) old new found.asked.question.items found.staying)
      (λ c s. stayed.IsBegun c s request.question.now (rules_of request) request.bounds.turns.count (request.bounds.places.count - 1))
      (Run Write) configs scripts output result

-- How far everything goes in all orders. The status says whether that is known.
pub record SearchesMost (request : ExploreRequest) (over : Bool) (configs scripts : Ends SourceEnd) (output : Ends SinkEnd) (result : Result Status RunFault) : Type 0 where
  -- What it owes to both texts and to its devices, whatever it writes.
  pub owes : OwesTexts FirstConfigFault FirstScriptFault configs scripts output result result
  -- What it writes: how far everything goes in the orders by these rules. The status says of which orders that is known.
  pub writes : WritesOut (λ c s old new status. (reach : Reach) × (status ≡ most.status_of reach)
      × table.IsTold c s (rules_of request) request.bounds.turns.count (request.bounds.places.count - 1) over old new reach)
      (λ c s. table.IsBegun c s (rules_of request) request.bounds.turns.count (request.bounds.places.count - 1) over) Write configs scripts output result
