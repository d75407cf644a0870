-- How a run ends whose sink passed on what it held back.
use Rattle.std.proofs.Common.{◌≡◌, ◌⊎◌, ◌∙◌, ℕ, ◌+◌, false, cond, List, Result, Ok, Err, IfErr, OnOk, refl, sym, arith, inl, inr}
use Rattle.std.proofs.lemmas.Bool.{false≢true}
use Rattle.std.proofs.lemmas.List.{append-nil}
use Rattle.fmp_setup.specs.Setup.{Setup}
use Rattle.fmp_text.specs.Events.{Reading}
use Rattle.fmp_run_devices.specs.Devices.{BeginsWith}
use Rattle.fmp_run_texts.specs.declared.fault.RunFault.{RunFault}
use Rattle.fmp_run_texts.specs.declared.fault.RunFault.TheVariants as run
use Rattle.fmp_run_texts.specs.Faults.{failed_read, is_config}
use Rattle.fmp_run_texts.specs.Texts.{FlushFails}
use Rattle.fmp_run_stream.specs.declared.stream.Detail.{Detail}
use Rattle.fmp_run_stream.specs.Details.{detail_of}
use Rattle.fmp_run_stream.specs.Runs.{FirstEventFault, IsPrefixOut}
use Rattle.fmp_run_stream.specs.Streams.{IsAllOut, Leaves}
use Rattle.fmp_run_stream.proofs.Streaming.{all_out_begun}
use Rattle.fmp_run_stream.proofs.Traces.{all_begun, prefix_begun}

abbrev Ended : Type 0
Ended = Result (Unit {0}) RunFault

-- the run ended as it did before, or the flush failed
abbrev pub Passes : Ended → Ended → Type 0
Passes ended result = (result ≡ ended) ⊎ (result ≡ Err run.Write)

module _ (d : Detail) (c : Setup) (text : List ℕ) (whole : Reading) (old : List ℕ) where
  out_begun : (new : List ℕ) → IsPrefixOut (detail_of d) c whole.events old new → BeginsWith old (detail_of d c whole.events) new
  out_begun new (n, text) = prefix_begun d c whole.events n old new text

  -- whatever is left after a fault of the events is a beginning of what is written of them
  leaves_begun : (new : List ℕ) (fault : RunFault) → is_config fault ≡ false → Leaves d c text whole old new fault → BeginsWith old (detail_of d c whole.events) new
  leaves_begun new (run.Config fault) config left = absurd (false≢true (sym config))
  leaves_begun new (run.Text fault) config (inl before) = all_begun d c whole.events old new before.text
  leaves_begun new (run.Text fault) config (inr (memory, out)) = out_begun new out.0
  leaves_begun new run.Read config out = out_begun new out
  leaves_begun new run.Write config begun = begun
  leaves_begun new run.Memory config (inl none) = (0, none ∙ sym (append-nil old))
  leaves_begun new run.Memory config (inr out) = out_begun new out.0
  leaves_begun new run.Start config out = out_begun new out
  leaves_begun new run.Disagree config out = out_begun new out

  ended_begun : (new : List ℕ) (ended : Ended) → OnOk ended (IsAllOut d c whole old new) → IfErr ended (λ fault. is_config fault ≡ false) → IfErr ended (Leaves d c text whole old new)
      → BeginsWith old (detail_of d c whole.events) new
  ended_begun new (Ok done) all config left = all_out_begun d c whole old new all
  ended_begun new (Err fault) all config left = leaves_begun new fault config left

  pub leaves_passed : (new : List ℕ) (ended result : Ended) → Passes ended result → OnOk ended (IsAllOut d c whole old new) → IfErr ended (λ fault. is_config fault ≡ false)
      → IfErr ended (Leaves d c text whole old new) → IfErr result (Leaves d c text whole old new)
  leaves_passed new ended result (inl is) all config left = rw is left
  leaves_passed new ended result (inr is) all config left = rw is (ended_begun new ended all config left)

-- a fault of the events is still their first one
pub first_passed : (whole : Reading) (ended result : Ended) → Passes ended result → IfErr ended (FirstEventFault whole) → IfErr result (FirstEventFault whole)
first_passed whole ended result (inl is) first = rw is first
first_passed whole ended result (inr is) first = rw is tt

-- where a read failed and the flush after it failed too, this is so that is so where a read failed
pub flush_fails : (Whole : Type 0) (n m : ℕ) (ended : Ended) → m ≡ n + cond (failed_read ended) 1 0 → (ended ≡ Err run.Read → Whole) → FlushFails n m Whole
flush_fails Whole n m (Err run.Read) e whole = inr (e, whole refl)
flush_fails Whole n m (Err (run.Config fault)) e whole = inl (omega (arith, e))
flush_fails Whole n m (Err (run.Text fault)) e whole = inl (omega (arith, e))
flush_fails Whole n m (Err run.Write) e whole = inl (omega (arith, e))
flush_fails Whole n m (Err run.Memory) e whole = inl (omega (arith, e))
flush_fails Whole n m (Err run.Start) e whole = inl (omega (arith, e))
flush_fails Whole n m (Err run.Disagree) e whole = inl (omega (arith, e))
flush_fails Whole n m (Ok done) e whole = inl (omega (arith, e))
