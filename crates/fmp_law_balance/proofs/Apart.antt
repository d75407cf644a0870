-- What a call is about.
use Rattle.fmp_codes.specs.declared.calls.Call.{Call}
use Rattle.fmp_codes.specs.declared.calls.Call.TheVariants as call
use Rattle.fmp_codes.specs.declared.calls.SyncCall.TheVariants as sync
use Rattle.fmp_codes.specs.declared.calls.BufferCall.TheVariants as buffer
use Rattle.fmp_rules.specs.Effects.{Effect}
use Rattle.fmp_rules.specs.World.{World}
use Rattle.fmp_law_balance.proofs.Leaving.{Leaves}

-- the state after a call, with the objects that it is about put back; and the tasks, where it can make the caller wait to send
abbrev pub apart : {Q : Type 0} → Call → World Q → World Q → World Q
apart (call.Sync (sync.SigSem id)) w v = record v { semaphores = w.semaphores }
apart (call.Sync (sync.IsigSem id)) w v = record v { semaphores = w.semaphores }
apart (call.Sync (sync.WaiSem id)) w v = record v { semaphores = w.semaphores }
apart (call.Sync (sync.TwaiSem id timeout)) w v = record v { semaphores = w.semaphores }
apart (call.Sync (sync.PolSem id)) w v = record v { semaphores = w.semaphores }
apart (call.Buffer (buffer.SndDtq id x)) w v = record v { contents = w.contents; tasks = w.tasks }
apart (call.Buffer (buffer.TsndDtq id x timeout)) w v = record v { contents = w.contents; tasks = w.tasks }
apart (call.Buffer (buffer.PsndDtq id x)) w v = record v { contents = w.contents }
apart (call.Buffer (buffer.IpsndDtq id x)) w v = record v { contents = w.contents }
apart (call.Buffer (buffer.FsndDtq id x)) w v = record v { contents = w.contents }
apart (call.Buffer (buffer.IfsndDtq id x)) w v = record v { contents = w.contents }
apart (call.Buffer (buffer.RcvDtq id)) w v = record v { contents = w.contents }
apart (call.Buffer (buffer.TrcvDtq id timeout)) w v = record v { contents = w.contents }
apart (call.Buffer (buffer.PrcvDtq id)) w v = record v { contents = w.contents }
apart (call.Buffer (buffer.GetMpf id)) w v = record v { pools = w.pools }
apart (call.Buffer (buffer.TgetMpf id timeout)) w v = record v { pools = w.pools }
apart (call.Buffer (buffer.PgetMpf id)) w v = record v { pools = w.pools }
apart (call.Buffer (buffer.RelMpf id b)) w v = record v { pools = w.pools }
apart other w v = v

abbrev pub Apart : {Q : Type 0} → World Q → Call → World Q × Effect → Type 0
Apart w c did = Leaves w (apart c w did.0)
