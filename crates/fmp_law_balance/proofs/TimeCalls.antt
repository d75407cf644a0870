-- The calls on cyclic handlers and alarms leave the objects alone.
use Rattle.fmp_codes.specs.declared.calls.TimeCall.{TimeCall}
use Rattle.fmp_codes.specs.declared.calls.TimeCall.TheVariants as call
use Rattle.fmp_rules.specs.World.{World}
use Rattle.fmp_rules.specs.TimeCalls.{sta_cyc, msta_cyc, stp_cyc, sta_alm, msta_alm, stp_alm, time_row}
use Rattle.fmp_law_balance.proofs.Leaving.{Leaves, leaves_others}

module _ {Q : Type 0} (w : World Q) where
  pub leaves_time_call : (c : TimeCall) → Leaves w (time_row w c).effect.0
  unfolding sta_cyc msta_cyc stp_cyc sta_alm msta_alm stp_alm
  leaves_time_call (call.StaCyc id) = leaves_others w _ _ _ _ _ _ _
  leaves_time_call _ = leaves_others w _ _ _ _ _ _ _
