-- The calls on cyclic handlers and alarms do the same on lists and on numbers. They leave the order of tasks as it is.
use Rattle.std.proofs.Common.{◌≡◌, refl, sym, subst}
use Rattle.fmp_codes.specs.declared.numbers.Proc.{Proc}
use Rattle.fmp_codes.specs.declared.calls.TimeCall.{TimeCall}
use Rattle.fmp_codes.specs.declared.calls.TimeCall.TheVariants as call
use Rattle.fmp_rules.specs.World.{World}
use Rattle.fmp_rules.specs.Arrivals.{State, numbered}
use Rattle.fmp_rules.specs.Rows.{check, called}
use Rattle.fmp_rules.specs.TimeCalls.{sta_cyc, msta_cyc, stp_cyc, sta_alm, msta_alm, stp_alm, time_row}
use Rattle.fmp_law_safety.specs.Safe.{IsNumberOf, Safe}
use Rattle.fmp_kernel_order.specs.Queues.{Queues}
use Rattle.fmp_law_lists.specs.Stands.{with_order, AreListsOf, Matches}
use Rattle.fmp_law_lists.proofs.Matching.{matches, called_matches}

module _ (m : State) (q : Queues) (s : AreListsOf q m) (safe : Safe numbered m) (p : Proc) (there : IsNumberOf m.processors p.number) where
  abbrev w : World Queues
  w = with_order m q

  -- a call that changes no task and no object for which one may wait
  plainly : (c : TimeCall) → AreListsOf q (time_row m c).effect.0 → check w p (time_row w c) ≡ check m p (time_row m c) →
      (time_row w c).effect ≡ (with_order (time_row m c).effect.0 q, (time_row m c).effect.1) → Matches (called w p (time_row w c)) (called m p (time_row m c))
  plainly c k same did =
      called_matches m q s p (time_row w c) (time_row m c) same
      (λ _. subst (λ x. Matches x (time_row m c).effect) (sym did) (matches (time_row m c).effect.0 q k (time_row m c).effect.1))

  pub time_matches : (c : TimeCall) → Matches (called w p (time_row w c)) (called m p (time_row m c))
  unfolding sta_cyc msta_cyc stp_cyc sta_alm msta_alm stp_alm
  time_matches (call.StaCyc id) = plainly (call.StaCyc id) s refl refl
  time_matches (call.MstaCyc id to) = plainly (call.MstaCyc id to) s refl refl
  time_matches (call.StpCyc id) = plainly (call.StpCyc id) s refl refl
  time_matches (call.StaAlm id time) = plainly (call.StaAlm id time) s refl refl
  time_matches (call.IstaAlm id time) = plainly (call.IstaAlm id time) s refl refl
  time_matches (call.MstaAlm id time to) = plainly (call.MstaAlm id time to) s refl refl
  time_matches (call.ImstaAlm id time to) = plainly (call.ImstaAlm id time to) s refl refl
  time_matches (call.StpAlm id) = plainly (call.StpAlm id) s refl refl
  time_matches (call.IstpAlm id) = plainly (call.IstpAlm id) s refl refl
