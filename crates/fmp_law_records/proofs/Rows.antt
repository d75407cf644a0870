-- The rows of the calls, opened.
use Rattle.fmp_rules.specs.TaskCalls.{act, mact, can_act, mig_tsk, ext_tsk, ter_tsk, chg_pri, tslp_tsk, wup, can_wup, rel_wai, sus_tsk, rsm_tsk, dly_tsk}
use Rattle.fmp_rules.specs.SyncCalls.{sig_sem, twai_sem, pol_sem, set_flg, clr_flg, twai_flg, pol_flg}
use Rattle.fmp_rules.specs.BufferCalls.{tsnd_dtq, psnd_dtq, fsnd_dtq, trcv_dtq, prcv_dtq, tget_mpf, pget_mpf, rel_mpf}
use Rattle.fmp_rules.specs.TimeCalls.{sta_cyc, msta_cyc, stp_cyc, sta_alm, msta_alm, stp_alm}
use Rattle.fmp_rules.specs.SystemCalls.{rotation, rotation_in_handler}
use Rattle.fmp_rules.specs.SpinCalls.{loc_spn, try_spn, unl_spn, ret_hdr}

-- A proof whose line of `unfolding` names one of these sees into the rows of a family, and with `rows` into all of them.

unfoldable pub task_rows : Unit {0}
unfolding act mact can_act mig_tsk ext_tsk ter_tsk chg_pri tslp_tsk wup can_wup rel_wai sus_tsk rsm_tsk dly_tsk
task_rows = tt

unfoldable pub sync_rows : Unit {0}
unfolding sig_sem twai_sem pol_sem set_flg clr_flg twai_flg pol_flg
sync_rows = tt

unfoldable pub buffer_rows : Unit {0}
unfolding tsnd_dtq psnd_dtq fsnd_dtq trcv_dtq prcv_dtq tget_mpf pget_mpf rel_mpf
buffer_rows = tt

unfoldable pub time_rows : Unit {0}
unfolding sta_cyc msta_cyc stp_cyc sta_alm msta_alm stp_alm
time_rows = tt

unfoldable pub system_rows : Unit {0}
unfolding rotation rotation_in_handler
system_rows = tt

unfoldable pub spin_rows : Unit {0}
unfolding loc_spn try_spn unl_spn
spin_rows = tt

unfoldable pub rows : Unit {0}
unfolding task_rows sync_rows buffer_rows time_rows system_rows spin_rows ret_hdr
rows = tt
