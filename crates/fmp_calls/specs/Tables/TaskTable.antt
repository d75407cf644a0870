-- The calls on tasks.
use Rattle.std.specs.Prelude.{[], ◌∷◌, codes}
use Rattle.fmp_codes.specs.declared.calls.TaskCall.{TaskCall}
use Rattle.fmp_codes.specs.declared.calls.TaskCall.TheVariants.{ActTsk, IactTsk, MactTsk, ImactTsk, CanAct, MigTsk, ExtTsk, TerTsk, ChgPri, GetPri, SlpTsk, TslpTsk}
use Rattle.fmp_codes.specs.declared.calls.TaskCall.TheVariants.{WupTsk, IwupTsk, CanWup, RelWai, IrelWai, SusTsk, RsmTsk, DlyTsk}
use Rattle.fmp_calls.specs.Entries.{Line, line}
use Rattle.fmp_codes.specs.Kinds.{task}
use Rattle.fmp_codes.specs.declared.kinds.ArgumentKind.TheVariants.{Processor as processor, Priority as priority, Timeout as timeout, Time as time}

abbrev pub line_of : TaskCall → Line TaskCall
line_of (ActTsk t) = line (codes "act_tsk") (task ∷ []) ActTsk (t, tt)
line_of (IactTsk t) = line (codes "iact_tsk") (task ∷ []) IactTsk (t, tt)
line_of (MactTsk t p) = line (codes "mact_tsk") (task ∷ processor ∷ []) MactTsk (t, (p, tt))
line_of (ImactTsk t p) = line (codes "imact_tsk") (task ∷ processor ∷ []) ImactTsk (t, (p, tt))
line_of (CanAct t) = line (codes "can_act") (task ∷ []) CanAct (t, tt)
line_of (MigTsk t p) = line (codes "mig_tsk") (task ∷ processor ∷ []) MigTsk (t, (p, tt))
line_of ExtTsk = line (codes "ext_tsk") [] ExtTsk tt
line_of (TerTsk t) = line (codes "ter_tsk") (task ∷ []) TerTsk (t, tt)
line_of (ChgPri t n) = line (codes "chg_pri") (task ∷ priority ∷ []) ChgPri (t, (n, tt))
line_of (GetPri t) = line (codes "get_pri") (task ∷ []) GetPri (t, tt)
line_of SlpTsk = line (codes "slp_tsk") [] SlpTsk tt
line_of (TslpTsk limit) = line (codes "tslp_tsk") (timeout ∷ []) TslpTsk (limit, tt)
line_of (WupTsk t) = line (codes "wup_tsk") (task ∷ []) WupTsk (t, tt)
line_of (IwupTsk t) = line (codes "iwup_tsk") (task ∷ []) IwupTsk (t, tt)
line_of (CanWup t) = line (codes "can_wup") (task ∷ []) CanWup (t, tt)
line_of (RelWai t) = line (codes "rel_wai") (task ∷ []) RelWai (t, tt)
line_of (IrelWai t) = line (codes "irel_wai") (task ∷ []) IrelWai (t, tt)
line_of (SusTsk t) = line (codes "sus_tsk") (task ∷ []) SusTsk (t, tt)
line_of (RsmTsk t) = line (codes "rsm_tsk") (task ∷ []) RsmTsk (t, tt)
line_of (DlyTsk ticks) = line (codes "dly_tsk") (time ∷ []) DlyTsk (ticks, tt)
