-- The calls on the processors and on the state of dispatching.
use Rattle.std.specs.Prelude.{[], ◌∷◌, codes}
use Rattle.fmp_codes.specs.declared.calls.SystemCall.{SystemCall}
use Rattle.fmp_codes.specs.declared.calls.SystemCall.TheVariants.{RotRdq, IrotRdq, MrotRdq, ImrotRdq, GetTid, IgetTid, GetPid, IgetPid, LocCpu, IlocCpu, UnlCpu, IunlCpu}
use Rattle.fmp_codes.specs.declared.calls.SystemCall.TheVariants.{DisDsp, EnaDsp, SnsCtx, SnsLoc, SnsDsp, SnsDpn}
use Rattle.fmp_calls.specs.Entries.{Line, line}
use Rattle.fmp_codes.specs.declared.kinds.ArgumentKind.TheVariants.{Priority as priority, Processor as processor}

abbrev pub line_of : SystemCall → Line SystemCall
line_of (RotRdq n) = line (codes "rot_rdq") (priority ∷ []) RotRdq (n, tt)
line_of (IrotRdq n) = line (codes "irot_rdq") (priority ∷ []) IrotRdq (n, tt)
line_of (MrotRdq n p) = line (codes "mrot_rdq") (priority ∷ processor ∷ []) MrotRdq (n, (p, tt))
line_of (ImrotRdq n p) = line (codes "imrot_rdq") (priority ∷ processor ∷ []) ImrotRdq (n, (p, tt))
line_of GetTid = line (codes "get_tid") [] GetTid tt
line_of IgetTid = line (codes "iget_tid") [] IgetTid tt
line_of GetPid = line (codes "get_pid") [] GetPid tt
line_of IgetPid = line (codes "iget_pid") [] IgetPid tt
line_of LocCpu = line (codes "loc_cpu") [] LocCpu tt
line_of IlocCpu = line (codes "iloc_cpu") [] IlocCpu tt
line_of UnlCpu = line (codes "unl_cpu") [] UnlCpu tt
line_of IunlCpu = line (codes "iunl_cpu") [] IunlCpu tt
line_of DisDsp = line (codes "dis_dsp") [] DisDsp tt
line_of EnaDsp = line (codes "ena_dsp") [] EnaDsp tt
line_of SnsCtx = line (codes "sns_ctx") [] SnsCtx tt
line_of SnsLoc = line (codes "sns_loc") [] SnsLoc tt
line_of SnsDsp = line (codes "sns_dsp") [] SnsDsp tt
line_of SnsDpn = line (codes "sns_dpn") [] SnsDpn tt
