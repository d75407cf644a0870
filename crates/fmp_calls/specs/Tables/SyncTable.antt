-- The calls on semaphores and eventflags.
use Rattle.std.specs.Prelude.{[], ◌∷◌, codes}
use Rattle.fmp_codes.specs.declared.calls.SyncCall.{SyncCall}
use Rattle.fmp_codes.specs.declared.calls.SyncCall.TheVariants.{SigSem, IsigSem, WaiSem, TwaiSem, PolSem, SetFlg, IsetFlg, ClrFlg, WaiFlg, TwaiFlg, PolFlg}
use Rattle.fmp_calls.specs.Entries.{Line, line}
use Rattle.fmp_codes.specs.Kinds.{semaphore, eventflag}
use Rattle.fmp_codes.specs.declared.kinds.ArgumentKind.TheVariants.{Timeout as timeout, Pattern as pattern, Mode as mode}

abbrev pub line_of : SyncCall → Line SyncCall
line_of (SigSem s) = line (codes "sig_sem") (semaphore ∷ []) SigSem (s, tt)
line_of (IsigSem s) = line (codes "isig_sem") (semaphore ∷ []) IsigSem (s, tt)
line_of (WaiSem s) = line (codes "wai_sem") (semaphore ∷ []) WaiSem (s, tt)
line_of (TwaiSem s limit) = line (codes "twai_sem") (semaphore ∷ timeout ∷ []) TwaiSem (s, (limit, tt))
line_of (PolSem s) = line (codes "pol_sem") (semaphore ∷ []) PolSem (s, tt)
line_of (SetFlg f bits) = line (codes "set_flg") (eventflag ∷ pattern ∷ []) SetFlg (f, (bits, tt))
line_of (IsetFlg f bits) = line (codes "iset_flg") (eventflag ∷ pattern ∷ []) IsetFlg (f, (bits, tt))
line_of (ClrFlg f bits) = line (codes "clr_flg") (eventflag ∷ pattern ∷ []) ClrFlg (f, (bits, tt))
line_of (WaiFlg f bits how) = line (codes "wai_flg") (eventflag ∷ pattern ∷ mode ∷ []) WaiFlg (f, (bits, (how, tt)))
line_of (TwaiFlg f bits how limit) = line (codes "twai_flg") (eventflag ∷ pattern ∷ mode ∷ timeout ∷ []) TwaiFlg (f, (bits, (how, (limit, tt))))
line_of (PolFlg f bits how) = line (codes "pol_flg") (eventflag ∷ pattern ∷ mode ∷ []) PolFlg (f, (bits, (how, tt)))
