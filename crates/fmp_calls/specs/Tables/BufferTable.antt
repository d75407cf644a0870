-- The calls on data queues and pools.
use Rattle.std.specs.Prelude.{[], ◌∷◌, codes}
use Rattle.fmp_codes.specs.declared.calls.BufferCall.{BufferCall}
use Rattle.fmp_codes.specs.declared.calls.BufferCall.TheVariants.{SndDtq, TsndDtq, PsndDtq, IpsndDtq, FsndDtq, IfsndDtq, RcvDtq, TrcvDtq, PrcvDtq, GetMpf, TgetMpf}
use Rattle.fmp_codes.specs.declared.calls.BufferCall.TheVariants.{PgetMpf, RelMpf}
use Rattle.fmp_calls.specs.Entries.{Line, line}
use Rattle.fmp_codes.specs.Kinds.{data_queue, pool}
use Rattle.fmp_codes.specs.declared.kinds.ArgumentKind.TheVariants.{Data as «data», Timeout as timeout, Block as block}

abbrev pub line_of : BufferCall → Line BufferCall
line_of (SndDtq d value) = line (codes "snd_dtq") (data_queue ∷ «data» ∷ []) SndDtq (d, (value, tt))
line_of (TsndDtq d value limit) = line (codes "tsnd_dtq") (data_queue ∷ «data» ∷ timeout ∷ []) TsndDtq (d, (value, (limit, tt)))
line_of (PsndDtq d value) = line (codes "psnd_dtq") (data_queue ∷ «data» ∷ []) PsndDtq (d, (value, tt))
line_of (IpsndDtq d value) = line (codes "ipsnd_dtq") (data_queue ∷ «data» ∷ []) IpsndDtq (d, (value, tt))
line_of (FsndDtq d value) = line (codes "fsnd_dtq") (data_queue ∷ «data» ∷ []) FsndDtq (d, (value, tt))
line_of (IfsndDtq d value) = line (codes "ifsnd_dtq") (data_queue ∷ «data» ∷ []) IfsndDtq (d, (value, tt))
line_of (RcvDtq d) = line (codes "rcv_dtq") (data_queue ∷ []) RcvDtq (d, tt)
line_of (TrcvDtq d limit) = line (codes "trcv_dtq") (data_queue ∷ timeout ∷ []) TrcvDtq (d, (limit, tt))
line_of (PrcvDtq d) = line (codes "prcv_dtq") (data_queue ∷ []) PrcvDtq (d, tt)
line_of (GetMpf m) = line (codes "get_mpf") (pool ∷ []) GetMpf (m, tt)
line_of (TgetMpf m limit) = line (codes "tget_mpf") (pool ∷ timeout ∷ []) TgetMpf (m, (limit, tt))
line_of (PgetMpf m) = line (codes "pget_mpf") (pool ∷ []) PgetMpf (m, tt)
line_of (RelMpf m b) = line (codes "rel_mpf") (pool ∷ block ∷ []) RelMpf (m, (b, tt))
