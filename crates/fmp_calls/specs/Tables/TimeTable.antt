-- The calls on cyclic handlers and alarms.
use Rattle.std.specs.Prelude.{[], ◌∷◌, codes}
use Rattle.fmp_codes.specs.declared.calls.TimeCall.{TimeCall}
use Rattle.fmp_codes.specs.declared.calls.TimeCall.TheVariants.{StaCyc, MstaCyc, StpCyc, StaAlm, IstaAlm, MstaAlm, ImstaAlm, StpAlm, IstpAlm}
use Rattle.fmp_calls.specs.Entries.{Line, line}
use Rattle.fmp_codes.specs.Kinds.{cyclic, alarm}
use Rattle.fmp_codes.specs.declared.kinds.ArgumentKind.TheVariants.{Processor as processor, Time as time}

abbrev pub line_of : TimeCall → Line TimeCall
line_of (StaCyc c) = line (codes "sta_cyc") (cyclic ∷ []) StaCyc (c, tt)
line_of (MstaCyc c p) = line (codes "msta_cyc") (cyclic ∷ processor ∷ []) MstaCyc (c, (p, tt))
line_of (StpCyc c) = line (codes "stp_cyc") (cyclic ∷ []) StpCyc (c, tt)
line_of (StaAlm a ticks) = line (codes "sta_alm") (alarm ∷ time ∷ []) StaAlm (a, (ticks, tt))
line_of (IstaAlm a ticks) = line (codes "ista_alm") (alarm ∷ time ∷ []) IstaAlm (a, (ticks, tt))
line_of (MstaAlm a ticks p) = line (codes "msta_alm") (alarm ∷ time ∷ processor ∷ []) MstaAlm (a, (ticks, (p, tt)))
line_of (ImstaAlm a ticks p) = line (codes "imsta_alm") (alarm ∷ time ∷ processor ∷ []) ImstaAlm (a, (ticks, (p, tt)))
line_of (StpAlm a) = line (codes "stp_alm") (alarm ∷ []) StpAlm (a, tt)
line_of (IstpAlm a) = line (codes "istp_alm") (alarm ∷ []) IstpAlm (a, tt)
