use Rattle.std.proofs.Common.{◌≡◌, ◌∙◌, ◌++◌, length, ap, sym, arith, Ok, Err, OnOk, OnErr}
use Rattle.std.proofs.lemmas.List.{take_all}
use Rattle.fmp_run_devices.specs.Devices.{BeginsWith, bytes_of}
use Rattle.fmp_run_devices.proofs.Known.{kept_known, kept_bytes}
use Rattle.fmp_run_devices.proofs.sink.write_out.Goals as goal

pub returns-clause-known : goal.returns-clause-known
returns-clause-known g c = λ known. kept_known _ _ c.flush.ensures.bytes (c.write_all.ensures.known known)

pub returns-clause-ok : goal.returns-clause-ok
returns-clause-ok g c = λ known.
    let written = kept_bytes _ _ c.flush.ensures.bytes (c.write_all.ensures.known known) ∙ c.in_ok-write_all.ensures.ok known in
    elim c.flush.result as (λ r. OnOk r (bytes_of (g.W.Sink.written c.flush.new.self) ≡ bytes_of (g.W.Sink.written c.args.sink.now) ++ c.args.bytes.now)) [ Ok done ↦ written | Err failed ↦ tt ]

-- where the flush fails all of the bytes are written
pub returns-clause-err : goal.returns-clause-err
returns-clause-err g c = λ known.
    let old = bytes_of (g.W.Sink.written c.args.sink.now) in
    let bytes = c.args.bytes.now in
    let written = kept_bytes _ _ c.flush.ensures.bytes (c.write_all.ensures.known known) ∙ c.in_ok-write_all.ensures.ok known in
    let prefix = ap (λ bs. old ++ bs) (sym (take_all (length bytes) bytes (omega arith))) in
    let begun : BeginsWith old bytes (bytes_of (g.W.Sink.written c.flush.new.self)) = (length bytes, written ∙ prefix) in
    elim c.flush.result as (λ r. OnErr r (BeginsWith old bytes (bytes_of (g.W.Sink.written c.flush.new.self)))) [ Ok done ↦ tt | Err failed ↦ begun ]
