use Rattle.std.proofs.Common.{◌≡◌, List, sym, ap, ◌∙◌}
use Rattle.std.specs.Prelude.{ℤ}
use Rattle.fmp_kernel_parts.specs.Digests.{added_all}
use Rattle.fmp_kernel_parts.proofs.Digests.{all_parted}
use Rattle.fmp_waitq.specs.Queue.{added_waiters}
use Rattle.fmp_dtq.specs.DataQueue.{DataQueue, added_value, added_queue}
use Rattle.fmp_dtq.proofs.DtqToDigest.add_to.Goals as goal

pub returns : goal.returns
returns c =
    let front = c.as_slices.result.0.now in
    let back = c.as_slices.result.1.now in
    let values : c.add_values-2.new.digest ≡ added_all added_value c.self.inside.values.items c.args.digest.now =
    c.add_values-2.ensures ∙ ap (added_all added_value back) c.add_values.ensures ∙ sym (all_parted added_value front back c.args.digest.now)
    ∙ ap (λ (vs : List ℤ). added_all added_value vs c.args.digest.now) c.as_slices.ensures in
    c.add_to-2.ensures ∙ ap (added_waiters c.self.inside.receivers.waiters) (c.add_to.ensures ∙ ap (added_waiters c.self.inside.senders.waiters) values)
    ∙ ap (λ (q : DataQueue). added_queue q c.args.digest.now) c.self.view_is
