use Rattle.std.proofs.Common.{ap, sym, ◌∙◌, length}
use Rattle.std.proofs.lemmas.List.{length-map}
use Rattle.fmp_flag.specs.Eventflags.{EventflagState}
use Rattle.fmp_kernel_objects.specs.Objects.{AllObjects}
use Rattle.fmp_kernel_objects.proofs.Numbered.{all_fitting}
use Rattle.fmp_kernel_objects.proofs.resources.Resources.become_eventflags.Goals as goal

pub become_kept-requires-clause-kept : goal.become_kept-requires-clause-kept
become_kept-requires-clause-kept c =
    let kept = c.requires.kept in
    let xs = c.self.inside.eventflags in
    let long = c.requires.long ∙ sym (ap (λ (a : AllObjects). length a.eventflags) c.self.view_is) ∙ length-map xs (λ (x : EventflagState). x.eventflag) in
    (kept.0, kept.1, all_fitting _ c.args.kept.now c.args.numbers.now xs kept.0 (λ a b. tt) long kept.1)
