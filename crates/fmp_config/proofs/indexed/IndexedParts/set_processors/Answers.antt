use Rattle.std.proofs.Common.{◌∙◌, sym, ap}
use Rattle.fmp_setup.specs.declared.parts.Parts.{Parts}
use Rattle.fmp_setup.specs.Building.{with_processors}
use Rattle.fmp_setup.specs.Setup.{Setup}
use Rattle.fmp_config.proofs.indexed.IndexedParts.set_processors.Goals as goal

pub invariant_of-self : goal.invariant_of-self
unfolding with_processors
invariant_of-self c = c.self.invariant ∙ ap (λ (p : Parts). p.names.defined) (sym c.deref_mut.ensures.value) ∙ sym (ap (λ (s : Setup). s.names.defined) c.set_processors.ensures)
