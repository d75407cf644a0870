use Rattle.std.proofs.Common.{◌≡◌, ◌∙◌, false, ap, sym, subst}
use Rattle.fmp_config.proofs.Table.{added}
use Rattle.fmp_setup.specs.declared.parts.Parts.{Parts}
use Rattle.fmp_setup.specs.Building.{is_refused, with_defined}
use Rattle.fmp_setup.specs.Parts.{setup_of}
use Rattle.fmp_setup.specs.Setup.{Setup}
use Rattle.fmp_config.proofs.indexed.IndexedParts.define.Goals as goal

pub invariant_of-self-2 : goal.invariant_of-self-2
invariant_of-self-2 c =
    added (setup_of c.self.inside.parts.value) c.in_ok-copy.copy c.args.name.now c.args.number c.self.inside.defined.entries c.insert.new.self.entries (setup_of c.define.new.self) c.in_ok-copy.ensures.items
    (subst (λ (s : Setup). is_refused s c.args.name.now ≡ false) (sym c.self.view_is) c.requires.new) c.self.invariant (c.in_ok-define.ensures.ok ∙ ap (λ (p : Parts). with_defined (setup_of p) c.args.name.now c.args.number) c.deref_mut.ensures.value) (rw c.reserve.ensures.entries at c.in_ok-insert.ensures.entries)
