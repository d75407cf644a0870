use Rattle.std.proofs.Common.{ℕ}
use Rattle.std.specs.Global.{Vec}
use Rattle.std.proofs.lemmas.Slice.Eq.{bytes_eq-Decides}
use Rattle.fmp_names.proofs.Same.{views_decide}
use Rattle.fmp_names.proofs.names.is_same_set.Goals as goal

pub returns : goal.returns
returns c = rw (c.are_same_texts.ensures, c.deref.ensures.value, c.deref-2.ensures.value) (views_decide _ (λ (v : Vec ℕ). v.items) (λ x y. bytes_eq-Decides x.items y.items) c.args.one.now.items c.args.other.now.items)
