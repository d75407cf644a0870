use Rattle.std.proofs.Common.{◌≡◌, ℕ, List, map, take, ap, sym, ◌∙◌}
use Rattle.std.proofs.lemmas.Bool.Decides.{Decides-like, Decides-eqb}
use Rattle.std.proofs.lemmas.Slice.Eq.{slice_eq-Decides}
use Rattle.fmp_step_words.specs.Numbered.{numbered}
use Rattle.fmp_step_words.proofs.Numbers.{numbered-each, numbered-count, numbers-same}
use Rattle.fmp_step_words.proofs.tops.Tops.is_same.Goals as goal

pub returns-then-from_le_bytes-clause-same : goal.returns-then-from_le_bytes-clause-same
returns-then-from_le_bytes-clause-same c =
    let a = c.self.inside in
    let b = c.other.inside in
    let same : a.numbers ≡ b.numbers =
    numbers-same a.numbers b.numbers a.count b.count _ _ c.self.told c.other.told c.self.invariant c.other.invariant c.from_le_bytes.ensures c.from_le_bytes-2.ensures c.if-from_le_bytes.true in
    Decides-like _
    (λ e. sym c.self.view_is ∙ ap (λ (n : ℕ). map numbered (take n a.numbers)) e ∙ ap (λ (xs : List ℕ). map numbered (take b.count xs)) same ∙ c.other.view_is)
    (λ e. numbered-count a.numbers b.numbers a.count b.count c.self.told c.other.told c.self.invariant c.other.invariant (c.self.view_is ∙ e ∙ sym c.other.view_is))
    (Decides-eqb a.count b.count)

pub returns-clause-same : goal.returns-clause-same
returns-clause-same c =
    let a = c.self.inside in
    let b = c.other.inside in
    Decides-like _
    (λ e. sym c.self.view_is ∙ ap (map numbered) e ∙ c.other.view_is)
    (λ e. numbered-each a.numbers b.numbers a.count b.count c.self.invariant c.other.invariant (c.self.view_is ∙ e ∙ sym c.other.view_is))
    (slice_eq-Decides (λ x y. Decides-eqb x y) (take a.count a.numbers) (take b.count b.numbers) _ c.eq.ensures)
