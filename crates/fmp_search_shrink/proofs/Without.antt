-- Lists without some of their events in a row.
use Rattle.std.proofs.Common.{◌≡◌, ◌⊎◌, ℕ, zero, suc, ◌+◌, ◌≤◌, ◌<◌, List, [], ◌∷◌, length, take, drop, refl, ap, inl, inr, arith}
use Rattle.std.proofs.lemmas.Grind.{common_steps}
use Rattle.std.proofs.lemmas.List.Elements.{All-append, All-drop, All-take}
use Rattle.fmp_codes.specs.Records.{AreOn, processor_of}
use Rattle.fmp_codes.specs.declared.records.Event.{Event}
use Rattle.fmp_search_shrink.specs.Runners.{IsPartOf}
use Rattle.fmp_search_shrink.proofs.Parts.{part_all, part_after, part_of_itself}
use Rattle.fmp_search_shrink.specs.Shrinking.{without}

-- the end of a list is a part of it
drop_is_part : (n : ℕ) (es : List Event) → IsPartOf (drop n es) es
drop_is_part zero es = part_of_itself es
drop_is_part (suc n) [] = tt
drop_is_part (suc n) (e ∷ es) = part_after e (drop n es) es (drop_is_part n es)

-- what is left without events in a row is a part
pub without_is_part : (es : List Event) (from to : ℕ) → from ≤ to → IsPartOf (without es from to) es
without_is_part es zero to le = drop_is_part to es
without_is_part [] (suc from) zero le = tt
without_is_part [] (suc from) (suc to) le = tt
without_is_part (e ∷ es) (suc from) zero le = absurd (omega (arith, le))
without_is_part (e ∷ es) (suc from) (suc to) le = inl (refl, without_is_part es from to (omega (arith, le)))

pub without_is_shorter : (es : List Event) (from to : ℕ) → from < to → to ≤ length es → length (without es from to) < length es
without_is_shorter es from to less most = grind (arith, common_steps, less, most)

-- what is left is on the same processors
pub without_is_on : (n : ℕ) (es : List Event) (from to : ℕ) → AreOn n es → AreOn n (without es from to)
without_is_on n es from to on =
    let P : Event → Type 0 = λ e. (processor_of e).number ≤ n in
    All-append P (take from es) (drop to es) (All-take P from es on) (All-drop P to es on)

pub part_is_on : (n : ℕ) (es whole : List Event) → IsPartOf es whole → AreOn n whole → AreOn n es
part_is_on n es whole part on = part_all (λ e. (processor_of e).number ≤ n) es whole part on

-- what stands before the gap stays
pub without_is_long : (es : List Event) (from to : ℕ) → from ≤ length es → from ≤ length (without es from to)
without_is_long es from to le = grind (arith, common_steps, le)

pub before_or_here : (i n : ℕ) → i < n + 1 → (i < n) ⊎ (i ≡ n)
before_or_here zero zero small = inr refl
before_or_here zero (suc n) small = inl (omega arith)
before_or_here (suc i) zero small = absurd (omega (arith, small))
before_or_here (suc i) (suc n) small = elim (before_or_here i n (omega (arith, small))) [
  | inl before ↦ inl (omega (arith, before))
  | inr is ↦ inr (ap suc is)
]
