-- What has to be kept, as it is kept in mind.
use Rattle.std.proofs.Common.{Bool, true, false, List, sym, subst}
use Rattle.fmp_codes.specs.declared.records.Event.{Event}
use Rattle.fmp_rules.specs.Arrivals.{numbered}
use Rattle.fmp_rules.specs.Boot.{booted}
use Rattle.fmp_rules.specs.Step.{answers}
use Rattle.fmp_setup.specs.Setup.{Setup}
use Rattle.fmp_search_shrink.specs.Runners.{AreKept, calls_by, made_in}
use Rattle.fmp_search_shrink.specs.declared.made.Made.{Made}
use Rattle.fmp_search_shrink.proofs.Parts.{part_of_itself}
use Rattle.fmp_search_shrink.specs.Shrinking.{IsKeeping, Keeps, KeepsTo}
use Rattle.fmp_search_shrink.specs.declared.keeping.Keeping.{Keeping}
use Rattle.fmp_search_shrink.specs.declared.keeping.Keeping.TheVariants as keeping

module _ (c : Setup) (whole : List Event) where
  -- events that keep to what is kept in mind of the whole list keep what has to be kept of it
  pub keeps : (runs : Bool) (k : Keeping) (es : List Event) → IsKeeping c runs whole k → KeepsTo c k es → Keeps c runs whole es
  keeps false k es is kept = tt
  keeps true keeping.Nothing es is kept = absurd cc
  keeps true (keeping.Runs given) es is kept = subst (λ (l : List Made). AreKept (made_in (answers numbered (booted c) es)) l) is.1 kept

  -- and the other way round
  pub keeps_to : (runs : Bool) (k : Keeping) (es : List Event) → IsKeeping c runs whole k → Keeps c runs whole es → KeepsTo c k es
  keeps_to runs keeping.Nothing es is kept = tt
  keeps_to true (keeping.Runs given) es is kept = subst (λ (l : List Made). AreKept (made_in (answers numbered (booted c) es)) l) (sym is.1) kept
  keeps_to false (keeping.Runs given) es is kept = absurd (let no = is.0 in cc)

  -- the whole list does
  pub whole_keeps : (runs : Bool) (k : Keeping) → IsKeeping c runs whole k → KeepsTo c k whole
  whole_keeps runs k is = keeps_to runs k whole is (itself runs)
    where
      itself : (runs : Bool) → Keeps c runs whole whole
      itself true = λ runner. part_of_itself (calls_by runner (made_in (answers numbered (booted c) whole)))
      itself false = tt
