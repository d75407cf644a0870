-- What holds of all calls of a list holds of each.
use Rattle.std.proofs.Common.{◌≡◌, ◌<◌, ℕ, zero, suc, List, [], ◌∷◌, Option, Some, None, Bor, IfSome, is_some, length, get_or, subst, sym, arith}
use Rattle.std.specs.Prelude.{nat_lt}
use Rattle.std.proofs.lemmas.Bool.{ltb-true}
use Rattle.fmp_calls.specs.declared.table.KnownCall.{KnownCall}
use Rattle.fmp_calls.specs.Known.{IsKnown, AreKnown}

each_known : (calls : List KnownCall) (k : ℕ) (one : KnownCall) → AreKnown calls → k < length calls → one ≡ get_or calls k one → IsKnown one
each_known [] k one all low is = absurd (omega (arith, low))
each_known (known ∷ others) zero one all low is = subst IsKnown (sym is) all.0
each_known (known ∷ others) (suc k) one all low is = each_known others k one all.1 (omega (arith, low)) is

pub found_known : (calls : List KnownCall) (k : ℕ) (found : Option (Bor KnownCall)) → AreKnown calls → is_some found ≡ nat_lt k (length calls) → IfSome found (λ known. known.now ≡ get_or calls k known.now)
    → IfSome found (λ known. IsKnown known.now)
found_known calls k None all there is = tt
found_known calls k (Some one) all there is = each_known calls k one.now all (ltb-true k (length calls) (sym there)) is
