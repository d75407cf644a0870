-- The arguments of a call that are within their kinds' bits are those of its kinds.
use Rattle.std.proofs.Common.{◌≡◌, ◌<◌, ◌^◌, true, List, [], ◌∷◌}
use Rattle.std.proofs.lemmas.Bool.{and_parts, false≢true}
use Rattle.fmp_codes.specs.Records.{IsWithin}
use Rattle.fmp_codes.specs.declared.calls.Call.{Call}
use Rattle.fmp_calls.specs.Arguments.{IsInBits, AreInBits, CallInBits}
use Rattle.fmp_codes.specs.Kinds.{is_of_kind, are_of_kinds}
use Rattle.fmp_calls.proofs.Matched.{are_of_kinds-values_of}
use Rattle.fmp_calls.specs.Table as table
use Rattle.fmp_codes.specs.declared.kinds.ArgumentKind.{ArgumentKind}
use Rattle.fmp_codes.specs.declared.kinds.ArgumentKind.TheVariants as kinds
use Rattle.fmp_codes.specs.declared.kinds.Value.{Value}
use Rattle.fmp_codes.specs.declared.kinds.Value.TheVariants as values

-- an argument is of its kind, and within the kind's bits
abbrev pub ArgumentFits : ArgumentKind → Value → Type 0
ArgumentFits kinds.Pattern (values.Pattern bits) = bits < 2 ^ 32
ArgumentFits kinds.Pattern _ = ⊥
ArgumentFits kinds.Data (values.Data value) = IsWithin (2 ^ 63) value
ArgumentFits kinds.Data _ = ⊥
ArgumentFits kinds.Mode (values.Mode mode) = Unit {0}
ArgumentFits kinds.Mode _ = ⊥
ArgumentFits kind (values.Number n) = IsWithin (2 ^ 31) n
ArgumentFits kind _ = ⊥

abbrev pub ArgumentsFit : List ArgumentKind → List Value → Type 0
ArgumentsFit [] [] = Unit {0}
ArgumentsFit (kind ∷ kinds) (value ∷ values) = ArgumentFits kind value × ArgumentsFit kinds values
ArgumentsFit _ _ = ⊥

argument_fits : (kind : ArgumentKind) (value : Value) → is_of_kind kind value ≡ true → IsInBits value → ArgumentFits kind value
argument_fits kinds.Pattern (values.Pattern bits) e fits = fits
argument_fits kinds.Pattern _ e fits = absurd (false≢true e)
argument_fits kinds.Data (values.Data value) e fits = fits
argument_fits kinds.Data _ e fits = absurd (false≢true e)
argument_fits kinds.Mode (values.Mode mode) e fits = fits
argument_fits kinds.Mode _ e fits = absurd (false≢true e)
argument_fits (kinds.Object kind) (values.Number n) e fits = fits
argument_fits _ (values.Number n) e fits = fits
argument_fits _ _ e fits = absurd (false≢true e)

arguments_fit : (kinds : List ArgumentKind) (values : List Value) → are_of_kinds kinds values ≡ true → AreInBits values → ArgumentsFit kinds values
arguments_fit [] [] e fits = tt
arguments_fit (kind ∷ kinds) (value ∷ values) e fits =
    let parts = and_parts (is_of_kind kind value) (are_of_kinds kinds values) e in
    (argument_fits kind value parts.0 fits.0, arguments_fit kinds values parts.1 fits.1)
arguments_fit [] (value ∷ values) e fits = absurd (false≢true e)
arguments_fit (kind ∷ kinds) [] e fits = absurd (false≢true e)

pub call_arguments_fit : (call : Call) → CallInBits call → ArgumentsFit (table.kinds_of call) (table.values_of call)
call_arguments_fit call fits = arguments_fit (table.kinds_of call) (table.values_of call) (are_of_kinds-values_of call) fits
