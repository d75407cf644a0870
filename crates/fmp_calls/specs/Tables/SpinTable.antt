-- The calls on spin locks.
use Rattle.std.specs.Prelude.{[], ◌∷◌, codes}
use Rattle.fmp_codes.specs.declared.calls.SpinCall.{SpinCall}
use Rattle.fmp_codes.specs.declared.calls.SpinCall.TheVariants.{LocSpn, IlocSpn, TrySpn, ItrySpn, UnlSpn, IunlSpn}
use Rattle.fmp_calls.specs.Entries.{Line, line}
use Rattle.fmp_codes.specs.Kinds.{spin_lock}

abbrev pub line_of : SpinCall → Line SpinCall
line_of (LocSpn l) = line (codes "loc_spn") (spin_lock ∷ []) LocSpn (l, tt)
line_of (IlocSpn l) = line (codes "iloc_spn") (spin_lock ∷ []) IlocSpn (l, tt)
line_of (TrySpn l) = line (codes "try_spn") (spin_lock ∷ []) TrySpn (l, tt)
line_of (ItrySpn l) = line (codes "itry_spn") (spin_lock ∷ []) ItrySpn (l, tt)
line_of (UnlSpn l) = line (codes "unl_spn") (spin_lock ∷ []) UnlSpn (l, tt)
line_of (IunlSpn l) = line (codes "iunl_spn") (spin_lock ∷ []) IunlSpn (l, tt)
