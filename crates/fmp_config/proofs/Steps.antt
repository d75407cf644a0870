-- What a step of reading that succeeds came from.
use Rattle.std.proofs.Common.{◌≡◌, Bool, true, false, Option, Some, None, if◌then◌else◌, Result, Ok, Err, refl}
use Rattle.std.specs.Option.{ok_or, option_map_or}
use Rattle.fmp_bytes.specs.Results.{◌>>=◌}
use Rattle.fmp_config_statements.specs.Faults.{Fault}

pub ok_is : {A : Type 0} (x y : A) → ◌≡◌ {A = Result A Fault} (Ok x) (Ok y) → x ≡ y
ok_is x y e = cc

pub not_ok : {A : Type 0} (fault : Fault) (y : A) → Err fault ≡ Ok y → ⊥
not_ok fault y e = cc

pub bound : {A B : Type 0} (r : Result A Fault) (f : A → Result B Fault) (y : B) → (r >>= f) ≡ Ok y → (x : A) × (r ≡ Ok x) × (f x ≡ Ok y)
bound (Ok x) f y e = (x, refl, e)
bound (Err fault) f y e = absurd (not_ok fault y e)

pub passed : {A : Type 0} (b : Bool) (r : Result A Fault) (fault : Fault) (y : A) → (if b then r else Err fault) ≡ Ok y → (b ≡ true) × (r ≡ Ok y)
passed true r fault y e = (refl, e)
passed false r fault y e = absurd (not_ok fault y e)

pub refused : {A : Type 0} (b : Bool) (r : Result A Fault) (fault : Fault) (y : A) → (if b then Err fault else r) ≡ Ok y → (b ≡ false) × (r ≡ Ok y)
refused true r fault y e = absurd (not_ok fault y e)
refused false r fault y e = (refl, e)

pub allowed : {A B : Type 0} (o : Option B) (r : Result A Fault) (fault : B → Fault) (y : A) → option_map_or (λ x. Err (fault x)) o r ≡ Ok y → (o ≡ None) × (r ≡ Ok y)
allowed None r fault y e = (refl, e)
allowed (Some x) r fault y e = absurd (not_ok (fault x) y e)

pub found : {A B : Type 0} (o : Option B) (f : B → Result A Fault) (fault : Fault) (y : A) → option_map_or f o (Err fault) ≡ Ok y → (x : B) × (o ≡ Some x) × (f x ≡ Ok y)
found None f fault y e = absurd (not_ok fault y e)
found (Some x) f fault y e = (x, refl, e)

pub some_of : {A : Type 0} (o : Option A) (fault : Fault) (y : A) → ok_or o fault ≡ Ok y → o ≡ Some y
some_of None fault y e = absurd (not_ok fault y e)
some_of (Some x) fault y e = cc
