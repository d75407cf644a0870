-- The parts of what was read.
use Rattle.std.proofs.Common.{◌≡◌, Bool, true, false, cond, Option, Some, None, Result, Ok, Err, option_and_then, refl, ap}
use Rattle.std.specs.Option.{ok_or}
use Rattle.fmp_bytes.specs.Results.{◌>>=◌}

pub and_then_parts : {A B : Type 0} (o : Option A) (f : A → Option B) (b : B) → option_and_then f o ≡ Some b → (a : A) × (o ≡ Some a) × (f a ≡ Some b)
and_then_parts (Some a) f b e = (a, refl, e)
and_then_parts None f b e = absurd cc

pub ok_or_parts : {A E : Type 0} (o : Option A) (fault : E) (a : A) → ok_or o fault ≡ Ok a → o ≡ Some a
ok_or_parts (Some x) fault a e = let same : x ≡ a = cc in ap (λ y. Some y) same
ok_or_parts None fault a e = absurd cc

pub tested_ok : {A E : Type 0} (b : Bool) (r : Result A E) (fault : E) (y : A) → cond b r (Err fault) ≡ Ok y → (b ≡ true) × (r ≡ Ok y)
tested_ok true r fault y e = (refl, e)
tested_ok false r fault y e = absurd cc

pub some_is : {A : Type 0} (x y : A) → Some x ≡ Some y → x ≡ y
some_is x y e = cc

-- reading that went on had a value
pub bind_parts : {A B E : Type 0} (r : Result A E) (f : A → Result B E) (b : B) → (r >>= f) ≡ Ok b → (a : A) × (r ≡ Ok a) × (f a ≡ Ok b)
bind_parts (Ok a) f b e = (a, refl, e)
bind_parts (Err fault) f b e = absurd cc
