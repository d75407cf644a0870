-- Why reading that went on had a fault.
use Rattle.std.proofs.Common.{◌≡◌, ◌⊎◌, inl, inr, Bool, true, false, cond, Option, Some, None, Result, Ok, Err, refl, sym, ap, ◌∙◌}
use Rattle.std.specs.Option.{ok_or}
use Rattle.fmp_bytes.specs.Results.{◌>>=◌}
use Rattle.fmp_config_statements.specs.declared.fault.ConfigKind.{ConfigKind}
use Rattle.fmp_config_statements.specs.Faults.{Fault}

pub ok_err : {A E : Type 0} (x : A) (fault : E) → ◌≡◌ {A = Result A E} (Ok x) (Err fault) → ⊥
ok_err x fault e = absurd cc

pub err_same : {A E : Type 0} (a b : E) → ◌≡◌ {A = Result A E} (Err a) (Err b) → a ≡ b
err_same a b e = cc

pub both_ways : {A E : Type 0} (r : Result A E) (x : A) (fault : E) → r ≡ Ok x → r ≡ Err fault → ⊥
both_ways r x fault is not_so = ok_err x fault (sym is ∙ not_so)

-- the fault was there before, or came after
pub bind_err : {A B E : Type 0} (r : Result A E) (f : A → Result B E) (fault : E) → (r >>= f) ≡ Err fault → (r ≡ Err fault) ⊎ ((a : A) × (r ≡ Ok a) × (f a ≡ Err fault))
bind_err (Ok a) f fault e = inr (a, refl, e)
bind_err (Err other) f fault e = inl (ap Err (err_same other fault e))

pub tested_err : {A E : Type 0} (b : Bool) (x : A) (bad fault : E) → cond b (Ok x) (Err bad) ≡ Err fault → (b ≡ false) × (bad ≡ fault)
tested_err true x bad fault e = absurd (ok_err x fault e)
tested_err false x bad fault e = (refl, err_same bad fault e)

pub ok_or_err : {A E : Type 0} (o : Option A) (bad fault : E) → ok_or o bad ≡ Err fault → (o ≡ None) × (bad ≡ fault)
ok_or_err (Some x) bad fault e = absurd (ok_err x fault e)
ok_or_err None bad fault e = (refl, err_same bad fault e)

pub kind_is : (bad fault : Fault) (kind : ConfigKind) → bad ≡ fault → bad.kind ≡ kind → fault.kind ≡ kind
kind_is bad fault kind same is = sym (ap (λ (f : Fault). f.kind) same) ∙ is
