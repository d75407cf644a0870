-- What the getters of the matches give, by the ids.
use Rattle.std.proofs.Common.{◌≡◌, ◌∙◌, ap, subst, sym, refl, ℕ, Bool, true, false, List, [], Option, Some, None, codes}
use Rattle.std.specs.Prelude.{Ok, Err, Result, is_some, option_map, unwrap_or}
use Rattle.std.specs.Borrow.{Bor}
use Rattle.std.specs.Str.Parse.{ParsesUnsigned}
use Rattle.clap.specs.Matches.{ReadsOne, first_value, one_text}
use Rattle.clap.specs.Walk.{Text, first_of, one_of, rows_of}
use Rattle.clap.specs.declared.parser.matches.Found.{Found}
use Rattle.clap.proofs.WalkLemmas.{first_value-rows, one_text-rows}
use Rattle.fmp_cli.specs.Numbers.{IsNumberIn, number_of}
use Rattle.fmp_cli.specs.Found.{IsFlag}

-- a text that is given
pub given_text : (f : Found) (id t : Text) → is_some (first_value f id) ≡ true → t ≡ unwrap_or (first_of id (rows_of f)) [] → first_of id (rows_of f) ≡ Some t
given_text f id t has is = go (first_of id (rows_of f)) (subst (λ (o : Option Text). is_some o ≡ true) (first_value-rows f id) has) is
  where
    go : (o : Option Text) → is_some o ≡ true → t ≡ unwrap_or o [] → o ≡ Some t
    go None has is = cc
    go (Some u) has is = ap Some (sym is)

-- the first text of an id, or nothing
pub text_or : (f : Found) (id : Text) (o : Option (Bor Text)) (d r : Bor Text) → option_map (λ s. s.now) o ≡ first_of id (rows_of f)
    → d.now ≡ [] → r ≡ unwrap_or o d → r.now ≡ unwrap_or (first_of id (rows_of f)) []
text_or f id o d r same empty is = ap (λ (b : Bor Text). b.now) is ∙ (go o ∙ ap (λ v. unwrap_or v []) same)
  where
    go : (o : Option (Bor Text)) → (unwrap_or o d).now ≡ unwrap_or (option_map (λ s. s.now) o) []
    go None = empty
    go (Some p) = refl

-- a number that a text gives
pub number_read : (E : Type 0) (G : List ℕ → Result ℕ E → Type 0) (k : ℕ) (f : Found) (id t : List ℕ) (r : Option ℕ) (n : ℕ)
    → one_text f id ≡ Some t → ReadsOne G t r → ((u : List ℕ) (x : Result ℕ E) → G u x → ParsesUnsigned k 10 u x) → r ≡ Some n
    → option_map number_of (one_of id (rows_of f)) ≡ Some n
number_read E G k f id t r n text read only is =
    let parsed = only t (Ok n) (subst (λ (o : Option ℕ). ReadsOne G t o) is read) in
    ap (option_map number_of) (sym (one_text-rows f id) ∙ text) ∙ ap Some (sym parsed.1)

-- a number that may be missing
pub seed_read : (E : Type 0) (G : List ℕ → Result ℕ E → Type 0) (f : Found) (id : List ℕ) (r : Option ℕ)
    → (one_text f id ≡ None → r ≡ None) → ((t : List ℕ) → one_text f id ≡ Some t → ReadsOne G t r)
    → ((u : List ℕ) (x : Result ℕ E) → G u x → ParsesUnsigned 64 10 u x) → IsNumberIn (one_of id (rows_of f)) r
seed_read E G f id r none some only =
    subst (λ (o : Option (List ℕ)). IsNumberIn o r) (one_text-rows f id) (go (one_text f id) r none some)
  where
    go : (o : Option (List ℕ)) (r : Option ℕ) → (o ≡ None → r ≡ None) → ((t : List ℕ) → o ≡ Some t → ReadsOne G t r) → IsNumberIn o r
    go None r none some = none refl
    go (Some t) (Some n) none some = only t (Ok n) (some t refl)
    go (Some t) None none some = let got = some t refl in only t (Err got.0) got.1

-- a flag
pub flag_read : (f : Found) (id : List ℕ) (b : Bool) → (one_text f id ≡ None → b ≡ false) → (one_text f id ≡ Some (codes "true") → b ≡ true)
    → (one_text f id ≡ Some (codes "false") → b ≡ false) → IsFlag (one_of id (rows_of f)) b
flag_read f id b missing set unset = subst (λ (o : Option (List ℕ)). IsFlag o b) (one_text-rows f id) (record { missing = missing; set = set; unset = unset })
