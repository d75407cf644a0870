-- A text past its limit is judged the same from any prefix that is past it too.
use Rattle.std.proofs.Common.{◌≡◌, ◌∙◌, ℕ, ◌<◌, ◌≤◌, Bool, true, false, List, [], ◌++◌, length, refl, ap, sym, arith, length-append}
use Rattle.std.specs.Prelude.{nat_lt, Ok, Err}
use Rattle.std.proofs.lemmas.Bool.{lt-ltb, ltb-true, ltb-false}
use Rattle.std.proofs.lemmas.List.{append-nil}
use Rattle.fmp_config_statements.specs.declared.fault.ConfigKind.TheVariants as config_kind
use Rattle.fmp_config_statements.specs.Faults.{fault_of_line}
use Rattle.fmp_config.specs.Limits.{most_bytes as MOST_CONFIG_BYTES}
use Rattle.fmp_setup.specs.Setup.{Setup}
use Rattle.fmp_config.specs.Reading.{config_in}
use Rattle.fmp_names.specs.Names.{NameLists}
use Rattle.fmp_text_scripts.specs.Scripts.{Steps}
use Rattle.fmp_text_scripts.specs.Texts.{fault_at, scripts_in}
use Rattle.fmp_text.specs.Limits.{most_bytes as MOST_TEXT_BYTES}
use Rattle.fmp_text.specs.declared.fault.TextKind.TheVariants as text_kind

-- any function of a text that answers one thing past the limit
same : {A : Type 0} (limit : ℕ) (f : List ℕ → A) (past : A) → ((text : List ℕ) → limit < length text → f text ≡ past)
    → (all text rest : List ℕ) → all ≡ text ++ rest → (length text ≤ limit → rest ≡ []) → f all ≡ f text
same limit f past gives all text rest split whole = go (nat_lt limit (length text)) refl
  where
    go : (b : Bool) → nat_lt limit (length text) ≡ b → f all ≡ f text
    go true is =
        let long : limit < length text = ltb-true limit (length text) is in
        let longer : limit < length all = rw (split, length-append) (omega arith) in
        gives all longer ∙ sym (gives text long)
    go false is = ap f (split ∙ ap (λ xs. text ++ xs) (whole (ltb-false limit (length text) is)) ∙ append-nil text)

pub config_in-prefix : (all text rest : List ℕ) → all ≡ text ++ rest → (length text ≤ MOST_CONFIG_BYTES → rest ≡ []) → config_in all ≡ config_in text
unfolding config_in
config_in-prefix all text rest split whole =
    same MOST_CONFIG_BYTES config_in (Err (fault_of_line config_kind.TooMany 0)) (λ t long. rw (lt-ltb MOST_CONFIG_BYTES (length t) long) refl) all text rest split whole

-- what is accepted is within the limit
pub config_in-ok : (text : List ℕ) (config : Setup) → config_in text ≡ Ok config → length text ≤ MOST_CONFIG_BYTES
unfolding config_in
config_in-ok text config is = go (nat_lt MOST_CONFIG_BYTES (length text)) refl
  where
    go : (b : Bool) → nat_lt MOST_CONFIG_BYTES (length text) ≡ b → length text ≤ MOST_CONFIG_BYTES
    go true long =
        let bad = rw long at is in
        cc
    go false short = ltb-false MOST_CONFIG_BYTES (length text) short

pub scripts_in-prefix : (names : NameLists) (all text rest : List ℕ) → all ≡ text ++ rest → (length text ≤ MOST_TEXT_BYTES → rest ≡ []) →
    scripts_in names all ≡ scripts_in names text
unfolding scripts_in
scripts_in-prefix names all text rest split whole =
    same MOST_TEXT_BYTES (scripts_in names) (fault_at text_kind.TooMany 0) (λ t long. rw (lt-ltb MOST_TEXT_BYTES (length t) long) refl) all text rest split whole

pub scripts_in-ok : (names : NameLists) (text : List ℕ) (scripts : List Steps) → scripts_in names text ≡ Ok scripts → length text ≤ MOST_TEXT_BYTES
unfolding scripts_in
scripts_in-ok names text scripts is = go (nat_lt MOST_TEXT_BYTES (length text)) refl
  where
    go : (b : Bool) → nat_lt MOST_TEXT_BYTES (length text) ≡ b → length text ≤ MOST_TEXT_BYTES
    go true long =
        let bad = rw long at is in
        cc
    go false short = ltb-false MOST_TEXT_BYTES (length text) short
