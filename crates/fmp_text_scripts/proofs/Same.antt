-- Calls of one name with the same arguments are equal.
use Rattle.std.proofs.Common.{◌≡◌, Option, sym, ap, ◌∙◌}
use Rattle.std.specs.Prelude.{unwrap_or}
use Rattle.fmp_codes.specs.declared.calls.Call.{Call}
use Rattle.fmp_calls.specs.Table.{call_of, name_of, named, text_of, values_of}
use Rattle.fmp_calls.proofs.Matched.{call_of-parts, named-text_of}

pub calls_same : (a b : Call) → text_of a ≡ text_of b → values_of a ≡ values_of b → a ≡ b
calls_same a b texts values =
    let names : name_of a ≡ name_of b = ap (λ (o : Option Call). unwrap_or o a) (sym (named-text_of a) ∙ ap named texts ∙ named-text_of b) in
    ap (λ (o : Option Call). unwrap_or o a) (sym (call_of-parts a) ∙ ap (call_of (name_of a)) values ∙ ap (λ (n : Call). call_of n (values_of b)) names ∙ call_of-parts b)
