-- Values of the right kinds are what is read of them as arguments.
use Rattle.std.proofs.Common.{◌≡◌, ◌∙◌, ℕ, ◌+◌, ap, subst, refl, true, List, [], ◌∷◌, ◌++◌, length}
use Rattle.std.specs.Prelude.{pos}
use Rattle.std.proofs.Math.Seq.{get_or-append_seam}
use Rattle.std.proofs.lemmas.List.{append_assoc, length-append}
use Rattle.std.proofs.lemmas.Bool.{and_parts}
use Rattle.fmp_codes.specs.declared.kinds.ArgumentKind.{ArgumentKind}
use Rattle.fmp_codes.specs.declared.kinds.ArgumentKind.TheVariants as kinds
use Rattle.fmp_codes.specs.declared.kinds.Value.{Value}
use Rattle.fmp_codes.specs.declared.kinds.Value.TheVariants as values
use Rattle.fmp_codes.specs.Kinds.{is_of_kind, are_of_kinds}
use Rattle.fmp_calls.specs.Entries.{value_of, argument_in, value_at, values_in, arguments_from}

value_of-argument_in : (kind : ArgumentKind) (value : Value) → is_of_kind kind value ≡ true → value_of kind (argument_in kind value) ≡ value
value_of-argument_in kinds.Pattern (values.Pattern bits) e = refl
value_of-argument_in kinds.Data (values.Data value) e = refl
value_of-argument_in kinds.Mode (values.Mode mode) e = refl
value_of-argument_in kinds.Pattern _ e = search
value_of-argument_in kinds.Data _ e = search
value_of-argument_in kinds.Mode _ e = search
value_of-argument_in _ (values.Number n) e = refl
value_of-argument_in _ _ e = search

values_in-arguments_after : (kinds : List ArgumentKind) (prefix rest : List Value) → are_of_kinds kinds rest ≡ true
    → values_in kinds (arguments_from kinds (length prefix) (prefix ++ rest)) ≡ rest
values_in-arguments_after [] prefix [] e = refl
values_in-arguments_after [] prefix (value ∷ values) e = search
values_in-arguments_after (kind ∷ kinds) prefix [] e = search
values_in-arguments_after (kind ∷ kinds) prefix (value ∷ rest) e =
    let each = and_parts (is_of_kind kind value) (are_of_kinds kinds rest) e in
    let at : value_at (prefix ++ value ∷ rest) (length prefix) ≡ value = get_or-append_seam prefix value rest (values.Number (pos 0)) in
    let first : value_of kind (argument_in kind (value_at (prefix ++ value ∷ rest) (length prefix))) ≡ value =
    ap (λ (v : Value). value_of kind (argument_in kind v)) at ∙ value_of-argument_in kind value each.0 in
    let others = values_in-arguments_after kinds (prefix ++ value ∷ []) rest each.1 in
    let count : length (prefix ++ value ∷ []) ≡ length prefix + 1 = length-append prefix (value ∷ []) in
    let whole : (prefix ++ value ∷ []) ++ rest ≡ prefix ++ value ∷ rest = append_assoc prefix (value ∷ []) rest in
    let following : values_in kinds (arguments_from kinds (length prefix + 1) (prefix ++ value ∷ rest)) ≡ rest =
    subst (λ (n : ℕ). values_in kinds (arguments_from kinds n (prefix ++ value ∷ rest)) ≡ rest) count
    (subst (λ (l : List Value). values_in kinds (arguments_from kinds (length (prefix ++ value ∷ [])) l) ≡ rest) whole others) in
    ap (λ (v : Value). v ∷ values_in kinds (arguments_from kinds (length prefix + 1) (prefix ++ value ∷ rest))) first
    ∙ ap (λ (vs : List Value). value ∷ vs) following

-- values of the right kinds are those of the arguments that are read of them
pub values_in-arguments_from : (kinds : List ArgumentKind) (list : List Value) → are_of_kinds kinds list ≡ true
    → values_in kinds (arguments_from kinds 0 list) ≡ list
values_in-arguments_from kinds list e = values_in-arguments_after kinds [] list e
