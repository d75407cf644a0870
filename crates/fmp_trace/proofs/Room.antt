-- Where room was wanting for a part of a list's text, it was wanting for the whole text.
use Rattle.std.proofs.Common.{◌≡◌, ℕ, zero, suc, ◌+◌, ◌<◌, ◌≤◌, List, [], ◌∷◌, ◌++◌, length, drop, get_or, Some, Result, Ok, Err, OnErr, ap, sym, ◌∙◌, refl, arith, length-append, drop-cons, append_assoc, append-nil}
use Rattle.std.specs.Prelude.{codes, decimal, slice_get}
use Rattle.fmp_codes.specs.declared.numbers.Proc.{Proc}
use Rattle.fmp_codes.specs.declared.records.Release.{Release}
use Rattle.fmp_codes.specs.declared.kinds.ArgumentKind.{ArgumentKind}
use Rattle.fmp_codes.specs.declared.kinds.Value.{Value}
use Rattle.fmp_names.specs.Names.{NameLists}
use Rattle.fmp_trace.specs.Lines.{release_text, releases_text, request_lead, requests_from}
use Rattle.fmp_trace.specs.Values.{separator, value_text, arguments_from}
use Rattle.fmp_trace.proofs.Releases.{drop-slice_get}

-- the rest of a list's text: what stands before the next item, that item, and what is behind it
pub record IsNext (rest front item following : List ℕ) : Type 0 where
  pub is : rest ≡ front ++ (item ++ following)

module _ (old all made : List ℕ) {rest front item following : List ℕ} (so_far : made ++ rest ≡ old ++ all) (next : IsNext rest front item following) where
  sizes : length made + (length front + (length item + length following)) ≡ length old + length all
  sizes = omega (arith, ap (λ (xs : List ℕ). length xs) so_far, ap (λ (xs : List ℕ). length xs) next.is, length-append made rest, length-append front (item ++ following), length-append item following, length-append old all)

  -- room was wanting for what stands before the item
  pub front_wanting : {A E : Type 0} (r : Result A E) (room left : ℕ) → room ≤ left → left < length made + length front → OnErr r (room < length old + length all)
  front_wanting (Ok x) room left kept full = tt
  front_wanting (Err e) room left kept full = omega (arith, sizes, kept, full)

  -- room was wanting for the item
  pub item_wanting : {A E : Type 0} (r : Result A E) (room left : ℕ) (new : List ℕ) → new ≡ made ++ front → room ≤ left → left < length new + length item → OnErr r (room < length old + length all)
  item_wanting (Ok x) room left new added kept full = tt
  item_wanting (Err e) room left new added kept full = omega (arith, sizes, ap (λ (xs : List ℕ). length xs) added, length-append made front, kept, full)

-- ---- releases, which have nothing before them

pub releases_next : (lists : NameLists) (rs : List Release) (i : ℕ) (r : Release) → slice_get rs i ≡ Some r → IsNext (releases_text lists (drop i rs)) (release_text lists r) (releases_text lists (drop (i + 1) rs)) []
releases_next lists rs i r there = record {
  is = ap (releases_text lists) (drop-slice_get rs i r there) ∙ ap (λ (xs : List ℕ). release_text lists r ++ xs) (sym (append-nil (releases_text lists (drop (i + 1) rs))));
}

-- ---- requests

pub requests_next : (ps : List Proc) (i : ℕ) (p : Proc) → i < length ps → p ≡ get_or ps i p → IsNext (requests_from i (drop i ps)) (request_lead i) (decimal p.number) (requests_from (i + 1) (drop (suc i) ps))
requests_next ps i p lt is = record {
  is = ap (requests_from i) (drop-cons ps i p lt ∙ ap (λ (q : Proc). q ∷ drop (suc i) ps) (sym is)) ∙ append_assoc (request_lead i) (decimal p.number) (requests_from (i + 1) (drop (suc i) ps));
}

pub lead_after : (i : ℕ) → (i ≡ 0 → ⊥) → request_lead i ≡ codes ","
lead_after zero following = absurd (following refl)
lead_after (suc i) following = refl

-- ---- arguments

pub arguments_next : (lists : NameLists) (kinds : List ArgumentKind) (values : List Value) (i : ℕ) (k : ArgumentKind) (v : Value) → i < length kinds → i < length values
    → IsNext (arguments_from lists i (drop i kinds) (drop i values)) (separator i) (value_text lists (get_or kinds i k) (get_or values i v)) (arguments_from lists (i + 1) (drop (suc i) kinds) (drop (suc i) values))
arguments_next lists kinds values i k v few lt = record {
  is = ap (λ (ks : List ArgumentKind). arguments_from lists i ks (drop i values)) (drop-cons kinds i k few) ∙ ap (arguments_from lists i (get_or kinds i k ∷ drop (suc i) kinds)) (drop-cons values i v lt)
      ∙ append_assoc (separator i) (value_text lists (get_or kinds i k) (get_or values i v)) (arguments_from lists (i + 1) (drop (suc i) kinds) (drop (suc i) values));
}

pub separator_first : (i : ℕ) → i ≤ 0 → separator i ≡ []
separator_first zero le = refl
separator_first (suc i) le = absurd (omega (arith, le))

pub separator_after : (i : ℕ) → 0 < i → separator i ≡ codes ", "
separator_after zero lt = absurd (omega (arith, lt))
separator_after (suc i) lt = refl
