-- Attributes: what is read is spelled, and what is spelled is read.
use Rattle.std.proofs.Common.{◌≡◌, ℕ, ◌<◌, zero, suc, Bool, false, inl, inr, List, [], ◌∷◌, length, map, Option, Some, Ok, find, All, Contains, slice_index_or, refl, sym, ap, subst, ◌∙◌, arith}
use Rattle.std.specs.Str.{bytes_eq}
use Rattle.std.proofs.lemmas.Bool.{cases_Bool, false≢true}
use Rattle.std.proofs.lemmas.List.Elements.{All-nil, All-cons, All-head, All-tail}
use Rattle.std.proofs.lemmas.Slice.Eq.{bytes_eq-Decides}
use Rattle.fmp_bytes.proofs.Parsed.{ok_or_parts, some_is, bind_parts}
use Rattle.fmp_calls.proofs.Found.{found_passes}
use Rattle.fmp_config_statements.specs.declared.attributes.Attribute.{Attribute}
use Rattle.fmp_config_statements.specs.declared.attributes.Attribute.TheVariants.{Null, Activate, Start, InOrder, ByPriority, Single, Many, Clear}
use Rattle.fmp_config_statements.specs.declared.attributes.Attributes.{Attributes}
use Rattle.fmp_config_statements.specs.declared.fault.ConfigKind.TheVariants.{BadAttribute}
use Rattle.fmp_config_statements.specs.Attributes.{text_of, no_attributes, with_attribute, attribute_in, attribute_step, attributes_in}
use Rattle.fmp_config_statements.specs.Faults.{fault_at}
use Rattle.fmp_config_statements.specs.Folds.{each}
use Rattle.fmp_config_statements.specs.Words.{Word}
use Rattle.fmp_law_config.specs.Meaning.{together}
use Rattle.fmp_law_config.proofs.Results.{none_is, ok_is, each-cons, each_parts, each-none}

-- the attribute of a text
abbrev pub named : List ℕ → Option Attribute
named text = find (λ a. bytes_eq (text_of a) text) (Null ∷ Activate ∷ Start ∷ InOrder ∷ ByPriority ∷ Single ∷ Many ∷ Clear ∷ [])

named-is : (a : Attribute) → named (text_of a) ≡ Some a
named-is Null = refl
named-is Activate = refl
named-is Start = refl
named-is InOrder = refl
named-is ByPriority = refl
named-is Single = refl
named-is Many = refl
named-is Clear = refl

one_text : (a b : Attribute) → text_of b ≡ text_of a → b ≡ a
one_text a b e = some_is b a (sym (named-is b) ∙ ap named e ∙ named-is a)

-- ---- one of the allowed ones

pub contained : {X : Type 0} (p : X → Bool) (xs : List X) (x : X) → find p xs ≡ Some x → Contains xs x
contained p [] x e = absurd (none_is x e)
contained p (y ∷ ys) x e =
    elim (cases_Bool (p y)) [
      | inl t ↦ (0, omega arith, some_is y x (rw t at e))
      | inr f ↦ let rest = contained p ys x (rw f at e) in let lt = rest.1 in (suc rest.0, omega (arith, lt), rest.2)
    ]

following : (a x : Attribute) (xs : List Attribute) (k : ℕ) → k < length (x ∷ xs) → slice_index_or (x ∷ xs) k a ≡ a → bytes_eq (text_of x) (text_of a) ≡ false → Contains xs a
following a x xs zero lt e other = absurd (false≢true (sym other ∙ (bytes_eq-Decides (text_of x) (text_of a)).1 (ap text_of e)))
following a x xs (suc k) lt e other = (k, omega (arith, lt), e)

found : (allowed : List Attribute) (a : Attribute) → Contains allowed a → find (λ b. bytes_eq (text_of b) (text_of a)) allowed ≡ Some a
found [] a has = absurd (let lt = has.1 in omega (arith, lt))
found (x ∷ xs) a has =
    elim (cases_Bool (bytes_eq (text_of x) (text_of a))) [
      | inl t ↦ rw t (ap (λ (b : Attribute). Some b) (one_text a x ((bytes_eq-Decides (text_of x) (text_of a)).0 t)))
      | inr f ↦ rw f (found xs a (following a x xs has.0 has.1 has.2 f))
    ]

module _ (allowed : List Attribute) where
  attribute_in-spelled : (a : Attribute) (word : Word) → Contains allowed a → text_of a ≡ word.text → attribute_in allowed word ≡ Ok a
  unfolding attribute_in
  attribute_in-spelled a word has e =
      let there : find (λ b. bytes_eq (text_of b) word.text) allowed ≡ Some a = subst (λ (t : List ℕ). find (λ b. bytes_eq (text_of b) t) allowed ≡ Some a) e (found allowed a has) in
      rw there refl

  attribute_in_parts : (a : Attribute) (word : Word) → attribute_in allowed word ≡ Ok a → Contains allowed a × (text_of a ≡ word.text)
  unfolding attribute_in
  attribute_in_parts a word e =
      let there = ok_or_parts (find (λ b. bytes_eq (text_of b) word.text) allowed) (fault_at BadAttribute word) a e in
      (contained (λ b. bytes_eq (text_of b) word.text) allowed a there, (bytes_eq-Decides (text_of a) word.text).0 (found_passes (λ b. bytes_eq (text_of b) word.text) allowed a there))

  -- ---- all of them

  abbrev pub Spelled : Attributes → List (List ℕ) → Attributes → Type 0
  Spelled before words after = (attributes : List Attribute) × (map text_of attributes ≡ words) × All (λ a. Contains allowed a) attributes × (together before attributes ≡ after)

  steps : (attributes : List Attribute) (words : List Word) (before : Attributes) → map text_of attributes ≡ map (λ w. w.text) words → All (λ a. Contains allowed a) attributes
      → each (attribute_step allowed) before words ≡ Ok (together before attributes)
  unfolding attribute_step
  steps [] [] before e all = each-none (attribute_step allowed) before
  steps [] (w ∷ words) before e all = absurd cc
  steps (a ∷ attributes) [] before e all = absurd cc
  steps (a ∷ attributes) (w ∷ words) before e all =
      let same : text_of a ≡ w.text = cc in
      let others : map text_of attributes ≡ map (λ w. w.text) words = cc in
      let here = attribute_in-spelled a w (All-head (λ a. Contains allowed a) a attributes all) same in
      let step : attribute_step allowed before w ≡ Ok (with_attribute before a) = rw here refl in
      each-cons (attribute_step allowed) before (with_attribute before a) w words step ∙ steps attributes words (with_attribute before a) others (All-tail (λ a. Contains allowed a) a attributes all)

  pub attributes_in-spelled : (attributes : List Attribute) (words : List Word) → map text_of attributes ≡ map (λ w. w.text) words → All (λ a. Contains allowed a) attributes
      → attributes_in allowed words ≡ Ok (together no_attributes attributes)
  unfolding attributes_in
  attributes_in-spelled attributes words e all = steps attributes words no_attributes e all

  stepped : (words : List Word) (before after : Attributes) → each (attribute_step allowed) before words ≡ Ok after → Spelled before (map (λ w. w.text) words) after
  unfolding attribute_step
  stepped [] before after e = ([], refl, All-nil (λ a. Contains allowed a), ok_is before after (sym (each-none (attribute_step allowed) before) ∙ e))
  stepped (w ∷ words) before after e =
      let p = each_parts (attribute_step allowed) before after w words e in
      let q = bind_parts (attribute_in allowed w) (λ a. Ok (with_attribute before a)) p.0 p.1 in
      let a = q.0 in
      let next : with_attribute before a ≡ p.0 = ok_is (with_attribute before a) p.0 q.2 in
      let is = attribute_in_parts a w q.1 in
      let rest = stepped words (with_attribute before a) after (ap (λ (s : Attributes). each (attribute_step allowed) s words) next ∙ p.2) in
      let same = is.1 in
      let others = rest.1 in
      (a ∷ rest.0, rw (same, others) refl, All-cons (λ a. Contains allowed a) a rest.0 is.0 rest.2, rest.3)

  pub attributes_are_spelled : (words : List Word) (after : Attributes) → attributes_in allowed words ≡ Ok after → Spelled no_attributes (map (λ w. w.text) words) after
  unfolding attributes_in
  attributes_are_spelled words after e = stepped words no_attributes after e
