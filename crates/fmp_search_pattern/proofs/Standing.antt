-- The first place of a piece is as good as any: what stands after a later one stands after it too.
use Rattle.std.proofs.Common.{◌≡◌, ℕ, zero, suc, ◌+◌, ◌<◌, ◌≤◌, ◌==◌, ◌∙◌, Bool, true, false, ◌&&◌, ◌||◌, List, [], ◌∷◌, length, drop, None, Some, inl, inr, refl, ap, sym, subst, arith, slice_index}
use Rattle.std.proofs.lemmas.Bool.{cases_Bool, eqb-true, eq-eqb, or_left, or_right, false_from_ne_true, and_parts, or_cases}
use Rattle.std.proofs.lemmas.Grind.{common_steps}
use Rattle.std.proofs.Math.Seq.{drop-nil}
use Rattle.memchr.specs.Find.{OccursAt, FindsNeedle}
use Rattle.fmp_bytes.specs.Bytes.{cut_at, pieces_of}
use Rattle.fmp_bytes.proofs.Cutting.{pieces_left, pieces_of-cut}
use Rattle.fmp_search_pattern.specs.Matching.{any, begins, somewhere, stand}

same_truth : (a b : Bool) → (a ≡ true → b ≡ true) → (b ≡ true → a ≡ true) → a ≡ b
same_truth a b there back = elim (cases_Bool a) [
  | inl is ↦ is ∙ sym (there is)
  | inr is ↦ is ∙ sym (false_from_ne_true b (λ h. let no = back h in cc))
]

-- ---- what stands in the end of a text stands in the text

pub stand_later : (ps : List (List ℕ)) (c : ℕ) (text : List ℕ) → stand ps text ≡ true → stand ps (c ∷ text) ≡ true
stand_later [] c text h = refl
stand_later (p ∷ ps) c text h = or_right _ _ h

-- ---- a text that begins with a piece

zero_later : (j : ℕ) → suc (0 + j) ≡ 0 + suc j
zero_later j = omega arith

occurs_first : (b : ℕ) (piece : List ℕ) (c : ℕ) (text : List ℕ) → OccursAt (c ∷ text) (b ∷ piece) 0 → (b ≡ c) × OccursAt text piece 0
occurs_first b piece c text h = (
  sym (h.reads 0 (grind (arith, common_steps))),
  record {
    fits = let f = h.fits in grind (arith, common_steps);
    reads = λ j lt. ap (slice_index (c ∷ text)) (zero_later j) ∙ h.reads (suc j) (grind (arith, common_steps));
  },
)

occurs_begin : (b : ℕ) (piece : List ℕ) (text : List ℕ) → OccursAt text piece 0 → OccursAt (b ∷ text) (b ∷ piece) 0
occurs_begin b piece text h = record {
  fits = let f = h.fits in grind (arith, common_steps);
  reads = λ j lt. reads_at j lt;
} where
  reads_at : (j : ℕ) → j < length (b ∷ piece) → slice_index (b ∷ text) (0 + j) ≡ slice_index (b ∷ piece) j
  reads_at zero lt = refl
  reads_at (suc j) lt = ap (slice_index (b ∷ text)) (sym (zero_later j)) ∙ h.reads j (grind (arith, common_steps))

begins_after : (piece : List ℕ) (test : List ℕ → Bool) (text : List ℕ) → begins piece test text ≡ true → test (drop (length piece) text) ≡ true
begins_after [] test text h = h
begins_after (b ∷ piece) test [] h = cc
begins_after (b ∷ piece) test (c ∷ text) h = begins_after piece test text (and_parts (b == c) _ h).1

begins_occurs : (piece : List ℕ) (test : List ℕ → Bool) (text : List ℕ) → begins piece test text ≡ true → OccursAt text piece 0
begins_occurs [] test text h = record { fits = omega arith; reads = λ j lt. absurd (omega (arith, lt)) }
begins_occurs (b ∷ piece) test [] h = cc
begins_occurs (b ∷ piece) test (c ∷ text) h =
    let parts = and_parts (b == c) _ h in
    subst (λ x. OccursAt (x ∷ text) (b ∷ piece) 0) (eqb-true b c parts.0) (occurs_begin b piece text (begins_occurs piece test text parts.1))

occurs_begins : (piece : List ℕ) (test : List ℕ → Bool) (text : List ℕ) → OccursAt text piece 0 → begins piece test text ≡ test (drop (length piece) text)
occurs_begins [] test text h = refl
occurs_begins (b ∷ piece) test [] h = absurd (let f = h.fits in grind (arith, common_steps))
occurs_begins (b ∷ piece) test (c ∷ text) h =
    let parts = occurs_first b piece c text h in
    ap (λ x. x && begins piece test text) (eq-eqb b c parts.0) ∙ occurs_begins piece test text parts.1

-- ---- places of a text that is one byte longer

next_place : (k j : ℕ) → suc k + j ≡ suc (k + j)
next_place k j = omega arith

occurs_next : (c : ℕ) (text piece : List ℕ) (k : ℕ) → OccursAt text piece k → OccursAt (c ∷ text) piece (suc k)
occurs_next c text piece k h = record {
  fits = let f = h.fits in grind (arith, common_steps);
  reads = λ j lt. ap (slice_index (c ∷ text)) (next_place k j) ∙ h.reads j lt;
}

occurs_back : (c : ℕ) (text piece : List ℕ) (k : ℕ) → OccursAt (c ∷ text) piece (suc k) → OccursAt text piece k
occurs_back c text piece k h = record {
  fits = let f = h.fits in grind (arith, common_steps);
  reads = λ j lt. ap (slice_index (c ∷ text)) (sym (next_place k j)) ∙ h.reads j lt;
}

module _ (piece : List ℕ) (ps : List (List ℕ)) where
  abbrev here : List ℕ → Bool
  here = begins piece (stand ps)

  after_later : (n c : ℕ) (text : List ℕ) → stand ps (drop n text) ≡ true → stand ps (drop n (c ∷ text)) ≡ true
  after_later zero c text h = stand_later ps c text h
  after_later (suc n) c [] h = ap (stand ps) (drop-nil n) ∙ h
  after_later (suc n) c (d ∷ text) h = after_later n d text h

  -- what stands after any place of the piece stands after the first place where it could stand
  any_place : (text : List ℕ) → somewhere here text ≡ true → stand ps (drop (length piece) text) ≡ true
  any_place [] h = begins_after piece (stand ps) [] h
  any_place (c ∷ text) h = elim (or_cases (here (c ∷ text)) (somewhere here text) h) [
    | inl first ↦ begins_after piece (stand ps) (c ∷ text) first
    | inr later ↦ after_later (length piece) c text (any_place text later)
  ]

  pub some_first : (text : List ℕ) → here text ≡ true → somewhere here text ≡ true
  some_first [] h = h
  some_first (c ∷ text) h = or_left _ _ h

  -- a piece that stands somewhere has a place
  has_place : (text : List ℕ) → somewhere here text ≡ true → (k : ℕ) × (k ≤ length text) × OccursAt text piece k
  has_place [] h = (0, omega arith, begins_occurs piece (stand ps) [] h)
  has_place (c ∷ text) h = elim (or_cases (here (c ∷ text)) (somewhere here text) h) [
    | inl first ↦ (0, omega arith, begins_occurs piece (stand ps) (c ∷ text) first)
    | inr later ↦
        let more = has_place text later in
        let low = more.1 in
        (suc more.0, grind (arith, common_steps), occurs_next c text piece more.0 more.2)
  ]

  zero_more : (n : ℕ) → 0 + n ≡ n
  zero_more n = omega arith

  pub no_place : (text : List ℕ) → FindsNeedle text piece 0 None → stand (piece ∷ ps) text ≡ false
  no_place text none = false_from_ne_true _ (λ h. let at = has_place text h in none at.0 (omega arith) (let low = at.1 in omega (arith, low)) at.2)

  first_place : (text : List ℕ) (k : ℕ) → OccursAt text piece k → ((j : ℕ) → j < k → OccursAt text piece j → ⊥) → somewhere here text ≡ stand ps (drop (k + length piece) text)
  first_place text zero at before =
      same_truth (somewhere here text) (stand ps (drop (length piece) text)) (any_place text) (λ h. some_first text (occurs_begins piece (stand ps) text at ∙ h))
      ∙ ap (λ n. stand ps (drop n text)) (sym (zero_more (length piece)))
  first_place [] (suc k) at before = absurd (let f = at.fits in grind (arith, common_steps))
  first_place (c ∷ text) (suc k) at before =
      let not_here : here (c ∷ text) ≡ false = false_from_ne_true _ (λ h. before 0 (omega arith) (begins_occurs piece (stand ps) (c ∷ text) h)) in
      ap (λ b. b || somewhere here text) not_here
      ∙ first_place text k (occurs_back c text piece k at) (λ j lt o. before (suc j) (omega (arith, lt)) (occurs_next c text piece j o))
      ∙ ap (λ n. stand ps (drop n (c ∷ text))) (sym (next_place k (length piece)))

  pub found_place : (text : List ℕ) (k : ℕ) → FindsNeedle text piece 0 (Some k) → stand (piece ∷ ps) text ≡ stand ps (drop (k + length piece) text)
  found_place text k found = first_place text k found.1 (λ j lt o. found.0.before j (omega arith) lt o)

-- ---- one line after the other

pub any_first : (test : List ℕ → Bool) (c : ℕ) (text : List ℕ) → test (cut_at c text).0 ≡ true → any test (pieces_of c text) ≡ true
any_first test c text is = ap (any test) (pieces_of-cut c text) ∙ or_left _ _ is

pub any_rest : (test : List ℕ → Bool) (c : ℕ) (text : List ℕ) → test (cut_at c text).0 ≡ false → any test (pieces_of c text) ≡ any test (pieces_left c (cut_at c text).1)
any_rest test c text is = ap (any test) (pieces_of-cut c text) ∙ ap (λ b. b || any test (pieces_left c (cut_at c text).1)) is
