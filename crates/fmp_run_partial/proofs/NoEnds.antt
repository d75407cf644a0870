-- A text that partly prints records does not say that it ends before its log.
use Rattle.std.proofs.Common.{◌≡◌, ◌⊎◌, ℕ, ◌+◌, ◌<◌, ◌≤◌, ◌^◌, inl, inr, List, [], ◌∷◌, ◌++◌, length, take, drop, Option, Some, None, refl, sym, ap, subst, ◌∙◌, arith, append_assoc, length-append, eqb, true, false}
use Rattle.std.specs.Prelude.{Bool, ◌&&◌, not, codes, decimal}
use Rattle.std.specs.List.{list_all}
use Rattle.std.proofs.lemmas.Bool.{cases_Bool, false≢true}
use Rattle.std.proofs.lemmas.List.Folds.{list_all-append}
use Rattle.std.proofs.lemmas.List.{append_cancel_right}
use Rattle.std.proofs.Math.Seq.{drop-append_seam, take-append_seam}
use Rattle.fmp_codes.specs.declared.records.Record.{Record}
use Rattle.fmp_names.specs.Names.{NameLists}
use Rattle.fmp_bytes.proofs.Prefixes.{list_all-both}
use Rattle.fmp_trace.specs.Prints.{IsUnended}
use Rattle.fmp_trace_partial.specs.Partial.{bounded_text, kept_text, number_text}
use Rattle.fmp_trace_partial.specs.declared.kept.Kept.{Kept}
use Rattle.fmp_trace_partial.specs.Partly.{PartlyPrints, PartlyPrintsFrom, PartlyPrintsWithin}
use Rattle.fmp_run_partial.specs.Endings.{AreLines, EndsAt, IsBody}
use Rattle.fmp_run_partial.proofs.Lasts.{digits_are_other, one_start, unended}

-- the last line of a text, which partly prints a record
record LastPrints (names : NameLists) (text : List ℕ) : Type 0 where
  body : List ℕ
  line : List ℕ
  number : ℕ
  record_of : Record
  parts : text ≡ (body ++ line) ++ 10 ∷ []
  lines : AreLines body
  unended_line : IsUnended line
  prints : PartlyPrints names number line record_of

-- lines behind one more line are lines
more_lines : (line body : List ℕ) → AreLines body → AreLines (line ++ 10 ∷ body)
more_lines line body (inl empty) = inr (line, ap (λ (xs : List ℕ). line ++ 10 ∷ xs) empty)
more_lines line body (inr (front, is)) = inr (line ++ 10 ∷ front, ap (λ (xs : List ℕ). line ++ 10 ∷ xs) is ∙ sym (append_assoc line (10 ∷ front) (10 ∷ [])))

last_of : (names : NameLists) (n : ℕ) (text : List ℕ) (rs : List Record) → PartlyPrintsFrom names n text rs → (text ≡ []) ⊎ LastPrints names text
last_of names n text [] prints = inl prints
last_of names n text (r ∷ rs) (line, rest, begins, here, more) =
    elim (last_of names (n + 1) rest rs more) [
      | inl empty ↦ inr (record {
        body = [];
        line = line;
        number = n;
        record_of = r;
        parts = begins.parts ∙ ap (λ (xs : List ℕ). line ++ 10 ∷ xs) empty;
        lines = inl refl;
        unended_line = begins.unended;
        prints = here;
      })
      | inr last ↦
          let rest_is = last.parts in
          inr (record {
            body = line ++ 10 ∷ last.body;
            line = last.line;
            number = last.number;
            record_of = last.record_of;
            parts = begins.parts ∙ ap (λ (xs : List ℕ). line ++ 10 ∷ xs) rest_is ∙ sym (append_assoc line (10 ∷ (last.body ++ last.line)) (10 ∷ [])) ∙ ap (λ (xs : List ℕ). xs ++ 10 ∷ []) (sym (append_assoc line (10 ∷ last.body) last.line));
            lines = more_lines line last.body last.lines;
            unended_line = last.unended_line;
            prints = last.prints;
          })
    ]

-- ---- what is printed of a record has a `P`, and such a last line has none

abbrev is_other : ℕ → Bool
is_other b = not (eqb b 80)

-- a text with a `P` in it, from which the text can be read off
record HasOne (text : List ℕ) : Type 0 where
  has : list_all is_other text ≡ false

left : {xs : List ℕ} (ys : List ℕ) → HasOne xs → HasOne (xs ++ ys)
left {xs = xs} ys one = record { has = list_all-append is_other xs ys ∙ ap (λ x. x && list_all is_other ys) one.has }

lead_has : (xs : List ℕ) → HasOne (xs ++ codes "P")
lead_has xs =
    elim (cases_Bool (list_all is_other xs)) [
      | inl t ↦ record { has = list_all-append is_other xs (codes "P") ∙ ap (λ x. x && false) t }
      | inr f ↦ record { has = list_all-append is_other xs (codes "P") ∙ ap (λ x. x && false) f }
    ]

line_has : (names : NameLists) (n : ℕ) (kept : Kept) (bound : Option ℕ) (r : Record) → HasOne (bounded_text names n kept bound r)
unfolding bounded_text kept_text
line_has names n kept bound r = left _ (left _ (left _ (left _ (left _ (left _ (left _ (left _ (lead_has (number_text kept.number n)))))))))

end_has_none : (m : ℕ) → m < 2 ^ 32 → list_all is_other (codes "ends " ++ decimal m) ≡ true
end_has_none m small =
    list_all-both is_other (codes "ends ") (decimal m) refl (digits_are_other 80 m refl small)

begins_otherwise : (names : NameLists) (n m : ℕ) (r : Record) → m < 2 ^ 32 → PartlyPrints names n (codes "ends " ++ decimal m) r → ⊥
begins_otherwise names n m r small prints =
    let one = line_has names n prints.kept prints.bound r in
    false≢true (sym one.has ∙ ap (list_all is_other) (sym prints.printed) ∙ end_has_none m small)

pub no_end : (names : NameLists) (n : ℕ) (text body : List ℕ) (rs : List Record) (m : ℕ) → PartlyPrintsFrom names n text rs → EndsAt text body m → ⊥
no_end names n text body rs m prints ends =
    elim (last_of names n text rs prints) [
      | inl empty ↦
          let long : length text ≡ 0 = ap length empty in
          let same = ap length ends.parts in
          let sum = length-append (body ++ (codes "ends " ++ decimal m)) (10 ∷ []) in
          absurd (omega (arith, long, same, sum))
      | inr last ↦
          let line : List ℕ = codes "ends " ++ decimal m in
          let whole : (body ++ line) ++ 10 ∷ [] ≡ (last.body ++ last.line) ++ 10 ∷ [] = sym ends.parts ∙ last.parts in
          let front : body ++ line ≡ last.body ++ last.line = append_cancel_right (body ++ line) (last.body ++ last.line) (10 ∷ []) whole in
          let within : length body ≤ length (body ++ line) = let sum = length-append body line in omega (arith, sum) in
          let cut : drop (length body) (body ++ line) ≡ line = drop-append_seam body line in
          let first : take (length body) (body ++ line) ≡ body = take-append_seam body line in
          let same : drop (length body) (body ++ line) ≡ last.line =
          one_start (body ++ line) last.body last.line (length body) within (subst AreLines (sym first) ends.lines) (subst IsUnended (sym cut) (unended m ends.small)) front last.lines last.unended_line in
          begins_otherwise names last.number m last.record_of ends.small (subst (λ (l : List ℕ). PartlyPrints names last.number l last.record_of) (sym same ∙ cut) last.prints)
    ]

-- such a text is its own body
pub own_body : (names : NameLists) (text body : List ℕ) (ends : Option ℕ) (rs : List Record) → PartlyPrintsWithin names text rs → IsBody text body ends → (body ≡ text) × (ends ≡ None)
own_body names text body None rs prints is = (is.0, refl)
own_body names text body (Some m) rs prints is = absurd (no_end names 1 text body rs m prints.prints is)

-- a body is no longer than its text
pub no_longer : (text body : List ℕ) (ends : Option ℕ) → IsBody text body ends → length body ≤ length text
no_longer text body None is = let same = ap length is.0 in omega (arith, same)
no_longer text body (Some m) is =
    let whole = ap length is.parts in
    let one = length-append (body ++ (codes "ends " ++ decimal m)) (10 ∷ []) in
    let two = length-append body (codes "ends " ++ decimal m) in
    omega (arith, whole, one, two)
