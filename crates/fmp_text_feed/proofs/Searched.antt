-- A search for a line feed that begins after bytes that hold none.
use Rattle.std.proofs.Common.{◌≡◌, ◌≢◌, ℕ, suc, ◌+◌, ◌-◌, ◌<◌, ◌≤◌, Bool, true, false, List, [], ◌++◌, length, take, drop, slice_index, Option, Some, None, Result, Ok, refl, ap, sym, ◌∙◌, arith}
use Rattle.std.specs.Prelude.{nat_lt}
use Rattle.std.proofs.lemmas.Grind.{common_steps}
use Rattle.std.proofs.lemmas.Bool.{eqb-true, ltb-false, ltb-true}
use Rattle.std.proofs.lemmas.List.{drop-drop, get_or-drop, get_or-take}
use Rattle.memchr.specs.Find.{IsFirstByte, is_byte}
use Rattle.fmp_codes.specs.declared.records.Event.{Event}
use Rattle.fmp_names.specs.Names.{NameLists}
use Rattle.fmp_text.specs.declared.fault.TextKind.{TextKind}
use Rattle.fmp_text.specs.declared.scan.Scan.{Scan}
use Rattle.fmp_text.specs.Lines.{line_event}
use Rattle.fmp_text.specs.Events.{HasNoFeed, ScansTo, after_line, reading_from}
use Rattle.fmp_text.proofs.Scanned.{reading_from-line}

-- the first line feed stands at this place
pub record IsFeedAt (bytes : List ℕ) (place : ℕ) : Type 0 where
  pub within : place < length bytes
  pub none_before : (j : ℕ) → j < place → slice_index bytes j ≢ 10
  pub here : slice_index bytes place ≡ 10

module _ (bytes tail : List ℕ) (searched : ℕ) (fits : searched ≤ length bytes) (prefix : HasNoFeed (take searched bytes)) (is_tail : tail ≡ drop searched bytes) where
  -- no byte below a place of the rest is one, where none of the rest below it is
  none_below : (limit : ℕ) → ((j : ℕ) → 0 ≤ j → j < limit → is_byte 10 (slice_index tail j) ≡ true → ⊥) → (j : ℕ) → j < searched + limit → slice_index bytes j ≢ 10
  none_below limit none j low is = go (nat_lt j searched) refl
    where
      go : (b : Bool) → nat_lt j searched ≡ b → ⊥
      go true below =
          let lt = ltb-true j searched below in
          prefix j (grind (arith, common_steps, lt)) (get_or-take searched bytes j 0 lt ∙ is)
      go false above =
          let le = ltb-false j searched above in
          let place : searched + (j - searched) ≡ j = omega (arith, le) in
          let same : slice_index (drop searched bytes) (j - searched) ≡ slice_index bytes j = get_or-drop searched bytes (j - searched) 0 ∙ ap (slice_index bytes) place in
          none (j - searched) (omega arith) (omega (arith, le, low)) (rw (is_tail, same, is) refl)

  -- where the search finds none, there is none
  pub no_feed : IsFirstByte (is_byte 10) tail None → HasNoFeed bytes
  no_feed none k lt = none_below (length tail) none k (rw is_tail (grind (arith, common_steps, lt, fits)))

  -- where it finds one, that is the first one of all
  pub first_feed : (found : ℕ) → IsFirstByte (is_byte 10) tail (Some found) → IsFeedAt bytes (searched + found)
  first_feed found first = record {
    within = let high = first.0.high in let tail_is = ap (λ (xs : List ℕ). length xs) is_tail in grind (arith, common_steps, high, tail_is, fits);
    none_before = none_below found first.0.before;
    here = sym (get_or-drop searched bytes found 0) ∙ ap (λ (xs : List ℕ). slice_index xs found) (sym is_tail) ∙ eqb-true (slice_index tail found) 10 first.1;
  }

-- the line that ends at the first line feed, however the text goes on
module _ (names : NameLists) (before : ℕ) (bytes piece : List ℕ) (end : ℕ) (feed : IsFeedAt bytes end) (is_piece : piece ≡ take end bytes) where
  line : (cut : Bool) (count : ℕ) (more : List ℕ) → reading_from names cut before count [] (bytes ++ more) ≡ after_line (before + 1) count (line_event names piece)
      (reading_from names cut (before + 1) count [] (drop (end + 1) bytes ++ more)) (reading_from names cut (before + 1) (count + 1) [] (drop (end + 1) bytes ++ more))
  line cut count more =
      let next : suc end ≡ end + 1 = omega arith in
      rw (is_piece, ← next) (reading_from-line names cut before count [] bytes more end feed.within feed.none_before feed.here)

  -- it says something
  pub line_said : (said : Result (Option Event) TextKind) → said ≡ line_event names piece → ScansTo names before bytes (record { said = said; used = end + 1; lines = before + 1 })
  line_said said is cut count more = rw is (line cut count more)

  -- it is skipped, and what follows says this
  pub line_skipped : (following : List ℕ) (scan : Scan) → line_event names piece ≡ Ok None → following ≡ drop (end + 1) bytes → ScansTo names (before + 1) following scan
      → ScansTo names before bytes (record { said = scan.said; used = end + 1 + scan.used; lines = scan.lines })
  line_skipped following scan skipped is_after scans cut count more =
      let here = rw skipped at (line cut count more) in
      let there = rw (is_after, drop-drop scan.used (end + 1) bytes) at (scans cut count more) in
      here ∙ there

-- no line feed is left after what was used
pub none_left : (bytes following : List ℕ) (start used : ℕ) → following ≡ drop start bytes → HasNoFeed (drop used following) → HasNoFeed (drop (start + used) bytes)
none_left bytes following start used is_after none = rw (is_after, drop-drop used start bytes) at none
