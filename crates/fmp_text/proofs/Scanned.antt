-- Reading a text by scans, each from where the last one ended.
use Rattle.std.proofs.Common.{◌≡◌, ◌≢◌, ℕ, zero, suc, ◌+◌, ◌<◌, ◌≤◌, ◌==◌, Bool, true, false, List, [], ◌∷◌, ◌++◌, length, take, drop, slice_index, Option, Some, None, Result, Ok, Err, refl, ap, sym, ◌∙◌, arith, append_assoc}
use Rattle.std.specs.Prelude.{nat_lt}
use Rattle.std.proofs.lemmas.List.{append-nil, drop-drop, get_or-take, take-append-drop}
use Rattle.std.proofs.Math.Seq.{drop-cons}
use Rattle.std.proofs.lemmas.Grind.{common_steps}
use Rattle.std.proofs.lemmas.Bool.{eqb-true, le-ltb, lt-ltb, ne_eqb}
use Rattle.memchr.specs.Find.{IsFirstByte, is_byte}
use Rattle.fmp_codes.specs.declared.records.Event.{Event}
use Rattle.fmp_text.specs.Limits.{most_events}
use Rattle.fmp_text.specs.declared.fault.TextKind.{TextKind}
use Rattle.fmp_text.specs.declared.fault.TextKind.TheVariants.{TooMany}
use Rattle.fmp_text.specs.declared.scan.Scan.{Scan}
use Rattle.fmp_names.specs.Names.{NameLists}
use Rattle.fmp_text.specs.Lines.{line_event}
use Rattle.fmp_text.specs.Events.{HasNoFeed, IsFirstLine, Reading, ScansTo, after_line, at_end, fault_at, reading_from, with_events}

module _ (names : NameLists) (cut : Bool) (lines count : ℕ) where
  -- the line that ends at place i
  pub reading_from-line : (begun bytes more : List ℕ) (i : ℕ) → i < length bytes → ((j : ℕ) → j < i → slice_index bytes j ≢ 10) → slice_index bytes i ≡ 10
      → reading_from names cut lines count begun (bytes ++ more) ≡ after_line (lines + 1) count (line_event names (begun ++ take i bytes))
      (reading_from names cut (lines + 1) count [] (drop (suc i) bytes ++ more)) (reading_from names cut (lines + 1) (count + 1) [] (drop (suc i) bytes ++ more))
  unfolding reading_from
  reading_from-line begun [] more i lt before at = absurd (omega arith)
  reading_from-line begun (b ∷ bs) more zero lt before at = rw (at, append-nil begun) refl
  reading_from-line begun (b ∷ bs) more (suc i) lt before at =
      let other : (b == 10) ≡ false = ne_eqb b 10 (before 0 (omega arith)) in
      let rest = reading_from-line (begun ++ b ∷ []) bs more i (omega arith) (λ j low. before (suc j) (omega arith)) at in
      rw (other, rest, append_assoc) refl

  -- bytes with no line feed go on a line
  pub reading_from-append : (begun bytes more : List ℕ) → HasNoFeed bytes → reading_from names cut lines count begun (bytes ++ more) ≡ reading_from names cut lines count (begun ++ bytes) more
  unfolding reading_from
  reading_from-append begun [] more none = rw (append-nil begun) refl
  reading_from-append begun (b ∷ bs) more none =
      let other : (b == 10) ≡ false = ne_eqb b 10 (none 0 (omega arith)) in
      let rest = reading_from-append (begun ++ b ∷ []) bs more (λ j low. none (suc j) (omega arith)) in
      rw (other, rest, append_assoc) refl

  -- a line ends at its line feed
  pub reading_from-cut : (begun line rest : List ℕ) → HasNoFeed line → reading_from names cut lines count begun (line ++ 10 ∷ rest) ≡ after_line (lines + 1) count (line_event names (begun ++ line))
      (reading_from names cut (lines + 1) count [] rest) (reading_from names cut (lines + 1) (count + 1) [] rest)
  unfolding reading_from
  reading_from-cut begun line rest none = reading_from-append begun line (10 ∷ rest) none

  -- and the last line ends with the text
  pub reading_from-last : (last : List ℕ) → HasNoFeed last → reading_from names cut lines count [] last ≡ at_end cut (lines + 1) last
  unfolding reading_from
  reading_from-last last none = ap (reading_from names cut lines count []) (sym (append-nil last)) ∙ reading_from-append [] last [] none

-- however the text goes on, the bytes after so many lines give what the bytes from a place on give, after more
abbrev pub StandsAt : NameLists → ℕ → List ℕ → ℕ → ℕ → Type 0
StandsAt names before bytes lines used = (cut : Bool) (count : ℕ) (more : List ℕ) → reading_from names cut before count [] (bytes ++ more)
    ≡ reading_from names cut lines count [] (drop used bytes ++ more)

below : (bytes line : List ℕ) (end k : ℕ) → line ≡ take end bytes → k < length line → k < end
below bytes line end k is low = let few = ap length is in grind (arith, common_steps, low, few)

within_line : (bytes line : List ℕ) (end k : ℕ) → line ≡ take end bytes → k < length line → slice_index line k ≡ slice_index bytes k
within_line bytes line end k is low = ap (λ (xs : List ℕ). slice_index xs k) is ∙ get_or-take end bytes k 0 (below bytes line end k is low)

split_at : (bytes line : List ℕ) (end : ℕ) → line ≡ take end bytes → end < length bytes → slice_index bytes end ≡ 10 → bytes ≡ line ++ (10 ∷ drop (end + 1) bytes)
split_at bytes line end is low at =
    let next : suc end ≡ end + 1 = omega arith in
    sym (take-append-drop end bytes) ∙ ap (λ (xs : List ℕ). take end bytes ++ xs) (drop-cons bytes end 0 low ∙ ap (λ (b : ℕ). b ∷ drop (suc end) bytes) at ∙ ap (λ (i : ℕ). 10 ∷ drop i bytes) next)
    ∙ ap (λ (xs : List ℕ). xs ++ (10 ∷ drop (end + 1) bytes)) (sym is)

-- the first line from a place on
pub next_line : (names : NameLists) (before : ℕ) (bytes tail : List ℕ) (lines used length : ℕ) (said : Result (Option Event) TextKind) → tail ≡ drop used bytes
    → IsFirstLine names tail said length → StandsAt names before bytes lines used → (cut : Bool) (count : ℕ) (more : List ℕ)
    → reading_from names cut before count [] (bytes ++ more) ≡ after_line (lines + 1) count said
    (reading_from names cut (lines + 1) count [] (drop (used + length) bytes ++ more)) (reading_from names cut (lines + 1) (count + 1) [] (drop (used + length) bytes ++ more))
next_line names before bytes tail lines used length said is_tail first stands cut count more =
    let passed : drop length (drop used bytes) ≡ drop (used + length) bytes = drop-drop length used bytes in
    let whole : drop used bytes ++ more ≡ first.line ++ (10 ∷ (drop (used + length) bytes ++ more)) =
    ap (λ (xs : List ℕ). xs ++ more) (rw is_tail at first.parts) ∙ append_assoc first.line (10 ∷ drop length (drop used bytes)) more ∙ ap (λ (xs : List ℕ). first.line ++ (10 ∷ (xs ++ more))) passed in
    stands cut count more ∙ rw (whole, first.says) (reading_from-cut names cut lines count [] first.line (drop (used + length) bytes ++ more) first.no_feed)

-- and a line that is skipped
pub next_skipped : (names : NameLists) (before : ℕ) (bytes tail : List ℕ) (lines used length : ℕ) (said : Result (Option Event) TextKind) → tail ≡ drop used bytes
    → IsFirstLine names tail said length → said ≡ Ok None → StandsAt names before bytes lines used → StandsAt names before bytes (lines + 1) (used + length)
next_skipped names before bytes tail lines used length said is_tail first nothing stands cut count more = rw nothing at (next_line names before bytes tail lines used length said is_tail first stands cut count more)

-- the line that ends at the first line feed
pub fed_line : (names : NameLists) (bytes line : List ℕ) (end : ℕ) (said : Result (Option Event) TextKind) → line ≡ take end bytes → IsFirstByte (is_byte 10) bytes (Some end)
    → said ≡ line_event names line → IsFirstLine names bytes said (end + 1)
fed_line names bytes line end said is_line found judged = record {
  line = line;
  no_feed = λ k low is. found.0.before k (omega arith) (below bytes line end k is_line low) (ap (is_byte 10) (sym (within_line bytes line end k is_line low) ∙ is));
  parts = split_at bytes line end is_line found.0.high (eqb-true (slice_index bytes end) 10 found.1);
  some = omega arith;
  within = omega (arith, found.0.high);
  says = judged;
}

-- what was said, where more is known of it
pub said_as : (said : Result (Option Event) TextKind) (found known : Option Event) → said ≡ Ok found → found ≡ known → said ≡ Ok known
said_as said found known is same = is ∙ ap (λ (f : Option Event). Ok f) same

-- a scan from a place of a text on, before which there were these events
pub record IsScanned (names : NameLists) (whole : Reading) (events : List Event) (cut : Bool) (count lines at : ℕ) (text tail : List ℕ) (scan : Scan) : Type 0 where
  pub is : whole ≡ with_events events (reading_from names cut lines count [] (drop at text))
  pub is_tail : tail ≡ drop at text
  pub scans : ScansTo names lines tail scan

module _ (names : NameLists) (whole : Reading) (events : List Event) (cut : Bool) (count lines at : ℕ) (text tail : List ℕ) (scan : Scan) where
  -- what the scan gives in the text
  scanned : IsScanned names whole events cut count lines at text tail scan → whole ≡ with_events events (after_line scan.lines count scan.said
      (reading_from names cut scan.lines count [] (drop (at + scan.used) text)) (reading_from names cut scan.lines (count + 1) [] (drop (at + scan.used) text)))
  scanned s =
      let step = rw (s.is_tail, drop-drop scan.used at text, append-nil (drop at text), append-nil (drop (at + scan.used) text)) at (s.scans cut count []) in
      s.is ∙ ap (with_events events) step

  -- an event that was found is the next one
  pub scan_event : (event : Event) → IsScanned names whole events cut count lines at text tail scan → scan.said ≡ Ok (Some event) → count < most_events
      → whole ≡ with_events (events ++ event ∷ []) (reading_from names cut scan.lines (count + 1) [] (drop (at + scan.used) text))
  scan_event event s seen room =
      let small : nat_lt count most_events ≡ true = lt-ltb count most_events room in
      let rest = reading_from names cut scan.lines (count + 1) [] (drop (at + scan.used) text) in
      let step = rw (seen, small) at (scanned s) in
      step ∙ ap (λ (xs : List Event). record { events = xs; fault = rest.fault }) (sym (append_assoc events (event ∷ []) rest.events))

  -- an event past the limit is a fault
  pub scan_past : (event : Event) → IsScanned names whole events cut count lines at text tail scan → scan.said ≡ Ok (Some event) → most_events ≤ count
      → whole ≡ with_events events (fault_at TooMany scan.lines)
  scan_past event s seen full =
      let large : nat_lt count most_events ≡ false = le-ltb count most_events full in
      rw (seen, large) at (scanned s)

  -- a fault that was found is the first one
  pub scan_fault : (kind : TextKind) → IsScanned names whole events cut count lines at text tail scan → scan.said ≡ Err kind → whole ≡ with_events events (fault_at kind scan.lines)
  scan_fault kind s seen = rw seen at (scanned s)

  -- where nothing was found, the last line is left
  pub scan_last : IsScanned names whole events cut count lines at text tail scan → scan.said ≡ Ok None → HasNoFeed (drop scan.used tail)
      → whole ≡ with_events events (at_end cut (scan.lines + 1) (drop (at + scan.used) text))
  scan_last s seen none =
      let no_feed : HasNoFeed (drop (at + scan.used) text) = rw (s.is_tail, drop-drop scan.used at text) at none in
      let rest = rw seen at (scanned s) in
      rest ∙ ap (with_events events) (reading_from-last names cut scan.lines count (drop (at + scan.used) text) no_feed)
