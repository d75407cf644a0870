-- What a line that is taken off a feed says of what is ahead of it.
use Rattle.std.proofs.Common.{◌≡◌, ℕ, ◌+◌, ◌-◌, ◌≤◌, Bool, true, false, ◌||◌, List, [], length, take, drop, Option, Some, None, Result, Ok, refl, ◌∙◌, arith}
use Rattle.std.specs.Prelude.{nat_lt}
use Rattle.std.proofs.lemmas.Grind.{common_steps}
use Rattle.std.proofs.lemmas.Bool.{le-ltb}
use Rattle.fmp_codes.specs.declared.records.Event.{Event}
use Rattle.fmp_names.specs.Names.{NameLists}
use Rattle.fmp_text.specs.declared.fault.TextFault.{TextFault}
use Rattle.fmp_text.specs.declared.fault.TextKind.{TextKind}
use Rattle.fmp_text.specs.declared.scan.Scan.{Scan}
use Rattle.fmp_text.specs.Limits.{most_bytes}
use Rattle.fmp_text.specs.Lines.{is_skipped}
use Rattle.fmp_text.specs.Events.{HasNoFeed, ScansTo, at_end, faultless, reading_from}
use Rattle.fmp_text.proofs.Scanned.{reading_from-append}
use Rattle.fmp_text_feed.specs.Feed.{Feed, TakesOff, ahead, coming, only, rest_fault, too_many}

-- a fault is all that is ahead
pub ahead_failed : (names : NameLists) (f : Feed) (fault : TextFault) → f.fault ≡ Some fault → (more : List ℕ) → ahead names f more ≡ only fault
unfolding ahead
ahead_failed names f fault is more = rw is refl

-- a scan of the unread rest takes its lines off
pub taken_off : (names : NameLists) (old : Feed) (tail : List ℕ) (scan : Scan) → old.fault ≡ None → tail ≡ old.rest → ScansTo names old.lines tail scan
    → (scan.said ≡ Ok None → HasNoFeed (drop scan.used tail)) → TakesOff names old scan.said (record old { rest = drop scan.used old.rest; lines = scan.lines })
unfolding ahead
taken_off names old tail scan fine is_tail scans whole = record {
  ahead = λ more. rw fine (rw is_tail at (scans (old.dropped || nat_lt most_bytes (old.taken + length (coming old.ended more))) old.events (take (most_bytes - old.taken) (coming old.ended more))));
  whole = λ none. rw is_tail at (whole none);
  end = record { taken = scan.used; is = refl };
  others = refl;
}

-- ---- no line is whole

module _ (names : NameLists) (f : Feed) (fine : f.fault ≡ None) (no_line : HasNoFeed f.rest) where
  -- what is ahead is what the end of the text says, where nothing more comes
  at_rest : (cut : Bool) (more : List ℕ) → (f.dropped || nat_lt most_bytes (f.taken + length (coming f.ended more))) ≡ cut → take (most_bytes - f.taken) (coming f.ended more) ≡ []
      → ahead names f more ≡ at_end cut (f.lines + 1) f.rest
  unfolding ahead reading_from
  at_rest cut more is_cut no_more = rw (fine, is_cut, no_more) (reading_from-append names cut f.lines f.events [] f.rest [] no_line)

  dropped : f.dropped ≡ true → f.taken ≡ most_bytes → (more : List ℕ) → ahead names f more ≡ only (too_many 0)
  dropped is full more = at_rest true more (rw is refl) (rw full refl)

  ended : f.dropped ≡ false → f.ended ≡ true → f.taken ≤ most_bytes → (more : List ℕ) → ahead names f more ≡ at_end false (f.lines + 1) f.rest
  ended uncut ends fits more = at_rest false more (rw (uncut, ends) (le-ltb most_bytes (f.taken + 0) (omega arith))) (rw ends (grind (arith, common_steps)))

  module _ (fits : f.taken ≤ most_bytes) (full : f.dropped ≡ true → f.taken ≡ most_bytes) where
    -- the fault of the rest is ahead
    pub rest_failed : (fault : TextFault) → rest_fault f ≡ Some fault → (more : List ℕ) → ahead names f more ≡ only fault
    rest_failed fault is more = by_dropped f.dropped refl
      where
        by_skipped : (b : Bool) → f.dropped ≡ false → f.ended ≡ true → is_skipped f.rest ≡ b → ahead names f more ≡ only fault
        by_skipped true uncut ends skipped = let no = rw (uncut, ends, skipped) at is in absurd cc
        by_skipped false uncut ends skipped =
            let end = rw skipped at (ended uncut ends fits more) in
            let same = rw (uncut, ends, skipped) at is in
            end ∙ cc

        by_ended : (b : Bool) → f.dropped ≡ false → f.ended ≡ b → ahead names f more ≡ only fault
        by_ended true uncut ends = by_skipped (is_skipped f.rest) uncut ends refl
        by_ended false uncut ends = let no = rw (uncut, ends) at is in absurd cc

        by_dropped : (b : Bool) → f.dropped ≡ b → ahead names f more ≡ only fault
        by_dropped true cut =
            let same = rw cut at is in
            dropped cut (full cut) more ∙ cc
        by_dropped false uncut = by_ended f.ended uncut refl

    -- without one a text that has ended is done
    pub rest_done : rest_fault f ≡ None → f.ended ≡ true → (more : List ℕ) → ahead names f more ≡ faultless []
    rest_done is ends more = by_dropped f.dropped refl
      where
        by_skipped : (b : Bool) → f.dropped ≡ false → is_skipped f.rest ≡ b → ahead names f more ≡ faultless []
        by_skipped true uncut skipped = rw skipped at (ended uncut ends fits more)
        by_skipped false uncut skipped = let no = rw (uncut, ends, skipped) at is in absurd cc

        by_dropped : (b : Bool) → f.dropped ≡ b → ahead names f more ≡ faultless []
        by_dropped true cut = let no = rw cut at is in absurd cc
        by_dropped false uncut = by_skipped (is_skipped f.rest) uncut refl

-- a line that is taken off and says nothing leaves what is ahead
pub nothing_said : (names : NameLists) (old mid : Feed) (said : Result (Option Event) TextKind) → TakesOff names old said mid → said ≡ Ok None
    → (more : List ℕ) → ahead names old more ≡ ahead names mid more
nothing_said names old mid said taken is more = rw is at (taken.ahead more)
