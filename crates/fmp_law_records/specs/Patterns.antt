-- What records say of the pattern of an eventflag.
use Rattle.std.specs.Prelude.{◌≡◌, ℕ, ℤ, pos, Bool, true, not, ◌==◌, Option, None, Some, List, [], ◌∷◌, if◌then◌else◌, map, bit_and, bit_or, IfSome, slice_index_or, ◌-◌}
use Rattle.fmp_codes.specs.declared.numbers.Object.{Object}
use Rattle.fmp_codes.specs.declared.calls.Mode.{Mode}
use Rattle.fmp_codes.specs.declared.calls.Mode.TheVariants as mode
use Rattle.fmp_codes.specs.declared.calls.Call.TheVariants as call
use Rattle.fmp_codes.specs.declared.calls.SyncCall.TheVariants as sync
use Rattle.fmp_codes.specs.declared.records.Event.{Event}
use Rattle.fmp_codes.specs.declared.records.Event.TheVariants as event
use Rattle.fmp_codes.specs.declared.records.Record.{Record}
use Rattle.fmp_codes.specs.declared.records.Release.{Release}
use Rattle.fmp_setup.specs.Setup.{Setup, no_eventflag}
use Rattle.fmp_rules.specs.World.{World}
use Rattle.fmp_rules.specs.Objects.{eventflag}
use Rattle.fmp_law_balance.specs.Accepted.{is_accepted, accepted_value, names}

-- the bits that a call sets in the pattern of this flag
abbrev pub sets_bits : Object → Event → Option ℕ
sets_bits f (event.Call p (call.Sync (sync.SetFlg id bits))) = if names f id then Some bits else None
sets_bits f (event.Call p (call.Sync (sync.IsetFlg id bits))) = if names f id then Some bits else None
sets_bits f other = None

-- the bits that it leaves there, of which it clears all others
abbrev pub keeps_bits : Object → Event → Option ℕ
keeps_bits f (event.Call p (call.Sync (sync.ClrFlg id bits))) = if names f id then Some bits else None
keeps_bits f other = None

-- the bits that it asks for, of which it needs one or all
pub record Asked : Type 0 where
  pub bits : ℕ
  pub mode : Mode

abbrev pub asks_bits : Object → Event → Option Asked
asks_bits f (event.Call p (call.Sync (sync.WaiFlg id bits mode))) = if names f id then Some (record { bits = bits; mode = mode }) else None
asks_bits f (event.Call p (call.Sync (sync.TwaiFlg id bits mode timeout))) = if names f id then Some (record { bits = bits; mode = mode }) else None
asks_bits f (event.Call p (call.Sync (sync.PolFlg id bits mode))) = if names f id then Some (record { bits = bits; mode = mode }) else None
asks_bits f other = None

-- what is asked for is there: none of the bits is missing, or there is one of them
abbrev pub are_there : Mode → ℕ → ℕ → Bool
are_there mode.Andw pattern bits = bit_and pattern bits == bits
are_there mode.Orw pattern bits = not (bit_and pattern bits == 0)

abbrev pub is_there : ℕ → Asked → Bool
is_there pattern a = are_there a.mode pattern a.bits

-- the pattern after somebody got it, where the flag clears it then, or not
abbrev pub handed_on : Bool → ℕ → ℕ
handed_on clears x = if clears then 0 else x

abbrev pub after_releases : Bool → ℕ → List Release → ℕ
after_releases clears x [] = x
after_releases clears x (r ∷ rs) = handed_on clears x

abbrev pub got_by : Bool → ℕ → Bool → Option Asked → ℕ
got_by clears x accepted None = x
got_by clears x accepted (Some asked) = if accepted then handed_on clears x else x

abbrev pub kept_of : Bool → ℕ → Record → Option ℕ → Option Asked → ℕ
kept_of clears x r None asked = got_by clears x (is_accepted r.answer) asked
kept_of clears x r (Some bits) asked = if is_accepted r.answer then bit_and x bits else x

abbrev pub set_by : Bool → ℕ → Record → Option ℕ → Option ℕ → Option Asked → ℕ
set_by clears x r None keeps asked = kept_of clears x r keeps asked
set_by clears x r (Some bits) keeps asked = if is_accepted r.answer then after_releases clears (bit_or x bits) r.releases else x

-- the pattern of f after a record, where it was x before: an accepted call sets bits, and hands the pattern to whom it releases;
-- clears bits; or gets the pattern
abbrev pub pattern_after : Bool → Object → Record → ℕ → ℕ
pattern_after clears f r x = set_by clears x r (sets_bits f r.event) (keeps_bits f r.event) (asks_bits f r.event)

abbrev pub pattern_by : Bool → Object → List Record → ℕ → ℕ
pattern_by clears f [] x = x
pattern_by clears f (r ∷ rs) x = pattern_by clears f rs (pattern_after clears f r x)

-- the flag clears its pattern where this is handed to a task
abbrev pub clears_of : Setup → Object → Bool
clears_of c f = (slice_index_or c.eventflags (f.number - 1) no_eventflag).clears

-- after these records of a run from boot
abbrev pub report_pattern : Setup → Object → List Record → ℕ
report_pattern c f records = let s = slice_index_or c.eventflags (f.number - 1) no_eventflag in pattern_by s.clears f records s.initial

abbrev pub IsPatternReported : {Q : Type 0} → Setup → List Record → World Q → Object → Type 0
IsPatternReported c records w f = (eventflag w f).pattern ≡ report_pattern c f records

-- the values with which a call that set the pattern to x releases tasks: the first gets it, and what that leaves those after it
abbrev pub values_from : Bool → ℕ → List Release → List (Option ℤ)
values_from clears x [] = []
values_from clears x (r ∷ rs) = Some (pos x) ∷ values_from clears (handed_on clears x) rs

-- where the pattern is x before a record, a call gets it only if what it asks for is there, and waits or is refused only if not
pub record PatternFits (clears : Bool) (f : Object) (x : ℕ) (r : Record) : Type 0 where
  pub got : IfSome (asks_bits f r.event) (λ a. is_accepted r.answer ≡ true → (accepted_value r.answer ≡ Some (pos x)) × (is_there x a ≡ true))
  pub handed : IfSome (sets_bits f r.event) (λ bits. is_accepted r.answer ≡ true → map (λ y. y.value) r.releases ≡ values_from clears (bit_or x bits) r.releases)
