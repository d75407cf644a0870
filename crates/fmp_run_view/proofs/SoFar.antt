-- A page while it is made, event by event.
use Rattle.std.proofs.Common.{◌≡◌, ℕ, ◌+◌, ◌≤◌, Bool, IsTrue, OnErr, List, [], ◌∷◌, ◌++◌, map, length, Some, None, Result, Ok, Err, refl, sym, ap, ◌∙◌, subst, arith, append_assoc}
use Rattle.std.proofs.lemmas.List.{take_all}
use Rattle.fmp_bytes.specs.Bytes.{cut_at}
use Rattle.fmp_codes.specs.declared.records.Event.{Event}
use Rattle.fmp_codes.specs.declared.records.Record.{Record}
use Rattle.fmp_setup.specs.Setup.{Setup}
use Rattle.fmp_names.specs.Names.{AreValid, NameLists}
use Rattle.fmp_text.specs.Limits.{most_events}
use Rattle.fmp_trace.specs.Fits.{AllFit}
use Rattle.fmp_trace.specs.Heads.{event_of}
use Rattle.fmp_trace.specs.Lines.{lines_from}
use Rattle.fmp_trace.specs.Prints.{PrintsWithin}
use Rattle.fmp_run_devices.specs.Devices.{BeginsWith}
use Rattle.fmp_run_devices.proofs.Begun.{begun_first, begun_second}
use Rattle.fmp_run_page.specs.Escapes.{escaped, escaped_byte}
use Rattle.fmp_run_page.specs.Parts.{part}
use Rattle.fmp_run_view.specs.Changes.{event_text, events_text, values_text}
use Rattle.fmp_run_view.specs.Moments.{Moment, at_boot, following}
use Rattle.fmp_run_view.specs.Pages.{end_text, page_of, start_of, start_text}
use Rattle.fmp_run_view.proofs.Lines.{after_is, event_is, is_reported as report_is, none_left, not_over}

-- what is written whole was begun
pub all_begun : (old page new : List ℕ) → new ≡ old ++ page → BeginsWith old page new
all_begun old page new whole = (length page, whole ∙ ap (λ (xs : List ℕ). old ++ xs) (sym (take_all (length page) page (omega arith))))

pub on_err : {A B : Type 0} (result : Result A B) (X : Type 0) → X → OnErr result X
on_err (Ok a) X x = tt
on_err (Err b) X x = x

-- the events of these records
abbrev pub events_of : List Record → List Event
events_of records = map (λ r. r.event) records

-- what is escaped piece by piece
pub escaped-append : (xs ys : List ℕ) → escaped (xs ++ ys) ≡ escaped xs ++ escaped ys
escaped-append [] ys = refl
escaped-append (x ∷ xs) ys = ap (λ (zs : List ℕ). escaped_byte x ++ zs) (escaped-append xs ys) ∙ sym (append_assoc (escaped_byte x) (escaped xs) (escaped ys))

-- what stands after a moment, where these are the events from there on
unfoldable pub rest_of : Setup → Moment → List Event → List ℕ
rest_of c m es = escaped (events_text c m es) ++ end_text

rest-cons : (c : Setup) (m : Moment) (e : Event) (es : List Event) → rest_of c m (e ∷ es) ≡ escaped (event_text c m (following m e)) ++ rest_of c (following m e) es
unfolding rest_of events_text
rest-cons c m e es =
    ap (λ (xs : List ℕ). xs ++ end_text) (escaped-append (event_text c m (following m e)) (events_text c (following m e) es))
    ∙ append_assoc (escaped (event_text c m (following m e))) (escaped (events_text c (following m e) es)) end_text

rest-nil : (c : Setup) (m : Moment) → rest_of c m [] ≡ end_text
unfolding rest_of events_text
rest-nil c m = refl

pub page_is : (c : Setup) (trace given : List ℕ) (es : List Event) → start_of c trace given ++ rest_of c (at_boot c) es ≡ page_of c trace given es
unfolding page_of start_text end_text rest_of part
page_is c trace given es =
    simp (append_assoc, escaped-append (values_text c (at_boot c)) (events_text c (at_boot c) es))

-- Records from n on are left, which the rest of the text prints. What was shown of the others was written after old.
pub record SoFar (c : Setup) (names : NameLists) (tells : Bool) (n : ℕ) (m : Moment) (rest old written whole : List ℕ) : Type 0 where
  pub left : List Record
  pub shown : List ℕ
  pub text : rest ≡ lines_from names n left
  pub fit : AllFit names left
  pub few : n + length left ≤ most_events + 1
  pub ends : shown ++ rest_of c m (events_of left) ≡ whole
  pub out : IsTrue tells → written ≡ old ++ shown

pub begins : (c : Setup) (tells : Bool) (text trace given old written : List ℕ) (records : List Record) → PrintsWithin c.names text records
    → (IsTrue tells → written ≡ old ++ start_of c trace given) → SoFar c c.names tells 1 (at_boot c) text old written (page_of c trace given (events_of records))
begins c tells text trace given old written records prints out = record {
  left = records;
  shown = start_of c trace given;
  text = prints.prints.lines;
  fit = prints.prints.fit;
  few = omega (arith, prints.few);
  ends = page_is c trace given (events_of records);
  out = out;
}

-- The same after the next record, with this event, which is shown as well.
record Next (c : Setup) (names : NameLists) (n : ℕ) (m : Moment) (after shown whole : List ℕ) (e : Event) : Type 0 where
  pub others : List Record
  pub text : after ≡ lines_from names (n + 1) others
  pub fit : AllFit names others
  pub few : (n + 1) + length others ≤ most_events + 1
  pub ends : (shown ++ escaped (event_text c m (following m e))) ++ rest_of c (following m e) (events_of others) ≡ whole

module _ (c : Setup) (names : NameLists) (valid : AreValid names) (n : ℕ) (m : Moment) (rest line after : List ℕ) (is_line : (cut_at 10 rest).0 ≡ line) (cut : (cut_at 10 rest).1 ≡ Some after) where
  next_of : (left : List Record) (shown whole : List ℕ) (e : Event) → rest ≡ lines_from names n left → AllFit names left → n + length left ≤ most_events + 1
      → shown ++ rest_of c m (events_of left) ≡ whole → event_of names line ≡ Some e → Next c names n m after shown whole e
  next_of [] shown whole e text fit few ends report = absurd (not_over names valid n rest line after is_line cut text)
  next_of (first ∷ others) shown whole e text fit few ends report =
      let one : Some first.event ≡ Some e = sym (event_is names valid n rest line after is_line cut first others text fit few) ∙ report in
      let same : first.event ≡ e = cc in
      let change = escaped (event_text c m (following m first.event)) in
      let events = rest_of c (following m first.event) (events_of others) in
      let next : Next c names n m after shown whole first.event = record {
        others = others;
        text = after_is names valid n rest line after is_line cut first others text;
        fit = fit.1;
        few = omega (arith, few);
        ends = append_assoc shown change events ∙ ap (λ (xs : List ℕ). shown ++ xs) (sym (rest-cons c m first.event (events_of others))) ∙ ends;
      } in
      subst (λ (x : Event). Next c names n m after shown whole x) same next

  module _ (tells : Bool) (old written whole : List ℕ) (s : SoFar c names tells n m rest old written whole) where
    -- a line that was printed tells an event
    pub is_reported : event_of names line ≡ None → ⊥
    is_reported none = report_is names valid n rest line after is_line cut s.left s.text s.fit s.few none

    pub goes_on : (e : Event) (next : Moment) (new : List ℕ) → event_of names line ≡ Some e → next ≡ following m e
        → (IsTrue tells → new ≡ written ++ escaped (event_text c m next)) → SoFar c names tells (n + 1) next after old new whole
    goes_on e next new report next_is more =
        let step_on = next_of s.left s.shown whole e s.text s.fit s.few s.ends report in
        record {
          left = step_on.others;
          shown = s.shown ++ escaped (event_text c m next);
          text = step_on.text;
          fit = step_on.fit;
          few = step_on.few;
          ends = rw next_is step_on.ends;
          out = λ tell. more tell ∙ ap (λ (xs : List ℕ). xs ++ escaped (event_text c m next)) (s.out tell) ∙ append_assoc old s.shown (escaped (event_text c m next));
        }

    -- a write that failed
    pub is_cut : (e : Event) (next : Moment) (new : List ℕ) → event_of names line ≡ Some e → next ≡ following m e → IsTrue tells
        → BeginsWith written (escaped (event_text c m next)) new → BeginsWith old whole new
    is_cut e next new report next_is tell begun =
        let step_on = next_of s.left s.shown whole e s.text s.fit s.few s.ends report in
        let change = escaped (event_text c m next) in
        let events = rest_of c next (events_of step_on.others) in
        let ends : (s.shown ++ change) ++ events ≡ whole = rw next_is step_on.ends in
        subst (λ (xs : List ℕ). BeginsWith old xs new) ends (begun_first old (s.shown ++ change) events new (begun_second old s.shown change written new (s.out tell) begun))

module _ (c : Setup) (names : NameLists) (tells : Bool) (n : ℕ) (m : Moment) (rest old written whole : List ℕ) (s : SoFar c names tells n m rest old written whole) where
  -- memory ran out
  pub is_begun : IsTrue tells → BeginsWith old whole written
  is_begun tell =
      let all = all_begun old s.shown written (s.out tell) in
      subst (λ (xs : List ℕ). BeginsWith old xs written) s.ends (begun_first old s.shown (rest_of c m (events_of s.left)) written all)

  over : (left : List Record) → left ≡ [] → s.shown ++ rest_of c m (events_of left) ≡ whole → s.shown ++ end_text ≡ whole
  over [] is ends = sym (ap (λ (xs : List ℕ). s.shown ++ xs) (rest-nil c m)) ∙ ends
  over (r ∷ rs) is ends = absurd cc

  module _ (valid : AreValid names) (none : (cut_at 10 rest).1 ≡ None) (tell : IsTrue tells) (new : List ℕ) where
    -- the end was written
    pub is_shown : new ≡ written ++ end_text → new ≡ old ++ whole
    is_shown more =
        more ∙ ap (λ (xs : List ℕ). xs ++ end_text) (s.out tell) ∙ append_assoc old s.shown end_text
        ∙ ap (λ (xs : List ℕ). old ++ xs) (over s.left (none_left names valid n rest s.left s.text none) s.ends)

    -- a beginning of it was
    pub is_cut_at_end : BeginsWith written end_text new → BeginsWith old whole new
    is_cut_at_end begun =
        subst (λ (xs : List ℕ). BeginsWith old xs new) (over s.left (none_left names valid n rest s.left s.text none) s.ends) (begun_second old s.shown end_text written new (s.out tell) begun)
