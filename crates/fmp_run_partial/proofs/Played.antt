-- The events that are played of lines, and what is known of them.
use Rattle.std.proofs.Common.{◌≡◌, ℕ, ◌+◌, ◌-◌, ◌≤◌, List, [], ◌∷◌, ◌++◌, append_assoc, length, take, Option, None, Some, Result, Ok, option_map, slice_get}
use Rattle.std.proofs.Common.{inl, inr, refl, sym, ap, ◌∙◌, arith}
use Rattle.std.proofs.lemmas.Bool.{cases_lt}
use Rattle.std.proofs.lemmas.List.{length-map, length-take-le, take_all}
use Rattle.std.proofs.lemmas.Option.{slice_get-map}
use Rattle.fmp_codes.specs.declared.records.Event.{Event}
use Rattle.fmp_names.specs.Names.{AreValid}
use Rattle.fmp_setup.specs.Setup.{Setup}
use Rattle.fmp_text.specs.Limits.{most_events}
use Rattle.fmp_text.specs.declared.fault.TextFault.{TextFault}
use Rattle.fmp_search_lines.proofs.Runs.{few_within}
use Rattle.fmp_trace_orders.specs.Lines.{AreLinesOf, lines_of}
use Rattle.fmp_trace_orders.specs.Playing.{line_from}
use Rattle.fmp_trace_orders.specs.declared.lines.Lines.{Lines}
use Rattle.fmp_trace_partial.specs.Saying.{said_in}
use Rattle.fmp_trace_partial.specs.declared.telling.Said.{Said}
use Rattle.fmp_trace_partial.proofs.SaidTexts.{read_says}
use Rattle.fmp_run_partial.specs.Playing.{event_and, events_at, HasFew, played}
use Rattle.fmp_run_partial.specs.Showing.{events_of}
use Rattle.fmp_run_partial.specs.Telling.{IsTold}
use Rattle.fmp_run_partial.specs.Verdicts.{JudgesLines}
use Rattle.fmp_run_partial.specs.declared.telling.Told.{Told}
use Rattle.fmp_run_partial.specs.declared.verdict.Found.{Found}
use Rattle.fmp_run_partial.specs.declared.verdict.Found.TheVariants as found

ok_same : (a b : List Said) → ◌≡◌ {A = Result (List Said) TextFault} (Ok a) (Ok b) → a ≡ b
ok_same a b e = cc

one_before : (e : Option Event) (others : List Event) → event_and e [] ++ others ≡ event_and e others
one_before None others = refl
one_before (Some e) others = refl

-- ---- how many there are

one_more : (e : Option Event) (others : List Event) → length (event_and e others) ≤ length others + 1
one_more None others = omega arith
one_more (Some e) others = omega arith

few_at : (events : List Event) (order : List ℕ) → length (events_at events order) ≤ length order
few_at events [] = omega arith
few_at events (j ∷ js) =
    let others = few_at events js in
    let one = one_more (slice_get events j) (events_at events js) in
    omega (arith, others, one)

take_few : (n : ℕ) (xs : List Event) → length (take n xs) ≤ length xs
take_few n xs = elim (cases_lt n (length xs)) [
  | inl low ↦ let long = length-take-le n xs (omega (arith, low)) in omega (arith, long, low)
  | inr high ↦ let same = take_all n xs (omega (arith, high)) in rw same (omega arith)
]

pub few_played : (events : List Event) (count : ℕ) (order : Option (List ℕ)) → length events ≤ most_events → HasFew order → length (played events count order) ≤ most_events
few_played events count None few few_in_order = let short = take_few count events in omega (arith, short, few)
few_played events count (Some order) few few_in_order = let short = few_at events order in omega (arith, short, few_in_order)

-- one event more
pub next_event : (all events : List Event) (rest after : List ℕ) (line : ℕ) (event : Option Event) (total : List Event) → rest ≡ line ∷ after → event ≡ slice_get events line
    → all ++ events_at events rest ≡ total → (all ++ event_and event []) ++ events_at events after ≡ total
next_event all events rest after line event total split is so_far =
    append_assoc all (event_and event []) (events_at events after) ∙ ap (λ (xs : List Event). all ++ xs) (one_before event (events_at events after)
    ∙ ap (λ (e : Option Event). event_and e (events_at events after)) is) ∙ ap (λ (js : List ℕ). all ++ events_at events js) (sym split) ∙ so_far

-- ---- lines that were read again

module _ (c : Setup) (text : List ℕ) (lines : Lines) (are : AreLinesOf c.names text lines) (said : List Said) (read : said_in c.names text ≡ Ok said) where
  same_said : are.said ≡ said
  same_said = ok_same are.said said (sym are.read ∙ read)

  pub events_read : lines.events.items ≡ events_of said
  events_read = are.so.events ∙ ap events_of same_said

  pub few_lines : AreValid c.names → length lines.events.items ≤ most_events
  few_lines valid =
      let says = read_says c.names text said valid read in
      let few = says.few in
      let long = ap length events_read ∙ length-map said (λ s. s.entry.event) in
      omega (arith, few, long)

  -- a line of them that is told
  pub is_told : (order : Option (List ℕ)) (k : ℕ) (told : Told) → told.number ≡ k → told.start ≡ slice_get lines.starts.items (k - 1)
      → told.event ≡ slice_get lines.events.items (k - 1) → told.before.items ≡ played lines.events.items (k - 1) order
      → IsTold text (lines_of text) (events_of said) order k told
  is_told order k told number start event before =
      record {
        number = number;
        line = ap (option_map (line_from text)) start ∙ sym (slice_get-map (line_from text) lines.starts.items (k - 1))
            ∙ ap (λ (all : List (List ℕ)). slice_get all (k - 1)) are.starts;
        event = event ∙ ap (λ (events : List Event). slice_get events (k - 1)) events_read;
        before = before ∙ ap (λ (events : List Event). played events (k - 1) order) events_read;
      }

-- ---- what was found

module _ (c : Setup) (text : List ℕ) where
  pub said_of : (f : Found) (order : Option (List ℕ)) → JudgesLines c text f order → (said : List Said) × (said_in c.names text ≡ Ok said)
  said_of found.Yes None judges = (judges.0.said, judges.0.read)
  said_of (found.No k) None judges = (judges.0.said, judges.0.read)
  said_of found.NotKnown None judges = absurd judges
  said_of f (Some order) judges = (judges.said, judges.read)

  few_said : AreValid c.names → (said : List Said) → said_in c.names text ≡ Ok said → length said ≤ most_events
  few_said valid said read = let says = read_says c.names text said valid read in says.few

  pub has_few : AreValid c.names → (f : Found) (order : Option (List ℕ)) → JudgesLines c text f order → HasFew order
  has_few valid f None judges = tt
  has_few valid found.Yes (Some order) judges =
      let few = few_said valid judges.said judges.read in
      let within = few_within _ _ order judges.says.within in
      omega (arith, few, within)
  has_few valid (found.No k) (Some order) judges =
      let few = few_said valid judges.said judges.read in
      let within = few_within _ _ order judges.says.4.within in
      omega (arith, few, within)
  has_few valid found.NotKnown (Some order) judges = let none : length order ≡ 0 = ap length judges.says.0 in omega (arith, none)
