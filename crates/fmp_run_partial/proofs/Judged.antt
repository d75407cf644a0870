-- The verdict on a text that may say that it ends before its log.
use Rattle.std.proofs.Common.{◌≡◌, ◌⊎◌, ℕ, ◌≤◌, inl, inr, List, length, Option, None, Result, Ok, Err, sym, ap, subst, ◌∙◌, arith}
use Rattle.fmp_codes.specs.declared.records.Event.{Event}
use Rattle.fmp_codes.specs.declared.records.Record.{Record}
use Rattle.fmp_rules.specs.Arrivals.{numbered}
use Rattle.fmp_rules.specs.Boot.{booted}
use Rattle.fmp_rules.specs.Step.{answers}
use Rattle.fmp_setup.specs.Setup.{Setup}
use Rattle.fmp_text.specs.Events.{IsMemory}
use Rattle.fmp_text.specs.Limits.{most_bytes}
use Rattle.fmp_text.specs.declared.fault.TextFault.{TextFault}
use Rattle.fmp_trace.specs.Reading.{GivesOrFails}
use Rattle.fmp_trace_orders.specs.Lines.{lines_of}
use Rattle.fmp_trace_partial.specs.Saying.{said_in}
use Rattle.fmp_trace_partial.specs.declared.telling.Said.{Said}
use Rattle.fmp_trace_partial.specs.Partly.{FirstFault, PartlyPrintsWithin}
use Rattle.fmp_run_partial.specs.Endings.{IsBody}
use Rattle.fmp_run_partial.specs.Partials.{IsCrowded, IsFirstOfPartial, IsOfOrders}
use Rattle.fmp_run_partial.specs.Showing.{events_of, IsShown}
use Rattle.fmp_run_partial.specs.Verdicts.{JudgesLines, JudgesText, PartlyPrintsAnswers}
use Rattle.fmp_run_partial.specs.Written.{verdict_to}
use Rattle.fmp_run_partial.specs.declared.showing.PartialShown.{PartialShown}
use Rattle.fmp_run_partial.specs.declared.showing.Shown.{Shown}
use Rattle.fmp_run_partial.specs.declared.verdict.Found.{Found}
use Rattle.fmp_run_partial.specs.declared.verdict.Found.TheVariants as found
use Rattle.fmp_run_partial.specs.declared.verdict.PartialVerdict.{PartialVerdict}
use Rattle.fmp_run_partial.specs.declared.verdict.PartialVerdict.TheVariants as partial
use Rattle.fmp_run_partial.proofs.NoEnds.{no_longer, own_body}
use Rattle.fmp_run_partial.proofs.PartlyPrinted.{plain_prints}
use Rattle.fmp_run_partial.proofs.Played.{said_of}

module _ (c : Setup) (text body : List ℕ) (ends : Option ℕ) (is : IsBody text body ends) (short : length text ≤ most_bytes) where
  pub text_judged : (asked : PartialShown) (f : Found) (order : Option (List ℕ)) (shown : Shown) → JudgesLines c body f order
      → ((said : List Said) → said_in c.names body ≡ Ok said → IsShown asked c body (lines_of body) (events_of said) order f (verdict_to f ends) shown)
      → JudgesText asked c text shown
  text_judged asked f order shown judges shows =
      let read = said_of c body f order judges in
      record {
        short = short;
        body = body;
        ends = ends;
        is_body = is;
        found = f;
        order = order;
        judges = judges;
        said = read.0;
        read = read.1;
        is_shown = shows read.0 read.1;
      }

  -- too many lines of the body may come late, and so of the text
  crowded : (fault : TextFault) → IsOfOrders c.names body fault → IsCrowded c.names text fault
  crowded fault at = record { short = short; body = body; ends = ends; is_body = is; at = at }

  crowded_or : (fault : TextFault) → IsMemory fault ⊎ IsOfOrders c.names body fault → IsMemory fault ⊎ IsCrowded c.names text fault
  crowded_or fault (inl memory) = inl memory
  crowded_or fault (inr at) = inr (crowded fault at)

  pub text_complete : (fault : TextFault) → ((records : List Record) → PartlyPrintsWithin c.names body records → IsMemory fault ⊎ IsOfOrders c.names body fault)
      → (records : List Record) → PartlyPrintsWithin c.names text records → IsMemory fault ⊎ IsCrowded c.names text fault
  text_complete fault has records prints =
      crowded_or fault (has records (subst (λ (t : List ℕ). PartlyPrintsWithin c.names t records) (sym (own_body c.names text body ends records prints is).0) prints))

  -- what the machine answers is its own body
  own_text : (events : List Event) → PartlyPrintsAnswers c text events → (body ≡ text) × (ends ≡ None)
  own_text events own =
      own_body c.names text body ends (answers numbered (booted c) events)
      (record { prints = plain_prints c.names 1 text (answers numbered (booted c) events) own.prints; few = own.few; short = own.short }) is

  -- where yes was found of the body of what the machine answers, it is the verdict
  yes_to : (f : Found) (verdict : PartialVerdict) → verdict ≡ verdict_to f ends → ends ≡ None → ◌≡◌ {A = Result Found TextFault} (Ok found.Yes) (Ok f)
      → ◌≡◌ {A = Result PartialVerdict TextFault} (Ok partial.Yes) (Ok verdict)
  yes_to f verdict to none says =
      let same : f ≡ found.Yes = cc in
      ap (λ (v : PartialVerdict). Ok v) (sym (to ∙ ap (λ (e : Option ℕ). verdict_to f e) none ∙ ap (λ (g : Found). verdict_to g None) same))

  failed : (fault : TextFault) → GivesOrFails {X = Found} (λ v. v) (Err fault) (Ok found.Yes) → GivesOrFails {X = PartialVerdict} (λ v. v) (Err fault) (Ok partial.Yes)
  failed fault (inl e) = absurd cc
  failed fault (inr memory) = inr memory

  module _ (events : List Event) (own : PartlyPrintsAnswers c text events) where
    pub text_answers : (asked : PartialShown) (f : Found) (order : Option (List ℕ)) (shown : Shown) → JudgesLines c body f order
        → ((said : List Said) → said_in c.names body ≡ Ok said → IsShown asked c body (lines_of body) (events_of said) order f (verdict_to f ends) shown)
        → ((es : List Event) → PartlyPrintsAnswers c body es → ◌≡◌ {A = Result Found TextFault} (Ok found.Yes) (Ok f))
        → ◌≡◌ {A = Result PartialVerdict TextFault} (Ok partial.Yes) (Ok shown.verdict)
    text_answers asked f order shown judges shows has =
        let read = said_of c body f order judges in
        let same = own_text events own in
        yes_to f shown.verdict (shows read.0 read.1).verdict_is same.1 (has events (subst (λ (t : List ℕ). PartlyPrintsAnswers c t events) (sym same.0) own))

    pub text_failed : (fault : TextFault) → ((es : List Event) → PartlyPrintsAnswers c body es → GivesOrFails {X = Found} (λ v. v) (Err fault) (Ok found.Yes))
        → GivesOrFails {X = PartialVerdict} (λ v. v) (Err fault) (Ok partial.Yes)
    text_failed fault has =
        let same = own_text events own in
        failed fault (has events (subst (λ (t : List ℕ). PartlyPrintsAnswers c t events) (sym same.0) own))

  pub text_fault : (fault : TextFault) → (FirstFault c.names body fault ⊎ IsOfOrders c.names body fault) ⊎ IsMemory fault → IsFirstOfPartial c.names text fault
  text_fault fault (inr memory) = inr memory
  text_fault fault (inl (inl (inl (long, at)))) = absurd (omega (arith, short, long, no_longer text body ends is))
  text_fault fault (inl (inl (inr after))) = inl (inr (inl (record { short = short; body = body; ends = ends; is_body = is; here = after })))
  text_fault fault (inl (inr at)) = inl (inr (inr (crowded fault at)))
