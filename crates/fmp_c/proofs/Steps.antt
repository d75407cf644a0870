-- What C is told of one event more, and of a text with a fault.
use Rattle.std.proofs.Common.{◌≡◌, ◌∙◌, ℕ, ◌+◌, List, [], ◌∷◌, ◌++◌, length, refl, ap, length-append}
use Rattle.fmp_codes.specs.declared.records.Event.{Event}
use Rattle.fmp_codes.specs.declared.records.Record.{Record}
use Rattle.fmp_config.specs.Faults.{IsFirstFault}
use Rattle.fmp_config.specs.declared.fault.ConfigFault.{ConfigFault}
use Rattle.fmp_setup.specs.Setup.{Setup}
use Rattle.fmp_session.specs.Sessions.{IsAt, record_after}
use Rattle.fmp_session.specs.declared.session.Session.{Session}
use Rattle.fmp_c.specs.Machines.{TellsFault}
use Rattle.fmp_c.specs.Report.{kind_number, report_of}
use Rattle.fmp_c.specs.declared.report.Fault.{Fault}

-- the record of the event, with its number
pub report_is : (s : Session) (c : Setup) (es : List Event) (e : Event) (n : ℕ) (r : Record) → IsAt s c (es ++ e ∷ []) → n ≡ s.count → r ≡ s.report
    → s.report ≡ record_after c es e → report_of n r ≡ report_of (length es + 1) (record_after c es e)
report_is s c es e n r at count report last =
    let number : n ≡ length es + 1 = rw (count, at.count, length-append) refl in
    ap (λ (m : ℕ). report_of m r) number ∙ ap (report_of (length es + 1)) (report ∙ last)

-- the first fault
pub fault_is : (text : List ℕ) (f : ConfigFault) (report : Fault) → IsFirstFault text f → report.kind ≡ kind_number f.kind → report.line ≡ f.line → TellsFault text report
fault_is text f report first kind line = (f, (first, kind, line))
