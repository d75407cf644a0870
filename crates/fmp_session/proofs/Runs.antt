-- One event more, and what a session tells.
use Rattle.std.proofs.Common.{◌≡◌, ◌∙◌, ℕ, ◌+◌, true, false, List, [], ◌∷◌, ◌++◌, length, refl, sym, ap, length-append}
use Rattle.std.specs.Prelude.{Option, None, Some}
use Rattle.std.proofs.lemmas.Bool.{false≢true}
use Rattle.fmp_codes.specs.declared.records.Event.{Event}
use Rattle.fmp_codes.specs.declared.records.Record.{Record}
use Rattle.fmp_law_lists.specs.Stands.{Stands}
use Rattle.fmp_rules.specs.Arrivals.{State, numbered}
use Rattle.fmp_rules.specs.Boot.{booted}
use Rattle.fmp_rules.specs.Ordering.{Ordering}
use Rattle.fmp_rules.specs.Step.{replay, step}
use Rattle.fmp_rules.specs.World.{World}
use Rattle.fmp_setup.specs.Setup.{Setup}
use Rattle.fmp_session.specs.Sessions.{IsAt, last_from, last_record}
use Rattle.fmp_session.specs.declared.session.Session.{Session}
use Rattle.fmp_trace.specs.Lines.{line_text}

module _ {Q : Type 0} (k : Ordering Q) where
  pub replay_more : (w : World Q) (es : List Event) (e : Event) → replay k w (es ++ e ∷ []) ≡ (step k (replay k w es) e).0
  replay_more w [] e = refl
  replay_more w (x ∷ es) e = replay_more (step k w x).0 es e

pub last_more : (m : State) (es : List Event) (e : Event) → last_from m (es ++ e ∷ []) ≡ Some (step numbered (replay numbered m es) e).1
last_more m [] e = refl
last_more m (x ∷ []) e = refl
last_more m (x ∷ y ∷ es) e = last_more (step numbered m x).0 (y ∷ es) e

-- at boot
pub is_at_boot : (s : Session) (c : Setup) → s.config ≡ c → Stands s.kernel (booted c) → s.count ≡ 0 → s.is_reported ≡ false → IsAt s c []
is_at_boot s c config stands count report = record { config = config; stands = stands; count = count; report = λ is. absurd (false≢true (sym report ∙ is)) }

-- after one event more
pub is_at_next : (a b : Session) (c : Setup) (es : List Event) (e : Event) → IsAt a c es → b.config ≡ a.config
    → ((m : State) → Stands a.kernel m → Stands b.kernel (step numbered m e).0) → ((m : State) → Stands a.kernel m → b.report ≡ (step numbered m e).1)
    → b.count ≡ a.count + 1 → IsAt b c (es ++ e ∷ [])
is_at_next a b c es e at config stands report count = record {
  config = config ∙ at.config;
  stands = rw (replay_more numbered (booted c) es e) (stands _ at.stands);
  count = rw (count, at.count, length-append) refl;
  report = λ is. last_more (booted c) es e ∙ ap Some (sym (report _ at.stands));
}

-- as another one is
pub is_at_copy : (a b : Session) (c : Setup) (es : List Event) → IsAt a c es
    → b.config ≡ a.config → b.kernel ≡ a.kernel → b.count ≡ a.count → b.is_reported ≡ false → IsAt b c es
is_at_copy a b c es at config kernel count report = record {
  config = config ∙ at.config;
  stands = rw kernel at.stands;
  count = count ∙ at.count;
  report = λ is. absurd (false≢true (sym report ∙ is));
}

abbrev given : Record → Option Record → Record
given r None = r
given r (Some x) = x

-- the record that a session keeps
pub report_is : (r s : Record) → Some r ≡ Some s → r ≡ s
report_is r s is = ap (given r) is

-- its line
pub line_is : (s : Session) (c : Setup) (es : List Event) (r : Record) → IsAt s c es → last_record c es ≡ Some r → s.is_reported ≡ true
    → line_text s.config.names s.count s.report ≡ line_text c.names (length es) r
line_is s c es r at last is =
    ap (λ (x : Setup). line_text x.names s.count s.report) at.config ∙ ap (λ (n : ℕ). line_text c.names n s.report) at.count
    ∙ ap (line_text c.names (length es)) (report_is s.report r (sym (at.report is) ∙ last))
