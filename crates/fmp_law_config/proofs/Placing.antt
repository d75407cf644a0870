-- A statement that may stand has no fault of its place, and the other way round.
use Rattle.std.proofs.Common.{◌≡◌, Bool, true, false, Option, Some, None, is_none, refl, sym, ap, ◌∙◌}
use Rattle.std.proofs.lemmas.Bool.{false≢true}
use Rattle.fmp_config_statements.specs.declared.table.StatementName.{StatementName}
use Rattle.fmp_config_statements.specs.declared.table.StatementName.TheVariants as statements
use Rattle.fmp_config.specs.declared.draft.OpenClass.{OpenClass}
use Rattle.fmp_config.specs.declared.draft.Phase.{Phase}
use Rattle.fmp_config.specs.declared.draft.Phase.TheVariants as phases
use Rattle.fmp_config.specs.Drafts.{Draft}
use Rattle.fmp_config.specs.Places.{place_fault}
use Rattle.fmp_setup.specs.Setup.{Setup}
use Rattle.fmp_law_config.specs.Meaning.{may_stand}
use Rattle.fmp_law_config.proofs.Stages.{stage_of}

module _ (c : Setup) where
  abbrev pub draft : Option OpenClass → Phase → Bool → Bool → Draft
  draft opened phase timer limits = record { setup = c; open_class = opened; phase = phase; timer_stood = timer; limits_stood = limits }

  abbrev pub Agrees : Draft → StatementName → Type 0
  Agrees d name = is_none (place_fault d name) ≡ may_stand (stage_of d) name

  before : (opened : Option OpenClass) (timer limits : Bool) (name : StatementName) → Agrees (draft opened phases.Start timer limits) name
  unfolding place_fault
  before opened timer limits statements.Include = refl
  before opened timer limits statements.Processors = refl
  before opened timer limits statements.Timer = refl
  before opened timer limits statements.Limits = refl
  before opened timer limits statements.DefClass = refl
  before opened timer limits statements.Class = refl
  before opened timer limits (statements.Create kind) = refl

  in_head : (timer limits : Bool) (name : StatementName) → Agrees (draft None phases.Head timer limits) name
  unfolding place_fault
  in_head timer limits statements.Include = refl
  in_head timer limits statements.Processors = refl
  in_head true limits statements.Timer = refl
  in_head false limits statements.Timer = refl
  in_head timer true statements.Limits = refl
  in_head timer false statements.Limits = refl
  in_head timer limits statements.DefClass = refl
  in_head timer limits statements.Class = refl
  in_head timer limits (statements.Create kind) = refl

  in_body : (timer limits : Bool) (name : StatementName) → Agrees (draft None phases.Body timer limits) name
  unfolding place_fault
  in_body timer limits statements.Include = refl
  in_body timer limits statements.Processors = refl
  in_body true limits statements.Timer = refl
  in_body false limits statements.Timer = refl
  in_body timer true statements.Limits = refl
  in_body timer false statements.Limits = refl
  in_body timer limits statements.DefClass = refl
  in_body timer limits statements.Class = refl
  in_body timer limits (statements.Create kind) = refl

  class_in_head : (o : OpenClass) (timer limits : Bool) (name : StatementName) → Agrees (draft (Some o) phases.Head timer limits) name
  unfolding place_fault
  class_in_head o timer limits statements.Include = refl
  class_in_head o timer limits statements.Processors = refl
  class_in_head o true limits statements.Timer = refl
  class_in_head o false limits statements.Timer = refl
  class_in_head o timer true statements.Limits = refl
  class_in_head o timer false statements.Limits = refl
  class_in_head o timer limits statements.DefClass = refl
  class_in_head o timer limits statements.Class = refl
  class_in_head o timer limits (statements.Create kind) = refl

  class_in_body : (o : OpenClass) (timer limits : Bool) (name : StatementName) → Agrees (draft (Some o) phases.Body timer limits) name
  unfolding place_fault
  class_in_body o timer limits statements.Include = refl
  class_in_body o timer limits statements.Processors = refl
  class_in_body o timer limits statements.Timer = refl
  class_in_body o timer limits statements.Limits = refl
  class_in_body o timer limits statements.DefClass = refl
  class_in_body o timer limits statements.Class = refl
  class_in_body o timer limits (statements.Create kind) = refl

  agrees : (opened : Option OpenClass) (phase : Phase) (timer limits : Bool) (name : StatementName) → Agrees (draft opened phase timer limits) name
  agrees opened phases.Start timer limits name = before opened timer limits name
  agrees None phases.Head timer limits name = in_head timer limits name
  agrees None phases.Body timer limits name = in_body timer limits name
  agrees (Some o) phases.Head timer limits name = class_in_head o timer limits name
  agrees (Some o) phases.Body timer limits name = class_in_body o timer limits name

none_of : {A : Type 0} (o : Option A) → is_none o ≡ true → o ≡ None
none_of None e = refl
none_of (Some x) e = absurd (false≢true e)

pub stands : (d : Draft) (name : StatementName) → may_stand (stage_of d) name ≡ true → place_fault d name ≡ None
stands d name e = none_of (place_fault d name) (agrees d.setup d.open_class d.phase d.timer_stood d.limits_stood name ∙ e)

pub may_be_placed : (d : Draft) (name : StatementName) → place_fault d name ≡ None → may_stand (stage_of d) name ≡ true
may_be_placed d name e = sym (agrees d.setup d.open_class d.phase d.timer_stood d.limits_stood name) ∙ ap is_none e
