-- A statement has the fault of its place that the table has.
use Rattle.std.proofs.Common.{◌≡◌, Bool, true, false, Option, Some, None, refl}
use Rattle.fmp_config_statements.specs.declared.table.StatementName.{StatementName}
use Rattle.fmp_config_statements.specs.declared.table.StatementName.TheVariants as statements
use Rattle.fmp_config.specs.declared.draft.OpenClass.{OpenClass}
use Rattle.fmp_config.specs.declared.draft.Phase.{Phase}
use Rattle.fmp_config.specs.declared.draft.Phase.TheVariants as phases
use Rattle.fmp_config.specs.Drafts.{Draft}
use Rattle.fmp_config.specs.Places.{place_fault}
use Rattle.fmp_setup.specs.Setup.{Setup}
use Rattle.fmp_law_config.proofs.Placing.{draft}
use Rattle.fmp_law_config.proofs.Stages.{stage_of}
use Rattle.fmp_law_faults.specs.StatementFaults.{place_of}

module _ (c : Setup) where
  abbrev Agrees : Draft → StatementName → Type 0
  Agrees d name = place_fault d name ≡ place_of (stage_of d) name

  before : (opened : Option OpenClass) (timer limits : Bool) (name : StatementName) → Agrees (draft c opened phases.Start timer limits) name
  unfolding place_fault
  before opened timer limits statements.Include = refl
  before opened timer limits statements.Processors = refl
  before opened timer limits statements.Timer = refl
  before opened timer limits statements.Limits = refl
  before opened timer limits statements.DefClass = refl
  before opened timer limits statements.Class = refl
  before opened timer limits (statements.Create kind) = refl

  in_head : (timer limits : Bool) (name : StatementName) → Agrees (draft c None phases.Head timer limits) name
  unfolding place_fault
  in_head timer limits statements.Include = refl
  in_head timer limits statements.Processors = refl
  in_head true limits statements.Timer = refl
  in_head false limits statements.Timer = refl
  in_head timer true statements.Limits = refl
  in_head timer false statements.Limits = refl
  in_head timer limits statements.DefClass = refl
  in_head timer limits statements.Class = refl
  in_head timer limits (statements.Create kind) = refl

  in_body : (timer limits : Bool) (name : StatementName) → Agrees (draft c None phases.Body timer limits) name
  unfolding place_fault
  in_body timer limits statements.Include = refl
  in_body timer limits statements.Processors = refl
  in_body true limits statements.Timer = refl
  in_body false limits statements.Timer = refl
  in_body timer true statements.Limits = refl
  in_body timer false statements.Limits = refl
  in_body timer limits statements.DefClass = refl
  in_body timer limits statements.Class = refl
  in_body timer limits (statements.Create kind) = refl

  class_in_head : (o : OpenClass) (timer limits : Bool) (name : StatementName) → Agrees (draft c (Some o) phases.Head timer limits) name
  unfolding place_fault
  class_in_head o timer limits statements.Include = refl
  class_in_head o timer limits statements.Processors = refl
  class_in_head o true limits statements.Timer = refl
  class_in_head o false limits statements.Timer = refl
  class_in_head o timer true statements.Limits = refl
  class_in_head o timer false statements.Limits = refl
  class_in_head o timer limits statements.DefClass = refl
  class_in_head o timer limits statements.Class = refl
  class_in_head o timer limits (statements.Create kind) = refl

  class_in_body : (o : OpenClass) (timer limits : Bool) (name : StatementName) → Agrees (draft c (Some o) phases.Body timer limits) name
  unfolding place_fault
  class_in_body o timer limits statements.Include = refl
  class_in_body o timer limits statements.Processors = refl
  class_in_body o timer limits statements.Timer = refl
  class_in_body o timer limits statements.Limits = refl
  class_in_body o timer limits statements.DefClass = refl
  class_in_body o timer limits statements.Class = refl
  class_in_body o timer limits (statements.Create kind) = refl

  agrees : (opened : Option OpenClass) (phase : Phase) (timer limits : Bool) (name : StatementName) → Agrees (draft c opened phase timer limits) name
  agrees opened phases.Start timer limits name = before opened timer limits name
  agrees None phases.Head timer limits name = in_head timer limits name
  agrees None phases.Body timer limits name = in_body timer limits name
  agrees (Some o) phases.Head timer limits name = class_in_head o timer limits name
  agrees (Some o) phases.Body timer limits name = class_in_body o timer limits name

pub place_is : (d : Draft) (name : StatementName) → place_fault d name ≡ place_of (stage_of d) name
place_is d name = agrees d.setup d.open_class d.phase d.timer_stood d.limits_stood name
