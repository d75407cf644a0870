-- Calls that have a form from a task and one from a handler.
use Rattle.fmp_rules.specs.declared.machine.Context.{Context}
use Rattle.fmp_rules.specs.declared.machine.Context.TheVariants as context
use Rattle.fmp_rules.specs.declared.machine.Rule.{Rule}
use Rattle.fmp_rules.specs.Rows.{Row}

-- the context of the form that is called from here, where this is that of the form from a task
abbrev pub context_from : Context → Context → Context
context_from context.Task c = c
context_from other c = other

-- the rule of the form that is called from here
abbrev pub rule_from : Context → Rule → Rule
rule_from c rule = record rule { context = context_from c rule.context }

-- the row of the form that is called from here
abbrev pub form_from : {Q : Type 0} → Context → Row Q → Row Q
form_from c row = record row { rule = rule_from c row.rule }
