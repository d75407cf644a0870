-- Which calls of the scripts are made in orders.
use Rattle.std.proofs.Common.{ℕ, List, Option, None, Some}
use Rattle.std.specs.Prelude.{IfSome}
use Rattle.fmp_setup.specs.Setup.{Setup}
use Rattle.fmp_text_scripts.specs.Scripts.{Steps}
use Rattle.fmp_search.specs.declared.meeting.Met.{Met}
use Rattle.fmp_search.specs.Meeting.{Meets}
use Rattle.fmp_search_orders.specs.declared.rules.Rules.{Rules}
use Rattle.fmp_search_orders.specs.Made.{MadeAnswer, no_number}
use Rattle.fmp_run_explore.specs.Made.{SaysMade}

-- what is known of runs over places is known of orders
pub says_made : {P : Type 0} (after : P → ℕ → Option P) (tells : P → ℕ → ℕ) (q : P) (c : Setup) (scripts : List Steps) (rules : Rules) (turns : ℕ) (m : Met) →
    MadeAnswer after tells q c scripts rules → Meets after tells q turns no_number m → SaysMade c scripts rules turns m
says_made after tells q c scripts rules turns m answer meets = record {
  numbers = meets.as_many;
  made = λ n is. answer.made_within turns n (meets.report n is);
  within = λ n lt made. meets.within n lt (answer.report_within turns n made);
  all = λ whole n lt made. meets.all whole n lt (answer.report n made);
}

pub says_calls : {P : Type 0} (after : P → ℕ → Option P) (tells : P → ℕ → ℕ) (q : P) (c : Setup) (scripts : List Steps) (rules : Rules) (turns : ℕ) → MadeAnswer after tells q c scripts rules →
    (m : Option Met) → IfSome m (Meets after tells q turns no_number) → IfSome m (SaysMade c scripts rules turns)
says_calls after tells q c scripts rules turns answer None meets = tt
says_calls after tells q c scripts rules turns answer (Some m) meets = says_made after tells q c scripts rules turns m answer meets
