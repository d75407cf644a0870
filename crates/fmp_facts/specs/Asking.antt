-- What a pattern asks of a state: that these facts are so of the subject, at the same time.
use Rattle.std.specs.Prelude.{List}
use Rattle.fmp_facts.specs.declared.facts.Fact.{Fact}
use Rattle.fmp_facts.specs.declared.facts.Subject.{Subject}

pub record Asked : Type 0 where
  pub subject : Subject
  pub facts : List Fact
