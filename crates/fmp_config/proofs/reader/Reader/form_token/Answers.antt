use Rattle.fmp_config.specs.Reading.{form_read, form_token}
use Rattle.fmp_config.proofs.Whole.{whole}
use Rattle.fmp_config_statements.proofs.Promised.{step_keeps_promise}
use Rattle.fmp_config.proofs.reader.Reader.form_token.Goals as goal

pub form_read-requires-clause-whole : goal.form_read-requires-clause-whole
form_read-requires-clause-whole c =
    whole c.take.new.self (step_keeps_promise c.args.self.now.form c.take.new.self c.args.token.now c.requires.promised c.in_ok-take.ensures.exact)

pub returns-clause-exact : goal.returns-clause-exact
unfolding form_read form_token
returns-clause-exact c = rw c.in_ok-take.ensures.exact c.form_read.ensures.exact
