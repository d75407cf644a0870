use Rattle.std.proofs.Common.{arith}
use Rattle.fmp_config_statements.proofs.Few.{few_tokens}
use Rattle.fmp_cli_hints_config.proofs.classes.near_class.Goals as goal

pub loop-token-init : goal.loop-token-init
loop-token-init c = rw c.new-lexer.ensures (let few = few_tokens c.args.text.now in omega (arith, few, c.requires))
