use Rattle.std.proofs.Common.{ap, map, subst, sym, ◌∙◌, ◌≡◌, List}
use Rattle.std.specs.Prelude.{Err, IsErrAnd, Ok, Result}
use Rattle.clap.specs.declared.error.Error.{Error}
use Rattle.clap.specs.Words.{App, FailsBy, Row, fault_of, is_simple, is_simple_and_free, matches_of}
use Rattle.clap.specs.Kinds.{HasKind, Kinds}
use Rattle.fmp_cli.specs.Smp.{Asks, faults_in, found_in}
use Rattle.fmp_cli.proofs.Given.{gives_all}
use Rattle.fmp_cli.proofs.smp.parse_smp.Goals as goal

pub request_of-requires : goal.request_of-requires
request_of-requires c = gives_all c.in_ok-command.command c.in_ok-command.ensures c.in_ok-matches.matches c.in_ok-matches.ensures.parsed

pub returns-clause-asks : goal.returns-clause-asks
unfolding found_in
returns-clause-asks c =
    let line = c.in_ok-command.ensures.line in
    let rows = (c.in_ok-matches.ensures.matches (ap is_simple line)).0 ∙ ap (λ a. matches_of a (map (λ w. w.bytes.items) c.args.words.now)) line in
    subst (λ (r : List Row). Asks r c.request_of.result) rows c.request_of.ensures

pub returns-clause-fails : goal.returns-clause-fails
unfolding faults_in
returns-clause-fails c =
    let line = c.in_ok-command.ensures.line in
    ap (λ a. fault_of a (map (λ w. w.bytes.items) c.args.words.now)) (sym line) ∙ c.in_ok-matches.ensures.kinds (ap is_simple_and_free line)

-- an error that is passed on has the kinds that it had
passed_on : {T : Type 0} (kinds : Kinds) (r : Result T Error) (e : Error) → IsErrAnd r (λ x. x ≡ e) → HasKind kinds e → FailsBy kinds r
passed_on kinds (Ok x) e same has = absurd same
passed_on kinds (Err x) e same has = subst (λ (y : Error). HasKind kinds y) (sym same) has

pub returns-in_err-matches-clause-fails : goal.returns-in_err-matches-clause-fails
unfolding faults_in
returns-in_err-matches-clause-fails c =
    let line = c.in_ok-command.ensures.line in
    let has = c.in_err-matches.ensures.kinds (ap is_simple_and_free line) in
    passed_on _ c.from_residual-in_err-matches.result c.in_err-matches.field-0.0 c.from_residual-in_err-matches.ensures.1
    (subst (λ (a : App). HasKind (fault_of a (map (λ w. w.bytes.items) c.args.words.now)) c.in_err-matches.field-0.0) line has)
