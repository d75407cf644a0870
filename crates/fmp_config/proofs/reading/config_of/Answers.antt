use Rattle.std.proofs.Common.{◌≡◌, List, length, refl, ap, subst, ◌∙◌, arith}
use Rattle.std.proofs.lemmas.Result.{err_from_is_err_and}
use Rattle.fmp_config_statements.specs.Lexing.{Lexed, Lexeme, lexed_text}
use Rattle.fmp_config_statements.specs.declared.tokens.End.{End}
use Rattle.fmp_config_statements.specs.Outcomes.{Gives}
use Rattle.fmp_config_statements.proofs.Few.{few_tokens}
use Rattle.fmp_config.specs.Reading.{State, depth_in, finished, setup_in}
use Rattle.fmp_config.specs.Readers.{state_of}
use Rattle.fmp_config.proofs.Turned.{reads_on, stops, is_read}
use Rattle.fmp_config.proofs.Reached.{taken_sound}
use Rattle.fmp_config.proofs.Started.{start_sound}
use Rattle.fmp_config.proofs.reading.config_of.Goals as goal

pub loop-token-init : goal.loop-token-init
loop-token-init c =
    rw (c.in_ok-reader.ensures, c.new-lexer.ensures) (record {
      reads = refl;
      end = refl;
      sound = start_sound;
      depth = let few = few_tokens c.args.text.now in let start : depth_in (state_of c.in_ok-reader.reader) ≡ 0 = ap (λ (s : State). depth_in s) c.in_ok-reader.ensures in omega (arith, few, start, c.requires);
    })

pub loop-token-preserved : goal.loop-token-preserved
loop-token-preserved c =
    let one = ap (λ (ts : List Lexeme). length ts) c.in-Some.ensures.some in
    let here = c.in_ok-take.ensures.exact in
    record {
      reads = reads_on (state_of c.loop-token.reader) c.in-Some.token c.loop-token.lexer.lexemes c.next_token.new.self.lexemes _ (state_of c.take.new.self) c.in-Some.ensures.some here c.loop-token.invariant.reads;
      end = c.next_token.ensures.end ∙ c.loop-token.invariant.end;
      sound = taken_sound (state_of c.loop-token.reader) (state_of c.take.new.self) c.in-Some.token c.loop-token.invariant.sound here;
      depth = let more = c.in_ok-take.ensures.depth in omega (arith, one, more, c.loop-token.invariant.depth);
    }

pub returns-in_err-take : goal.returns-in_err-take
unfolding setup_in
returns-in_err-take c =
    let p = err_from_is_err_and c.from_residual-in_err-take.result c.from_residual-in_err-take.ensures.1 in
    rw (p.1, p.2) (stops (state_of c.loop-token.reader) c.in-Some.token c.loop-token.lexer.lexemes c.next_token.new.self.lexemes _ c.in_err-take.field-0.0 (λ s. finished s (lexed_text c.args.text.now).end) c.in-Some.ensures.some c.in_err-take.ensures.exact c.loop-token.invariant.reads)

pub returns : goal.returns
unfolding setup_in
returns c =
    let all = is_read (state_of c.loop-token.reader) c.loop-token.lexer.lexemes _ c.in_default.ensures.none c.loop-token.invariant.reads in
    let left = ap (λ (l : Lexed). l.end) c.in_default.ensures.left in
    let end = c.end.ensures ∙ left ∙ c.loop-token.invariant.end in
    rw all (subst (λ (e : End). Gives c.finish.result (finished (state_of c.loop-token.reader) e)) end c.finish.ensures)
