-- A text has no more tokens than bytes, and one that ends a directive with it.
use Rattle.std.proofs.Common.{ℕ, ◌+◌, ◌≤◌, List, [], ◌∷◌, length, arith}
use Rattle.fmp_config_statements.specs.declared.modes.Mode.{Mode}
use Rattle.fmp_config_statements.specs.declared.modes.Mode.TheVariants as modes
use Rattle.fmp_config_statements.specs.declared.modes.Place.{Place}
use Rattle.fmp_config_statements.specs.declared.modes.Place.TheVariants as places
use Rattle.fmp_config_statements.specs.declared.modes.Step.{Step}
use Rattle.fmp_config_statements.specs.declared.modes.Step.TheVariants.{Pass, Give, Stop}
use Rattle.fmp_config_statements.specs.Steps.{step_of, line_after}
use Rattle.fmp_config_statements.specs.Lexing.{Lexed, lexed, lexed_text, ended_at, ended_in, stepped}

few_at : (place : Place) (line : ℕ) → length (ended_at place line).lexemes ≤ 1
few_at places.LineStart line = omega arith
few_at places.Code line = omega arith
few_at places.Directive line = omega arith

few_in : (mode : Mode) (line : ℕ) → length (ended_in mode line).lexemes ≤ 1
unfolding ended_in
few_in (modes.Gap place) line = few_at place line
few_in (modes.Word place) line = few_at place line
few_in (modes.Quoted began) line = omega arith
few_in (modes.Escaped began) line = omega arith
few_in (modes.LineComment place) line = few_at place line
few_in (modes.Opening place began) line = omega arith
few_in (modes.Block place began) line = omega arith
few_in (modes.Star place began) line = omega arith
few_in modes.Continued line = few_at places.Directive line

few_step : (step : Step) (bytes : List ℕ) (n : ℕ) (others : Mode → Lexed) → ((mode : Mode) → length (others mode).lexemes ≤ n) → length (stepped step bytes others).lexemes ≤ n + 1
few_step (Pass next) bytes n others few = let less = few next in omega (arith, less)
few_step (Give kind line next) bytes n others few = let less = few next in omega (arith, less)
few_step (Stop end) bytes n others few = omega arith

few : (mode : Mode) (line : ℕ) (bytes : List ℕ) → length (lexed mode line bytes).lexemes ≤ length bytes + 1
unfolding lexed
few mode line [] = let less = few_in mode line in omega (arith, less)
few mode line (b ∷ bytes) =
    let less = few_step (step_of mode line b bytes) (b ∷ bytes) (length bytes + 1) (λ next. lexed next (line_after line b) bytes) (λ next. few next (line_after line b) bytes) in
    omega (arith, less)

pub few_tokens : (text : List ℕ) → length (lexed_text text).lexemes ≤ length text + 1
unfolding lexed_text
few_tokens text = few (modes.Gap places.LineStart) 1 text
