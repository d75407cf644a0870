-- believed: see docs/PROOF.md, "What has to be believed"
-- The grammar of configuration texts, apart from how they are read: which texts say which configuration.
use Rattle.std.specs.Prelude.{◌≡◌, ℕ, false, List, None}
use Rattle.fmp_config.specs.Drafts.{is_start}
use Rattle.fmp_setup.specs.Setup.{Setup}
use Rattle.fmp_law_config.specs.Tokens.{Glyph, SpellsTokens}
use Rattle.fmp_law_config.specs.Elements.{Element, SpellsElements}
use Rattle.fmp_law_config.specs.Clauses.{Clause, SpellsClauses}
use Rattle.fmp_law_config.specs.Stages.{Stage, no_stage}
use Rattle.fmp_law_config.specs.Meaning.{SayClauses}

-- a text of tokens that are directives and clauses, which lead to the configuration, with the number of processors among them and no class left open
pub record Configures (text : List ℕ) (c : Setup) : Type 0 where
  pub glyphs : List Glyph
  pub elements : List Element
  pub clauses : List Clause
  pub last : Stage
  pub tokens_are : SpellsTokens glyphs text
  pub elements_are : SpellsElements elements glyphs
  pub clauses_are : SpellsClauses elements clauses
  pub say : SayClauses no_stage clauses last
  pub closed : last.class ≡ None
  pub counted : is_start last.phase ≡ false
  pub setup : last.setup ≡ c
