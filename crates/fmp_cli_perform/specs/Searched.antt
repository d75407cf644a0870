-- How each search ends the program. What a configuration, scripts and a third text have is known, or is not.
use Rattle.std.specs.Prelude.{◌≡◌, ◌⊎◌, ℕ, Bool, true, false, List, Option, None, Some, Result, option_map}
use Rattle.std.specs.Borrow.{Bor}
use Rattle.fmp_text.specs.Limits.{most_bytes}
use Rattle.fmp_search_question.specs.Lasting.{is_lasting}
use Rattle.fmp_cli.specs.declared.explore.ExploreRequest.{ExploreRequest}
use Rattle.fmp_cli.specs.Rooms.{room_of, with_free}
use Rattle.fmp_cli_desk.specs.declared.ending.Ending.{Ending}
use Rattle.fmp_cli_desk.specs.Endings.{of_begun, of_run, of_search}
use Rattle.fmp_cli_desk.specs.Runs.{HasBegun, IsNotBegun}
use Rattle.fmp_cli_desk.specs.Texts.{AreRead, IsWhole}
use Rattle.fmp_cli_perform.specs.Asked.{EndsAsking}
use Rattle.fmp_cli_perform.specs.Ended.{EndsRun}
use Rattle.fmp_cli_runs.specs.Orders.{Searches, SearchesForever, SearchesFrom, SearchesMost}
use Rattle.fmp_cli_runs.specs.Texts.{OverBytes, source_of}
use Rattle.fmp_run_explore.specs.Explored as explored
use Rattle.fmp_run_forever.specs.Stayed as stayed
use Rattle.fmp_run_texts.specs.declared.status.Status.{Status}

-- one question about all orders
abbrev pub EndsSearching : Option (List ℕ) → Option (List ℕ) → ExploreRequest → Result Status Ending → Type 0
EndsSearching config scripts r result = (over : Bool) × EndsRun config (IsWhole scripts)
    (λ config text output ended. OverBytes config (λ configs. Searches r over configs (source_of text) output ended)) of_search
    (λ outcome. explored.status_of outcome.finding) result

-- one of what stays for ever
abbrev pub EndsSearchingForever : Option (List ℕ) → Option (List ℕ) → ExploreRequest → Result Status Ending → Type 0
EndsSearchingForever config scripts r = EndsRun config (IsWhole scripts)
    (λ config text output ended. OverBytes config (λ configs. SearchesForever r configs (source_of text) output ended)) of_search
    (λ found. stayed.status_of found.staying)

-- how far everything goes
abbrev pub EndsSearchingMost : Option (List ℕ) → Option (List ℕ) → ExploreRequest → Result Status Ending → Type 0
EndsSearchingMost config scripts r result = (over : Bool) × EndsRun config (IsWhole scripts)
    (λ config text output ended. OverBytes config (λ configs. SearchesMost r over configs (source_of text) output ended)) of_run (λ s. s) result

-- one about the orders that go on from a trace, where that was read
pub record HasSearchedFrom (config scripts trace : Option (List ℕ)) (r : ExploreRequest) (result : Result Status Ending) : Type 0 where
  pub begun : List ℕ
  pub read : AreRead most_bytes trace begun
  pub over : Bool
  pub has : HasBegun config (IsWhole scripts)
      (λ config text output ended. OverBytes config (λ configs. SearchesFrom begun r over configs (source_of text) output ended)) of_begun result

abbrev pub EndsSearchingFrom : Option (List ℕ) → Option (List ℕ) → Option (List ℕ) → ExploreRequest → Result Status Ending → Type 0
EndsSearchingFrom config scripts trace r result = IsNotBegun config result ⊎ HasSearchedFrom config scripts trace r result

-- the bytes of a word, if there is one
abbrev pub bytes_of : Option (Bor (List ℕ)) → Option (List ℕ)
bytes_of = option_map (λ word. word.now)

-- which of them a request asks for, where the desk has this at a path
abbrev pub EndsBy : (List ℕ → Option (List ℕ)) → Option (List ℕ) → Option (List ℕ) → ExploreRequest → Option (List ℕ) → Option (List ℕ) → Bool → Bool
    → Result Status Ending → Type 0
EndsBy at config scripts r (Some path) from most lasting result = EndsAsking config scripts (at path) r result
EndsBy at config scripts r None (Some path) most lasting result = EndsSearchingFrom config scripts (at path) r result
EndsBy at config scripts r None None true lasting result = EndsSearchingMost config scripts r result
EndsBy at config scripts r None None false true result = EndsSearchingForever config scripts r result
EndsBy at config scripts r None None false false result = EndsSearching config scripts r result

abbrev pub EndsSearch : (List ℕ → Option (List ℕ)) → Option (List ℕ) → Option (List ℕ) → ExploreRequest → Result Status Ending → Type 0
EndsSearch at config scripts r = EndsBy at config scripts r (bytes_of r.questions) (bytes_of r.from) r.most (is_lasting r.question.now)

-- a request with the room for places that it has where so many bytes are free
pub record HasRoom (old : ExploreRequest) (free : Option ℕ) (new : ExploreRequest) : Type 0 where
  pub memory : new.memory ≡ with_free old.memory free
  pub places : new.bounds.places.count ≡ room_of old free
  pub turns : new.bounds.turns.count ≡ old.bounds.turns.count
  pub others : new ≡ record old { memory = new.memory; bounds = new.bounds }

abbrev pub EndsExploring : (List ℕ → Option (List ℕ)) → ExploreRequest → Result Status Ending → Type 0
EndsExploring at r result = (free : Option ℕ) × (roomed : ExploreRequest) × HasRoom r free roomed
    × EndsSearch at (at roomed.config.now) (at roomed.scripts.now) roomed result
