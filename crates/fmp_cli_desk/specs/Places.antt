-- Which places of texts are shown, and what is kept for that.
use Rattle.std.specs.Prelude.{◌≡◌, ⊤, ℕ, Bool, true, List, Option, is_some}
use Rattle.fmp_cli_diagnostics.specs.declared.option.LineForm.{LineForm}
use Rattle.fmp_cli_diagnostics.specs.declared.option.LineForm.TheVariants.{Gcc}
use Rattle.fmp_cli_hints.specs.declared.text.TextForm.{TextForm}
use Rattle.fmp_cli_desk.specs.declared.keeping.KeptText.{KeptText}
use Rattle.fmp_cli_desk.specs.declared.keeping.KeptText.TheVariants.{Nothing, Lines, Unreadable}

-- whether that of a fault is shown: as compilers do, or where what stands beside it is asked for
abbrev pub shows_place : LineForm → Option TextForm → Bool
shows_place Gcc beside = true
shows_place form beside = is_some beside

-- of a text that was read whole nothing is kept, as memory may be wanting, or where its place is shown all of it
abbrev pub KeepsWhole : Bool → List ℕ → KeptText → Type 0
KeepsWhole shows text Nothing = ⊤
KeepsWhole shows text (Lines lines) = (shows ≡ true) × (lines.text.items ≡ text) × (lines.before ≡ 0)
KeepsWhole shows text (Unreadable cause) = ⊥
