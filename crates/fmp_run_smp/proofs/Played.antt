-- How a run of processors that follow scripts ends.
use Rattle.std.proofs.Common.{◌≡◌, ◌≤◌, ◌++◌, ℕ, false, List, Option, None, Some, IfSome, Ok, Err, length, refl, ap, ap₂, arith, ◌∙◌}
use Rattle.std.specs.Prelude.{Result}
use Rattle.std.proofs.lemmas.List.{length-map}
use Rattle.fmp_codes.specs.declared.records.Record.{Record}
use Rattle.fmp_setup.specs.Setup.{Setup}
use Rattle.fmp_text_scripts.specs.ScriptGrammar.{SpellsScripts}
use Rattle.fmp_text_scripts.specs.Scripts.{Steps, AreInBits}
use Rattle.fmp_names.specs.Names.{AreValid, NameLists}
use Rattle.fmp_setup.specs.Valid.{IsValid}
use Rattle.fmp_trace.specs.Lines.{lines_from}
use Rattle.fmp_smp.specs.Rounds.{TicksInTurn}
use Rattle.fmp_world.specs.declared.finishing.Ended.{Ended}
use Rattle.fmp_world.specs.declared.seats.Receipt.{Receipt}
use Rattle.fmp_world.specs.Ends.{IsSmpRun}
use Rattle.fmp_smp_histories.specs.Histories.{events_of, state_after}
use Rattle.fmp_run_devices.specs.Devices.{BeginsWith}
use Rattle.fmp_run_texts.specs.declared.fault.RunFault.{RunFault}
use Rattle.fmp_run_texts.specs.declared.fault.RunFault.TheVariants as kind
use Rattle.fmp_run_texts.specs.Faults.{is_read, is_text}
use Rattle.fmp_run_texts.specs.Texts.{CountsReads, FirstScriptFault, SaysConfig}
use Rattle.fmp_run_texts.proofs.Yes.{own_trace}
use Rattle.fmp_show_state.specs.Waits.{waiting_lines}
use Rattle.fmp_run_smp.specs.Scripted.{InOrder, IsPlayBegun, IsPlayedToEnd, Played, waiting_after}

-- the trace of a run of at most 1,000,000 turns
abbrev pub played : (config_text script_text : List ℕ) (ticks turns : ℕ) (c : Setup) (scripts : List Steps) (h : List Record) (receipts : List (List Receipt)) (ended : Ended)
    → SaysConfig config_text c → IsValid c → AreValid c.names → SpellsScripts c.names script_text scripts → AreInBits scripts → turns ≤ 1000000
    → IsSmpRun c scripts ticks turns h receipts ended → TicksInTurn c ticks h → Played config_text script_text ticks turns (lines_from c.names 1 h) ended
played config_text script_text ticks turns c scripts h receipts ended says valid names_valid spells fit few is ticked = record {
  config = c;
  scripts = scripts;
  records = h;
  receipts = receipts;
  says = says;
  spells = spells;
  run = is;
  ticked = ticked;
  prints = refl;
  answers =
      let many : length (events_of h) ≤ 1000000 = omega (arith, length-map h (λ (r : Record). r.event), is.within, few) in
      own_trace c (lines_from c.names 1 h) (events_of h) valid names_valid is.run.on (is.in_bits fit) many (ap (lines_from c.names 1) is.run.answers);
}

-- the lines of those that wait, by the names and the configuration of a run
pub tells_waiting : (c setup : Setup) (names : NameLists) (h : List Record) (waiting : List ℕ) → names ≡ c.names → setup ≡ c → waiting ≡ waiting_lines names (state_after setup h)
    → waiting ≡ waiting_after c h
tells_waiting c setup names h waiting named configured tells =
    tells ∙ ap₂ (λ (lists : NameLists) (s : Setup). waiting_lines lists (state_after s h)) named configured

-- what was written, where these names and records are that run's
module _ (config_text script_text : List ℕ) (ticks turns : ℕ) (c : Setup) (h : List Record) (ended : Ended) (run : Played config_text script_text ticks turns (lines_from c.names 1 h) ended)
    (names : NameLists) (records : List Record) (same : names ≡ c.names) (all : records ≡ h) where
  pub played_to_end : (seed : Option ℕ) (old new waiting : List ℕ) → new ≡ old ++ lines_from names 1 records → InOrder seed run.config run.scripts ticks run.records
      → waiting ≡ waiting_after run.config run.records → IsPlayedToEnd seed config_text script_text ticks turns old new ended waiting
  played_to_end seed old new waiting is order tells = (lines_from c.names 1 h, run, rw (same, all) at is, order, tells)

  pub begun_played : (old new : List ℕ) → BeginsWith old (lines_from names 1 records) new → IsPlayBegun config_text script_text ticks turns old new
  begun_played old new is = (lines_from c.names 1 h, ended, run, rw (same, all) at is)

-- what was read of both texts stays so, where a run ends with a fault that is no failed read
pub reads_kept : {T U : Type 0} (value : T) (fault : RunFault) (first_old first_new second_old second_new : ℕ) → CountsReads {T = T} (Ok value) first_old first_new second_old second_new → is_read fault ≡ false
    → CountsReads {T = U} (Err fault) first_old first_new second_old second_new
reads_kept value fault first_old first_new second_old second_new reads other = record { sum = rw other reads.sum; first = reads.first; second = reads.second }

pub no_script_fault : (config_text script_text : List ℕ) (fault : RunFault) → is_text fault ≡ false → FirstScriptFault config_text script_text fault
no_script_fault config_text script_text (kind.Config wrong) differs = tt
no_script_fault config_text script_text (kind.Text wrong) differs = cc
no_script_fault config_text script_text kind.Read differs = tt
no_script_fault config_text script_text kind.Write differs = tt
no_script_fault config_text script_text kind.Memory differs = tt
no_script_fault config_text script_text kind.Start differs = tt
no_script_fault config_text script_text kind.Disagree differs = tt

pub same_fault : {T : Type 0} (a b : RunFault) → ◌≡◌ {A = Result T RunFault} (Err a) (Err b) → a ≡ b
same_fault a b is = cc

-- what holds anyway holds where a seed is given
pub any_seed : (seed : Option ℕ) (P : Type 0) → P → IfSome seed (λ n. P)
any_seed None P holds = tt
any_seed (Some n) P holds = holds
