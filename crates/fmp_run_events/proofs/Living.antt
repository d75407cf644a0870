-- How a run that tells what of some things changed ends.
use Rattle.std.proofs.Common.{◌≡◌, ◌∙◌, ◌++◌, ℕ, false, List, map, Result, Ok, Err, ap, ap₂, sym, inl, inr, subst}
use Rattle.fmp_codes.specs.declared.records.Event.{Event}
use Rattle.fmp_rules.specs.Boot.{booted}
use Rattle.fmp_setup.specs.Setup.{Setup}
use Rattle.fmp_setup.specs.Valid.{IsValid}
use Rattle.fmp_text.specs.Events.{reading_by_line}
use Rattle.fmp_names.specs.Names.{NameLists}
use Rattle.fmp_show_changes.proofs.life.Changes.{first_reported, things_again}
use Rattle.fmp_show_changes.specs.declared.life.things.Thing.{Thing}
use Rattle.fmp_show_changes.specs.Life.Choosing.{IsChosen}
use Rattle.fmp_show_changes.specs.Life.Lives.{Seen, unseen}
use Rattle.fmp_show_changes.specs.Life.Things.{chosen_in}
use Rattle.fmp_run_texts.specs.declared.fault.RunFault.{RunFault}
use Rattle.fmp_run_texts.specs.Texts.{FlushFails, SaysConfig}
use Rattle.fmp_run_texts.specs.Faults.{is_config}
use Rattle.fmp_run_events.proofs.Ended.{leaves_out, prefix_as, written}
use Rattle.fmp_run_stream.specs.declared.stream.Detail.TheVariants as detail
use Rattle.fmp_run_stream.specs.Details.{detail_of}
use Rattle.fmp_run_texts.proofs.Grammars.{one_config}
use Rattle.fmp_run_events.specs.NameFaults.{IsNoFault, IsUnchosen}
use Rattle.fmp_run_events.specs.declared.lives.LifeFault.{LifeFault}
use Rattle.fmp_run_events.specs.declared.lives.LifeFault.TheVariants as life
use Rattle.fmp_run_stream.specs.Lives.{IsLifeReported, chosen_life, life_from, life_of, life_since, named_life}
use Rattle.fmp_run_stream.specs.Runs.{IsPrefix, IsPrefixOut, LeavesWritten}
use Rattle.fmp_run_stream.specs.Streams.{IsAllOut, Leaves}

-- of things of which nothing was told yet
since_nothing : (xs : List Thing) (c : Setup) (es : List Event) → life_since (map unseen xs) c es ≡ life_of xs c es
unfolding life_since life_of
since_nothing xs c es =
    ap₂ (λ (boot rest : List ℕ). boot ++ rest) (first_reported c.names (booted c) xs) (ap (λ (ys : List Thing). life_from c.names ys 1 (booted c) es) (things_again xs))

module _ (names : List ℕ) (c : Setup) (lists : NameLists) (same : lists ≡ c.names) (seen : List Seen) (chosen : IsChosen lists names seen) where
  -- what is told of the chosen things is what is told of the named ones
  pub life_named : (es : List Event) → detail_of (detail.Life seen) c es ≡ named_life names c es
  life_named es =
      let named : chosen_in c.names names ≡ Ok chosen.0 = subst (λ (l : NameLists). chosen_in l names ≡ Ok chosen.0) same chosen.1 in
      ap (λ (s : List Seen). life_since s c es) chosen.2 ∙ (since_nothing chosen.0 c es ∙ ap (λ (r : Result (List Thing) ℕ). chosen_life r c es) (sym named))

  module _ (config_text event_text old : List ℕ) (says : SaysConfig config_text c) where
    -- without a fault all events are answered, and the text spells them
    pub life_reported : (new : List ℕ) → IsValid c → IsAllOut (detail.Life seen) c (reading_by_line c.names event_text) old new → IsLifeReported names config_text event_text old new
    life_reported new valid all =
        let named : chosen_in c.names names ≡ Ok chosen.0 = subst (λ (l : NameLists). chosen_in l names ≡ Ok chosen.0) same chosen.1 in
        let report = written config_text event_text old new (detail.Life seen) (life_of chosen.0) c (λ es. ap (λ (s : List Seen). life_since s c es) chosen.2 ∙ since_nothing chosen.0 c es) says valid all in (
          report.0,
          record {
            things = chosen.0;
            written = report.1;
            chosen = subst (λ (s : Setup). chosen_in s.names names ≡ Ok chosen.0) (one_config config_text c report.1.config says report.1.says) named;
          },
          report.2,
        )

    pub life_leaves : (new : List ℕ) (fault : RunFault) → is_config fault ≡ false → Leaves (detail.Life seen) c event_text (reading_by_line c.names event_text) old new fault
        → LeavesWritten (named_life names) config_text event_text old new fault
    life_leaves new fault config left = leaves_out config_text event_text old c says (detail.Life seen) (named_life names) life_named new fault config left

  -- a read of the events failed, and the flush after it, or none did
  pub life_flush : {K L M : Type 0} (config_text event_text old : List ℕ) → (K → SaysConfig config_text c) → (new : List ℕ) (n m : ℕ)
      → FlushFails n m (M → IsPrefixOut (detail_of (detail.Life seen)) c (reading_by_line c.names event_text).events old new)
      → FlushFails n m (K → L → M → IsPrefix (named_life names) config_text event_text old new)
  life_flush config_text event_text old says new n m (inl none) = inl none
  life_flush config_text event_text old says new n m (inr (one, out)) =
      inr (one, λ configs reads writes. inr (c, says configs, prefix_as (detail.Life seen) (named_life names) c life_named _ old new (out writes)))

-- where names name things of a right configuration, they have no fault
pub chosen_right : (config_text names : List ℕ) (c right : Setup) (lists : NameLists) (xs : List Thing) → lists ≡ c.names → SaysConfig config_text c → SaysConfig config_text right
    → chosen_in right.names names ≡ Ok xs → (fault : LifeFault) → IsUnchosen lists names fault → IsNoFault fault
chosen_right config_text names c right lists xs same says says_right named (life.Run fault) is = rw is tt
chosen_right config_text names c right lists xs same says says_right named (life.Name i) is =
    let one : lists ≡ right.names = same ∙ ap (λ (s : Setup). s.names) (one_config config_text c right says says_right) in
    let here : chosen_in right.names names ≡ Err i = subst (λ (l : NameLists). chosen_in l names ≡ Err i) one is in
    absurd (let both = sym named ∙ here in cc)
