-- The trace of one event more, and beginnings of traces.
use Rattle.std.proofs.Common.{◌≡◌, ◌∙◌, ℕ, ◌+◌, ◌≤◌, List, [], ◌∷◌, ◌++◌, length, map, take, drop, min, refl, ap, sym, arith, append_assoc}
use Rattle.std.proofs.lemmas.List.{append-nil, take_min, take-append-drop, take-append-le}
use Rattle.std.proofs.Math.Seq.{take-append-add, take-append_seam, take-length}
use Rattle.fmp_codes.specs.declared.records.Event.{Event}
use Rattle.fmp_rules.specs.Boot.{booted}
use Rattle.fmp_rules.specs.Ordering.{Ordering}
use Rattle.fmp_rules.specs.Arrivals.{State, numbered}
use Rattle.fmp_setup.specs.Setup.{Setup}
use Rattle.fmp_rules.specs.Step.{answers, replay, step}
use Rattle.fmp_rules.specs.World.{World}
use Rattle.fmp_names.specs.Names.{NameLists}
use Rattle.fmp_trace.specs.Lines.{line_text, lines_from}
use Rattle.fmp_run_devices.specs.Devices.{BeginsWith}
use Rattle.fmp_run_stream.specs.declared.stream.Detail.{Detail}
use Rattle.fmp_run_stream.specs.declared.stream.Detail.TheVariants as detail
use Rattle.fmp_run_stream.specs.Runs.{trace_of}
use Rattle.std.specs.List.{flat_map}
use Rattle.fmp_show_changes.specs.declared.life.things.Thing.{Thing}
use Rattle.fmp_show_changes.specs.Life.Lives.{Seen, changes_of as things_changed, report_since}
use Rattle.fmp_show_changes.proofs.life.Changes.{renewed_again, report_changes}
use Rattle.fmp_show_state.specs.States.{state_text}
use Rattle.fmp_run_stream.specs.Lives.{life_from, life_since, with_changes}
use Rattle.fmp_run_stream.specs.Details.{boot_text, changes_between, changes_from, changes_of, detail_of, entry_text, states_from, states_of, report_in}

module _ {Q : Type 0} (k : Ordering Q) (names : NameLists) where
  pub replay_more : (w : World Q) (es : List Event) (e : Event) → replay k w (es ++ e ∷ []) ≡ (step k (replay k w es) e).0
  replay_more w [] e = refl
  replay_more w (x ∷ es) e = replay_more (step k w x).0 es e

  lines_append : (n : ℕ) (w : World Q) (es fs : List Event)
      → lines_from names n (answers k w (es ++ fs)) ≡ lines_from names n (answers k w es) ++ lines_from names (n + length es) (answers k (replay k w es) fs)
  lines_append n w [] fs =
      let here : n + 0 ≡ n = omega arith in
      ap (λ i. lines_from names i (answers k w fs)) (sym here)
  lines_append n w (e ∷ es) fs =
      let place : n + 1 + length es ≡ n + length (e ∷ es) = omega arith in
      let rest = lines_append (n + 1) (step k w e).0 es fs in
      rw (rest, place, append_assoc) refl

-- the state after one event more
pub state_more : (c : Setup) (es : List Event) (e : Event) → replay numbered (booted c) (es ++ e ∷ []) ≡ (step numbered (replay numbered (booted c) es) e).0
state_more c es e = replay_more numbered c.names (booted c) es e

trace_append : (c : Setup) (es fs : List Event) → trace_of c (es ++ fs) ≡ trace_of c es ++ lines_from c.names (1 + length es) (answers numbered (replay numbered (booted c) es) fs)
unfolding trace_of
trace_append c es fs = lines_append numbered c.names 1 (booted c) es fs

states_append_from : (names : NameLists) (n : ℕ) (m : State) (es fs : List Event)
    → states_from names n m (es ++ fs) ≡ states_from names n m es ++ states_from names (n + length es) (replay numbered m es) fs
states_append_from names n m [] fs =
    let here : n + 0 ≡ n = omega arith in
    ap (λ i. states_from names i m fs) (sym here)
states_append_from names n m (e ∷ es) fs =
    let place : n + 1 + length es ≡ n + length (e ∷ es) = omega arith in
    let next = (step numbered m e).0 in
    let entry = entry_text detail.State names n (step numbered m e) in
    let here = states_from names (n + 1) next es in
    ap (λ xs. entry ++ xs) (states_append_from names (n + 1) next es fs)
    ∙ ap (λ i. entry ++ (here ++ states_from names i (replay numbered next es) fs)) place
    ∙ sym (append_assoc entry here (states_from names (n + length (e ∷ es)) (replay numbered next es) fs))

states_append : (c : Setup) (es fs : List Event) → states_of c (es ++ fs) ≡ states_of c es ++ states_from c.names (1 + length es) (replay numbered (booted c) es) fs
unfolding states_of
states_append c es fs =
    let boot = state_text c.names (booted c) in
    ap (λ xs. boot ++ xs) (states_append_from c.names 1 (booted c) es fs)
    ∙ sym (append_assoc boot (states_from c.names 1 (booted c) es) (states_from c.names (1 + length es) (replay numbered (booted c) es) fs))

changes_append_from : (names : NameLists) (n : ℕ) (m : State) (es fs : List Event)
    → changes_from names n m (es ++ fs) ≡ changes_from names n m es ++ changes_from names (n + length es) (replay numbered m es) fs
changes_append_from names n m [] fs =
    let here : n + 0 ≡ n = omega arith in
    ap (λ i. changes_from names i m fs) (sym here)
changes_append_from names n m (e ∷ es) fs =
    let place : n + 1 + length es ≡ n + length (e ∷ es) = omega arith in
    let next = (step numbered m e).0 in
    let entry = line_text names n (step numbered m e).1 ++ changes_between names m next in
    let here = changes_from names (n + 1) next es in
    ap (λ xs. entry ++ xs) (changes_append_from names (n + 1) next es fs)
    ∙ ap (λ i. entry ++ (here ++ changes_from names i (replay numbered next es) fs)) place
    ∙ sym (append_assoc entry here (changes_from names (n + length (e ∷ es)) (replay numbered next es) fs))

changes_append : (c : Setup) (es fs : List Event) → changes_of c (es ++ fs) ≡ changes_of c es ++ changes_from c.names (1 + length es) (replay numbered (booted c) es) fs
unfolding changes_of
changes_append c es fs =
    let boot = state_text c.names (booted c) in
    ap (λ xs. boot ++ xs) (changes_append_from c.names 1 (booted c) es fs)
    ∙ sym (append_assoc boot (changes_from c.names 1 (booted c) es) (changes_from c.names (1 + length es) (replay numbered (booted c) es) fs))

life_append_from : (names : NameLists) (xs : List Thing) (n : ℕ) (m : State) (es fs : List Event)
    → life_from names xs n m (es ++ fs) ≡ life_from names xs n m es ++ life_from names xs (n + length es) (replay numbered m es) fs
life_append_from names xs n m [] fs =
    let here : n + 0 ≡ n = omega arith in
    ap (λ i. life_from names xs i m fs) (sym here)
life_append_from names xs n m (e ∷ es) fs =
    let place : n + 1 + length es ≡ n + length (e ∷ es) = omega arith in
    let next = (step numbered m e).0 in
    let entry = with_changes (line_text names n (step numbered m e).1) (things_changed names m next xs) in
    let here = life_from names xs (n + 1) next es in
    ap (λ bytes. entry ++ bytes) (life_append_from names xs (n + 1) next es fs)
    ∙ ap (λ i. entry ++ (here ++ life_from names xs i (replay numbered next es) fs)) place
    ∙ sym (append_assoc entry here (life_from names xs (n + length (e ∷ es)) (replay numbered next es) fs))

-- the things of which something was told
abbrev pub things_of : List Seen → List Thing
things_of seen = map (λ s. s.thing) seen

life_append : (seen : List Seen) (c : Setup) (es fs : List Event)
    → life_since seen c (es ++ fs) ≡ life_since seen c es ++ life_from c.names (things_of seen) (1 + length es) (replay numbered (booted c) es) fs
unfolding life_since
life_append seen c es fs =
    let boot = flat_map (report_since c.names (booted c)) seen in
    let xs = things_of seen in
    ap (λ bytes. boot ++ bytes) (life_append_from c.names xs 1 (booted c) es fs)
    ∙ sym (append_assoc boot (life_from c.names xs 1 (booted c) es) (life_from c.names xs (1 + length es) (replay numbered (booted c) es) fs))

-- what was told of one state is not kept in mind after another one was told
pub report_again : (d : Detail) (names : NameLists) (m next : State) → report_in (report_in d names m) names next ≡ report_in d names next
report_again detail.Line names m next = refl
report_again detail.State names m next = refl
report_again (detail.Changes lines) names m next = refl
report_again (detail.Life seen) names m next = ap detail.Life (renewed_again names m next seen)

-- what is written from these events on
abbrev rest_of : Detail → Setup → List Event → List Event → List ℕ
rest_of detail.Line c es fs = lines_from c.names (1 + length es) (answers numbered (replay numbered (booted c) es) fs)
rest_of detail.State c es fs = states_from c.names (1 + length es) (replay numbered (booted c) es) fs
rest_of (detail.Changes lines) c es fs = changes_from c.names (1 + length es) (replay numbered (booted c) es) fs
rest_of (detail.Life seen) c es fs = life_from c.names (things_of seen) (1 + length es) (replay numbered (booted c) es) fs

detail_append : (d : Detail) (c : Setup) (es fs : List Event) → detail_of d c (es ++ fs) ≡ detail_of d c es ++ rest_of d c es fs
detail_append detail.Line c es fs = trace_append c es fs
detail_append detail.State c es fs = states_append c es fs
detail_append (detail.Changes lines) c es fs = changes_append c es fs
detail_append (detail.Life seen) c es fs = life_append seen c es fs

-- what is written of this event, after these
abbrev pub entry_after : Detail → Setup → List Event → Event → List ℕ
entry_after d c es e = entry_text (report_in d c.names (replay numbered (booted c) es)) c.names (length es + 1) (step numbered (replay numbered (booted c) es) e)

one_more : (d : Detail) (c : Setup) (es : List Event) (e : Event)
    → rest_of d c es (e ∷ []) ≡ entry_text (report_in d c.names (replay numbered (booted c) es)) c.names (1 + length es) (step numbered (replay numbered (booted c) es) e)
one_more detail.Line c es e = append-nil (entry_text detail.Line c.names (1 + length es) (step numbered (replay numbered (booted c) es) e))
one_more detail.State c es e = append-nil (entry_text detail.State c.names (1 + length es) (step numbered (replay numbered (booted c) es) e))
one_more (detail.Changes lines) c es e =
    let before = replay numbered (booted c) es in
    append-nil (line_text c.names (1 + length es) (step numbered before e).1 ++ changes_between c.names before (step numbered before e).0)
one_more (detail.Life seen) c es e =
    let before = replay numbered (booted c) es in
    let did = step numbered before e in
    let line = line_text c.names (1 + length es) did.1 in
    append-nil (with_changes line (things_changed c.names before did.0 (things_of seen))) ∙ ap (with_changes line) (sym (report_changes c.names before did.0 seen))

pub detail_more : (d : Detail) (c : Setup) (es : List Event) (e : Event) → detail_of d c (es ++ e ∷ []) ≡ detail_of d c es ++ entry_after d c es e
detail_more d c es e =
    let place : 1 + length es ≡ length es + 1 = omega arith in
    detail_append d c es (e ∷ []) ∙ ap (λ xs. detail_of d c es ++ xs) (one_more d c es e)
    ∙ ap (λ i. detail_of d c es ++ entry_text (report_in d c.names (replay numbered (booted c) es)) c.names i (step numbered (replay numbered (booted c) es) e)) place

-- of no event there is what is written at boot
pub detail_none : (d : Detail) (c : Setup) → detail_of d c [] ≡ boot_text d c.names (booted c)
unfolding trace_of states_of changes_of life_since
detail_none detail.Line c = refl
detail_none detail.State c = append-nil (state_text c.names (booted c))
detail_none (detail.Changes lines) c = append-nil (state_text c.names (booted c))
detail_none (detail.Life seen) c = append-nil (flat_map (report_since c.names (booted c)) seen)

-- a beginning of some bytes is one of more bytes
pub begins_on : (old prefix line following new : List ℕ) → BeginsWith (old ++ prefix) line new → BeginsWith old ((prefix ++ line) ++ following) new
begins_on old prefix line following new (n, is) =
    let j = min n (length line) in
    let within : j ≤ length line = omega arith in
    let same : take (length prefix + j) ((prefix ++ line) ++ following) ≡ prefix ++ take n line =
    ap (take (length prefix + j)) (append_assoc prefix line following) ∙ take-append-add prefix (line ++ following) j
    ∙ ap (λ xs. prefix ++ xs) (take-append-le j line following within ∙ take_min n line) in
    (length prefix + j, is ∙ append_assoc old prefix (take n line) ∙ ap (λ xs. old ++ xs) (sym same))

-- a beginning of what is written at boot is one of all
pub boot_begun : (d : Detail) (c : Setup) (events : List Event) (old new : List ℕ) → BeginsWith old (boot_text d c.names (booted c)) new
    → BeginsWith old (detail_of d c events) new
boot_begun d c events old new begins =
    let boot = boot_text d c.names (booted c) in
    let parts : detail_of d c events ≡ boot ++ rest_of d c [] events = detail_append d c [] events ∙ ap (λ xs. xs ++ rest_of d c [] events) (detail_none d c) in
    rw parts (begins_on old [] boot (rest_of d c [] events) new (rw (← append-nil old) at begins))

-- all of what is written is a beginning of it
pub all_begun : (d : Detail) (c : Setup) (events : List Event) (old new : List ℕ) → new ≡ old ++ detail_of d c events → BeginsWith old (detail_of d c events) new
all_begun d c events old new text =
    (length (detail_of d c events), text ∙ ap (λ xs. old ++ xs) (sym (take-length (detail_of d c events))))

-- what is written of a prefix of the events is a beginning of what is written of all
pub prefix_begun : (d : Detail) (c : Setup) (events : List Event) (n : ℕ) (old new : List ℕ) → new ≡ old ++ detail_of d c (take n events) → BeginsWith old (detail_of d c events) new
prefix_begun d c events n old new text =
    let first = detail_of d c (take n events) in
    let following = rest_of d c (take n events) (drop n events) in
    let parts : detail_of d c events ≡ first ++ following = ap (detail_of d c) (sym (take-append-drop n events)) ∙ detail_append d c (take n events) (drop n events) in
    (length first, text ∙ ap (λ xs. old ++ xs) (sym (ap (take (length first)) parts ∙ take-append_seam first following)))
