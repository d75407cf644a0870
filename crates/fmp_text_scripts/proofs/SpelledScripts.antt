-- A script text is read exactly where it is spelled.
use Rattle.std.proofs.Common.{◌≡◌, ◌≢◌, ℕ, suc, ◌+◌, ◌<◌, ◌≤◌, ◌==◌, Bool, true, false, not, cond, eqb, ltb, inl, inr, List, [], ◌∷◌, ◌++◌, length, Option, Some, None, Result, Ok, Err, is_some, refl, sym, ap, subst, ◌∙◌, arith, append_assoc, length-append}
use Rattle.std.specs.Prelude.{All, slice_index_or}
use Rattle.std.specs.List.{list_all, list_any, join_with_byte, AllPairs}
use Rattle.std.proofs.lemmas.Bool.{and_parts, ltb-true, ltb-false, lt-ltb, le-ltb, ne_eqb, false≢true}
use Rattle.std.proofs.lemmas.List.{append-nil}
use Rattle.fmp_bytes.specs.Bytes.{pieces_of}
use Rattle.fmp_bytes.proofs.Cutting.{join-pieces_of, some-pieces_of, apart-pieces_of}
use Rattle.fmp_bytes.proofs.Parsed.{tested_ok, bind_parts}
use Rattle.fmp_codes.specs.declared.calls.Call.{Call}
use Rattle.fmp_names.specs.Names.{NameLists, AreValid}
use Rattle.fmp_text.specs.Limits.{most_bytes}
use Rattle.fmp_text.specs.declared.fault.TextFault.{TextFault}
use Rattle.fmp_text.specs.declared.fault.TextKind.{TextKind}
use Rattle.fmp_text.specs.declared.fault.TextKind.TheVariants.{BadWord, CutShort, TooMany, WrongArguments}
use Rattle.fmp_text.specs.Lines.{is_skipped}
use Rattle.fmp_text.specs.TextGrammar.{SpellsNothing}
use Rattle.fmp_text.proofs.SpelledTexts.{no_feed, rest_read, skipped_parts}
use Rattle.fmp_text_scripts.specs.declared.line.Said.{Said}
use Rattle.fmp_text_scripts.specs.declared.line.Said.TheVariants as said
use Rattle.fmp_text_scripts.specs.declared.linking.Jump.{Jump}
use Rattle.fmp_text_scripts.specs.declared.linking.Label.{Label}
use Rattle.fmp_text_scripts.specs.declared.ways.Way.{Way}
use Rattle.fmp_text_scripts.specs.Scripts.{Steps}
use Rattle.fmp_text_scripts.specs.Ways.{most_steps, most_labels, most_ways}
use Rattle.fmp_text_scripts.specs.Lines.{said_in}
use Rattle.fmp_text_scripts.specs.Linking.{has_label, is_any, linked}
use Rattle.fmp_text_scripts.specs.Texts.{Open, Reading, nothing_read, ended, took, with_line, at_end, after_line, fault_at, scripts_from, scripts_in}
use Rattle.fmp_text_scripts.specs.ScriptGrammar.{SpellsPart, IsLine, SpellsLines, SpellsScripts}
use Rattle.fmp_text_scripts.specs.Sources.{Part, Asks, Stands, Jumps, Source, calls_of, jumps_of, labels_of, ArePlaced, AreNew, IsScript, AreScripts}
use Rattle.fmp_text_scripts.proofs.Read.{scripts_from-cut, scripts_from-last}
use Rattle.fmp_text_scripts.proofs.Kept.{scripts_fit}
use Rattle.fmp_text_scripts.proofs.Linked.{linked_long}
use Rattle.fmp_text_scripts.proofs.SpelledLines.{LineSays, said_of, head_read, end_read, part_read, skipped_read, line_is_spelled}

-- ---- the scripts so far and those that follow

abbrev pub Apart : List (List ℕ) → Type 0
Apart lines = list_all (list_all (λ b. not (eqb b 10))) lines ≡ true

abbrev pub reading : List Steps → Option Open → Reading
reading done unclosed = record { scripts = done; unclosed = unclosed }

abbrev pub opened : ℕ → ℕ → Open
opened line f = record { line = line; function = f; steps = []; jumps = []; labels = []; following = false }

-- the open script with one part more
abbrev pub with_part : Open → Part → Open
with_part o (Asks call) = record o { steps = o.steps ++ (call ∷ []); following = true }
with_part o (Stands name) = record o { labels = o.labels ++ (record { name = name; at = length o.steps } ∷ []); following = false }
with_part o (Jumps answer name) = record o { jumps = o.jumps ++ (record { after = length o.steps; answer = answer; name = name } ∷ []); following = not (is_any answer) }

-- a part may come there
abbrev pub MayCome : Open → Part → Type 0
MayCome o (Asks call) = length o.steps < most_steps
MayCome o (Stands name) = (has_label o.labels name ≡ false) × (length o.labels < most_labels)
MayCome o (Jumps answer name) = (o.following ≡ true) × (length o.jumps < most_ways)

-- the script that an open one is with other parts
record Ends (o : Open) (parts : List Part) (s : Steps) : Type 0 where
  function : s.function ≡ o.function
  steps : s.steps ≡ o.steps ++ calls_of parts
  ways : linked (o.labels ++ labels_of (length o.steps) parts) (o.jumps ++ jumps_of (length o.steps) parts) ≡ Some s.ways
  placed : ArePlaced o.following parts
  new : AreNew (length o.steps) o.labels parts

-- all scripts are those that are done, the open one with its other parts, and the rest
abbrev Stands_ : List Steps → Option Open → Option (List Part) → List Source → List Steps → Type 0
Stands_ done None None rest all = (others : List Steps) × AreScripts rest others × (all ≡ done ++ others)
Stands_ done (Some o) (Some parts) rest all = (s : Steps) × (others : List Steps) × Ends o parts s × AreScripts rest others × (all ≡ done ++ (s ∷ others))
Stands_ done _ _ rest all = ⊥

-- a script by its parts
abbrev pub record_of : Open → List Way → Steps
record_of o ways = record { function = o.function; steps = o.steps; ways = ways }

as_script : (s : Steps) (f : ℕ) (steps : List Call) → s.function ≡ f → s.steps ≡ steps → ◌≡◌ {A = Steps} (record { function = f; steps = steps; ways = s.ways }) s
as_script s f steps of_function of_steps =
    ap (λ (g : ℕ). record { function = g; steps = steps; ways = s.ways }) (sym of_function) ∙ ap (λ (l : List Call). record { function = s.function; steps = l; ways = s.ways }) (sym of_steps)

no_scripts : (scripts : List Steps) → AreScripts [] scripts → scripts ≡ []
no_scripts [] are = refl
no_scripts (s ∷ scripts) are = absurd are

first_script : (source : Source) (sources : List Source) (scripts : List Steps) → AreScripts (source ∷ sources) scripts → (s : Steps) × (others : List Steps) × (scripts ≡ s ∷ others) × IsScript source s × AreScripts sources others
first_script source sources [] are = absurd are
first_script source sources (s ∷ scripts) are = (s, scripts, refl, are.0, are.1)

newly_ok : (old room : Bool) (new r : Reading) → cond old (Err WrongArguments) (cond room (Ok new) (Err TooMany)) ≡ Ok r → (old ≡ false) × (room ≡ true) × (new ≡ r)
newly_ok true room new r e = absurd cc
newly_ok false true new r e = (refl, refl, cc)
newly_ok false false new r e = absurd cc

record AreWithin (all : List Steps) : Type 0 where
  once : AllPairs (λ s t. s.function ≢ t.function) all
  few : All (λ s. length s.steps ≤ most_steps) all
  few_ways : All (λ s. length s.ways ≤ most_ways) all

-- ---- what is spelled is read

at_middle : (done others : List Steps) (s d : Steps) → slice_index_or (done ++ (s ∷ others)) (length done) d ≡ s
at_middle [] others s d = refl
at_middle (t ∷ done) others s d = at_middle done others s d

new_function : (done others : List Steps) (s : Steps) → AllPairs (λ t u. t.function ≢ u.function) (done ++ (s ∷ others)) → list_any (λ t. t.function == s.function) done ≡ false
new_function [] others s once = refl
new_function (t ∷ done) others s once =
    let there : slice_index_or (t ∷ done ++ (s ∷ others)) (suc (length done)) t ≡ s = at_middle done others s t in
    let differs : (t.function == s.function) ≡ false = ne_eqb t.function s.function (λ e. once 0 (suc (length done)) t (omega arith) (omega (arith, length-append done (s ∷ others))) (e ∙ ap (λ (u : Steps). u.function) (sym there))) in
    let rest = new_function done others s (λ i j d below small. once (suc i) (suc j) d (omega (arith, below)) (omega (arith, small))) in
    rw (differs, rest) refl

few_here : (done others : List Steps) (s : Steps) → All (λ t. length t.steps ≤ most_steps) (done ++ (s ∷ others)) → length s.steps ≤ most_steps
few_here done others s few =
    let here = few (length done) s (omega (arith, length-append done (s ∷ others))) in
    rw (at_middle done others s s) at here

few_ways_here : (done others : List Steps) (s : Steps) → All (λ t. length t.ways ≤ most_ways) (done ++ (s ∷ others)) → length s.ways ≤ most_ways
few_ways_here done others s few =
    let here = few (length done) s (omega (arith, length-append done (s ∷ others))) in
    rw (at_middle done others s s) at here

module _ (names : NameLists) (n : ℕ) (line next : List ℕ) (lines : List (List ℕ)) (whole : Result (List Steps) TextFault) where
  -- one line more in front of what is read
  one_line : (r after : Reading) (what : Option Said) → list_all (λ b. not (eqb b 10)) line ≡ true → said_in names (is_some r.unclosed) line ≡ Ok what → took (n + 1) r what ≡ Ok after
      → scripts_from names (n + 1) after [] (join_with_byte 10 (next ∷ lines)) ≡ whole → scripts_from names n r [] (join_with_byte 10 (line ∷ next ∷ lines)) ≡ whole
  one_line r after what apart says takes rest =
      let judged : with_line names (n + 1) r line ≡ Ok after = rw says takes in
      scripts_from-cut names n r line (join_with_byte 10 (next ∷ lines)) (no_feed line apart)
      ∙ ap (λ (o : Result Reading TextKind). after_line (n + 1) o (λ x. scripts_from names (n + 1) x [] (join_with_byte 10 (next ∷ lines)))) judged ∙ rest

-- the end of a text
pub last_line : (names : NameLists) (n : ℕ) (r : Reading) (last : List ℕ) → Apart (last ∷ []) → scripts_from names n r [] last ≡ cond (is_skipped last) (at_end r r.unclosed) (fault_at CutShort (n + 1))
unfolding scripts_from
last_line names n r last apart = scripts_from-last names n r last (no_feed last (and_parts (list_all (λ b. not (eqb b 10)) last) true apart).0)

-- ---- one part

longer_by_one : (xs : List Call) (x : Call) → length (xs ++ (x ∷ [])) ≡ length xs + 1
longer_by_one xs x = omega (arith, length-append xs (x ∷ []))

-- with the first of its parts an open script ends as the same script
ends_on : (o : Open) (part : Part) (parts : List Part) (s : Steps) → Ends o (part ∷ parts) s → Ends (with_part o part) parts s
ends_on o (Asks call) parts s e =
    let n = longer_by_one o.steps call in
    record {
      function = e.function;
      steps = e.steps ∙ sym (append_assoc o.steps (call ∷ []) (calls_of parts));
      ways = ap (λ (k : ℕ). linked (o.labels ++ labels_of k parts) (o.jumps ++ jumps_of k parts)) n ∙ e.ways;
      placed = e.placed;
      new = subst (λ (k : ℕ). AreNew k o.labels parts) (sym n) e.new;
    }
ends_on o (Stands name) parts s e =
    let label : Label = record { name = name; at = length o.steps } in
    record {
      function = e.function;
      steps = e.steps;
      ways = ap (λ (l : List Label). linked l (o.jumps ++ jumps_of (length o.steps) parts)) (append_assoc o.labels (label ∷ []) (labels_of (length o.steps) parts)) ∙ e.ways;
      placed = e.placed;
      new = e.new.2;
    }
ends_on o (Jumps answer name) parts s e =
    let jump : Jump = record { after = length o.steps; answer = answer; name = name } in
    record {
      function = e.function;
      steps = e.steps;
      ways = ap (λ (j : List Jump). linked (o.labels ++ labels_of (length o.steps) parts) j) (append_assoc o.jumps (jump ∷ []) (jumps_of (length o.steps) parts)) ∙ e.ways;
      placed = e.placed.1;
      new = e.new;
    }

-- and so back, where the part may come
ends_back : (o : Open) (part : Part) (parts : List Part) (s : Steps) → MayCome o part → Ends (with_part o part) parts s → Ends o (part ∷ parts) s
ends_back o (Asks call) parts s may e =
    let n = longer_by_one o.steps call in
    record {
      function = e.function;
      steps = e.steps ∙ append_assoc o.steps (call ∷ []) (calls_of parts);
      ways = ap (λ (k : ℕ). linked (o.labels ++ labels_of k parts) (o.jumps ++ jumps_of k parts)) (sym n) ∙ e.ways;
      placed = e.placed;
      new = subst (λ (k : ℕ). AreNew k o.labels parts) n e.new;
    }
ends_back o (Stands name) parts s may e =
    let label : Label = record { name = name; at = length o.steps } in
    record {
      function = e.function;
      steps = e.steps;
      ways = ap (λ (l : List Label). linked l (o.jumps ++ jumps_of (length o.steps) parts)) (sym (append_assoc o.labels (label ∷ []) (labels_of (length o.steps) parts))) ∙ e.ways;
      placed = e.placed;
      new = (may.0, may.1, e.new);
    }
ends_back o (Jumps answer name) parts s may e =
    let jump : Jump = record { after = length o.steps; answer = answer; name = name } in
    record {
      function = e.function;
      steps = e.steps;
      ways = ap (λ (j : List Jump). linked (o.labels ++ labels_of (length o.steps) parts) j) (sym (append_assoc o.jumps (jump ∷ []) (jumps_of (length o.steps) parts))) ∙ e.ways;
      placed = (may.0, e.placed);
      new = e.new;
    }

-- a part that may come is taken
part_taken : (n : ℕ) (done : List Steps) (o : Open) (part : Part) → MayCome o part → took n (reading done (Some o)) (Some (said_of part)) ≡ Ok (reading done (Some (with_part o part)))
part_taken n done o (Asks call) may = let room = lt-ltb (length o.steps) most_steps may in rw room refl
part_taken n done o (Stands name) may = let new = may.0 in let room = lt-ltb (length o.labels) most_labels may.1 in rw (new, room) refl
part_taken n done o (Jumps answer name) may = let there = may.0 in let room = lt-ltb (length o.jumps) most_ways may.1 in rw (there, room) refl

-- a first part may come
comes : (done others : List Steps) (o : Open) (part : Part) (parts : List Part) (s : Steps) → Ends o (part ∷ parts) s → AreWithin (done ++ (s ∷ others)) → MayCome o part
comes done others o (Asks call) parts s e within =
    let here = few_here done others s within.few in
    omega (arith, here, ap length e.steps, length-append o.steps (call ∷ calls_of parts))
comes done others o (Stands name) parts s e within = (e.new.0, e.new.1)
comes done others o (Jumps answer name) parts s e within =
    let here = few_ways_here done others s within.few_ways in
    let n = length o.steps in
    let long = linked_long (o.labels ++ labels_of n parts) (o.jumps ++ jumps_of n (Jumps answer name ∷ parts)) s.ways e.ways in
    (e.placed.0, omega (arith, here, long, length-append o.jumps (jumps_of n (Jumps answer name ∷ parts))))

-- an open script that has no other parts is closed
closes : (done : List Steps) (o : Open) (s : Steps) → Ends o [] s → (ways : Option (List Way)) → linked o.labels o.jumps ≡ ways → ended (reading done (Some o)) o ways ≡ Ok (reading (done ++ (s ∷ [])) None)
closes done o s e ways is =
    let same : linked o.labels o.jumps ≡ Some s.ways =
    ap (λ (l : List Label). linked l o.jumps) (sym (append-nil o.labels)) ∙ ap (λ (j : List Jump). linked (o.labels ++ []) j) (sym (append-nil o.jumps)) ∙ e.ways in
    let script : record_of o s.ways ≡ s = as_script s o.function o.steps e.function (e.steps ∙ append-nil o.steps) in
    ap (ended (reading done (Some o)) o) (sym is ∙ same) ∙ ap (λ (x : Steps). Ok (reading (done ++ (x ∷ [])) None)) script

lines_read : (names : NameLists) (n : ℕ) (done : List Steps) (unclosed : Option Open) (inside : Option (List Part)) (lines : List (List ℕ)) (rest : List Source) (all : List Steps) → AreValid names → AreWithin all
    → Apart lines → SpellsLines names lines inside rest → Stands_ done unclosed inside rest all → scripts_from names n (reading done unclosed) [] (join_with_byte 10 lines) ≡ Ok all
lines_read names n done unclosed inside [] rest all valid within apart s stands = absurd s
lines_read names n done unclosed (Some parts) (last ∷ []) rest all valid within apart s stands = absurd s
lines_read names n done (Some o) None lines rest all valid within apart s stands = absurd stands
lines_read names n done None (Some parts) lines rest all valid within apart s stands = absurd stands
lines_read names n done None None (last ∷ []) rest all valid within apart s stands =
    let skipped = rest_read last s.0 in
    let none = no_scripts stands.0 (subst (λ (r : List Source). AreScripts r stands.0) s.1 stands.1) in
    let same : done ≡ all = sym (stands.2 ∙ ap (λ (r : List Steps). done ++ r) none ∙ append-nil done) in
    last_line names n (reading done None) last apart ∙ rw skipped (ap (λ (x : List Steps). Ok x) same)
lines_read names n done None None (line ∷ next ∷ lines) rest all valid within apart (inl s) stands =
    let parts = and_parts (list_all (λ b. not (eqb b 10)) line) (list_all (list_all (λ b. not (eqb b 10))) (next ∷ lines)) apart in
    one_line names n line next lines (Ok all) (reading done None) (reading done None) None parts.0 (skipped_read names false line s.0) refl
    (lines_read names (n + 1) done None None (next ∷ lines) rest all valid within parts.1 s.1 stands)
lines_read names n done None None (line ∷ next ∷ lines) rest all valid within apart (inr s) stands =
    let parts = and_parts (list_all (λ b. not (eqb b 10)) line) (list_all (list_all (λ b. not (eqb b 10))) (next ∷ lines)) apart in
    let source : Source = s.0 in
    let p = first_script source s.1 stands.0 (subst (λ (r : List Source). AreScripts r stands.0) s.3 stands.1) in
    let script : Steps = p.0 in
    let is : all ≡ done ++ (script ∷ p.1) = stands.2 ∙ ap (λ (r : List Steps). done ++ r) p.2 in
    let of_function : script.function ≡ source.function = p.3.function in
    let new : list_any (λ t. t.function == source.function) done ≡ false = subst (λ (f : ℕ). list_any (λ t. t.function == f) done ≡ false) of_function (new_function done p.1 script (rw is at within.once)) in
    let begun : Ends (opened (n + 1) source.function) source.parts script =
    record { function = p.3.function; steps = p.3.steps; ways = p.3.ways; placed = p.3.placed; new = p.3.new } in
    one_line names n line next lines (Ok all) (reading done None) (reading done (Some (opened (n + 1) source.function))) (Some (said.Opens source.function)) parts.0
    (head_read names line source.function valid s.2) (rw new refl)
    (lines_read names (n + 1) done (Some (opened (n + 1) source.function)) (Some source.parts) (next ∷ lines) s.1 all valid within parts.1 s.4 (script, p.1, begun, p.4, is))
lines_read names n done (Some o) (Some parts) (line ∷ next ∷ lines) rest all valid within apart (inl s) stands =
    let cuts = and_parts (list_all (λ b. not (eqb b 10)) line) (list_all (list_all (λ b. not (eqb b 10))) (next ∷ lines)) apart in
    one_line names n line next lines (Ok all) (reading done (Some o)) (reading done (Some o)) None cuts.0 (skipped_read names true line s.0) refl
    (lines_read names (n + 1) done (Some o) (Some parts) (next ∷ lines) rest all valid within cuts.1 s.1 stands)
lines_read names n done (Some o) (Some parts) (line ∷ next ∷ lines) rest all valid within apart (inr (inl s)) stands =
    let cuts = and_parts (list_all (λ b. not (eqb b 10)) line) (list_all (list_all (λ b. not (eqb b 10))) (next ∷ lines)) apart in
    let e : Ends o [] stands.0 = subst (λ (p : List Part). Ends o p stands.0) s.1 stands.2 in
    let is : all ≡ (done ++ (stands.0 ∷ [])) ++ stands.1 = stands.4 ∙ sym (append_assoc done (stands.0 ∷ []) stands.1) in
    one_line names n line next lines (Ok all) (reading done (Some o)) (reading (done ++ (stands.0 ∷ [])) None) (Some said.Closes) cuts.0 (end_read names line s.0)
    (closes done o stands.0 e (linked o.labels o.jumps) refl)
    (lines_read names (n + 1) (done ++ (stands.0 ∷ [])) None None (next ∷ lines) rest all valid within cuts.1 s.2 (stands.1, stands.3, is))
lines_read names n done (Some o) (Some parts) (line ∷ next ∷ lines) rest all valid within apart (inr (inr s)) stands =
    let cuts = and_parts (list_all (λ b. not (eqb b 10)) line) (list_all (list_all (λ b. not (eqb b 10))) (next ∷ lines)) apart in
    let e : Ends o (s.0 ∷ s.1) stands.0 = subst (λ (p : List Part). Ends o p stands.0) s.3 stands.2 in
    let may = comes done stands.1 o s.0 s.1 stands.0 e (subst AreWithin stands.4 within) in
    one_line names n line next lines (Ok all) (reading done (Some o)) (reading done (Some (with_part o s.0))) (Some (said_of s.0)) cuts.0
    (part_read names line s.0 valid s.2) (part_taken (n + 1) done o s.0 may)
    (lines_read names (n + 1) done (Some (with_part o s.0)) (Some s.1) (next ∷ lines) rest all valid within cuts.1 s.4 (stands.0, stands.1, ends_on o s.0 s.1 stands.0 e, stands.3, stands.4))

pub scripts_in-spelled : (names : NameLists) (text : List ℕ) (scripts : List Steps) → AreValid names → SpellsScripts names text scripts → scripts_in names text ≡ Ok scripts
unfolding scripts_in
scripts_in-spelled names text scripts valid s =
    let short = le-ltb most_bytes (length text) s.short in
    rw short (ap (scripts_from names 0 nothing_read []) s.parts
    ∙ lines_read names 0 [] None None s.lines s.sources scripts valid (record { once = s.once; few = s.few; few_ways = s.few_ways }) s.cut s.spelled (scripts, s.linked, refl))

-- ---- what was read without a fault

-- the lines spell sources of scripts that follow those that are done
record IsSpelled (names : NameLists) (done : List Steps) (unclosed : Option Open) (lines : List (List ℕ)) (all : List Steps) : Type 0 where
  inside : Option (List Part)
  rest : List Source
  spelled : SpellsLines names lines inside rest
  stands : Stands_ done unclosed inside rest all

ended_parts : (skipped : Bool) (n : ℕ) (done : List Steps) (unclosed : Option Open) (all : List Steps) → cond skipped (at_end (reading done unclosed) unclosed) (fault_at CutShort n) ≡ Ok all
    → (skipped ≡ true) × (unclosed ≡ None) × (done ≡ all)
ended_parts false n done unclosed all e = absurd cc
ended_parts true n done None all e = (refl, refl, (let e2 = e in cc))
ended_parts true n done (Some o) all e = absurd cc

last_spelled : (names : NameLists) (n : ℕ) (done : List Steps) (unclosed : Option Open) (last : List ℕ) (all : List Steps)
    → (is_skipped last ≡ true) × (unclosed ≡ None) × (done ≡ all) → IsSpelled names done unclosed (last ∷ []) all
last_spelled names n done None last all p =
    record { inside = None; rest = []; spelled = (skipped_parts last p.0, refl); stands = ([], tt, sym p.2 ∙ sym (append-nil done)) }
last_spelled names n done (Some o) last all p = absurd (let none = p.1 in cc)

line_parts : (line : ℕ) (said : Result Reading TextKind) (rest : Reading → Result (List Steps) TextFault) (all : List Steps) → after_line line said rest ≡ Ok all → (r : Reading) × (said ≡ Ok r) × (rest r ≡ Ok all)
line_parts line (Ok r) rest all e = (r, refl, e)
line_parts line (Err kind) rest all e = absurd cc

pub opening_parts : (taken : Bool) (new r : Reading) → cond taken (Err WrongArguments) (Ok new) ≡ Ok r → new ≡ r
opening_parts true new r e = absurd cc
opening_parts false new r e = cc

-- a part that was taken may come
pub taken_parts : (n : ℕ) (done : List Steps) (o : Open) (part : Part) (r : Reading) → took n (reading done (Some o)) (Some (said_of part)) ≡ Ok r → MayCome o part × (reading done (Some (with_part o part)) ≡ r)
taken_parts n done o (Asks call) r e =
    let t = tested_ok (ltb (length o.steps) most_steps) (Ok (reading done (Some (with_part o (Asks call))))) TooMany r e in
    (ltb-true (length o.steps) most_steps t.0, (let e2 = t.1 in cc))
taken_parts n done o (Stands name) r e =
    let t = newly_ok (has_label o.labels name) (ltb (length o.labels) most_labels) (reading done (Some (with_part o (Stands name)))) r e in
    ((t.0, ltb-true (length o.labels) most_labels t.1), t.2)
taken_parts n done o (Jumps answer name) r e =
    let t = tested_ok o.following (cond (ltb (length o.jumps) most_ways) (Ok (reading done (Some (with_part o (Jumps answer name))))) (Err TooMany)) BadWord r e in
    let u = tested_ok (ltb (length o.jumps) most_ways) (Ok (reading done (Some (with_part o (Jumps answer name))))) TooMany r t.1 in
    ((t.0, ltb-true (length o.jumps) most_ways u.0), (let e2 = u.1 in cc))

-- a script that was closed has the ways of its jumps
pub closed_parts : (done : List Steps) (o : Open) (r : Reading) (ways : Option (List Way)) → linked o.labels o.jumps ≡ ways → ended (reading done (Some o)) o ways ≡ Ok r
    → (ws : List Way) × (linked o.labels o.jumps ≡ Some ws) × (reading (done ++ (record_of o ws ∷ [])) None ≡ r)
closed_parts done o r None is e = absurd cc
closed_parts done o r (Some ws) is e = (ws, is, (let e2 = e in cc))

-- what the lines after a line spell, where this was read before them
abbrev Following : NameLists → List (List ℕ) → ℕ → List Steps → Type 0
Following names tail n all = (done : List Steps) (unclosed : Option Open) → scripts_from names n (reading done unclosed) [] (join_with_byte 10 tail) ≡ Ok all → IsSpelled names done unclosed tail all

module _ (names : NameLists) (n : ℕ) (line next : List ℕ) (lines : List (List ℕ)) (all : List Steps) (more : Following names (next ∷ lines) (n + 1) all) where
  -- a line that says nothing
  nothing_more : (done : List Steps) (unclosed : Option Open) → SpellsNothing line → IsSpelled names done unclosed (next ∷ lines) all → IsSpelled names done unclosed (line ∷ next ∷ lines) all
  nothing_more done unclosed nothing s = by s.inside s.spelled s.stands
    where
      by : (inside : Option (List Part)) → SpellsLines names (next ∷ lines) inside s.rest → Stands_ done unclosed inside s.rest all → IsSpelled names done unclosed (line ∷ next ∷ lines) all
      by None spelled stands = record { inside = None; rest = s.rest; spelled = inl (nothing, spelled); stands = stands }
      by (Some parts) spelled stands = record { inside = Some parts; rest = s.rest; spelled = inl (nothing, spelled); stands = stands }

  -- a line that opens a script
  script_more : (done : List Steps) (f : ℕ) → LineSays names false line (Some (said.Opens f)) → IsSpelled names done (Some (opened (n + 1) f)) (next ∷ lines) all → IsSpelled names done None (line ∷ next ∷ lines) all
  script_more done f (inl says) s = absurd (let none = says.0 in cc)
  script_more done f (inr says) s = by s.inside s.spelled s.stands
    where
      by : (inside : Option (List Part)) → SpellsLines names (next ∷ lines) inside s.rest → Stands_ done (Some (opened (n + 1) f)) inside s.rest all → IsSpelled names done None (line ∷ next ∷ lines) all
      by None spelled stands = absurd stands
      by (Some parts) spelled stands =
          let source : Source = record { function = f; parts = parts } in
          let e = stands.2 in
          let is : IsScript source stands.0 = record { function = e.function; steps = e.steps; ways = e.ways; placed = e.placed; new = e.new } in
          record {
            inside = None;
            rest = source ∷ s.rest;
            spelled = inr (source, s.rest, (says.0, says.1, says.2.1), refl, spelled);
            stands = (stands.0 ∷ stands.1, (is, stands.3), stands.4);
          }

  -- a part
  part_more : (done : List Steps) (o : Open) (part : Part) → MayCome o part → IsLine (λ text. SpellsPart names text part) line → IsSpelled names done (Some (with_part o part)) (next ∷ lines) all
      → IsSpelled names done (Some o) (line ∷ next ∷ lines) all
  part_more done o part may says s = by s.inside s.spelled s.stands
    where
      by : (inside : Option (List Part)) → SpellsLines names (next ∷ lines) inside s.rest → Stands_ done (Some (with_part o part)) inside s.rest all → IsSpelled names done (Some o) (line ∷ next ∷ lines) all
      by None spelled stands = absurd stands
      by (Some parts) spelled stands = record {
        inside = Some (part ∷ parts);
        rest = s.rest;
        spelled = inr (inr (part, parts, says, refl, spelled));
        stands = (stands.0, stands.1, ends_back o part parts stands.0 may stands.2, stands.3, stands.4);
      }

  -- the end of a script
  end_more : (done : List Steps) (o : Open) (ws : List Way) → linked o.labels o.jumps ≡ Some ws → LineSays names true line (Some said.Closes) → IsSpelled names (done ++ (record_of o ws ∷ [])) None (next ∷ lines) all
      → IsSpelled names done (Some o) (line ∷ next ∷ lines) all
  end_more done o ws is (inl says) s = absurd (let none = says.0 in cc)
  end_more done o ws is (inr says) s = by s.inside s.spelled s.stands
    where
      by : (inside : Option (List Part)) → SpellsLines names (next ∷ lines) inside s.rest → Stands_ (done ++ (record_of o ws ∷ [])) None inside s.rest all → IsSpelled names done (Some o) (line ∷ next ∷ lines) all
      by (Some parts) spelled stands = absurd stands
      by None spelled stands = record {
        inside = Some [];
        rest = s.rest;
        spelled = inr (inl ((says.0, says.1, says.2.1), refl, spelled));
        stands = (
          record_of o ws,
          stands.0,
          record {
            function = refl;
            steps = sym (append-nil o.steps);
            ways = ap (λ (l : List Label). linked l (o.jumps ++ [])) (append-nil o.labels) ∙ ap (λ (j : List Jump). linked o.labels j) (append-nil o.jumps) ∙ is;
            placed = tt;
            new = tt;
          },
          stands.1,
          stands.2 ∙ append_assoc done (record_of o ws ∷ []) stands.0,
        );
      }

  -- a line that says nothing leaves what is read as it is
  said_nothing : (done : List Steps) (unclosed : Option Open) (r : Reading) → LineSays names (is_some unclosed) line None → ◌≡◌ {A = Result Reading TextKind} (Ok (reading done unclosed)) (Ok r)
      → scripts_from names (n + 1) r [] (join_with_byte 10 (next ∷ lines)) ≡ Ok all → IsSpelled names done unclosed (line ∷ next ∷ lines) all
  said_nothing done unclosed r (inr says) takes rest = absurd says.2
  said_nothing done unclosed r (inl says) takes rest =
      let same : reading done unclosed ≡ r = cc in
      nothing_more done unclosed says.1 (more done unclosed (ap (λ (x : Reading). scripts_from names (n + 1) x [] (join_with_byte 10 (next ∷ lines))) same ∙ rest))

  -- a line of an open script
  part_said : (done : List Steps) (o : Open) (part : Part) (r : Reading) → IsLine (λ text. SpellsPart names text part) line → took (n + 1) (reading done (Some o)) (Some (said_of part)) ≡ Ok r
      → scripts_from names (n + 1) r [] (join_with_byte 10 (next ∷ lines)) ≡ Ok all → IsSpelled names done (Some o) (line ∷ next ∷ lines) all
  part_said done o part r says takes rest =
      let t = taken_parts (n + 1) done o part r takes in
      part_more done o part t.0 says (more done (Some (with_part o part)) (ap (λ (x : Reading). scripts_from names (n + 1) x [] (join_with_byte 10 (next ∷ lines))) t.1 ∙ rest))

  line_more : (done : List Steps) (unclosed : Option Open) (r : Reading) (what : Option Said) → LineSays names (is_some unclosed) line what → took (n + 1) (reading done unclosed) what ≡ Ok r
      → scripts_from names (n + 1) r [] (join_with_byte 10 (next ∷ lines)) ≡ Ok all → IsSpelled names done unclosed (line ∷ next ∷ lines) all
  line_more done unclosed r None says takes rest = said_nothing done unclosed r says takes rest
  line_more done unclosed r (Some what) (inl says) takes rest = absurd (let none = says.0 in cc)
  line_more done None r (Some (said.Opens f)) (inr says) takes rest =
      let t = opening_parts (list_any (λ s. s.function == f) done) (reading done (Some (opened (n + 1) f))) r takes in
      script_more done f (inr says) (more done (Some (opened (n + 1) f)) (ap (λ (x : Reading). scripts_from names (n + 1) x [] (join_with_byte 10 (next ∷ lines))) t ∙ rest))
  line_more done (Some o) r (Some (said.Opens f)) (inr says) takes rest = absurd (false≢true (sym says.2.0))
  line_more done None r (Some (said.Asks call)) (inr says) takes rest = absurd (false≢true says.2.0)
  line_more done (Some o) r (Some (said.Asks call)) (inr says) takes rest = part_said done o (Asks call) r (says.0, says.1, says.2.1) takes rest
  line_more done None r (Some (said.Stands name)) (inr says) takes rest = absurd (false≢true says.2.0)
  line_more done (Some o) r (Some (said.Stands name)) (inr says) takes rest = part_said done o (Stands name) r (says.0, says.1, says.2.1) takes rest
  line_more done None r (Some (said.Jumps answer name)) (inr says) takes rest = absurd (false≢true says.2.0)
  line_more done (Some o) r (Some (said.Jumps answer name)) (inr says) takes rest = part_said done o (Jumps answer name) r (says.0, says.1, says.2.1) takes rest
  line_more done None r (Some said.Closes) (inr says) takes rest = absurd (false≢true says.2.0)
  line_more done (Some o) r (Some said.Closes) (inr says) takes rest =
      let t = closed_parts done o r (linked o.labels o.jumps) refl takes in
      end_more done o t.0 t.1 (inr says) (more (done ++ (record_of o t.0 ∷ [])) None (ap (λ (x : Reading). scripts_from names (n + 1) x [] (join_with_byte 10 (next ∷ lines))) t.2 ∙ rest))

lines_spelled : (names : NameLists) (n : ℕ) (done : List Steps) (unclosed : Option Open) (lines : List (List ℕ)) (all : List Steps) → 0 < length lines → Apart lines
    → scripts_from names n (reading done unclosed) [] (join_with_byte 10 lines) ≡ Ok all → IsSpelled names done unclosed lines all
lines_spelled names n done unclosed [] all some apart e = absurd (omega (arith, some))
lines_spelled names n done unclosed (last ∷ []) all some apart e =
    last_spelled names n done unclosed last all (ended_parts (is_skipped last) (n + 1) done unclosed all (sym (last_line names n (reading done unclosed) last apart) ∙ e))
lines_spelled names n done unclosed (line ∷ next ∷ lines) all some apart e =
    let parts = and_parts (list_all (λ b. not (eqb b 10)) line) (list_all (list_all (λ b. not (eqb b 10))) (next ∷ lines)) apart in
    let p = line_parts (n + 1) (with_line names (n + 1) (reading done unclosed) line) (λ x. scripts_from names (n + 1) x [] (join_with_byte 10 (next ∷ lines))) all
    (sym (scripts_from-cut names n (reading done unclosed) line (join_with_byte 10 (next ∷ lines)) (no_feed line parts.0)) ∙ e) in
    let b = bind_parts (said_in names (is_some unclosed) line) (λ what. took (n + 1) (reading done unclosed) what) p.0 p.1 in
    line_more names n line next lines all (λ d u here. lines_spelled names (n + 1) d u (next ∷ lines) all (omega arith) parts.1 here)
    done unclosed p.0 b.0 (line_is_spelled names (is_some unclosed) line b.0 b.1) b.2 p.2

-- ---- whole texts

too_long : (long : Bool) (read : Result (List Steps) TextFault) (scripts : List Steps) → cond long (fault_at TooMany 0) read ≡ Ok scripts → (long ≡ false) × (read ≡ Ok scripts)
too_long true read scripts e = absurd cc
too_long false read scripts e = (refl, e)

whole_spelled : (names : NameLists) (lines : List (List ℕ)) (scripts : List Steps) → IsSpelled names [] None lines scripts → (sources : List Source) × SpellsLines names lines None sources × AreScripts sources scripts
whole_spelled names lines scripts s = by s.inside s.spelled s.stands
  where
    by : (inside : Option (List Part)) → SpellsLines names lines inside s.rest → Stands_ [] None inside s.rest scripts → (sources : List Source) × SpellsLines names lines None sources × AreScripts sources scripts
    by None spelled stands = (s.rest, spelled, subst (AreScripts s.rest) (sym stands.2) stands.1)
    by (Some parts) spelled stands = absurd stands

pub text_is_spelled : (names : NameLists) (text : List ℕ) (scripts : List Steps) → scripts_in names text ≡ Ok scripts → SpellsScripts names text scripts
unfolding scripts_in
text_is_spelled names text scripts e =
    let p = too_long (ltb most_bytes (length text)) (scripts_from names 0 nothing_read [] text) scripts e in
    let joined = join-pieces_of 10 text in
    let fits = scripts_fit names (λ call. Unit {0}) (λ bytes call read. tt) text scripts e in
    let all = lines_spelled names 0 [] None (pieces_of 10 text) scripts (some-pieces_of 10 text) (apart-pieces_of 10 text) (ap (scripts_from names 0 nothing_read []) joined ∙ p.1) in
    let w = whole_spelled names (pieces_of 10 text) scripts all in
    record {
      lines = pieces_of 10 text;
      sources = w.0;
      parts = sym joined;
      cut = apart-pieces_of 10 text;
      spelled = w.1;
      linked = w.2;
      once = fits.once;
      few = fits.few;
      few_ways = fits.few_ways;
      short = ltb-false most_bytes (length text) p.0;
    }

same_scripts : (a b : List Steps) → ◌≡◌ {A = Result (List Steps) TextFault} (Ok a) (Ok b) → a ≡ b
same_scripts a b e = cc

-- a text spells at most one list of scripts
pub one_list : (names : NameLists) (text : List ℕ) (a b : List Steps) → AreValid names → SpellsScripts names text a → SpellsScripts names text b → a ≡ b
one_list names text a b valid s t = same_scripts a b (sym (scripts_in-spelled names text a valid s) ∙ scripts_in-spelled names text b valid t)
