-- A fault of a script text stands in its line: the lines before it are read without one, and nothing after it is.
use Rattle.std.proofs.Common.{◌≡◌, ℕ, ◌+◌, ◌<◌, ◌≤◌, ◌==◌, Bool, true, false, not, ◌⊎◌, cond, eqb, ltb, inl, inr, List, [], ◌∷◌, ◌++◌, length, Option, Some, None, Result, Ok, Err, is_some, refl, sym, ap, subst, ◌∙◌, arith, length-append, append_assoc}
use Rattle.std.specs.Prelude.{All, codes}
use Rattle.std.specs.List.{list_all, list_any, join_with_byte}
use Rattle.std.proofs.lemmas.Bool.{cases_Bool, and_parts, eqb-true, lt-ltb, ltb-true, ltb-false, false≢true}
use Rattle.std.proofs.lemmas.List.{append-nil}
use Rattle.std.proofs.lemmas.List.Elements.{All-nil, All-cons, All-push, All-tail}
use Rattle.fmp_bytes.specs.Bytes.{pieces_of}
use Rattle.fmp_bytes.proofs.Cutting.{join-pieces_of, some-pieces_of, apart-pieces_of}
use Rattle.fmp_bytes.proofs.Parsed.{bind_parts}
use Rattle.fmp_names.specs.Names.{NameLists, AreValid}
use Rattle.fmp_text.specs.Limits.{most_bytes}
use Rattle.fmp_text.specs.declared.fault.TextFault.{TextFault}
use Rattle.fmp_text.specs.declared.fault.TextKind.{TextKind}
use Rattle.fmp_text.specs.declared.fault.TextKind.TheVariants.{CutShort, TooMany}
use Rattle.fmp_text.specs.FirstFaults.{lines_text, AreApart}
use Rattle.fmp_text.specs.Lines.{is_skipped}
use Rattle.fmp_text.proofs.FirstFaults.{lines_text-push, apart-push, apart-cons, length-push}
use Rattle.fmp_text.proofs.SpelledTexts.{no_feed, rest_read, skipped_parts}
use Rattle.fmp_text_scripts.specs.declared.line.Said.{Said}
use Rattle.fmp_text_scripts.specs.declared.line.Said.TheVariants as said
use Rattle.fmp_text_scripts.specs.declared.ways.Pattern.{Pattern}
use Rattle.fmp_text_scripts.specs.declared.ways.Way.{Way}
use Rattle.fmp_text_scripts.specs.declared.ways.Pattern.TheVariants as pattern
use Rattle.fmp_text_scripts.specs.Linking.{has_label, is_any, is_same, linked, place_in}
use Rattle.fmp_bytes.specs.Bytes.{is_of}
use Rattle.fmp_bytes.specs.declared.classes.Class.TheVariants.{Word}
use Rattle.fmp_bytes.proofs.Prefixes.{list_all-weaker, list_all-both}
use Rattle.fmp_bytes.proofs.Tokens.{identifier_words}
use Rattle.fmp_bytes.proofs.Words.{same_word}
use Rattle.fmp_text_scripts.specs.Scripts.{Steps}
use Rattle.fmp_text_scripts.specs.Ways.{most_labels}
use Rattle.fmp_text_scripts.specs.Lines.{said_in}
use Rattle.fmp_text_scripts.specs.Texts.{Open, Reading, nothing_read, took, with_line, at_end, after_line, fault_at, scripts_from, scripts_in}
use Rattle.fmp_codes.specs.declared.calls.Call.{Call}
use Rattle.fmp_text.specs.TextGrammar.{SpellsNothing}
use Rattle.fmp_text_scripts.specs.declared.linking.Jump.{Jump}
use Rattle.fmp_text_scripts.specs.declared.linking.Label.{Label}
use Rattle.fmp_text_scripts.specs.ScriptGrammar.{IsLabelName, IsLine, SpellsEnd, SpellsHead, SpellsLabel, SpellsPart, SpellsParts, SpellsScripts}
use Rattle.fmp_text_scripts.specs.Sources.{Part, Asks, Stands, Jumps, ArePlaced, AreNew, calls_of, is_after, jumps_of, labels_of}
use Rattle.fmp_text_scripts.proofs.ScriptFaults.{line_fault}
use Rattle.fmp_text_scripts.specs.FirstFaults.{HaveNoFault, LeaveOpen, Say, all_labels, ending, FaultInLine, AreOpen, FaultAtEnd, FirstFault}
use Rattle.fmp_text_scripts.proofs.Read.{scripts_from-cut, judged}
use Rattle.fmp_text_scripts.proofs.SpelledLines.{LineSays, said_of, end_read, part_read, line_is_spelled}
use Rattle.fmp_text_scripts.proofs.SpelledScripts.{reading, opened, with_part, MayCome, record_of, last_line, opening_parts, taken_parts, closed_parts, scripts_in-spelled, text_is_spelled}

same_fault : (a b : TextFault) → ◌≡◌ {A = Result (List Steps) TextFault} (Err a) (Err b) → a ≡ b
same_fault a b e = cc

no_fault : (scripts : List Steps) (fault : TextFault) → ◌≡◌ {A = Result (List Steps) TextFault} (Ok scripts) (Err fault) → ⊥
no_fault scripts fault e = absurd cc

-- ---- faults after so many lines

abbrev IsLate : ℕ → TextFault → Type 0
IsLate lines fault = (lines < fault.line) ⊎ (fault.kind ≡ CutShort)

end_is_late : (skipped : Bool) (r : Reading) (unclosed : Option Open) (lines n : ℕ) (fault : TextFault) → cond skipped (at_end r unclosed) (fault_at CutShort n) ≡ Err fault → IsLate lines fault
end_is_late false r unclosed lines n fault e = inr (sym (ap (λ (f : TextFault). f.kind) (same_fault (record { kind = CutShort; line = n }) fault e)))
end_is_late true r None lines n fault e = absurd (no_fault r.scripts fault e)
end_is_late true r (Some o) lines n fault e = inr (sym (ap (λ (f : TextFault). f.kind) (same_fault (record { kind = CutShort; line = o.line }) fault e)))

later : (lines : ℕ) (fault : TextFault) → IsLate (lines + 1) fault → IsLate lines fault
later lines fault (inl low) = inl (omega (arith, low))
later lines fault (inr cut) = inr cut

line_is_late : (lines : ℕ) (said : Result Reading TextKind) (rest : Reading → Result (List Steps) TextFault) (fault : TextFault) → ((next : Reading) → rest next ≡ Err fault → IsLate (lines + 1) fault)
    → after_line (lines + 1) said rest ≡ Err fault → IsLate lines fault
line_is_late lines (Ok next) rest fault following e = later lines fault (following next e)
line_is_late lines (Err kind) rest fault following e = inl (let at : lines + 1 ≡ fault.line = ap (λ (f : TextFault). f.line) (same_fault (record { kind = kind; line = lines + 1 }) fault e) in omega (arith, at))

faults_are_late : (names : NameLists) (bytes : List ℕ) (lines : ℕ) (r : Reading) (begun : List ℕ) (fault : TextFault) → scripts_from names lines r begun bytes ≡ Err fault → IsLate lines fault
unfolding scripts_from
faults_are_late names [] lines r begun fault e = end_is_late (is_skipped begun) r r.unclosed lines (lines + 1) fault e
faults_are_late names (b ∷ bytes) lines r begun fault e =
    elim (cases_Bool (eqb b 10)) [
      | inl t ↦
          line_is_late lines (with_line names (lines + 1) r begun) (λ next. scripts_from names (lines + 1) next [] bytes) fault
          (λ next following. faults_are_late names bytes (lines + 1) next [] fault following) (rw t at e)
      | inr f ↦ faults_are_late names bytes lines r (begun ++ b ∷ []) fault (rw f at e)
    ]

-- ---- what is read after some lines

-- a script is open since line n
record IsOpenSince (names : NameLists) (lines : List (List ℕ)) (n : ℕ) : Type 0 where
  before : List (List ℕ)
  head : List ℕ
  following : List (List ℕ)
  function : ℕ
  parts : lines ≡ before ++ (head ∷ following)
  number : n ≡ length before + 1
  spelled : length (lines_text before) ≤ most_bytes → (scripts : List Steps) × SpellsScripts names (lines_text before) scripts
  opens : IsLine (λ text. SpellsHead names text function) head
  unended : All (λ line. ¬ (IsLine SpellsEnd line)) following

abbrev Opened : NameLists → List (List ℕ) → List Steps → Option Open → Type 0
Opened names lines done None = Unit {0}
Opened names lines done (Some o) = IsOpenSince names lines o.line × LeaveOpen names lines done o

-- these lines are read without a fault, as these scripts and an open one
record After (names : NameLists) (before : List (List ℕ)) (done : List Steps) (unclosed : Option Open) : Type 0 where
  apart : AreApart before
  reads : (more : List ℕ) → scripts_from names 0 nothing_read [] (lines_text before ++ more) ≡ scripts_from names (length before) (reading done unclosed) [] more
  open_since : Opened names before done unclosed

-- lines that are whole scripts
whole : (names : NameLists) (before : List (List ℕ)) (done : List Steps) → After names before done None → length (lines_text before) ≤ most_bytes → SpellsScripts names (lines_text before) done
unfolding scripts_from is_skipped
whole names before done after fits =
    text_is_spelled names (lines_text before) done
    (judged names (lines_text before) fits ∙ ap (scripts_from names 0 nothing_read []) (sym (append-nil (lines_text before))) ∙ after.reads [])

-- ---- how an open script can be ended

-- each of these jumps has a label
abbrev have_labels : List Label → List Jump → Bool
have_labels labels jumps = list_all (λ (j : Jump). has_label labels j.name) jumps

longer_has : (labels : List Label) (l : Label) (name : List ℕ) → has_label labels name ≡ true → has_label (labels ++ (l ∷ [])) name ≡ true
longer_has [] l name has = absurd cc
longer_has (x ∷ labels) l name has =
    elim (cases_Bool (is_same x.name name)) [
      | inl t ↦ rw t refl
      | inr f ↦ rw f (longer_has labels l name (rw f at has))
    ]

last_has : (labels : List Label) (l : Label) → has_label (labels ++ (l ∷ [])) l.name ≡ true
last_has [] l = let same = same_word l.name l.name refl in rw same refl
last_has (x ∷ labels) l =
    elim (cases_Bool (is_same x.name l.name)) [
      | inl t ↦ rw t refl
      | inr f ↦ rw f (last_has labels l)
    ]

longer_have : (labels : List Label) (l : Label) (jumps : List Jump) → have_labels labels jumps ≡ true → have_labels (labels ++ (l ∷ [])) jumps ≡ true
longer_have labels l [] have = refl
longer_have labels l (j ∷ jumps) have =
    let p = and_parts (has_label labels j.name) (have_labels labels jumps) have in
    let here = longer_has labels l j.name p.0 in
    rw here (longer_have labels l jumps p.1)

more_have : (labels : List Label) (jumps : List Jump) (j : Jump) → have_labels labels jumps ≡ true → has_label labels j.name ≡ true → have_labels labels (jumps ++ (j ∷ [])) ≡ true
more_have labels [] j have here = rw here refl
more_have labels (x ∷ jumps) j have here =
    let p = and_parts (has_label labels x.name) (have_labels labels jumps) have in
    let first = p.0 in
    rw first (more_have labels jumps j p.1 here)

found_place : (labels : List Label) (name : List ℕ) → has_label labels name ≡ true → (at : ℕ) × (place_in labels name ≡ Some at)
found_place [] name has = absurd cc
found_place (x ∷ labels) name has =
    elim (cases_Bool (is_same x.name name)) [
      | inl t ↦ (x.at, rw t refl)
      | inr f ↦ let p = found_place labels name (rw f at has) in (p.0, rw f p.1)
    ]

all_linked : (labels : List Label) (jumps : List Jump) → have_labels labels jumps ≡ true → (ways : List Way) × (linked labels jumps ≡ Some ways)
all_linked labels [] have = ([], refl)
all_linked labels (j ∷ jumps) have =
    let p = and_parts (has_label labels j.name) (have_labels labels jumps) have in
    let at = found_place labels j.name p.0 in
    let rest = all_linked labels jumps p.1 in
    let here = at.1 in let more = rest.1 in
    (record { after = j.after; answer = j.answer; to = at.0 } ∷ rest.0, rw (here, more) refl)

word_feed : (b : ℕ) → is_of Word b ≡ true → not (eqb b 10) ≡ true
unfolding is_of
word_feed b word =
    elim (cases_Bool (eqb b 10)) [
      | inl t ↦ absurd (false≢true (ap (is_of Word) (sym (eqb-true b 10 t)) ∙ word))
      | inr f ↦ rw f refl
    ]

label_feed : (name : List ℕ) → IsLabelName name → list_all (λ b. not (eqb b 10)) (name ++ (58 ∷ [])) ≡ true
label_feed name is = list_all-both (λ b. not (eqb b 10)) name (58 ∷ []) (list_all-weaker (is_of Word) (λ b. not (eqb b 10)) word_feed name (identifier_words name is.0)) refl

-- there are no fewer labels with those that are missing
more_labels : (at : ℕ) (labels : List Label) (jumps : List Jump) → length labels ≤ length (all_labels at labels jumps)
more_labels at labels [] = omega arith
more_labels at labels (j ∷ jumps) =
    elim (cases_Bool (has_label labels j.name)) [
      | inl t ↦ rw t (more_labels at labels jumps)
      | inr f ↦
          let label : Label = record { name = j.name; at = at } in
          let more = more_labels at (labels ++ (label ∷ [])) jumps in
          rw f (omega (arith, more, length-append labels (label ∷ [])))
    ]

-- with this text an open script ends, with these labels in all
record IsEnded (names : NameLists) (n : ℕ) (done : List Steps) (o : Open) (labels : List Label) (text : List ℕ) : Type 0 where
  ways : List Way
  linked : linked labels o.jumps ≡ Some ways
  reads : length labels ≤ most_labels → scripts_from names n (reading done (Some o)) [] text ≡ Ok (done ++ (record_of o ways ∷ []))

end_ended : (names : NameLists) (n : ℕ) (done : List Steps) (o : Open) (ws : List Way) → linked o.labels o.jumps ≡ Some ws → IsEnded names n done o o.labels (codes "end" ++ (10 ∷ []))
unfolding scripts_from is_skipped
end_ended names n done o ws is =
    let is_end : IsLine SpellsEnd (codes "end") = (codes "end", inl refl, record { before = []; following = []; before_blank = refl; after_blank = refl; parts = refl }) in
    let says = end_read names (codes "end") is_end in
    let read : with_line names (n + 1) (reading done (Some o)) (codes "end") ≡ Ok (reading (done ++ (record_of o ws ∷ [])) None) = rw (says, is) refl in
    record {
      ways = ws;
      linked = is;
      reads = λ few. scripts_from-cut names n (reading done (Some o)) (codes "end") [] (no_feed (codes "end") refl)
          ∙ ap (λ (s : Result Reading TextKind). after_line (n + 1) s (λ next. scripts_from names (n + 1) next [] [])) read;
    }

label_line : (name : List ℕ) → IsLabelName name → SpellsLabel (name ++ (58 ∷ [])) name
label_line name is = record {
  between = [];
  between_blank = refl;
  is_name = is;
  padded = record { before = []; following = []; before_blank = refl; after_blank = refl; parts = sym (append-nil (name ++ (58 ∷ []))) };
}

-- an open script is ended with these labels for its other jumps
abbrev EndsBy : NameLists → List Steps → ℕ → Open → List Jump → Type 0
EndsBy names done n o jumps = IsEnded names n done o (all_labels (length o.steps) o.labels jumps) (ending (length o.steps) o.labels jumps)

-- one jump: it has a label, or one is written for it
end_by : (names : NameLists) (valid : AreValid names) (done : List Steps) (n : ℕ) (o : Open) (j : Jump) (jumps : List Jump) → IsLabelName j.name
    → (has_label o.labels j.name ≡ true → EndsBy names done n o jumps) → (has_label o.labels j.name ≡ false → EndsBy names done (n + 1) (with_part o (Stands j.name)) jumps)
    → (b : Bool) → has_label o.labels j.name ≡ b → EndsBy names done n o (j ∷ jumps)
end_by names valid done n o j jumps name_ok stays goes true t = rw t (stays t)
end_by names valid done n o j jumps name_ok stays goes false f =
    let next : Open = with_part o (Stands j.name) in
    let label : Label = record { name = j.name; at = length o.steps } in
    let rest = goes f in
    let says = part_read names (j.name ++ (58 ∷ [])) (Stands j.name) valid (j.name ++ (58 ∷ []), inl refl, label_line j.name name_ok) in
    let read : length o.labels < most_labels → with_line names (n + 1) (reading done (Some o)) (j.name ++ (58 ∷ [])) ≡ Ok (reading done (Some next)) =
    (λ small. let room = lt-ltb (length o.labels) most_labels small in rw (says, f, room) refl) in
    rw f (record {
      ways = rest.ways;
      linked = rest.linked;
      reads = λ few.
          let more = more_labels (length o.steps) (o.labels ++ (label ∷ [])) jumps in
          scripts_from-cut names n (reading done (Some o)) (j.name ++ (58 ∷ [])) (ending (length o.steps) (o.labels ++ (label ∷ [])) jumps) (no_feed (j.name ++ (58 ∷ [])) (label_feed j.name name_ok))
          ∙ ap (λ (s : Result Reading TextKind). after_line (n + 1) s (λ x. scripts_from names (n + 1) x [] (ending (length o.steps) (o.labels ++ (label ∷ [])) jumps)))
          (read (omega (arith, few, more, length-append o.labels (label ∷ [])))) ∙ rest.reads few;
    })

can_end : (names : NameLists) (valid : AreValid names) (done : List Steps) (jumps : List Jump) (n : ℕ) (o : Open) (before : List Jump) → o.jumps ≡ before ++ jumps → have_labels o.labels before ≡ true → All (λ (j : Jump). IsLabelName j.name) jumps
    → EndsBy names done n o jumps
can_end names valid done [] n o before is have all =
    let l = all_linked o.labels o.jumps (ap (have_labels o.labels) (is ∙ append-nil before) ∙ have) in
    end_ended names n done o l.0 l.1
can_end names valid done (j ∷ jumps) n o before is have all =
    let rest_is : o.jumps ≡ (before ++ (j ∷ [])) ++ jumps = is ∙ sym (append_assoc before (j ∷ []) jumps) in
    let label : Label = record { name = j.name; at = length o.steps } in
    let others = All-tail (λ (x : Jump). IsLabelName x.name) j jumps all in
    end_by names valid done n o j jumps (all 0 j (omega arith))
    (λ t. can_end names valid done jumps n o (before ++ (j ∷ [])) rest_is (more_have o.labels before j have t) others)
    (λ f. can_end names valid done jumps (n + 1) (with_part o (Stands j.name)) (before ++ (j ∷ [])) rest_is
    (more_have (o.labels ++ (label ∷ [])) before j (longer_have o.labels label before have) (last_has o.labels label)) others)
    (has_label o.labels j.name) refl

-- the names of jumps that are spelled are names of labels
goal_name : (names : NameLists) (text : List ℕ) (answer : Pattern) (name : List ℕ) → SpellsPart names text (Jumps answer name) → IsLabelName name
goal_name names text pattern.Any name s = s.is_name
goal_name names text pattern.Refused name s = s.goal.is_name
goal_name names text (pattern.Coded c) name s = s.goal.is_name
goal_name names text (pattern.Valued c v) name s = s.goal.is_name

abbrev AllNames : List Jump → Type 0
AllNames jumps = All (λ (j : Jump). IsLabelName j.name) jumps

part_fits : (names : NameLists) (line : List ℕ) (n : ℕ) (part : Part) (parts : List Part) → IsLine (λ text. SpellsPart names text part) line → ((k : ℕ) → AllNames (jumps_of k parts)) → AllNames (jumps_of n (part ∷ parts))
part_fits names line n (Asks call) parts is rest = rest (n + 1)
part_fits names line n (Stands name) parts is rest = rest n
part_fits names line n (Jumps answer name) parts is rest =
    All-cons (λ (j : Jump). IsLabelName j.name) (record { after = n; answer = answer; name = name }) (jumps_of n parts) (goal_name names is.0 answer name is.2) (rest n)

names_fit : (names : NameLists) (lines : List (List ℕ)) (parts : List Part) → SpellsParts names lines parts → (n : ℕ) → AllNames (jumps_of n parts)
names_fit names [] parts s n = subst (λ (p : List Part). AllNames (jumps_of n p)) (sym s) (All-nil (λ (j : Jump). IsLabelName j.name))
names_fit names (line ∷ lines) parts (inl s) n = names_fit names lines parts s.1 n
names_fit names (line ∷ lines) parts (inr s) n = subst (λ (p : List Part). AllNames (jumps_of n p)) (sym s.3) (part_fits names line n s.0 s.1 s.2 (λ k. names_fit names lines s.1 s.4 k))

-- what these lines say
says_open : (names : NameLists) (valid : AreValid names) (before : List (List ℕ)) (done : List Steps) (unclosed : Option Open) → After names before done unclosed → Say names before done unclosed
says_open names valid before done None after = λ fits. whole names before done after fits
says_open names valid before done (Some o) after =
    let left = after.open_since.1 in
    let fit = subst (λ (l : List Jump). All (λ (j : Jump). IsLabelName j.name) l) (sym left.jumps) (names_fit names left.following left.parts left.says 0) in
    let e = can_end names valid done o.jumps (length before) o [] refl refl fit in
    let more : List ℕ = ending (length o.steps) o.labels o.jumps in (
      left,
      record {
        ways = e.ways;
        linked = e.linked;
        spelled = λ fits few. text_is_spelled names (lines_text before ++ more) (done ++ (record_of o e.ways ∷ [])) (judged names (lines_text before ++ more) fits ∙ after.reads more ∙ e.reads few);
      },
    )

no_faults : (names : NameLists) (valid : AreValid names) (before : List (List ℕ)) (done : List Steps) (unclosed : Option Open) → After names before done unclosed → HaveNoFault names before
no_faults names valid before done unclosed after = record {
  complete = (done, unclosed, says_open names valid before done unclosed after);
  clean = λ more fault fits e.
      faults_are_late names more (length before) (reading done unclosed) [] fault (sym (after.reads more) ∙ sym (judged names (lines_text before ++ more) fits) ∙ e);
}

-- ---- one part more

calls_snoc : (parts : List Part) (p : Part) → calls_of (parts ++ (p ∷ [])) ≡ calls_of parts ++ calls_of (p ∷ [])
calls_snoc [] p = refl
calls_snoc (Asks call ∷ parts) p = ap (λ (l : List Call). call ∷ l) (calls_snoc parts p)
calls_snoc (Stands name ∷ parts) p = calls_snoc parts p
calls_snoc (Jumps answer name ∷ parts) p = calls_snoc parts p

jumps_snoc : (n : ℕ) (parts : List Part) (p : Part) → jumps_of n (parts ++ (p ∷ [])) ≡ jumps_of n parts ++ jumps_of (n + length (calls_of parts)) (p ∷ [])
jumps_snoc n [] p = ap (λ (k : ℕ). jumps_of k (p ∷ [])) (omega arith)
jumps_snoc n (Asks call ∷ parts) p = jumps_snoc (n + 1) parts p ∙ ap (λ (k : ℕ). jumps_of (n + 1) parts ++ jumps_of k (p ∷ [])) (omega arith)
jumps_snoc n (Stands name ∷ parts) p = jumps_snoc n parts p
jumps_snoc n (Jumps answer name ∷ parts) p = ap (λ (l : List Jump). record { after = n; answer = answer; name = name } ∷ l) (jumps_snoc n parts p)

labels_snoc : (n : ℕ) (parts : List Part) (p : Part) → labels_of n (parts ++ (p ∷ [])) ≡ labels_of n parts ++ labels_of (n + length (calls_of parts)) (p ∷ [])
labels_snoc n [] p = ap (λ (k : ℕ). labels_of k (p ∷ [])) (omega arith)
labels_snoc n (Asks call ∷ parts) p = labels_snoc (n + 1) parts p ∙ ap (λ (k : ℕ). labels_of (n + 1) parts ++ labels_of k (p ∷ [])) (omega arith)
labels_snoc n (Stands name ∷ parts) p = ap (λ (l : List Label). record { name = name; at = n } ∷ l) (labels_snoc n parts p)
labels_snoc n (Jumps answer name ∷ parts) p = labels_snoc n parts p

after_snoc : (b : Bool) (parts : List Part) (p : Part) → is_after b (parts ++ (p ∷ [])) ≡ is_after (is_after b parts) (p ∷ [])
after_snoc b [] p = refl
after_snoc b (Asks call ∷ parts) p = after_snoc true parts p
after_snoc b (Stands name ∷ parts) p = after_snoc false parts p
after_snoc b (Jumps answer name ∷ parts) p = after_snoc (not (is_any answer)) parts p

placed_snoc : (b : Bool) (parts : List Part) (p : Part) → ArePlaced b parts → ArePlaced (is_after b parts) (p ∷ []) → ArePlaced b (parts ++ (p ∷ []))
placed_snoc b [] p all here = here
placed_snoc b (Asks call ∷ parts) p all here = placed_snoc true parts p all here
placed_snoc b (Stands name ∷ parts) p all here = placed_snoc false parts p all here
placed_snoc b (Jumps answer name ∷ parts) p all here = (all.0, placed_snoc (not (is_any answer)) parts p all.1 here)

new_snoc : (n : ℕ) (labels : List Label) (parts : List Part) (p : Part) → AreNew n labels parts → AreNew (n + length (calls_of parts)) (labels ++ labels_of n parts) (p ∷ []) → AreNew n labels (parts ++ (p ∷ []))
new_snoc n labels [] p all here =
    subst (λ (k : ℕ). AreNew k labels (p ∷ [])) (omega arith) (subst (λ (l : List Label). AreNew (n + 0) l (p ∷ [])) (append-nil labels) here)
new_snoc n labels (Asks call ∷ parts) p all here =
    new_snoc (n + 1) labels parts p all (subst (λ (k : ℕ). AreNew k (labels ++ labels_of (n + 1) parts) (p ∷ [])) (omega arith) here)
new_snoc n labels (Stands name ∷ parts) p all here =
    let label : Label = record { name = name; at = n } in
    (all.0, all.1, new_snoc n (labels ++ (label ∷ [])) parts p all.2 (subst (λ (l : List Label). AreNew (n + length (calls_of parts)) l (p ∷ [])) (sym (append_assoc labels (label ∷ []) (labels_of n parts))) here))
new_snoc n labels (Jumps answer name ∷ parts) p all here = new_snoc n labels parts p all here

parts_nothing : (names : NameLists) (lines : List (List ℕ)) (line : List ℕ) (parts : List Part) → SpellsParts names lines parts → SpellsNothing line → SpellsParts names (lines ++ (line ∷ [])) parts
parts_nothing names [] line parts s nothing = inl (nothing, s)
parts_nothing names (l ∷ lines) line parts (inl s) nothing = inl (s.0, parts_nothing names lines line parts s.1 nothing)
parts_nothing names (l ∷ lines) line parts (inr s) nothing = inr (s.0, s.1, s.2, s.3, parts_nothing names lines line s.1 s.4 nothing)

parts_snoc : (names : NameLists) (lines : List (List ℕ)) (line : List ℕ) (parts : List Part) (p : Part) → SpellsParts names lines parts → IsLine (λ text. SpellsPart names text p) line → SpellsParts names (lines ++ (line ∷ [])) (parts ++ (p ∷ []))
parts_snoc names [] line parts p s is = inr (p, [], is, ap (λ (l : List Part). l ++ (p ∷ [])) s, refl)
parts_snoc names (l ∷ lines) line parts p (inl s) is = inl (s.0, parts_snoc names lines line parts p s.1 is)
parts_snoc names (l ∷ lines) line parts p (inr s) is = inr (s.0, s.1 ++ (p ∷ []), s.2, ap (λ (l : List Part). l ++ (p ∷ [])) s.3, parts_snoc names lines line s.1 p s.4 is)

module _ (names : NameLists) (before : List (List ℕ)) (line : List ℕ) where
  -- one line more, which is no end
  after_more : (n : ℕ) → ¬ (IsLine SpellsEnd line) → IsOpenSince names before n → IsOpenSince names (before ++ (line ∷ [])) n
  after_more n other s = record {
    before = s.before;
    head = s.head;
    following = s.following ++ (line ∷ []);
    function = s.function;
    parts = ap (λ (ls : List (List ℕ)). ls ++ (line ∷ [])) s.parts ∙ append_assoc s.before (s.head ∷ s.following) (line ∷ []);
    number = s.number;
    spelled = s.spelled;
    opens = s.opens;
    unended = All-push (λ l. ¬ (IsLine SpellsEnd l)) s.following line s.unended other;
  }

  no_end : (what : Option Said) → said_in names true line ≡ Ok what → (Some said.Closes ≡ what → ⊥) → ¬ (IsLine SpellsEnd line)
  no_end what says other s = other (same (Some said.Closes) what (sym (end_read names line s) ∙ says))
    where
      same : (a b : Option Said) → ◌≡◌ {A = Result (Option Said) TextKind} (Ok a) (Ok b) → a ≡ b
      same a b e = cc

  -- what says nothing leaves the same open
  nothing_said : LineSays names true line None → SpellsNothing line
  nothing_said (inl s) = s.1
  nothing_said (inr s) = absurd s.2

  nothing_left : (done : List Steps) (o : Open) → SpellsNothing line → LeaveOpen names before done o → LeaveOpen names (before ++ (line ∷ [])) done o
  nothing_left done o nothing s = record {
    before = s.before;
    head = s.head;
    following = s.following ++ (line ∷ []);
    parts = s.parts;
    lines_are = ap (λ (ls : List (List ℕ)). ls ++ (line ∷ [])) s.lines_are ∙ append_assoc s.before (s.head ∷ s.following) (line ∷ []);
    number = s.number;
    spelled = s.spelled;
    opens = s.opens;
    says = parts_nothing names s.following line s.parts s.says nothing;
    steps = s.steps;
    jumps = s.jumps;
    labels = s.labels;
    after_is = s.after_is;
    placed = s.placed;
    new = s.new;
  }

  -- a part leaves the same script open with that part
  part_left : (done : List Steps) (o : Open) (part : Part) → IsLine (λ text. SpellsPart names text part) line → MayCome o part → LeaveOpen names before done o → LeaveOpen names (before ++ (line ∷ [])) done (with_part o part)
  part_left done o part is may s = by part is may
    where
      count : length o.steps ≡ 0 + length (calls_of s.parts)
      count = ap length s.steps ∙ omega arith

      by : (p : Part) → IsLine (λ text. SpellsPart names text p) line → MayCome o p → LeaveOpen names (before ++ (line ∷ [])) done (with_part o p)
      by (Asks call) is2 may2 = record {
        before = s.before;
        head = s.head;
        following = s.following ++ (line ∷ []);
        parts = s.parts ++ (Asks call ∷ []);
        lines_are = ap (λ (ls : List (List ℕ)). ls ++ (line ∷ [])) s.lines_are ∙ append_assoc s.before (s.head ∷ s.following) (line ∷ []);
        number = s.number;
        spelled = s.spelled;
        opens = s.opens;
        says = parts_snoc names s.following line s.parts (Asks call) s.says is2;
        steps = ap (λ (l : List Call). l ++ (call ∷ [])) s.steps ∙ sym (calls_snoc s.parts (Asks call));
        jumps = s.jumps ∙ sym (append-nil (jumps_of 0 s.parts)) ∙ sym (jumps_snoc 0 s.parts (Asks call));
        labels = s.labels ∙ sym (append-nil (labels_of 0 s.parts)) ∙ sym (labels_snoc 0 s.parts (Asks call));
        after_is = sym (after_snoc false s.parts (Asks call));
        placed = placed_snoc false s.parts (Asks call) s.placed tt;
        new = new_snoc 0 [] s.parts (Asks call) s.new tt;
      }
      by (Stands name) is2 may2 =
          let label : Label = record { name = name; at = length o.steps } in
          record {
            before = s.before;
            head = s.head;
            following = s.following ++ (line ∷ []);
            parts = s.parts ++ (Stands name ∷ []);
            lines_are = ap (λ (ls : List (List ℕ)). ls ++ (line ∷ [])) s.lines_are ∙ append_assoc s.before (s.head ∷ s.following) (line ∷ []);
            number = s.number;
            spelled = s.spelled;
            opens = s.opens;
            says = parts_snoc names s.following line s.parts (Stands name) s.says is2;
            steps = s.steps ∙ sym (append-nil (calls_of s.parts)) ∙ sym (calls_snoc s.parts (Stands name));
            jumps = s.jumps ∙ sym (append-nil (jumps_of 0 s.parts)) ∙ sym (jumps_snoc 0 s.parts (Stands name));
            labels = ap (λ (l : List Label). l ++ (label ∷ [])) s.labels ∙ ap (λ (k : ℕ). labels_of 0 s.parts ++ (record { name = name; at = k } ∷ [])) count ∙ sym (labels_snoc 0 s.parts (Stands name));
            after_is = sym (after_snoc false s.parts (Stands name));
            placed = placed_snoc false s.parts (Stands name) s.placed tt;
            new = new_snoc 0 [] s.parts (Stands name) s.new (ap (λ (l : List Label). has_label l name) (sym s.labels) ∙ may2.0, subst (λ (l : List Label). length l < most_labels) s.labels may2.1, tt);
          }
      by (Jumps answer name) is2 may2 =
          let jump : Jump = record { after = length o.steps; answer = answer; name = name } in
          record {
            before = s.before;
            head = s.head;
            following = s.following ++ (line ∷ []);
            parts = s.parts ++ (Jumps answer name ∷ []);
            lines_are = ap (λ (ls : List (List ℕ)). ls ++ (line ∷ [])) s.lines_are ∙ append_assoc s.before (s.head ∷ s.following) (line ∷ []);
            number = s.number;
            spelled = s.spelled;
            opens = s.opens;
            says = parts_snoc names s.following line s.parts (Jumps answer name) s.says is2;
            steps = s.steps ∙ sym (append-nil (calls_of s.parts)) ∙ sym (calls_snoc s.parts (Jumps answer name));
            jumps = ap (λ (l : List Jump). l ++ (jump ∷ [])) s.jumps ∙ ap (λ (k : ℕ). jumps_of 0 s.parts ++ (record { after = k; answer = answer; name = name } ∷ [])) count ∙ sym (jumps_snoc 0 s.parts (Jumps answer name));
            labels = s.labels ∙ sym (append-nil (labels_of 0 s.parts)) ∙ sym (labels_snoc 0 s.parts (Jumps answer name));
            after_is = sym (after_snoc false s.parts (Jumps answer name));
            placed = placed_snoc false s.parts (Jumps answer name) s.placed (sym s.after_is ∙ may2.0, tt);
            new = new_snoc 0 [] s.parts (Jumps answer name) s.new tt;
          }

  -- after a part the same script is open
  part_opens : (done : List Steps) (o : Open) (part : Part) (next : Reading) → IsLine (λ text. SpellsPart names text part) line → After names before done (Some o) → said_in names true line ≡ Ok (Some (said_of part))
      → took (length before + 1) (reading done (Some o)) (Some (said_of part)) ≡ Ok next → (Some said.Closes ≡ Some (said_of part) → ⊥) → Opened names (before ++ (line ∷ [])) next.scripts next.unclosed
  part_opens done o part next spelled after says takes other =
      let t = taken_parts (length before + 1) done o part next takes in
      subst (λ (r : Reading). Opened names (before ++ (line ∷ [])) r.scripts r.unclosed) t.1 (still part spelled t.0)
    where
      still : (part2 : Part) → IsLine (λ text. SpellsPart names text part2) line → MayCome o part2 → Opened names (before ++ (line ∷ [])) done (Some (with_part o part2))
      still (Asks call) is may = (after_more o.line (no_end (Some (said_of part)) says other) after.open_since.0, part_left done o (Asks call) is may after.open_since.1)
      still (Stands name) is may = (after_more o.line (no_end (Some (said_of part)) says other) after.open_since.0, part_left done o (Stands name) is may after.open_since.1)
      still (Jumps answer name) is may = (after_more o.line (no_end (Some (said_of part)) says other) after.open_since.0, part_left done o (Jumps answer name) is may after.open_since.1)

  -- what is open after the line
  line_opens : (done : List Steps) (unclosed : Option Open) (what : Option Said) (next : Reading) → After names before done unclosed → said_in names (is_some unclosed) line ≡ Ok what
      → LineSays names (is_some unclosed) line what → took (length before + 1) (reading done unclosed) what ≡ Ok next → Opened names (before ++ (line ∷ [])) next.scripts next.unclosed
  line_opens done None None next after says spelled takes =
      let same : reading done None ≡ next = cc in
      subst (λ (r : Reading). Opened names (before ++ (line ∷ [])) r.scripts r.unclosed) same tt
  line_opens done (Some o) None next after says spelled takes =
      let same : reading done (Some o) ≡ next = cc in
      subst (λ (r : Reading). Opened names (before ++ (line ∷ [])) r.scripts r.unclosed) same (after_more o.line (no_end None says (λ e. absurd cc)) after.open_since.0, nothing_left done o (nothing_said spelled) after.open_since.1)
  line_opens done unclosed (Some what) next after says (inl spelled) takes = absurd (let none = spelled.0 in cc)
  line_opens done None (Some (said.Opens f)) next after says (inr spelled) takes =
      let same = opening_parts (list_any (λ s. s.function == f) done) (reading done (Some (opened (length before + 1) f))) next takes in
      subst (λ (r : Reading). Opened names (before ++ (line ∷ [])) r.scripts r.unclosed) same (
        record {
          before = before;
          head = line;
          following = [];
          function = f;
          parts = refl;
          number = refl;
          spelled = λ fits. (done, whole names before done after fits);
          opens = (spelled.0, spelled.1, spelled.2.1);
          unended = All-nil (λ l. ¬ (IsLine SpellsEnd l));
        },
        record {
          before = before;
          head = line;
          following = [];
          parts = [];
          lines_are = refl;
          number = refl;
          spelled = λ fits. whole names before done after fits;
          opens = (spelled.0, spelled.1, spelled.2.1);
          says = refl;
          steps = refl;
          jumps = refl;
          labels = refl;
          after_is = refl;
          placed = tt;
          new = tt;
        },
      )
  line_opens done (Some o) (Some (said.Opens f)) next after says (inr spelled) takes = absurd (false≢true (sym spelled.2.0))
  line_opens done None (Some (said.Asks call)) next after says (inr spelled) takes = absurd (false≢true spelled.2.0)
  line_opens done (Some o) (Some (said.Asks call)) next after says (inr spelled) takes = part_opens done o (Asks call) next (spelled.0, spelled.1, spelled.2.1) after says takes (λ e. absurd cc)
  line_opens done None (Some (said.Stands name)) next after says (inr spelled) takes = absurd (false≢true spelled.2.0)
  line_opens done (Some o) (Some (said.Stands name)) next after says (inr spelled) takes = part_opens done o (Stands name) next (spelled.0, spelled.1, spelled.2.1) after says takes (λ e. absurd cc)
  line_opens done None (Some (said.Jumps answer name)) next after says (inr spelled) takes = absurd (false≢true spelled.2.0)
  line_opens done (Some o) (Some (said.Jumps answer name)) next after says (inr spelled) takes = part_opens done o (Jumps answer name) next (spelled.0, spelled.1, spelled.2.1) after says takes (λ e. absurd cc)
  line_opens done None (Some said.Closes) next after says (inr spelled) takes = absurd (false≢true spelled.2.0)
  line_opens done (Some o) (Some said.Closes) next after says (inr spelled) takes =
      let t = closed_parts done o next (linked o.labels o.jumps) refl takes in
      subst (λ (r : Reading). Opened names (before ++ (line ∷ [])) r.scripts r.unclosed) t.2 tt

module _ (names : NameLists) (valid : AreValid names) (before : List (List ℕ)) (done : List Steps) (unclosed : Option Open) (after : After names before done unclosed) where
  module _ (line : List ℕ) (here : list_all (λ b. not (eqb b 10)) line ≡ true) where
    -- the next line
    reads_line : (more : List ℕ) → scripts_from names 0 nothing_read [] (lines_text before ++ (line ++ (10 ∷ more)))
        ≡ after_line (length before + 1) (with_line names (length before + 1) (reading done unclosed) line) (λ next. scripts_from names (length before + 1) next [] more)
    reads_line more = after.reads (line ++ (10 ∷ more)) ∙ scripts_from-cut names (length before) (reading done unclosed) line more (no_feed line here)

    -- a line without a fault
    takes : (next : Reading) → with_line names (length before + 1) (reading done unclosed) line ≡ Ok next → After names (before ++ (line ∷ [])) next.scripts next.unclosed
    takes next read =
        let b = bind_parts (said_in names (is_some unclosed) line) (λ what. took (length before + 1) (reading done unclosed) what) next read in
        record {
          apart = apart-push before line after.apart here;
          reads = λ more. ap (scripts_from names 0 nothing_read []) (lines_text-push before line more) ∙ reads_line more
              ∙ ap (λ (s : Result Reading TextKind). after_line (length before + 1) s (λ x. scripts_from names (length before + 1) x [] more)) read
              ∙ ap (λ (n : ℕ). scripts_from names n next [] more) (length-push before line);
          open_since = line_opens names before line done unclosed b.0 next after b.1 (line_is_spelled names (is_some unclosed) line b.0 b.1) b.2;
        }

    -- a line with a fault
    stops : (kind : TextKind) (text rest : List ℕ) → with_line names (length before + 1) (reading done unclosed) line ≡ Err kind → text ≡ lines_text before ++ (line ++ (10 ∷ rest))
        → FaultInLine names text (record { kind = kind; line = length before + 1 })
    stops kind text rest read parts =
        let reads_fault : (more : List ℕ) → scripts_from names 0 nothing_read [] (lines_text before ++ (line ++ (10 ∷ more))) ≡ Err (record { kind = kind; line = length before + 1 }) =
        (λ more. reads_line more ∙ ap (λ (s : Result Reading TextKind). after_line (length before + 1) s (λ x. scripts_from names (length before + 1) x [] more)) read) in
        let report : (more : List ℕ) → length (lines_text before ++ (line ++ (10 ∷ more))) ≤ most_bytes
        → scripts_in names (lines_text before ++ (line ++ (10 ∷ more))) ≡ Err (record { kind = kind; line = length before + 1 }) =
        (λ more fits. judged names (lines_text before ++ (line ++ (10 ∷ more))) fits ∙ reads_fault more) in
        record {
          before = before;
          line = line;
          rest = rest;
          parts = parts;
          apart = apart-cons before line after.apart here;
          number = refl;
          faultless = no_faults names valid before done unclosed after;
          kind = (done, unclosed, says_open names valid before done unclosed after, line_fault names (length before + 1) (reading done unclosed) line kind valid read);
          never = λ more scripts s. no_fault scripts (record { kind = kind; line = length before + 1 })
              (sym (scripts_in-spelled names (lines_text before ++ (line ++ (10 ∷ more))) scripts valid s) ∙ report more s.short);
          report = report;
        }

-- the end of the text
module _ (names : NameLists) (valid : AreValid names) (text : List ℕ) (fault : TextFault) (fits : length text ≤ most_bytes) (before : List (List ℕ)) (last : List ℕ) (parts : text ≡ lines_text before ++ last)
    (here : list_all (λ b. not (eqb b 10)) last ≡ true) where
  open_lines : (n : ℕ) → IsOpenSince names before n → AreOpen names before n
  open_lines n s =
      let long : length text ≡ length (lines_text before ++ last) = ap length parts in
      let beginning : lines_text before ≡ lines_text (s.before ++ (s.head ∷ s.following)) = ap lines_text s.parts in
      let short : length (lines_text s.before) ≤ length (lines_text (s.before ++ (s.head ∷ s.following))) = lines_longer s.before (s.head ∷ s.following) in
      let spelled = s.spelled (omega (arith, fits, long, length-append (lines_text before) last, ap length beginning, short)) in
      record { before = s.before; head = s.head; following = s.following; function = s.function; scripts = spelled.0; parts = s.parts; number = s.number; spelled = spelled.1; opens = s.opens; unended = s.unended }
    where
      lines_longer : (first rest : List (List ℕ)) → length (lines_text first) ≤ length (lines_text (first ++ rest))
      lines_longer [] rest = omega arith
      lines_longer (l ∷ first) rest =
          let more = lines_longer first rest in
          omega (arith, more, length-append l (10 ∷ lines_text first), length-append l (10 ∷ lines_text (first ++ rest)))

  ends : (done : List Steps) (unclosed : Option Open) → After names before done unclosed → (skipped : Bool) → is_skipped last ≡ skipped
      → cond skipped (at_end (reading done unclosed) unclosed) (fault_at CutShort (length before + 1)) ≡ Err fault → FaultAtEnd names text fault
  ends done unclosed after false is e =
      let same = same_fault (record { kind = CutShort; line = length before + 1 }) fault e in
      record {
        before = before;
        last = last;
        parts = parts;
        apart = apart-cons before last after.apart here;
        kind = sym (ap (λ (f : TextFault). f.kind) same);
        faultless = no_faults names valid before done unclosed after;
        here = inl ((λ rest. false≢true (sym is ∙ rest_read last rest)), sym (ap (λ (f : TextFault). f.line) same));
      }
  ends done None after true is e = absurd (no_fault done fault e)
  ends done (Some o) after true is e =
      let same = same_fault (record { kind = CutShort; line = o.line }) fault e in
      record {
        before = before;
        last = last;
        parts = parts;
        apart = apart-cons before last after.apart here;
        kind = sym (ap (λ (f : TextFault). f.kind) same);
        faultless = no_faults names valid before done (Some o) after;
        here = inr (skipped_parts last is, subst (AreOpen names before) (ap (λ (f : TextFault). f.line) same) (open_lines o.line after.open_since.0));
      }

abbrev Found : NameLists → List ℕ → TextFault → Type 0
Found names text fault = FaultInLine names text fault ⊎ FaultAtEnd names text fault

-- what is found after these lines, where the others are left
abbrev Following : NameLists → List ℕ → TextFault → List (List ℕ) → Type 0
Following names text fault lines =
    (before : List (List ℕ)) (done : List Steps) (unclosed : Option Open) → After names before done unclosed → text ≡ lines_text before ++ join_with_byte 10 lines
    → scripts_from names (length before) (reading done unclosed) [] (join_with_byte 10 lines) ≡ Err fault → Found names text fault

module _ (names : NameLists) (valid : AreValid names) (text : List ℕ) (fault : TextFault) (fits : length text ≤ most_bytes) where
  one_line : (line next : List ℕ) (lines : List (List ℕ)) → list_all (λ b. not (eqb b 10)) line ≡ true → Following names text fault (next ∷ lines)
      → (before : List (List ℕ)) (done : List Steps) (unclosed : Option Open) → After names before done unclosed → text ≡ lines_text before ++ (line ++ (10 ∷ join_with_byte 10 (next ∷ lines)))
      → (read : Result Reading TextKind) → with_line names (length before + 1) (reading done unclosed) line ≡ read
      → after_line (length before + 1) read (λ x. scripts_from names (length before + 1) x [] (join_with_byte 10 (next ∷ lines))) ≡ Err fault → Found names text fault
  one_line line next lines here more before done unclosed after parts (Ok r) read e =
      more (before ++ (line ∷ [])) r.scripts r.unclosed (takes names valid before done unclosed after line here r read) (parts ∙ sym (lines_text-push before line (join_with_byte 10 (next ∷ lines))))
      (ap (λ (n : ℕ). scripts_from names n r [] (join_with_byte 10 (next ∷ lines))) (sym (length-push before line)) ∙ e)
  one_line line next lines here more before done unclosed after parts (Err kind) read e =
      inl (subst (FaultInLine names text) (same_fault (record { kind = kind; line = length before + 1 }) fault e)
      (stops names valid before done unclosed after line here kind text (join_with_byte 10 (next ∷ lines)) read parts))

  find : (lines : List (List ℕ)) → 0 < length lines → AreApart lines → Following names text fault lines
  find [] some apart before done unclosed after parts e = absurd (omega (arith, some))
  find (last ∷ []) some apart before done unclosed after parts e =
      inr (ends names valid text fault fits before last parts (and_parts (list_all (λ b. not (eqb b 10)) last) true apart).0 done unclosed after (is_skipped last) refl
      (sym (last_line names (length before) (reading done unclosed) last apart) ∙ e))
  find (line ∷ next ∷ lines) some apart before done unclosed after parts e =
      let p = and_parts (list_all (λ b. not (eqb b 10)) line) (list_all (list_all (λ b. not (eqb b 10))) (next ∷ lines)) apart in
      one_line line next lines p.0 (find (next ∷ lines) (omega arith) p.1) before done unclosed after parts (with_line names (length before + 1) (reading done unclosed) line) refl
      (sym (scripts_from-cut names (length before) (reading done unclosed) line (join_with_byte 10 (next ∷ lines)) (no_feed line p.0)) ∙ e)

-- ---- whole texts

at_start : (names : NameLists) → After names [] [] None
at_start names = record { apart = refl; reads = λ more. refl; open_since = tt }

pub first_fault : (names : NameLists) (text : List ℕ) (fault : TextFault) → AreValid names → scripts_in names text ≡ Err fault → FirstFault names text fault
unfolding scripts_in
first_fault names text fault valid e = by (ltb most_bytes (length text)) refl
  where
    by : (long : Bool) → ltb most_bytes (length text) ≡ long → FirstFault names text fault
    by true long = let e2 = rw long at e in inl (ltb-true most_bytes (length text) long, sym (same_fault (record { kind = TooMany; line = 0 }) fault e2))
    by false long =
        let e2 = rw long at e in
        let fits = ltb-false most_bytes (length text) long in
        let joined : text ≡ join_with_byte 10 (pieces_of 10 text) = sym (join-pieces_of 10 text) in
        inr (
          fits,
          find names valid text fault fits (pieces_of 10 text) (some-pieces_of 10 text) (apart-pieces_of 10 text) [] [] None (at_start names) joined
              (ap (scripts_from names 0 nothing_read []) (sym joined) ∙ e2),
        )
