-- What reading keeps: of each step what holds of every call that is read, and the limits.
use Rattle.std.proofs.Common.{◌≡◌, ◌≢◌, ℕ, ◌+◌, ◌≤◌, ◌==◌, Bool, false, not, ◌&&◌, List, [], ◌∷◌, ◌++◌, length, length-append, Option, Some, None, Result, Ok, Err, refl, arith}
use Rattle.std.specs.Prelude.{All, IfOk, is_some, nat_lt, codes}
use Rattle.std.specs.List.{list_all, list_any, AllPairs}
use Rattle.std.specs.Str.{bytes_eq}
use Rattle.std.proofs.lemmas.Bool.{cond_both, ltb-true, eqb-false}
use Rattle.std.proofs.lemmas.List.Elements.{All-nil, All-push}
use Rattle.std.proofs.lemmas.List.Quantifiers.{all_pairs_push}
use Rattle.fmp_bytes.specs.declared.classes.Class.TheVariants.{Argument, Blank, Word}
use Rattle.fmp_bytes.specs.Bytes.{is_of, prefix, after, following, colon, is_identifier}
use Rattle.fmp_bytes.specs.Results.{◌>>=◌}
use Rattle.fmp_calls.specs.Arguments.{CallInBits}
use Rattle.fmp_codes.specs.declared.calls.Call.{Call}
use Rattle.fmp_names.specs.Names.{NameLists, AreValid}
use Rattle.fmp_names.proofs.Listed.{list_any-nowhere}
use Rattle.fmp_text.specs.Limits.{most_bytes}
use Rattle.fmp_text.specs.declared.fault.TextFault.{TextFault}
use Rattle.fmp_text.specs.declared.fault.TextKind.{TextKind}
use Rattle.fmp_text.specs.Reading.{call_in}
use Rattle.fmp_text.specs.Lines.{is_skipped, without_return}
use Rattle.fmp_text.proofs.SpelledCalls.{call_is_spelled}
use Rattle.fmp_text.proofs.Limited.{call_in_bits}
use Rattle.fmp_text_scripts.specs.declared.line.Said.{Said}
use Rattle.fmp_text_scripts.specs.declared.line.Said.TheVariants as said
use Rattle.fmp_text_scripts.specs.declared.ways.Pattern.{Pattern}
use Rattle.fmp_text_scripts.specs.declared.ways.Way.{Way}
use Rattle.fmp_text_scripts.specs.Linking.{has_label, linked}
use Rattle.fmp_text_scripts.specs.Scripts.{Steps, AreInBits}
use Rattle.fmp_text_scripts.specs.Ways.{most_steps, most_labels, most_ways}
use Rattle.fmp_text_scripts.specs.Lines.{label_in, function_in, begins, ends, asks, goal_in, pattern_of, valued, turn_with, turn_in, turns, goes, stands, other_said, are_line, said_by, said_in}
use Rattle.fmp_text_scripts.proofs.Linked.{linked_long}
use Rattle.fmp_text_scripts.specs.Texts.{Open, Reading, nothing_read, asked, labelled, jumped, ended, closed, took, with_line, at_end, after_line, scripts_from, scripts_in}

-- ---- what a line says

abbrev SaidFits : (Call → Type 0) → Result (Option Said) TextKind → Type 0
SaidFits P (Ok (Some (said.Asks call))) = P call
SaidFits P other = Unit {0}

opens_fits : (P : Call → Type 0) (r : Result ℕ TextKind) → SaidFits P (r >>= λ f. Ok (Some (said.Opens f)))
opens_fits P (Ok f) = tt
opens_fits P (Err e) = tt

module _ (names : NameLists) (P : Call → Type 0) (reads : (text : List ℕ) (call : Call) → call_in names text ≡ Ok call → P call) where
  asks_fits : (text : List ℕ) (r : Result Call TextKind) → call_in names text ≡ r → SaidFits P (r >>= λ call. Ok (Some (said.Asks call)))
  asks_fits text (Ok call) is = reads text call is
  asks_fits text (Err e) is = tt

  begins_fits : (inside : Bool) (text : List ℕ) → SaidFits P (begins names inside text)
  unfolding begins
  begins_fits inside text = cond_both inside _ _ (SaidFits P) (λ _. tt) (λ _. opens_fits P (function_in names text))

  ends_fits : (inside : Bool) (text : List ℕ) → SaidFits P (ends inside text)
  unfolding ends
  ends_fits inside text = cond_both (not inside) _ _ (SaidFits P) (λ _. tt) (λ _. cond_both (list_all (is_of Blank) text) _ _ (SaidFits P) (λ _. tt) (λ _. tt))

  step_fits : (inside : Bool) (text : List ℕ) → SaidFits P (asks names inside text)
  unfolding asks
  step_fits inside text = cond_both (not inside) _ _ (SaidFits P) (λ _. tt) (λ _. asks_fits text (call_in names text) refl)

  -- what says neither a call is no call
  turned_fits : (answer : Result Pattern TextKind) (name : Result (List ℕ) TextKind) → SaidFits P (answer >>= λ a. name >>= λ n. Ok (Some (said.Jumps a n)))
  turned_fits (Ok a) (Ok n) = tt
  turned_fits (Ok a) (Err e) = tt
  turned_fits (Err e) name = tt

  turn_with_fits : (word rest : List ℕ) (o : Option (List ℕ)) → SaidFits P (turn_with word rest o)
  turn_with_fits word rest None = turned_fits (pattern_of word) (goal_in rest)
  turn_with_fits word rest (Some text) = turned_fits (valued word (prefix Argument text)) (goal_in (after Argument text))

  turns_fits : (inside : Bool) (text : List ℕ) → SaidFits P (turns inside text)
  unfolding turns turn_in
  turns_fits inside text = cond_both (not inside) _ _ (SaidFits P) (λ _. tt) (λ _. turn_with_fits _ _ _)

  named_fits : (name : Result (List ℕ) TextKind) (a : Pattern) → SaidFits P (name >>= λ n. Ok (Some (said.Jumps a n)))
  named_fits (Ok n) a = tt
  named_fits (Err e) a = tt

  goes_fits : (inside : Bool) (text : List ℕ) → SaidFits P (goes inside text)
  unfolding goes
  goes_fits inside text = cond_both (not inside) _ _ (SaidFits P) (λ _. tt) (λ _. named_fits (label_in text) _)

  stands_fits : (inside : Bool) (name text : List ℕ) → SaidFits P (stands inside name text)
  unfolding stands
  stands_fits inside name text =
      cond_both (not inside) _ _ (SaidFits P) (λ _. tt) (λ _. cond_both (is_identifier name && list_all (is_of Blank) text) _ _ (SaidFits P) (λ _. tt) (λ _. tt))

  other_fits : (inside : Bool) (text : List ℕ) (o : Option (List ℕ)) → SaidFits P (other_said names inside text o)
  other_fits inside text None = step_fits inside text
  other_fits inside text (Some rest) = stands_fits inside _ rest

  by_word_fits : (inside : Bool) (text : List ℕ) → SaidFits P (said_by names inside text)
  unfolding said_by
  by_word_fits inside text =
      cond_both (bytes_eq (prefix Word (after Blank text)) (codes "script")) _ _ (SaidFits P) (λ _. begins_fits inside _)
      (λ _. cond_both (bytes_eq (prefix Word (after Blank text)) (codes "end")) _ _ (SaidFits P) (λ _. ends_fits inside _)
      (λ _. cond_both (bytes_eq (prefix Word (after Blank text)) (codes "ret_hdr")) _ _ (SaidFits P) (λ _. tt)
      (λ _. cond_both (bytes_eq (prefix Word (after Blank text)) (codes "on")) _ _ (SaidFits P) (λ _. turns_fits inside _)
      (λ _. cond_both (bytes_eq (prefix Word (after Blank text)) (codes "goto")) _ _ (SaidFits P) (λ _. goes_fits inside _)
      (λ _. other_fits inside text (following colon (after Blank (after Word (after Blank text)))))))))

  said_fits : (inside : Bool) (line : List ℕ) → SaidFits P (said_in names inside line)
  unfolding said_in
  said_fits inside line =
      cond_both (is_skipped (without_return line)) _ _ (SaidFits P) (λ _. tt)
      (λ _. cond_both (are_line (without_return line)) _ _ (SaidFits P) (λ _. by_word_fits inside _) (λ _. tt))

-- ---- what is read

-- what holds of all scripts that are read
pub record Fits (P : Call → Type 0) (scripts : List Steps) : Type 0 where
  pub steps : All (λ s. All P s.steps) scripts
  pub few : All (λ s. length s.steps ≤ most_steps) scripts
  pub few_ways : All (λ s. length s.ways ≤ most_ways) scripts
  pub once : AllPairs (λ s t. s.function ≢ t.function) scripts

record OpenFits (P : Call → Type 0) (scripts : List Steps) (o : Open) : Type 0 where
  steps : All P o.steps
  few : length o.steps ≤ most_steps
  few_jumps : length o.jumps ≤ most_ways
  new : list_any (λ t. t.function == o.function) scripts ≡ false

abbrev UnclosedFits : (Call → Type 0) → List Steps → Option Open → Type 0
UnclosedFits P scripts None = Unit {0}
UnclosedFits P scripts (Some o) = OpenFits P scripts o

record ReadingFits (P : Call → Type 0) (r : Reading) : Type 0 where
  scripts : Fits P r.scripts
  unclosed : UnclosedFits P r.scripts r.unclosed

abbrev TookFits : (Call → Type 0) → Result Reading TextKind → Type 0
TookFits P (Ok r) = ReadingFits P r
TookFits P (Err e) = Unit {0}

abbrev AllFits : (Call → Type 0) → Result (List Steps) TextFault → Type 0
AllFits P (Ok scripts) = Fits P scripts
AllFits P (Err e) = Unit {0}

none_fits : (P : Call → Type 0) → Fits P []
none_fits P = record { steps = All-nil (λ s. All P s.steps); few = All-nil (λ s. length s.steps ≤ most_steps); few_ways = All-nil (λ s. length s.ways ≤ most_ways); once = λ i j d below small. absurd (omega (arith, small)) }

module _ (P : Call → Type 0) where
  asked_fits : (r : Reading) (call : Call) (o : Option Open) → Fits P r.scripts → UnclosedFits P r.scripts o → P call → ReadingFits P r → TookFits P (asked r call o)
  asked_fits r call None fits open_fits here all = all
  asked_fits r call (Some o) fits open_fits here all =
      cond_both (nat_lt (length o.steps) most_steps) _ _ (TookFits P)
      (λ small. record {
        scripts = fits;
        unclosed = record {
          steps = All-push P o.steps call open_fits.steps here;
          few = omega (arith, ltb-true (length o.steps) most_steps small, length-append o.steps (call ∷ []));
          few_jumps = open_fits.few_jumps;
          new = open_fits.new;
        };
      })
      (λ _. tt)

  labelled_fits : (r : Reading) (name : List ℕ) (o : Option Open) → Fits P r.scripts → UnclosedFits P r.scripts o → ReadingFits P r → TookFits P (labelled r name o)
  labelled_fits r name None fits open_fits all = all
  labelled_fits r name (Some o) fits open_fits all =
      cond_both (has_label o.labels name) _ _ (TookFits P) (λ _. tt)
      (λ _. cond_both (nat_lt (length o.labels) most_labels) _ _ (TookFits P)
      (λ _. record { scripts = fits; unclosed = record { steps = open_fits.steps; few = open_fits.few; few_jumps = open_fits.few_jumps; new = open_fits.new } }) (λ _. tt))

  jumped_fits : (r : Reading) (a : Pattern) (name : List ℕ) (o : Option Open) → Fits P r.scripts → UnclosedFits P r.scripts o → ReadingFits P r → TookFits P (jumped r a name o)
  jumped_fits r a name None fits open_fits all = all
  jumped_fits r a name (Some o) fits open_fits all =
      cond_both o.following _ _ (TookFits P)
      (λ _. cond_both (nat_lt (length o.jumps) most_ways) _ _ (TookFits P)
      (λ small. record {
        scripts = fits;
        unclosed = record {
          steps = open_fits.steps;
          few = open_fits.few;
          few_jumps = omega (arith, ltb-true (length o.jumps) most_ways small, length-append o.jumps (record { after = length o.steps; answer = a; name = name } ∷ []));
          new = open_fits.new;
        };
      })
      (λ _. tt))
      (λ _. tt)

  -- of the scripts with one more
  more_fits : (scripts : List Steps) (o : Open) (ways : List Way) → linked o.labels o.jumps ≡ Some ways → Fits P scripts → OpenFits P scripts o → Fits P (scripts ++ record { function = o.function; steps = o.steps; ways = ways } ∷ [])
  more_fits scripts o ways is fits here =
      let s : Steps = record { function = o.function; steps = o.steps; ways = ways } in
      record {
        steps = All-push (λ t. All P t.steps) scripts s fits.steps here.steps;
        few = All-push (λ t. length t.steps ≤ most_steps) scripts s fits.few here.few;
        few_ways = All-push (λ t. length t.ways ≤ most_ways) scripts s fits.few_ways (omega (arith, here.few_jumps, linked_long o.labels o.jumps ways is));
        once = all_pairs_push (λ (t u : Steps). t.function ≢ u.function) scripts s fits.once
            (λ k d small. eqb-false _ o.function (list_any-nowhere (λ (t : Steps). t.function == o.function) scripts k d small here.new));
      }

  ended_fits : (r : Reading) (o : Open) (ways : Option (List Way)) → linked o.labels o.jumps ≡ ways → OpenFits P r.scripts o → Fits P r.scripts → TookFits P (ended r o ways)
  ended_fits r o None is open_fits fits = tt
  ended_fits r o (Some ways) is open_fits fits = record { scripts = more_fits r.scripts o ways is fits open_fits; unclosed = tt }

  closed_fits : (r : Reading) (o : Option Open) → UnclosedFits P r.scripts o → ReadingFits P r → TookFits P (closed r o)
  closed_fits r None open_fits all = all
  closed_fits r (Some o) open_fits all = ended_fits r o (linked o.labels o.jumps) refl open_fits all.scripts

  took_fits : (line : ℕ) (r : Reading) (s : Option Said) → ReadingFits P r → SaidFits P (Ok s) → TookFits P (took line r s)
  took_fits line r None fits here = fits
  took_fits line r (Some (said.Opens f)) fits here =
      cond_both (list_any (λ s. s.function == f) r.scripts) _ _ (TookFits P) (λ _. tt)
      (λ new. record { scripts = fits.scripts; unclosed = record { steps = All-nil P; few = omega arith; few_jumps = omega arith; new = new } })
  took_fits line r (Some (said.Asks call)) fits here = asked_fits r call r.unclosed fits.scripts fits.unclosed here fits
  took_fits line r (Some (said.Stands name)) fits here = labelled_fits r name r.unclosed fits.scripts fits.unclosed fits
  took_fits line r (Some (said.Jumps a name)) fits here = jumped_fits r a name r.unclosed fits.scripts fits.unclosed fits
  took_fits line r (Some said.Closes) fits here = closed_fits r r.unclosed fits.unclosed fits

  line_fits : (line : ℕ) (r : Reading) (s : Result (Option Said) TextKind) → ReadingFits P r → SaidFits P s → TookFits P (s >>= λ x. took line r x)
  line_fits line r (Ok s) fits here = took_fits line r s fits here
  line_fits line r (Err e) fits here = tt

  end_fits : (r : Reading) (o : Option Open) → ReadingFits P r → AllFits P (at_end r o)
  end_fits r None fits = fits.scripts
  end_fits r (Some o) fits = tt

  after_fits : (line : ℕ) (o : Result Reading TextKind) (rest : Reading → Result (List Steps) TextFault) → TookFits P o → ((r : Reading) → ReadingFits P r → AllFits P (rest r)) → AllFits P (after_line line o rest)
  after_fits line (Ok r) rest fits more = more r fits
  after_fits line (Err e) rest fits more = tt

module _ (names : NameLists) (P : Call → Type 0) (reads : (text : List ℕ) (call : Call) → call_in names text ≡ Ok call → P call) where
  from_fits : (lines : ℕ) (r : Reading) (begun bytes : List ℕ) → ReadingFits P r → AllFits P (scripts_from names lines r begun bytes)
  unfolding scripts_from
  from_fits lines r begun [] fits = cond_both (is_skipped begun) _ _ (AllFits P) (λ _. end_fits P r r.unclosed fits) (λ _. tt)
  from_fits lines r begun (byte ∷ bytes) fits =
      cond_both (byte == 10) _ _ (AllFits P)
      (λ _. after_fits P (lines + 1) (with_line names (lines + 1) r begun) (λ next. scripts_from names (lines + 1) next [] bytes)
      (line_fits P (lines + 1) r (said_in names (is_some r.unclosed) begun) fits (said_fits names P reads (is_some r.unclosed) begun))
      (λ next next_fits. from_fits (lines + 1) next [] bytes next_fits))
      (λ _. from_fits lines r (begun ++ byte ∷ []) bytes fits)

  all_fit : (text : List ℕ) → AllFits P (scripts_in names text)
  unfolding scripts_in
  all_fit text =
      cond_both (nat_lt most_bytes (length text)) _ _ (AllFits P) (λ _. tt)
      (λ _. from_fits 0 nothing_read [] text (record { scripts = none_fits P; unclosed = tt }))

  -- what holds of the scripts of a text
  pub scripts_fit : (text : List ℕ) (scripts : List Steps) → scripts_in names text ≡ Ok scripts → Fits P scripts
  scripts_fit text scripts is = rw is at (all_fit text)

-- the steps of what was read are within the bits of their kinds
pub result_fits : (names : NameLists) (text : List ℕ) (result : Result (List Steps) TextFault) → AreValid names → scripts_in names text ≡ result → IfOk result AreInBits
result_fits names text (Ok scripts) valid is = (scripts_fit names CallInBits (λ bytes call read. call_in_bits names bytes call valid (call_is_spelled names bytes call read)) text scripts is).steps
result_fits names text (Err fault) valid is = tt
