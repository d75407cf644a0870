-- Where a line writes its runner, and where it leaves it out.
use Rattle.std.proofs.Common.{◌≡◌, ℕ, ℤ, true, false, cond, inl, inr, List, [], ◌∷◌, ◌++◌, Option, Some, None, refl, sym, ap, subst, ◌∙◌, append_assoc}
use Rattle.std.specs.Prelude.{codes, is_some}
use Rattle.std.specs.List.{list_all, prefix_len}
use Rattle.std.specs.Fmt.{signed_decimal}
use Rattle.std.specs.Str.{bytes_eq}
use Rattle.std.proofs.lemmas.Bool.{cases_Bool}
use Rattle.fmp_codes.specs.Codes.{name_of}
use Rattle.fmp_codes.specs.declared.calls.Call.{Call}
use Rattle.fmp_codes.specs.declared.calls.Call.TheVariants as calls
use Rattle.fmp_codes.specs.declared.calls.BufferCall.TheVariants as buffer
use Rattle.fmp_codes.specs.declared.calls.SpinCall.TheVariants as spin
use Rattle.fmp_codes.specs.declared.calls.SyncCall.TheVariants as sync
use Rattle.fmp_codes.specs.declared.calls.SystemCall.TheVariants as system
use Rattle.fmp_codes.specs.declared.calls.TaskCall.TheVariants as task
use Rattle.fmp_codes.specs.declared.calls.TimeCall.TheVariants as time
use Rattle.fmp_codes.specs.declared.codes.Code.{Code}
use Rattle.fmp_codes.specs.declared.codes.Code.TheVariants.{Accepted, Parameter, Identifier, Context, IllegalUse, ObjectState, QueueOverflow, WaitReleased, TimedOut}
use Rattle.fmp_codes.specs.declared.records.Answer.{Answer}
use Rattle.fmp_codes.specs.declared.records.Answer.TheVariants as answers
use Rattle.fmp_codes.specs.declared.records.Event.{Event}
use Rattle.fmp_codes.specs.declared.records.Event.TheVariants as events
use Rattle.fmp_codes.specs.declared.records.Record.{Record}
use Rattle.fmp_codes.specs.declared.records.Runner.{Runner}
use Rattle.fmp_codes.specs.declared.records.Runner.TheVariants as runners
use Rattle.fmp_bytes.specs.declared.classes.Class.TheVariants.{Word, Argument}
use Rattle.fmp_bytes.specs.Bytes.{is_of, following}
use Rattle.fmp_bytes.proofs.Cutting.{cut_at-append}
use Rattle.fmp_bytes.proofs.Prefixes.{prefix-append, stops-cons}
use Rattle.fmp_bytes.proofs.Tokens.{identifier_words}
use Rattle.fmp_calls.proofs.Matched.{is_identifier-text_of, no_tick, no_ipi}
use Rattle.fmp_calls.specs.Table as table
use Rattle.fmp_codes.specs.declared.kinds.ObjectKind.{ObjectKind}
use Rattle.fmp_codes.specs.declared.kinds.ObjectKind.TheVariants as objects
use Rattle.fmp_names.specs.Names.{NameLists, AreValid}
use Rattle.fmp_trace.specs.Fits.{IsNamed, RunnerFits}
use Rattle.fmp_trace.specs.Lines.{event_text, runner_text, answer_text, tail_text, code_text, after_code}
use Rattle.fmp_trace.specs.Values.{named, call_text}
use Rattle.fmp_trace.proofs.Bytes.{other_than, code_words}
use Rattle.fmp_trace.proofs.GuessedCalls.{led, call_word, call_text-bare, after_name-enclosed}
use Rattle.fmp_trace.proofs.GuessedRunners.{runner_bytes}
use Rattle.fmp_trace.proofs.GuessedTails.{tail_words, tail-led}
use Rattle.fmp_trace.proofs.GuessedValues.{printed_name}
use Rattle.fmp_trace_partial.specs.Said.{opens, begins_event, tells_runner}

-- ---- words

-- a word that no parenthesis follows
closed : (word rest : List ℕ) → list_all (is_of Word) word ≡ true → prefix_len (is_of Word) rest ≡ 0 → following 40 rest ≡ None → opens (word ++ rest) ≡ false
unfolding opens
closed word rest words ends other =
    let cut = prefix-append Word word rest words ends in
    ap (λ (text : List ℕ). is_some (following 40 text)) cut.1 ∙ ap is_some other

after_blank : (rest : List ℕ) → following 40 (32 ∷ rest) ≡ None
unfolding following
after_blank rest = refl

-- a word and a blank
spaced : (word rest : List ℕ) → list_all (is_of Word) word ≡ true → opens (word ++ 32 ∷ rest) ≡ false
unfolding is_of
spaced word rest words = closed word (32 ∷ rest) words (stops-cons (is_of Word) 32 rest refl) (after_blank rest)

-- ---- the runner

named_words : (names : NameLists) (kind : ObjectKind) (n : ℕ) → AreValid names → IsNamed names kind n → list_all (is_of Word) (named names kind n) ≡ true
named_words names kind n valid is_named =
    let p = printed_name names kind n valid is_named in
    ap (list_all (is_of Word)) p.printed ∙ p.words

runner_spaced : (names : NameLists) (runner : Option Runner) (rest : List ℕ) → AreValid names → RunnerFits names runner → opens (runner_text names runner ++ 32 ∷ rest) ≡ false
unfolding opens is_of following
runner_spaced names None rest valid fits = refl
runner_spaced names (Some (runners.Task t)) rest valid fits = spaced (named names objects.Task t.number) rest (named_words names objects.Task t.number valid fits)
runner_spaced names (Some (runners.Alarm a)) rest valid fits = spaced (named names objects.Alarm a.number) rest (named_words names objects.Alarm a.number valid fits)
runner_spaced names (Some (runners.Cyclic c)) rest valid fits = spaced (named names objects.Cyclic c.number) rest (named_words names objects.Cyclic c.number valid fits)

-- ---- the event

-- the one call without parentheses is the return of a handler
bare_word : (call : Call) → cond (table.is_bare call) (bytes_eq (table.text_of call) (codes "ret_hdr")) true ≡ true
bare_word (calls.Task task.ExtTsk) = refl
bare_word (calls.Sync (sync.SigSem x)) = refl
bare_word (calls.Buffer (buffer.GetMpf x)) = refl
bare_word (calls.Time (time.StaCyc x)) = refl
bare_word (calls.System system.GetTid) = refl
bare_word (calls.Spin (spin.LocSpn x)) = refl
bare_word _ = refl

bare_is : (call : Call) → table.is_bare call ≡ true → bytes_eq (table.text_of call) (codes "ret_hdr") ≡ true
bare_is call bare = let word = bare_word call in rw bare at word

call_opens : (names : NameLists) (call : Call) (rest : List ℕ) → table.is_bare call ≡ false → opens (call_text names call ++ 32 ∷ rest) ≡ true
unfolding opens following
call_opens names call rest bare =
    ap (λ (text : List ℕ). is_some (following 40 text)) ((call_word names call rest).1 ∙ ap (λ (text : List ℕ). text ++ 32 ∷ rest) (after_name-enclosed names call bare))

call_begins : (names : NameLists) (call : Call) (rest : List ℕ) → begins_event (call_text names call ++ 32 ∷ rest) ≡ true
unfolding begins_event
call_begins names call rest =
    elim (cases_Bool (table.is_bare call)) [
      | inl t ↦
          let alone : opens (call_text names call ++ 32 ∷ rest) ≡ false =
          ap (λ (text : List ℕ). opens (text ++ 32 ∷ rest)) (call_text-bare names call t) ∙ spaced (table.text_of call) rest (identifier_words (table.text_of call) (is_identifier-text_of call)) in
          let word = (call_word names call rest).0 in
          let tick = no_tick call in let ipi = no_ipi call in let bare = bare_is call t in
          rw (alone, word, tick, ipi, bare) refl
      | inr f ↦ let opening = call_opens names call rest f in rw opening refl
    ]

pub event_begins : (names : NameLists) (e : Event) (rest : List ℕ) → begins_event (event_text names e ++ 32 ∷ rest) ≡ true
unfolding begins_event opens is_of following
event_begins names (events.Tick p) rest = refl
event_begins names (events.Ipi p) rest = refl
event_begins names (events.Call p call) rest = call_begins names call rest

-- ---- the answer

-- a word that is no event, after which no parenthesis stands
record IsOther (word : List ℕ) : Type 0 where
  words : list_all (is_of Word) word ≡ true
  tick : bytes_eq word (codes "tick") ≡ false
  ipi : bytes_eq word (codes "ipi") ≡ false
  ret_hdr : bytes_eq word (codes "ret_hdr") ≡ false

-- what may stand after an answer's word
record Ends (rest : List ℕ) : Type 0 where
  word : prefix_len (is_of Word) rest ≡ 0
  call : following 40 rest ≡ None

other_begins : (word rest : List ℕ) → IsOther word → Ends rest → begins_event (word ++ rest) ≡ false
unfolding begins_event
other_begins word rest other ends =
    let first = (prefix-append Word word rest other.words ends.word).0 in
    let opening = closed word rest other.words ends.word ends.call in
    let tick = other.tick in let ipi = other.ipi in let ret_hdr = other.ret_hdr in
    rw (opening, first, tick, ipi, ret_hdr) refl

led_ends : (words : List (List ℕ)) → Ends (led 32 words)
unfolding is_of following
led_ends [] = record { word = refl; call = refl }
led_ends (word ∷ words) = record { word = stops-cons (is_of Word) 32 (word ++ led 32 words) refl; call = refl }

tail_ends : (names : NameLists) (r : Record) → Ends (tail_text names r)
tail_ends names r = subst Ends (sym (tail-led names r)) (led_ends (tail_words names r))

value_ends : (names : NameLists) (value : Option ℤ) (r : Record) → Ends (after_code value ++ tail_text names r)
unfolding is_of following
value_ends names None r = tail_ends names r
value_ends names (Some v) r = record { word = stops-cons (is_of Word) 58 (signed_decimal v ++ tail_text names r) refl; call = refl }

code_other : (c : Code) → IsOther (name_of c)
code_other Accepted = record { words = code_words Accepted; tick = refl; ipi = refl; ret_hdr = refl }
code_other Parameter = record { words = code_words Parameter; tick = refl; ipi = refl; ret_hdr = refl }
code_other Identifier = record { words = code_words Identifier; tick = refl; ipi = refl; ret_hdr = refl }
code_other Context = record { words = code_words Context; tick = refl; ipi = refl; ret_hdr = refl }
code_other IllegalUse = record { words = code_words IllegalUse; tick = refl; ipi = refl; ret_hdr = refl }
code_other ObjectState = record { words = code_words ObjectState; tick = refl; ipi = refl; ret_hdr = refl }
code_other QueueOverflow = record { words = code_words QueueOverflow; tick = refl; ipi = refl; ret_hdr = refl }
code_other WaitReleased = record { words = code_words WaitReleased; tick = refl; ipi = refl; ret_hdr = refl }
code_other TimedOut = record { words = code_words TimedOut; tick = refl; ipi = refl; ret_hdr = refl }

-- an answer is not taken for an event
pub answer_begins : (names : NameLists) (a : Answer) (r : Record) → begins_event (answer_text a ++ tail_text names r) ≡ false
unfolding code_text is_of
answer_begins names (answers.Done c value) r =
    ap begins_event (append_assoc (name_of c) (after_code value) (tail_text names r)) ∙ other_begins (name_of c) (after_code value ++ tail_text names r) (code_other c) (value_ends names value r)
answer_begins names answers.Wait r = other_begins (codes "wait") (tail_text names r) (record { words = refl; tick = refl; ipi = refl; ret_hdr = refl }) (tail_ends names r)
answer_begins names answers.Spin r = other_begins (codes "spin") (tail_text names r) (record { words = refl; tick = refl; ipi = refl; ret_hdr = refl }) (tail_ends names r)
answer_begins names answers.Gone r = other_begins (codes "gone") (tail_text names r) (record { words = refl; tick = refl; ipi = refl; ret_hdr = refl }) (tail_ends names r)
answer_begins names answers.Idle r = other_begins (codes "idle") (tail_text names r) (record { words = refl; tick = refl; ipi = refl; ret_hdr = refl }) (tail_ends names r)
answer_begins names answers.Held r = other_begins (codes "held") (tail_text names r) (record { words = refl; tick = refl; ipi = refl; ret_hdr = refl }) (tail_ends names r)
answer_begins names answers.Taken r = other_begins (codes "taken") (tail_text names r) (record { words = refl; tick = refl; ipi = refl; ret_hdr = refl }) (tail_ends names r)
answer_begins names answers.Nothing r = other_begins (codes "none") (tail_text names r) (record { words = refl; tick = refl; ipi = refl; ret_hdr = refl }) (tail_ends names r)

-- ---- what stands after the processor

-- a runner that is written is seen
pub runner_seen : (names : NameLists) (runner : Option Runner) (e : Event) (rest : List ℕ) → AreValid names → RunnerFits names runner → tells_runner (runner_text names runner ++ 32 ∷ (event_text names e ++ 32 ∷ rest)) ≡ true
unfolding tells_runner is_of
runner_seen names runner e rest valid fits =
    let opening = runner_spaced names runner (event_text names e ++ 32 ∷ rest) valid fits in
    let cut = cut_at-append 32 (runner_text names runner) (event_text names e ++ 32 ∷ rest) (other_than (is_of Argument) 32 refl (runner_text names runner) (runner_bytes names runner valid fits)) in
    let begins = event_begins names e rest in
    rw (opening, cut, begins) refl

-- a word that is an event, and its answer
word_seen : (names : NameLists) (word : List ℕ) (a : Answer) (r : Record) → list_all (is_of Word) word ≡ true → tells_runner (word ++ 32 ∷ (answer_text a ++ tail_text names r)) ≡ false
unfolding tells_runner is_of
word_seen names word a r words =
    let opening = spaced word (answer_text a ++ tail_text names r) words in
    let cut = cut_at-append 32 word (answer_text a ++ tail_text names r) (other_than (is_of Word) 32 refl word words) in
    let begins = answer_begins names a r in
    rw (opening, cut, begins) refl

call_seen : (names : NameLists) (call : Call) (a : Answer) (r : Record) → tells_runner (call_text names call ++ 32 ∷ (answer_text a ++ tail_text names r)) ≡ false
unfolding tells_runner
call_seen names call a r =
    elim (cases_Bool (table.is_bare call)) [
      | inl t ↦
          ap (λ (text : List ℕ). tells_runner (text ++ 32 ∷ (answer_text a ++ tail_text names r))) (call_text-bare names call t)
          ∙ word_seen names (table.text_of call) a r (identifier_words (table.text_of call) (is_identifier-text_of call))
      | inr f ↦ let opening = call_opens names call (answer_text a ++ tail_text names r) f in rw opening refl
    ]

-- where the runner is left out, none is seen
pub none_seen : (names : NameLists) (e : Event) (a : Answer) (r : Record) → tells_runner (event_text names e ++ 32 ∷ (answer_text a ++ tail_text names r)) ≡ false
unfolding is_of
none_seen names (events.Call p call) a r = call_seen names call a r
none_seen names (events.Tick p) a r = word_seen names (codes "tick") a r refl
none_seen names (events.Ipi p) a r = word_seen names (codes "ipi") a r refl
