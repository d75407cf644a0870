-- The table of the calls: calls, their names and their arguments give each other back.
use Rattle.std.proofs.Common.{◌≡◌, ◌∙◌, ◌≤◌, ◌⊎◌, inl, inr, sym, ap, true, Bool, List, [], ◌∷◌, length, take, Option, Some, None, option_map, find, false, refl, arith}
use Rattle.std.specs.Option.{option_or}
use Rattle.std.proofs.lemmas.Slice.Eq.{bytes_eq-Decides}
use Rattle.std.specs.Prelude.{ℕ, codes, unwrap_or, if◌then◌else◌}
use Rattle.std.specs.Str.{bytes_eq}
use Rattle.fmp_codes.specs.declared.calls.Call.{Call}
use Rattle.fmp_codes.specs.declared.calls.Call.TheVariants as calls
use Rattle.fmp_codes.specs.declared.calls.TaskCall.TheVariants as task
use Rattle.fmp_codes.specs.declared.calls.SyncCall.TheVariants as sync
use Rattle.fmp_codes.specs.declared.calls.BufferCall.TheVariants as buffer
use Rattle.fmp_codes.specs.declared.calls.TimeCall.TheVariants as time
use Rattle.fmp_codes.specs.declared.calls.SystemCall.TheVariants as system
use Rattle.fmp_codes.specs.declared.calls.SpinCall.TheVariants as spin
use Rattle.fmp_bytes.specs.Bytes.{is_of, is_identifier}
use Rattle.fmp_codes.specs.declared.kinds.Value.{Value}
use Rattle.fmp_codes.specs.Kinds.{are_of_kinds}
use Rattle.fmp_calls.specs.Entries.{arguments_from, values_in}
use Rattle.fmp_calls.specs.Table.{line_of, text_of, is_bare, kinds_of, name_of, values_of, call_of, named}
use Rattle.fmp_calls.specs.Entries.{Line}
use Rattle.fmp_calls.specs.Tables.TaskTable as task_table
use Rattle.fmp_calls.specs.Tables.SyncTable as sync_table
use Rattle.fmp_calls.specs.Tables.BufferTable as buffer_table
use Rattle.fmp_calls.specs.Tables.TimeTable as time_table
use Rattle.fmp_calls.specs.Tables.SystemTable as system_table
use Rattle.fmp_calls.specs.Tables.SpinTable as spin_table
use Rattle.fmp_calls.specs.declared.table.task.TheConstants.{TASK_CALLS}
use Rattle.fmp_calls.specs.declared.table.sync.TheConstants.{SYNC_CALLS}
use Rattle.fmp_calls.specs.declared.table.buffer.TheConstants.{BUFFER_CALLS}
use Rattle.fmp_calls.specs.declared.table.time.TheConstants.{TIME_CALLS}
use Rattle.fmp_calls.specs.declared.table.system.TheConstants.{SYSTEM_CALLS}
use Rattle.fmp_calls.specs.declared.table.spin.TheConstants.{SPIN_CALLS}
use Rattle.fmp_calls.proofs.Found.{found_passes}
use Rattle.fmp_calls.proofs.Arguments.{values_in-arguments_from}

-- What holds of each line of the table by computing. A lemma goes through all lines, where its first clauses name one of each family.
record IsLine (call : Call) : Type 0 where
  made : (line_of call).make (values_of call) ≡ call
  kept : (list : List Value) → values_of ((line_of call).make list) ≡ values_in (kinds_of call) (arguments_from (kinds_of call) 0 list)
  again : (list other : List Value) → (line_of ((line_of call).make list)).make other ≡ (line_of call).make other
  same_text : (list : List Value) → text_of ((line_of call).make list) ≡ text_of call
  same_bare : (list : List Value) → is_bare ((line_of call).make list) ≡ is_bare call
  same_kinds : (list : List Value) → kinds_of ((line_of call).make list) ≡ kinds_of call
  bare_kinds : (if is_bare call then kinds_of call else []) ≡ []
  bare_values : (if is_bare call then values_of call else []) ≡ []
  of_kinds : are_of_kinds (kinds_of call) (values_of call) ≡ true
  found : named (text_of call) ≡ Some (name_of call)
  few : length (kinds_of call) ≤ 4
  front : (a b c d : Value) → (line_of call).make (take (length (kinds_of call)) (a ∷ b ∷ c ∷ d ∷ [])) ≡ (line_of call).make (a ∷ b ∷ c ∷ d ∷ [])

is_line : (call : Call) → IsLine call
is_line (calls.Task task.ExtTsk) = record { made = refl; kept = λ l. refl; again = λ l o. refl; same_text = λ l. refl; same_bare = λ l. refl; same_kinds = λ l. refl; bare_kinds = refl; bare_values = refl; of_kinds = refl; found = refl; few = omega arith; front = λ a b c d. refl }
is_line (calls.Sync (sync.SigSem x)) = record { made = refl; kept = λ l. refl; again = λ l o. refl; same_text = λ l. refl; same_bare = λ l. refl; same_kinds = λ l. refl; bare_kinds = refl; bare_values = refl; of_kinds = refl; found = refl; few = omega arith; front = λ a b c d. refl }
is_line (calls.Buffer (buffer.GetMpf x)) = record { made = refl; kept = λ l. refl; again = λ l o. refl; same_text = λ l. refl; same_bare = λ l. refl; same_kinds = λ l. refl; bare_kinds = refl; bare_values = refl; of_kinds = refl; found = refl; few = omega arith; front = λ a b c d. refl }
is_line (calls.Time (time.StaCyc x)) = record { made = refl; kept = λ l. refl; again = λ l o. refl; same_text = λ l. refl; same_bare = λ l. refl; same_kinds = λ l. refl; bare_kinds = refl; bare_values = refl; of_kinds = refl; found = refl; few = omega arith; front = λ a b c d. refl }
is_line (calls.System system.GetTid) = record { made = refl; kept = λ l. refl; again = λ l o. refl; same_text = λ l. refl; same_bare = λ l. refl; same_kinds = λ l. refl; bare_kinds = refl; bare_values = refl; of_kinds = refl; found = refl; few = omega arith; front = λ a b c d. refl }
is_line (calls.Spin (spin.LocSpn x)) = record { made = refl; kept = λ l. refl; again = λ l o. refl; same_text = λ l. refl; same_bare = λ l. refl; same_kinds = λ l. refl; bare_kinds = refl; bare_values = refl; of_kinds = refl; found = refl; few = omega arith; front = λ a b c d. refl }
is_line _ = record { made = refl; kept = λ l. refl; again = λ l o. refl; same_text = λ l. refl; same_bare = λ l. refl; same_kinds = λ l. refl; bare_kinds = refl; bare_values = refl; of_kinds = refl; found = refl; few = omega arith; front = λ a b c d. refl }

-- ---- a call is its name with its arguments

pub call_of-parts : (call : Call) → call_of (name_of call) (values_of call) ≡ Some call
call_of-parts call =
    let is = is_line call in
    rw (is.same_kinds [], is.of_kinds, is.again [] (values_of call), is.made) refl

-- the values are the arguments of the call that is made of them
agreeing : (name : Call) (list : List Value) (call : Call) (fits : Bool) → are_of_kinds (kinds_of name) list ≡ fits
    → (if fits then Some ((line_of name).make list) else None) ≡ Some call → (name_of call ≡ name_of name) × (values_of call ≡ list)
agreeing name list call true fits e =
    let is = is_line name in
    let same : (line_of name).make list ≡ call = ap (λ (o : Option Call). unwrap_or o call) e in
    (sym (ap name_of same) ∙ is.again list [], sym (ap values_of same) ∙ is.kept list ∙ values_in-arguments_from (kinds_of name) list fits)
agreeing name list call false fits e = search

pub call_of-agrees : (name : Call) (list : List Value) (call : Call) → call_of name list ≡ Some call → (name_of call ≡ name_of name) × (values_of call ≡ list)
call_of-agrees name list call e = agreeing name list call (are_of_kinds (kinds_of name) list) refl e

-- ---- names and kinds

pub named-text_of : (call : Call) → named (text_of call) ≡ Some (name_of call)
named-text_of call = (is_line call).found

pub text_of-name_of : (call : Call) → text_of (name_of call) ≡ text_of call
text_of-name_of call = (is_line call).same_text []

pub kinds_of-name_of : (call : Call) → kinds_of (name_of call) ≡ kinds_of call
kinds_of-name_of call = (is_line call).same_kinds []

pub is_bare-name_of : (call : Call) → is_bare (name_of call) ≡ is_bare call
is_bare-name_of call = (is_line call).same_bare []

-- a bare call has no arguments
pub bare_alone : (call : Call) → is_bare call ≡ true → (kinds_of call ≡ []) × (values_of call ≡ [])
bare_alone call bare =
    let is = is_line call in
    (rw bare at is.bare_kinds, rw bare at is.bare_values)

-- the call has the name's text and kinds, and is bare where the name is
pub call_of-same : (name : Call) (list : List Value) (call : Call) → call_of name list ≡ Some call
    → (text_of call ≡ text_of name) × (kinds_of call ≡ kinds_of name) × (is_bare call ≡ is_bare name)
call_of-same name list call e =
    let agrees = call_of-agrees name list call e in (
      sym (text_of-name_of call) ∙ ap text_of agrees.0 ∙ text_of-name_of name,
      sym (kinds_of-name_of call) ∙ ap kinds_of agrees.0 ∙ kinds_of-name_of name,
      sym (is_bare-name_of call) ∙ ap is_bare agrees.0 ∙ is_bare-name_of name,
    )

pub are_of_kinds-values_of : (call : Call) → are_of_kinds (kinds_of call) (values_of call) ≡ true
are_of_kinds-values_of call = (is_line call).of_kinds

pub length-kinds_of-le : (call : Call) → length (kinds_of call) ≤ 4
length-kinds_of-le call = (is_line call).few

-- four values, of which the first are arguments of the call
made_of_four : (call : Call) (list : List Value) → length list ≡ 4 → (line_of call).make (take (length (kinds_of call)) list) ≡ (line_of call).make list
made_of_four call (a ∷ b ∷ c ∷ d ∷ []) four = (is_line call).front a b c d
made_of_four call [] four = absurd (omega (arith, four))
made_of_four call (a ∷ []) four = absurd (omega (arith, four))
made_of_four call (a ∷ b ∷ []) four = absurd (omega (arith, four))
made_of_four call (a ∷ b ∷ c ∷ []) four = absurd (omega (arith, four))
made_of_four call (a ∷ b ∷ c ∷ d ∷ e ∷ list) four = absurd (omega (arith, four))

pub call_of-four : (call made : Call) (list : List Value) → length list ≡ 4 → made ≡ (line_of call).make list
    → are_of_kinds (kinds_of call) (take (length (kinds_of call)) list) ≡ true → call_of call (take (length (kinds_of call)) list) ≡ Some made
call_of-four call made list four is fits = rw (fits, is) (ap (λ (c : Call). Some c) (made_of_four call list four))

-- a name is an identifier, and no other event's
record IsProper (call : Call) : Type 0 where
  word : is_identifier (text_of call) ≡ true
  no_tick : bytes_eq (text_of call) (codes "tick") ≡ false
  no_ipi : bytes_eq (text_of call) (codes "ipi") ≡ false

proper : (call : Call) → IsProper call
unfolding is_of
proper (calls.Task task.ExtTsk) = record { word = refl; no_tick = refl; no_ipi = refl }
proper (calls.Sync (sync.SigSem x)) = record { word = refl; no_tick = refl; no_ipi = refl }
proper (calls.Buffer (buffer.GetMpf x)) = record { word = refl; no_tick = refl; no_ipi = refl }
proper (calls.Time (time.StaCyc x)) = record { word = refl; no_tick = refl; no_ipi = refl }
proper (calls.System system.GetTid) = record { word = refl; no_tick = refl; no_ipi = refl }
proper (calls.Spin (spin.LocSpn x)) = record { word = refl; no_tick = refl; no_ipi = refl }
proper _ = record { word = refl; no_tick = refl; no_ipi = refl }

pub is_identifier-text_of : (call : Call) → is_identifier (text_of call) ≡ true
is_identifier-text_of call = (proper call).word

pub no_tick : (call : Call) → bytes_eq (text_of call) (codes "tick") ≡ false
no_tick call = (proper call).no_tick

pub no_ipi : (call : Call) → bytes_eq (text_of call) (codes "ipi") ≡ false
no_ipi call = (proper call).no_ipi

-- ---- what is found has the text

either_found : {C : Type 0} (family : C → Call) (found : Option C) (other : Option Call) (name : Call) → option_or (option_map family found) other ≡ Some name
    → ((call : C) × (found ≡ Some call) × (family call ≡ name)) ⊎ (other ≡ Some name)
either_found family None other name e = inr e
either_found family (Some call) other name e = inl (call, refl, ap (λ (o : Option Call). unwrap_or o (family call)) e)

-- a family in which a call was found
has_text : {C : Type 0} (family : C → Call) (line : C → Line C) (calls : List C) (word : List ℕ) (name : Call)
    → ((call : C) → text_of (family call) ≡ (line call).text)
    → ((call : C) × (find (λ c. bytes_eq (line c).text word) calls ≡ Some call) × (family call ≡ name)) → text_of name ≡ word
has_text family line calls word name texts found =
    sym (ap text_of found.2) ∙ texts found.0 ∙ (bytes_eq-Decides (line found.0).text word).0 (found_passes (λ c. bytes_eq (line c).text word) calls found.0 found.1)

returning : (word : List ℕ) (name : Call) (is : Bool) → bytes_eq (codes "ret_hdr") word ≡ is
    → (if is then Some calls.RetHdr else None) ≡ Some name → text_of name ≡ word
returning word name true same e =
    ap (λ (o : Option Call). text_of (unwrap_or o calls.RetHdr)) (sym e) ∙ (bytes_eq-Decides (codes "ret_hdr") word).0 same
returning word name false same e = absurd cc

pub text_of-named : (word : List ℕ) (name : Call) → named word ≡ Some name → text_of name ≡ word
text_of-named word name e = elim (either_found calls.Task (find (λ call. bytes_eq (task_table.line_of call).text word) TASK_CALLS.now) _ name e) [
  | inl found ↦ has_text calls.Task task_table.line_of TASK_CALLS.now word name (λ c. refl) found
  | inr other1 ↦ elim (either_found calls.Sync (find (λ call. bytes_eq (sync_table.line_of call).text word) SYNC_CALLS.now) _ name other1) [
    | inl found ↦ has_text calls.Sync sync_table.line_of SYNC_CALLS.now word name (λ c. refl) found
    | inr other2 ↦ elim (either_found calls.Buffer (find (λ call. bytes_eq (buffer_table.line_of call).text word) BUFFER_CALLS.now) _ name other2) [
      | inl found ↦ has_text calls.Buffer buffer_table.line_of BUFFER_CALLS.now word name (λ c. refl) found
      | inr other3 ↦ elim (either_found calls.Time (find (λ call. bytes_eq (time_table.line_of call).text word) TIME_CALLS.now) _ name other3) [
        | inl found ↦ has_text calls.Time time_table.line_of TIME_CALLS.now word name (λ c. refl) found
        | inr other4 ↦ elim (either_found calls.System (find (λ call. bytes_eq (system_table.line_of call).text word) SYSTEM_CALLS.now) _ name other4) [
          | inl found ↦ has_text calls.System system_table.line_of SYSTEM_CALLS.now word name (λ c. refl) found
          | inr other5 ↦ elim (either_found calls.Spin (find (λ call. bytes_eq (spin_table.line_of call).text word) SPIN_CALLS.now) _ name other5) [
            | inl found ↦ has_text calls.Spin spin_table.line_of SPIN_CALLS.now word name (λ c. refl) found
            | inr other6 ↦ returning word name (bytes_eq (codes "ret_hdr") word) refl other6
          ]
        ]
      ]
    ]
  ]
]
