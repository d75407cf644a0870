-- What is left out is no call, no statement and no fault's number, so that it is told as left out.
use Rattle.std.proofs.Common.{◌≡◌, ℕ, Bool, true, false, List, Option, Some, None, option_map, find, refl}
use Rattle.std.proofs.lemmas.Slice.Eq.{bytes_eq-Decides}
use Rattle.std.specs.Prelude.{if◌then◌else◌}
use Rattle.std.specs.List.{list_any}
use Rattle.std.specs.Option.{option_or}
use Rattle.std.specs.Str.{bytes_eq}
use Rattle.fmp_codes.specs.declared.calls.Call.{Call}
use Rattle.fmp_codes.specs.declared.calls.Call.TheVariants as calls
use Rattle.fmp_codes.specs.declared.calls.TaskCall.TheVariants as task
use Rattle.fmp_codes.specs.declared.calls.SyncCall.TheVariants as sync
use Rattle.fmp_codes.specs.declared.calls.BufferCall.TheVariants as buffer
use Rattle.fmp_codes.specs.declared.calls.TimeCall.TheVariants as time
use Rattle.fmp_codes.specs.declared.calls.SystemCall.TheVariants as system
use Rattle.fmp_codes.specs.declared.calls.SpinCall.TheVariants as spin
use Rattle.fmp_calls.specs.Table as table
use Rattle.fmp_codes.specs.declared.kinds.ObjectKind.TheVariants as objects
use Rattle.fmp_calls.proofs.Found.{found_passes}
use Rattle.fmp_calls.proofs.Matched.{text_of-named}
use Rattle.fmp_config_statements.specs.Faults as configs
use Rattle.fmp_config_statements.specs.declared.fault.ConfigKind.{ConfigKind}
use Rattle.fmp_config_statements.specs.declared.fault.ConfigKind.TheVariants as config
use Rattle.fmp_config_statements.specs.Table as statements
use Rattle.fmp_config_statements.specs.declared.table.StatementName.{StatementName}
use Rattle.fmp_config_statements.specs.declared.table.StatementName.TheVariants as names
use Rattle.fmp_config_statements.specs.declared.table.TheConstants.{STATEMENT_NAMES}
use Rattle.fmp_text.specs.Faults as texts
use Rattle.fmp_text.specs.declared.fault.TextKind.{TextKind}
use Rattle.fmp_text.specs.declared.fault.TextKind.TheVariants as text
use Rattle.fmp_cli_help.specs.LeftOut.{is_left_out}
use Rattle.fmp_cli_help.specs.Listing.{subject_of, other_subject}
use Rattle.fmp_cli_help.specs.declared.faults.TheConstants.{CONFIG_KINDS, TEXT_KINDS}
use Rattle.fmp_cli_help.specs.declared.listing.Subject.{Subject}
use Rattle.fmp_cli_help.specs.declared.listing.Subject.TheVariants as subject
use Rattle.fmp_cli_help.specs.declared.words.TheConstants.{WORDS}

-- nothing that is read is left out; a lemma goes through all cases, where its first clauses name one of each family
pub call_is_read : (call : Call) → is_left_out (table.text_of call) ≡ false
unfolding is_left_out
call_is_read (calls.Task task.ExtTsk) = refl
call_is_read (calls.Sync (sync.SigSem x)) = refl
call_is_read (calls.Buffer (buffer.GetMpf x)) = refl
call_is_read (calls.Time (time.StaCyc x)) = refl
call_is_read (calls.System system.GetTid) = refl
call_is_read (calls.Spin (spin.LocSpn x)) = refl
call_is_read _ = refl

pub statement_is_read : (name : StatementName) → is_left_out (statements.text_of name) ≡ false
unfolding is_left_out
statement_is_read (names.Create objects.Task) = refl
statement_is_read _ = refl

config_fault_is_read : (kind : ConfigKind) → is_left_out (configs.code_of kind) ≡ false
unfolding is_left_out
config_fault_is_read config.Syntax = refl
config_fault_is_read _ = refl

text_fault_is_read : (kind : TextKind) → is_left_out (texts.code_of kind) ≡ false
unfolding is_left_out
text_fault_is_read text.BadByte = refl
text_fault_is_read _ = refl

-- what is read is another word than what is left out
differs : (text word : List ℕ) → text ≡ word → is_left_out text ≡ false → is_left_out word ≡ true → ⊥
differs text word same read left_out = cc

-- no call has the name
no_call : (word : List ℕ) → is_left_out word ≡ true → (found : Option Call) → table.named word ≡ found → found ≡ None
no_call word left_out None is = refl
no_call word left_out (Some call) is =
    absurd (differs (table.text_of call) word (text_of-named word call is) (call_is_read call) left_out)

-- nothing is found among what is read
none_found : {K : Type 0} (text : K → List ℕ) (list : List K) (word : List ℕ) → ((k : K) → is_left_out (text k) ≡ false)
    → is_left_out word ≡ true → (found : Option K) → find (λ k. bytes_eq (text k) word) list ≡ found → found ≡ None
none_found text list word read left_out None is = refl
none_found text list word read left_out (Some k) is =
    let same = (bytes_eq-Decides (text k) word).0 (found_passes (λ k. bytes_eq (text k) word) list k is) in
    absurd (differs (text k) word same (read k) left_out)

-- what a word is where nothing is found
subject_is : (call : Option Call) (name : Option StatementName) (kind : Option ConfigKind) (fault : Option TextKind) (left_out : Bool) (other : Option Subject)
    → call ≡ None → name ≡ None → kind ≡ None → fault ≡ None → left_out ≡ true
    → option_or (option_map subject.Call call) (
    option_or (option_map subject.Statement name) (
    option_or (option_map subject.ConfigFault kind) (
    option_or (option_map subject.TextFault fault) (
    if left_out then Some subject.LeftOut else other)))) ≡ Some subject.LeftOut
subject_is call name kind fault left_out other ec en ek ef el = rw (ec, en, ek, ef, el) refl

pub left_out_is_reported : (word : List ℕ) → is_left_out word ≡ true → subject_of word ≡ Some subject.LeftOut
unfolding subject_of other_subject statements.statement_of
left_out_is_reported word left_out =
    subject_is (table.named word) (statements.statement_of word)
    (find (λ kind. bytes_eq (configs.code_of kind) word) CONFIG_KINDS)
    (find (λ kind. bytes_eq (texts.code_of kind) word) TEXT_KINDS)
    (is_left_out word) (if list_any (λ row. bytes_eq row.0.now word) WORDS then Some subject.Word else None)
    (no_call word left_out _ refl)
    (none_found statements.text_of STATEMENT_NAMES word statement_is_read left_out _ refl)
    (none_found configs.code_of CONFIG_KINDS word config_fault_is_read left_out _ refl)
    (none_found texts.code_of TEXT_KINDS word text_fault_is_read left_out _ refl)
    left_out
