-- The numbers of a statement are in their ranges, and an object's fields can hold its numbers.
use Rattle.std.proofs.Common.{◌≡◌, ℕ, ◌≤◌, true, Option, Some, None, Ok, Err, if◌then◌else◌, arith, subst}
use Rattle.std.specs.Prelude.{nat_le}
use Rattle.std.proofs.lemmas.Bool.{and_parts, leb-true}
use Rattle.fmp_bytes.specs.Results.{◌>>=◌}
use Rattle.fmp_codes.specs.declared.kinds.ObjectKind.{ObjectKind}
use Rattle.fmp_codes.specs.declared.kinds.ObjectKind.TheVariants as objects
use Rattle.fmp_names.specs.Names.{NameLists}
use Rattle.fmp_config_statements.specs.declared.fault.ConfigKind.TheVariants.{OutOfRange}
use Rattle.fmp_config_statements.specs.declared.table.Range.{Range}
use Rattle.fmp_config_statements.specs.declared.table.StatementName.{StatementName}
use Rattle.fmp_config_statements.specs.declared.table.StatementName.TheVariants as statements
use Rattle.fmp_config_statements.specs.Faults.{fault_at}
use Rattle.fmp_config_statements.specs.Pieces.{Pieces}
use Rattle.fmp_config_statements.specs.Table.{first_range, second_range}
use Rattle.fmp_config_statements.specs.Words.{Word}
use Rattle.fmp_config.specs.declared.numbers.Numbers.{Numbers}
use Rattle.fmp_config.specs.Objects.{counts_fit}
use Rattle.fmp_config.specs.Numbers.{AreInRanges, IsInRange, is_within, number_at, number_within, numbers_of, value_at}
use Rattle.fmp_config.specs.Sound.{Fit}
use Rattle.fmp_config.proofs.Steps.{bound, ok_is, passed}
use Rattle.fmp_setup.specs.Setup.{Setup}

pub within_range : (names : NameLists) (range : Range) (word : Word) (n : ℕ) → number_within names range word ≡ Ok n → (range.least ≤ n) × (n ≤ range.most)
unfolding number_within
within_range names range word n e =
    let (m, at_word, here) = bound (value_at names word) (λ m. if is_within range m then Ok m else Err (fault_at OutOfRange word)) n e in
    let (fits, same) = passed (is_within range m) (Ok m) (fault_at OutOfRange word) n here in
    let (least, most) = and_parts (nat_le range.least m) (nat_le m range.most) fits in
    subst (λ (k : ℕ). (range.least ≤ k) × (k ≤ range.most)) (ok_is m n same) (leb-true range.least m least, leb-true m range.most most)

number_in_range : (names : NameLists) (range : Option Range) (word : Word) (n : ℕ) → number_at names range word ≡ Ok n → IsInRange range n
unfolding number_at
number_in_range names None word n e = cc
number_in_range names (Some range) word n e = within_range names range word n e

pub numbers_in_range : (c : Setup) (name : StatementName) (pieces : Pieces) (n : Numbers) → numbers_of c name pieces ≡ Ok n → AreInRanges c name n
unfolding numbers_of
numbers_in_range c name pieces n e =
    let (first, at_first, following) = bound (number_at c.names (first_range name c.processors c.limits.priorities) pieces.first) (λ first. number_at c.names (second_range name) pieces.second >>= λ second. Ok (record { first = first; second = second })) n e in
    let (second, at_second, here) = bound (number_at c.names (second_range name) pieces.second) (λ second. Ok (record { first = first; second = second })) n following in
    subst (AreInRanges c name) (ok_is (record { first = first; second = second }) n here) (number_in_range c.names (first_range name c.processors c.limits.priorities) pieces.first first at_first, number_in_range c.names (second_range name) pieces.second second at_second)

pub fit : (c : Setup) (kind : ObjectKind) (n : Numbers) → AreInRanges c (statements.Create kind) n → c.limits.priorities ≤ 32 → counts_fit kind n ≡ true → Fit kind n
fit c objects.Task n are few counts = (are.0.0, omega arith)
fit c objects.Semaphore n are few counts = let least = leb-true n.first n.second counts in (omega arith, are.1.1)
fit c objects.Eventflag n are few counts = are.0.1
fit c objects.DataQueue n are few counts = are.0.1
fit c objects.Pool n are few counts = are.0.1
fit c objects.Cyclic n are few counts = (are.0.1, are.1.1)
fit c objects.Alarm n are few counts = tt
fit c objects.SpinLock n are few counts = tt
