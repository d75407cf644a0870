-- What an argument of a chain gives.
use Rattle.std.proofs.Common.{zero, suc, ◌≡◌, ◌∙◌, ◌++◌, subst, ◌<◌, ◌≤◌, ap, ◌||◌, ℕ, Bool, true, false, List, [], ◌∷◌, length, Some, None, refl, sym, inl, inr, arith}
use Rattle.std.specs.List.{All, slice_index_or}
use Rattle.std.specs.Str.{bytes_eq}
use Rattle.std.proofs.lemmas.List.Elements.{All-nil}
use Rattle.std.proofs.lemmas.List.{append-nil, append_assoc}
use Rattle.clap.specs.Facts.{args_of, groups_of, least_values}
use Rattle.clap.specs.Built.{AddsInTurn, HasDistinctIds, FitsChain, KeepsList, TakesValue, IsPlain, IsPlainArg, IsParsedFrom, AddsArg, SameRules}
use Rattle.clap.specs.Matches.{found_of, one_text}
use Rattle.clap.specs.Values.{Accepts, read_as, reading_of}
use Rattle.clap.proofs.CallerLemmas.{added_plain}
use Rattle.clap.proofs.CallerReads.{required_reads}
use Rattle.clap.specs.declared.builder.action.ArgAction.TheVariants.{Set}
use Rattle.clap.specs.declared.builder.arg.Arg.{Arg}
use Rattle.clap.specs.declared.builder.command.Command.{Command}
use Rattle.clap.specs.declared.builder.command.Command.TheViews.{out-Command}
use Rattle.clap.specs.declared.builder.value_parser.ValueParser.{ValueParser}
use Rattle.clap.specs.declared.parser.matches.ArgMatches.{ArgMatches}

all_rest : {X : Type 0} (P : X → Type 0) (x : X) (xs : List X) → All P (x ∷ xs) → All P xs
all_rest P x xs h = λ k d lt. h (suc k) d (omega arith)

chain_places : (x y : Arg) (xs ys : List Arg) → SameRules x y
    → ((k : ℕ) (e g : Arg) → k < length xs → SameRules (slice_index_or xs k e) (slice_index_or ys k g))
    → (k : ℕ) (e g : Arg) → k < length (x ∷ xs) → SameRules (slice_index_or (x ∷ xs) k e) (slice_index_or (y ∷ ys) k g)
chain_places x y xs ys r rest zero e g lt = r
chain_places x y xs ys r rest (suc n) e g lt = rest n e g (omega arith)

-- what a chain of arguments keeps: the arguments that it adds, place by place, and a command of the same kind
chain_facts : (c d : Command) (xs : List Arg) → AddsInTurn AddsArg c xs d → All FitsChain xs → IsPlain c
    → (out-Command c).has_globals ≡ false → (out-Command c).subcommand_negates_reqs ≡ false
    → (ys : List Arg) × (args_of d ≡ args_of c ++ ys) × KeepsList xs ys × IsPlain d
    × ((out-Command d).has_globals ≡ false) × ((out-Command d).subcommand_negates_reqs ≡ false)
chain_facts c d [] h all plain globals negates =
    ([], rw h (sym (append-nil _)), (refl, (λ k e f lt. absurd (omega arith))), rw (← h) plain, rw (← h) globals, rw (← h) negates)
chain_facts c d (x ∷ xs) h all plain globals negates =
    let added = h.1 in
    let fit = all 0 x (omega arith) in
    let plain2 = added_plain c h.0 x added plain fit.0 in
    let globals2 = added.globals ∙ (ap (λ b. b || x.global) globals ∙ ap (λ b. false || b) fit.1) in
    let f = chain_facts h.0 d xs h.2 (all_rest FitsChain x xs all) plain2 globals2 (added.negates ∙ negates) in (
      added.arg ∷ f.0,
      f.1 ∙ (ap (λ l. l ++ f.0) added.args ∙ append_assoc (args_of c) (added.arg ∷ []) f.0),
      (ap suc f.2.0, chain_places x added.arg xs f.0 added.rules f.2.1),
      f.3,
      f.4,
      f.5,
    )

-- an argument of a chain of `.arg(..)` calls that is required and takes a value has a text that passed its parser, and is read as
-- that parser says, where nothing excludes anything and no two ids are one
pub reads_in_chain : (start cmd : Command) (xs : List Arg) (k : ℕ) (d : Arg) (m : ArgMatches) → AddsInTurn AddsArg start xs cmd
    → args_of start ≡ [] → groups_of start ≡ [] → (out-Command start).has_globals ≡ false → (out-Command start).subcommand_negates_reqs ≡ false
    → All FitsChain xs → HasDistinctIds xs → k < length xs → TakesValue (slice_index_or xs k d)
    → (q : ValueParser) → (slice_index_or xs k d).value_parser ≡ Some q → IsParsedFrom cmd m
    → (t : List ℕ) × (one_text (found_of m) (slice_index_or xs k d).id.now ≡ Some (read_as (reading_of q) t))
    × Accepts (slice_index_or xs k d).ignore_case q t
reads_in_chain start cmd xs k d m chain args groups globals negates all distinct lt value q parser p =
    let start-plain : IsPlain start = (subst (All IsPlainArg) (sym args) (All-nil IsPlainArg), groups) in
    let f = chain_facts start cmd xs chain all start-plain globals negates in
    let list : args_of cmd ≡ f.0 = f.1 ∙ ap (λ l. l ++ f.0) args in
    let a = slice_index_or xs k d in
    let b = slice_index_or (args_of cmd) k d in
    let elem : b ≡ slice_index_or f.0 k d = ap (λ l. slice_index_or l k d) list in
    let rules = f.2.1 k d d lt in
    let fit = all k d lt in
    let len : length (args_of cmd) ≡ length xs = ap length list ∙ f.2.0 in
    let in-cmd : k < length (args_of cmd) = omega (arith, len, lt) in
    let same-id : b.id ≡ a.id = ap (λ x. x.id) elem ∙ rules.id in
    let same-now : b.id.now ≡ a.id.now = ap (λ x. x.now) same-id in
    let wanted : b.required ≡ true = ap (λ x. x.required) elem ∙ (rules.required ∙ value.0) in
    let is-set : b.action ≡ Some Set = ap (λ x. x.action) elem ∙ rules.action Set value.1 in
    let no-delim : b.val_delim ≡ None = ap (λ x. x.val_delim) elem ∙ (rules.val_delim ∙ value.2) in
    let some-value : 1 ≤ least_values b = subst (λ x. 1 ≤ least_values x) (sym elem) (rules.least value.1 value.3) in
    let is-parser : b.value_parser ≡ Some q = ap (λ x. x.value_parser) elem ∙ rules.parser q parser in
    let same-case : b.ignore_case ≡ a.ignore_case = ap (λ x. x.ignore_case) elem ∙ rules.ignore_case in
    let only : (j : ℕ) (e : Arg) → j < length (args_of cmd) → bytes_eq (slice_index_or (args_of cmd) j e).id.now b.id.now ≡ true → j ≡ k =
    λ j e low same.
    let in-xs : j < length xs = omega (arith, len, low) in
    let there : (slice_index_or (args_of cmd) j e).id ≡ (slice_index_or xs j e).id =
    ap (λ x. x.id) (ap (λ l. slice_index_or l j e) list) ∙ (f.2.1 j e e in-xs).id in
    distinct j k d e in-xs lt (rw (← ap (λ x. x.now) there, ← same-now) same) in
    let got = required_reads cmd m p f.3 f.4 f.5 k d in-cmd wanted is-set no-delim some-value only
    (λ empty. fit.2 (sym same-now ∙ empty))
    (λ auto. fit.3 (elim auto [ inl h ↦ inl (sym same-now ∙ h) | inr h ↦ inr (sym same-now ∙ h) ]))
    q is-parser in
    (got.0, subst (λ (w : List ℕ). one_text (found_of m) w ≡ Some (read_as (reading_of q) got.0)) same-now got.1, subst (λ (w : Bool). Accepts w q got.0) same-case got.2)
