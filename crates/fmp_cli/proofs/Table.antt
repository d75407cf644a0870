-- The command that has the parts of a command line.
use Rattle.std.proofs.Common.{◌≡◌, ◌∙◌, ◌++◌, ap, ℕ, List, [], ◌∷◌, refl, map}
use Rattle.std.specs.Prelude.{IfOk, Result}
use Rattle.std.proofs.lemmas.Result.{IfOk-weaker}
use Rattle.clap.specs.Words.{AddsArg, app_of, with_rule}
use Rattle.clap.specs.declared.builder.arg.Arg.{Arg}
use Rattle.clap.specs.declared.builder.command.Command.{Command}
use Rattle.fmp_cli.specs.declared.parts.Part.{Part}
use Rattle.fmp_cli.specs.Parts.{AddsParts, IsArg, IsLine, IsStart, rule_by, with_rules}

-- one part more
pub adds_more : (c d e : Command) (ps : List Part) (p : Part) (a : Arg) → AddsParts c ps d → IsArg p a → AddsArg d a e → AddsParts c (ps ++ p ∷ []) e
adds_more c d e [] p a h is adds = (a, e, is, rw h adds, refl)
adds_more c d e (q ∷ ps) p a h is adds = (h.0, h.1, h.2, h.3, adds_more h.1 d e ps p a h.4 is adds)

-- what a parse reads of it
rules_added : (c d : Command) (ps : List Part) → AddsParts c ps d → app_of d ≡ with_rules (app_of c) (map rule_by ps)
rules_added c d [] h = ap app_of (rw h refl)
rules_added c d (p ∷ ps) h =
    let one : app_of h.1 ≡ with_rule (app_of c) (rule_by p) = h.3.shape h.2.local ∙ ap (with_rule (app_of c)) h.2.rule in
    rules_added h.1 d ps h.4 ∙ ap (λ line. with_rules line (map rule_by ps)) one

pub line_is : (start c : Command) (name : List ℕ) (ps : List Part) → IsStart name start → AddsParts start ps c → IsLine name ps c
line_is start c name ps is adds = record {
  start = start;
  is_start = is;
  adds = adds;
  line = rules_added start c ps adds ∙ ap (λ line. with_rules line (map rule_by ps)) is.line;
}

-- what a command is by its table
pub by_line : {E : Type 0} (r : Result Command E) (name : List ℕ) (ps : List Part) (Q : Command → Type 0) → IfOk r (IsLine name ps) → ((c : Command) → IsLine name ps c → Q c) → IfOk r Q
by_line r name ps Q is gives = IfOk-weaker r _ _ gives is
