-- A parse of the command line gives both paths, and both numbers within their limits.
use Rattle.std.proofs.Common.{zero, suc, ◌≡◌, ◌∙◌, subst, ◌<◌, ◌||◌, ap, ℕ, Bool, true, false, List, [], ◌∷◌, length, Some, refl, sym, inl, inr, arith, codes}
use Rattle.std.specs.Prelude.{is_some, pos}
use Rattle.std.specs.List.{All, slice_index_or}
use Rattle.std.specs.Str.{bytes_eq}
use Rattle.std.proofs.lemmas.Bool.{true≢false, or_parts}
use Rattle.std.proofs.lemmas.Slice.Eq.{bytes_eq-Decides}
use Rattle.clap.proofs.CallerLemmas.{required_in_chain}
use Rattle.clap.specs.Built.{HasDistinctIds, FitsChain, IsParsedFrom}
use Rattle.clap.specs.Matches.{first_value, found_of, one_text}
use Rattle.clap.specs.Lexer.{without_minus}
use Rattle.clap.specs.declared.builder.arg.Arg.{Arg}
use Rattle.clap.specs.declared.builder.command.Command.{Command}
use Rattle.clap.specs.declared.builder.value_parser.ValueParser.TheVariants as parser
use Rattle.clap.specs.declared.parser.matches.ArgMatches.{ArgMatches}
use Rattle.fmp_cli.specs.Parts.{IsNumber, IsOptional, IsRequired}
use Rattle.fmp_cli.specs.Smp.{IsSmp, Gives, GivesAll, GivesLimits}
use Rattle.fmp_cli.proofs.Chains.{reads_in_chain}

differs : (a b : List ℕ) → bytes_eq a b ≡ false → a ≡ b → ⊥
differs a b f e = true≢false (sym ((bytes_eq-Decides a b).1 e) ∙ f)

-- whether a text is among others, or some text twice in a list
abbrev is_among : List ℕ → List (List ℕ) → Bool
is_among x [] = false
is_among x (y ∷ ys) = bytes_eq x y || is_among x ys

abbrev has_twice : List (List ℕ) → Bool
has_twice [] = false
has_twice (x ∷ xs) = is_among x xs || has_twice xs

other_places : (x : List ℕ) (ys : List (List ℕ)) → is_among x ys ≡ false → (k : ℕ) → k < length ys → bytes_eq x (slice_index_or ys k []) ≡ false
other_places x [] none k lt = absurd (omega arith)
other_places x (y ∷ ys) none zero lt = (or_parts (bytes_eq x y) (is_among x ys) none).0
other_places x (y ∷ ys) none (suc k) lt = other_places x ys (or_parts (bytes_eq x y) (is_among x ys) none).1 k (omega arith)

-- a text that stands at two places of a list that has none twice
one_place : (xs : List (List ℕ)) → has_twice xs ≡ false → (j k : ℕ) → j < length xs → k < length xs → slice_index_or xs j [] ≡ slice_index_or xs k [] → j ≡ k
one_place [] once j k lj lk same = absurd (omega arith)
one_place (x ∷ xs) once zero zero lj lk same = refl
one_place (x ∷ xs) once zero (suc k) lj lk same =
    absurd (differs x (slice_index_or xs k []) (other_places x xs (or_parts (is_among x xs) (has_twice xs) once).0 k (omega arith)) same)
one_place (x ∷ xs) once (suc j) zero lj lk same =
    absurd (differs x (slice_index_or xs j []) (other_places x xs (or_parts (is_among x xs) (has_twice xs) once).0 j (omega arith)) (sym same))
one_place (x ∷ xs) once (suc j) (suc k) lj lk same =
    ap suc (one_place xs (or_parts (is_among x xs) (has_twice xs) once).1 j k (omega arith) (omega arith) same)

-- what a chain asks of an argument, by its id
fits : (a : Arg) (id : List ℕ) → IsOptional a id → (id ≡ [] → ⊥) → (id ≡ codes "help" → ⊥) → (id ≡ codes "version" → ⊥) → FitsChain a
fits a id r some not_help not_version = (
  r.plain,
  r.local,
  λ e. some (sym r.named ∙ e),
  λ auto. elim auto [ inl h ↦ not_help (sym r.named ∙ h) | inr h ↦ not_version (sym r.named ∙ h) ],
)

module _ (c : Command) (s : IsSmp c) where
  abbrev chain : List Arg
  chain = s.config ∷ s.scripts ∷ s.ticks ∷ s.turns ∷ s.seed ∷ s.seeds ∷ s.find ∷ s.late ∷ s.stalls ∷ s.seconds ∷ s.strict ∷ s.progress ∷ s.context ∷ s.colour ∷ []

  all_fit : All FitsChain chain
  all_fit zero d lt = fits s.config (codes "CFG") s.is_config.optional (differs (codes "CFG") [] refl) (differs (codes "CFG") (codes "help") refl) (differs (codes "CFG") (codes "version") refl)
  all_fit (suc zero) d lt = fits s.scripts (codes "SCRIPTS") s.is_scripts.optional (differs (codes "SCRIPTS") [] refl) (differs (codes "SCRIPTS") (codes "help") refl) (differs (codes "SCRIPTS") (codes "version") refl)
  all_fit (suc (suc zero)) d lt = fits s.ticks (codes "ticks") s.is_ticks.required.optional (differs (codes "ticks") [] refl) (differs (codes "ticks") (codes "help") refl) (differs (codes "ticks") (codes "version") refl)
  all_fit (suc (suc (suc zero))) d lt = fits s.turns (codes "turns") s.is_turns.required.optional (differs (codes "turns") [] refl) (differs (codes "turns") (codes "help") refl) (differs (codes "turns") (codes "version") refl)
  all_fit (suc (suc (suc (suc zero)))) d lt = fits s.seed (codes "seed") s.is_seed (differs (codes "seed") [] refl) (differs (codes "seed") (codes "help") refl) (differs (codes "seed") (codes "version") refl)
  all_fit (suc (suc (suc (suc (suc zero))))) d lt = fits s.seeds (codes "seeds") s.is_seeds (differs (codes "seeds") [] refl) (differs (codes "seeds") (codes "help") refl) (differs (codes "seeds") (codes "version") refl)
  all_fit (suc (suc (suc (suc (suc (suc zero)))))) d lt = fits s.find (codes "find") s.is_find (differs (codes "find") [] refl) (differs (codes "find") (codes "help") refl) (differs (codes "find") (codes "version") refl)
  all_fit (suc (suc (suc (suc (suc (suc (suc zero))))))) d lt = fits s.late (codes "late") s.is_late (differs (codes "late") [] refl) (differs (codes "late") (codes "help") refl) (differs (codes "late") (codes "version") refl)
  all_fit (suc (suc (suc (suc (suc (suc (suc (suc zero)))))))) d lt = fits s.stalls (codes "stalls") s.is_stalls (differs (codes "stalls") [] refl) (differs (codes "stalls") (codes "help") refl) (differs (codes "stalls") (codes "version") refl)
  all_fit (suc (suc (suc (suc (suc (suc (suc (suc (suc zero))))))))) d lt = fits s.seconds (codes "seconds") s.is_seconds (differs (codes "seconds") [] refl) (differs (codes "seconds") (codes "help") refl) (differs (codes "seconds") (codes "version") refl)
  all_fit (suc (suc (suc (suc (suc (suc (suc (suc (suc (suc zero)))))))))) d lt = fits s.strict (codes "strict") s.is_strict (differs (codes "strict") [] refl) (differs (codes "strict") (codes "help") refl) (differs (codes "strict") (codes "version") refl)
  all_fit (suc (suc (suc (suc (suc (suc (suc (suc (suc (suc (suc zero))))))))))) d lt = fits s.progress (codes "progress") s.is_progress (differs (codes "progress") [] refl) (differs (codes "progress") (codes "help") refl) (differs (codes "progress") (codes "version") refl)
  all_fit (suc (suc (suc (suc (suc (suc (suc (suc (suc (suc (suc (suc zero)))))))))))) d lt = fits s.context (codes "context") s.is_context (differs (codes "context") [] refl) (differs (codes "context") (codes "help") refl) (differs (codes "context") (codes "version") refl)
  all_fit (suc (suc (suc (suc (suc (suc (suc (suc (suc (suc (suc (suc (suc zero))))))))))))) d lt = fits s.colour (codes "color") s.is_colour (differs (codes "color") [] refl) (differs (codes "color") (codes "help") refl) (differs (codes "color") (codes "version") refl)
  all_fit (suc (suc (suc (suc (suc (suc (suc (suc (suc (suc (suc (suc (suc (suc k)))))))))))))) d lt = absurd (omega arith)

  -- the ids, in order
  abbrev ids : List (List ℕ)
  ids = codes "CFG" ∷ codes "SCRIPTS" ∷ codes "ticks" ∷ codes "turns" ∷ codes "seed" ∷ codes "seeds" ∷ codes "find" ∷ codes "late" ∷ codes "stalls" ∷ codes "seconds" ∷ codes "strict" ∷ codes "progress" ∷ codes "context" ∷ codes "color" ∷ []

  id_at : (k : ℕ) (d : Arg) → k < 14 → (slice_index_or chain k d).id.now ≡ slice_index_or ids k []
  id_at zero d lt = s.is_config.optional.named
  id_at (suc zero) d lt = s.is_scripts.optional.named
  id_at (suc (suc zero)) d lt = s.is_ticks.required.optional.named
  id_at (suc (suc (suc zero))) d lt = s.is_turns.required.optional.named
  id_at (suc (suc (suc (suc zero)))) d lt = s.is_seed.named
  id_at (suc (suc (suc (suc (suc zero))))) d lt = s.is_seeds.named
  id_at (suc (suc (suc (suc (suc (suc zero)))))) d lt = s.is_find.named
  id_at (suc (suc (suc (suc (suc (suc (suc zero))))))) d lt = s.is_late.named
  id_at (suc (suc (suc (suc (suc (suc (suc (suc zero)))))))) d lt = s.is_stalls.named
  id_at (suc (suc (suc (suc (suc (suc (suc (suc (suc zero))))))))) d lt = s.is_seconds.named
  id_at (suc (suc (suc (suc (suc (suc (suc (suc (suc (suc zero)))))))))) d lt = s.is_strict.named
  id_at (suc (suc (suc (suc (suc (suc (suc (suc (suc (suc (suc zero))))))))))) d lt = s.is_progress.named
  id_at (suc (suc (suc (suc (suc (suc (suc (suc (suc (suc (suc (suc zero)))))))))))) d lt = s.is_context.named
  id_at (suc (suc (suc (suc (suc (suc (suc (suc (suc (suc (suc (suc (suc zero))))))))))))) d lt = s.is_colour.named
  id_at (suc (suc (suc (suc (suc (suc (suc (suc (suc (suc (suc (suc (suc (suc k)))))))))))))) d lt = absurd (omega arith)

  distinct : HasDistinctIds chain
  distinct j k d e lj lk same =
      one_place ids refl j k (omega (arith, lj)) (omega (arith, lk))
      (sym (id_at j e (omega (arith, lj))) ∙ ((bytes_eq-Decides _ _).0 same ∙ id_at k d (omega (arith, lk))))

  number : (m : ArgMatches) (k : ℕ) (a : Arg) (id : List ℕ) (low high : ℕ) → IsParsedFrom c m → k < 14 → slice_index_or chain k a ≡ a → IsNumber a id low high → Gives m id low high
  number m k a id low high p lt at is =
      let got = reads_in_chain s.start c chain k a m s.chain s.is_start.no_arguments s.is_start.no_groups s.is_start.no_globals s.is_start.negates_nothing all_fit distinct lt
      (rw at is.required.takes) (parser.Signed (pos low) (pos high)) (ap (λ (x : Arg). x.value_parser) at ∙ is.range) p in
      let named : (slice_index_or chain k a).id.now ≡ id = ap (λ (x : Arg). x.id.now) at ∙ is.required.optional.named in
      (got.0, subst (λ (w : List ℕ). one_text (found_of m) w ≡ Some (without_minus got.0)) named got.1, got.2)

  pub gives_limits : (m : ArgMatches) → IsParsedFrom c m → GivesLimits m
  gives_limits m p = record {
    ticks = number m 2 s.ticks (codes "ticks") 0 1000000 p (omega arith) refl s.is_ticks;
    turns = number m 3 s.turns (codes "turns") 1 1000000 p (omega arith) refl s.is_turns;
  }

  path : (m : ArgMatches) (k : ℕ) (a : Arg) (id : List ℕ) → IsParsedFrom c m → k < 14 → slice_index_or chain k a ≡ a → IsRequired a id → is_some (first_value (found_of m) id) ≡ true
  path m k a id p lt at is =
      let got = required_in_chain s.start c chain k a m s.chain s.is_start.no_arguments s.is_start.no_groups s.is_start.no_globals s.is_start.negates_nothing all_fit distinct lt
      (rw at is.takes) p in
      let named : (slice_index_or chain k a).id.now ≡ id = ap (λ (x : Arg). x.id.now) at ∙ is.optional.named in
      subst (λ (w : List ℕ). is_some (first_value (found_of m) w) ≡ true) named got

  pub gives_all : (m : ArgMatches) → IsParsedFrom c m → GivesAll m
  gives_all m p = record {
    limits = gives_limits m p;
    config = path m 0 s.config (codes "CFG") p (omega arith) refl s.is_config;
    scripts = path m 1 s.scripts (codes "SCRIPTS") p (omega arith) refl s.is_scripts;
  }
