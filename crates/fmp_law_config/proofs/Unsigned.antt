-- No word of a statement is a `-` and more.
use Rattle.std.proofs.Common.{◌≡◌, false, true, List, [], ◌∷◌, ◌++◌, map, Ok, refl, sym, subst}
use Rattle.std.specs.List.{AllByRecursion}
use Rattle.fmp_config_statements.specs.Lexing.{Lexeme}
use Rattle.fmp_config_statements.specs.declared.parts.Item.{Item}
use Rattle.fmp_config_statements.specs.declared.parts.Item.TheVariants as items
use Rattle.fmp_config_statements.specs.declared.parts.Scan.{Scan}
use Rattle.fmp_config_statements.specs.declared.parts.Scan.TheVariants.{Mark, One, Next, More, Free, Method, Master, Nothing}
use Rattle.fmp_config_statements.specs.Forms.{Form, form_step}
use Rattle.fmp_config_statements.specs.Pieces.{Pieces, with_item, kept_from, no_pieces}
use Rattle.fmp_config_statements.specs.Words.{Word, word_of}
use Rattle.fmp_law_config.specs.Tokens.{glyph_of}
use Rattle.fmp_law_config.proofs.Numerals.{is_signed}
use Rattle.fmp_law_config.proofs.Stages.{phrase_of, AreUnsigned}
use Rattle.fmp_law_config.proofs.Glyphs.{is_glyph, glyph_unsigned}
use Rattle.fmp_law_config.proofs.Taken.{moved}

abbrev pub All : List Word → Type 0
All words = AllByRecursion (λ w. is_signed w ≡ false) (map (λ w. w.text) words)

one_more : (words : List Word) (w : Word) → All words → is_signed w.text ≡ false → All (words ++ w ∷ [])
one_more [] w all is = (is, tt)
one_more (x ∷ words) w all is = (all.0, one_more words w all.1 is)

item_unsigned : (item : Item) (w : Word) (p : Pieces) → is_signed w.text ≡ false → AreUnsigned (phrase_of p) → AreUnsigned (phrase_of (with_item item w p))
item_unsigned items.Name w p is u = record { first = u.first; second = u.second; series = u.series }
item_unsigned items.Function w p is u = record { first = u.first; second = u.second; series = u.series }
item_unsigned items.First w p is u = record { first = is; second = u.second; series = u.series }
item_unsigned items.Second w p is u = record { first = u.first; second = is; series = u.series }
item_unsigned items.Attribute w p is u = record { first = u.first; second = u.second; series = one_more p.series w u.series is }
item_unsigned items.Member w p is u = record { first = u.first; second = u.second; series = one_more p.series w u.series is }
item_unsigned items.Text w p is u = u

kept_unsigned : (from : Scan) (w : Word) (p : Pieces) → is_signed w.text ≡ false → AreUnsigned (phrase_of p) → AreUnsigned (phrase_of (kept_from from w p))
kept_unsigned (One item) w p is u = item_unsigned item w p is u
kept_unsigned (Next byte item) w p is u = item_unsigned item w p is u
kept_unsigned (Mark byte) w p is u = u
kept_unsigned (More byte item) w p is u = u
kept_unsigned (Free depth taken) w p is u = u
kept_unsigned Method w p is u = u
kept_unsigned Master w p is u = u
kept_unsigned Nothing w p is u = u

pub form_unsigned : (f : Form) (t : Lexeme) (next : Form) → form_step f t ≡ Ok next → is_glyph (glyph_of t) ≡ true → AreUnsigned (phrase_of f.pieces) → AreUnsigned (phrase_of next.pieces)
form_unsigned f t next e is u =
    let m = moved f t next e in
    subst (λ (p : Pieces). AreUnsigned (phrase_of p)) (sym m.pieces) (kept_unsigned m.from (word_of t) f.pieces (glyph_unsigned (glyph_of t) is) u)

pub none_unsigned : AreUnsigned (phrase_of no_pieces)
none_unsigned = record { first = refl; second = refl; series = tt }
