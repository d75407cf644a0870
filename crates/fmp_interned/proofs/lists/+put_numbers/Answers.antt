use Rattle.std.proofs.Common.{rules, ◌≡◌, ◌∙◌, ◌+◌, ◌<◌, ◌/◌, ap, length, sym, arith}
use Rattle.std.specs.Prelude.{replicate}
use Rattle.fmp_interned.proofs.Trees.{short_written, tree_halves, tree_pair, tree_written}
use Rattle.fmp_interned.proofs.lists.+put_numbers.Goals as goal

pub returns-then-numbers-lt2 : goal.returns-then-numbers-lt2
returns-then-numbers-lt2 t c = λ xs long is.
    let few : length xs < 2 = omega (arith, long) in
    let filled : c.fill.new.self ≡ replicate (length c.args.numbers.now) c.args.key = search rules in
    filled ∙ ap (λ n. replicate n c.args.key) (sym long) ∙ short_written c.args.pairs.now xs c.args.key few is

pub get-requires : goal.get-requires
get-requires t c =
    let count = length c.args.numbers.now in
    tree_pair c.args.pairs.now count c.args.key (omega arith) c.requires

pub put_numbers-requires : goal.put_numbers-requires
put_numbers-requires t c =
    let first = length c.split_at_mut-first.result.0.now in
    let rest = length c.split_at_mut-first.result.1.now in
    let parts = c.split_at_mut-first.ensures in (
      search rules,
      (tree_halves c.args.pairs.now c.get.result.now (length c.args.numbers.now) c.args.key first rest (omega arith) parts.front_len
          (ap (λ n. rest + n) parts.front_len ∙ parts.back_len) c.get.ensures c.requires).0,
    )

pub put_numbers-requires-2 : goal.put_numbers-requires-2
put_numbers-requires-2 t c =
    let first = length c.split_at_mut-first.result.0.now in
    let rest = length c.split_at_mut-first.result.1.now in
    let parts = c.split_at_mut-first.ensures in (
      search rules,
      (tree_halves c.args.pairs.now c.get.result.now (length c.args.numbers.now) c.args.key first rest (omega arith) parts.front_len
          (ap (λ n. rest + n) parts.front_len ∙ parts.back_len) c.get.ensures c.requires).1,
    )

pub returns : goal.returns
returns t c = λ xs long is.
    let first = length c.split_at_mut-first.result.0.now in
    let rest = length c.split_at_mut-first.result.1.now in
    let parts = c.split_at_mut-first.ensures in
    tree_written c.args.pairs.now xs c.get.result.now c.put_numbers.new.numbers c.put_numbers-2.new.numbers c.args.key first rest (omega (arith, long)) (parts.front_len ∙ ap (λ n. n / 2) (sym long))
    (ap (λ n. rest + n) parts.front_len ∙ parts.back_len ∙ sym long) c.get.ensures is c.put_numbers.ensures c.put_numbers-2.ensures
