use Rattle.fmp_cli.specs.Smp.{IsSmp}
use Rattle.fmp_cli.proofs.Table.{by_line}
use Rattle.fmp_cli.proofs.smp.smp_command.Goals as goal

pub returns : goal.returns
returns c = by_line c.line.result _ _ IsSmp c.line.ensures (λ d h.
    let one = h.adds in
    let two = one.4 in
    let three = two.4 in
    let four = three.4 in
    let five = four.4 in
    let six = five.4 in
    let seven = six.4 in
    let eight = seven.4 in
    let nine = eight.4 in
    let ten = nine.4 in
    let eleven = ten.4 in
    let twelve = eleven.4 in
    let thirteen = twelve.4 in
    let fourteen = thirteen.4 in
    record {
      start = h.start;
      config = one.0;
      scripts = two.0;
      ticks = three.0;
      turns = four.0;
      seed = five.0;
      seeds = six.0;
      find = seven.0;
      late = eight.0;
      stalls = nine.0;
      seconds = ten.0;
      strict = eleven.0;
      progress = twelve.0;
      context = thirteen.0;
      colour = fourteen.0;
      chain = (one.1, one.3, (two.1, two.3, (three.1, three.3, (four.1, four.3, (five.1, five.3, (six.1, six.3, (seven.1, seven.3, (eight.1, eight.3, (nine.1, nine.3, (ten.1, ten.3, (eleven.1, eleven.3, (twelve.1, twelve.3, (thirteen.1, thirteen.3, (fourteen.1, fourteen.3, fourteen.4))))))))))))));
      is_start = h.is_start;
      is_config = one.2.kind;
      is_scripts = two.2.kind;
      is_ticks = three.2.kind;
      is_turns = four.2.kind;
      is_seed = five.2.kind;
      is_seeds = six.2.kind;
      is_find = seven.2.kind;
      is_late = eight.2.kind;
      is_stalls = nine.2.kind;
      is_seconds = ten.2.kind;
      is_strict = eleven.2.kind;
      is_progress = twelve.2.kind;
      is_context = thirteen.2.kind;
      is_colour = fourteen.2.kind;
      line = h.line;
    })
