use Rattle.std.proofs.Common.{rules, length, take}
use Rattle.fmp_run_devices.proofs.Pieces.{cut_at, none_left}
use Rattle.fmp_run_devices.proofs.text.TextSourceSource.read.Goals as goal

pub returns-clause-bytes : goal.returns-clause-bytes
returns-clause-bytes c =
    let at = c.args.self.now.at in
    let text = c.args.self.now.text.items in
    let count = c.fill-count.result in
    (cut_at at count (take count c.fill-count.new.buffer) text (search rules), λ none some. none_left at count (length c.args.buffer.now) text (search rules) none (search rules))
