use Rattle.std.proofs.Common.{◌≡◌, ◌++◌, ◌∙◌, ℕ, List, Ok, ap, subst, rules}
use Rattle.fmp_codes.specs.Records.{AreOn}
use Rattle.fmp_names.specs.Names.{NameLists}
use Rattle.fmp_run_devices.specs.Devices.{BeginsWith, bytes_of}
use Rattle.fmp_search_question.specs.Reading.{question_in}
use Rattle.fmp_search_question.proofs.Short.{question_short}
use Rattle.fmp_run_shrink.proofs.run.run_shrink.Goals as goal

pub left_of-requires-clause-short : goal.left_of-requires-clause-short
left_of-requires-clause-short g c = question_short c.names.result.now c.args.question.now c.in-Ok-question_from.asked c.in-Ok-question_from.ensures.asks

pub left_of-requires-clause-on : goal.left_of-requires-clause-on
left_of-requires-clause-on g c = subst (λ (n : ℕ). AreOn n c.in-Ok.texts.1.items) c.names.ensures.valid.same_processors c.in-Ok.ensures.keeps.on

pub returns-in-Ok-write_out-clause-writes : goal.returns-in-Ok-write_out-clause-writes
returns-in-Ok-write_out-clause-writes g c =
    record {
      whole = λ configs texts writes.
          let old = bytes_of (g.W.Sink.written c.args.output.now) in
          let asked = c.in-Ok-question_from.asked in (
            c.in-Ok-left_of.left.1.items,
            record {
              config = c.in-Ok.texts.0;
              events = c.in-Ok.texts.1.items;
              question = asked;
              says = c.in-Ok.ensures.says configs;
              lists = c.in-Ok.ensures.made texts;
              asks = subst (λ (names : NameLists). question_in names c.args.question.now ≡ Ok asked) c.names.ensures.value c.in-Ok-question_from.ensures.asks;
              leaves = c.in-Ok-left_of.ensures;
            },
            c.in-Ok-write_out.ensures.ok writes ∙ ap (λ (text : List ℕ). old ++ text) c.as_slice.ensures.value,
          );
      passed = search rules;
      begun = search rules;
      unwritten = search rules;
    }

pub returns-clause-writes : goal.returns-clause-writes
returns-clause-writes g c =
    record {
      whole = search rules;
      passed = search rules;
      begun = λ configs texts writes is.
          let old = bytes_of (g.W.Sink.written c.args.output.now) in
          let new = bytes_of (g.W.Sink.written c.write_out.new.sink) in
          let asked = c.in-Ok-question_from.asked in (
            c.in-Ok-left_of.left.1.items,
            c.in-Ok-left_of.left.0,
            record {
              config = c.in-Ok.texts.0;
              events = c.in-Ok.texts.1.items;
              question = asked;
              says = c.in-Ok.ensures.says configs;
              lists = c.in-Ok.ensures.made texts;
              asks = subst (λ (names : NameLists). question_in names c.args.question.now ≡ Ok asked) c.names.ensures.value c.in-Ok-question_from.ensures.asks;
              leaves = c.in-Ok-left_of.ensures;
            },
            subst (λ (text : List ℕ). BeginsWith old text new) c.as_slice.ensures.value (c.in-Err-write_out.ensures.err writes),
          );
      unwritten = search rules;
    }
