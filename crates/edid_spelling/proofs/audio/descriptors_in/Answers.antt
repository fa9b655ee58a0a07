use Rattle.std.proofs.Common.{rules, ◌<◌, length, sym, ◌∙◌, arith}
use Rattle.std.specs.Option.{option_copied}
use Rattle.text_core.specs.Words.{words_after}
use Rattle.edid_spelling.specs.Audio.{descriptor_bytes}
use Rattle.edid_spelling.proofs.WordLemmas.{IsFour, descriptor_read}
use Rattle.edid_spelling.proofs.audio.descriptors_in.Goals as goal

pub descriptors-preserved : goal.descriptors-preserved
descriptors-preserved c =
    let words = words_after (option_copied c.descriptors.rest) in
    let rest = words_after (option_copied c.next_word-in-Some-2.result.1) in
    let few : length c.descriptors.payload.items < 30 = search rules in
    let four : IsFour words c.first_word.result.0.now c.next_word.result.0.now c.next_word-in-Some.result.0.now c.next_word-in-Some-2.result.0.now rest = record {
      w1 = words_after (option_copied c.first_word.result.1);
      w2 = words_after (option_copied c.next_word.result.1);
      w3 = words_after (option_copied c.next_word-in-Some.result.1);
      first = rw c.in-Some.is c.first_word.ensures;
      second = c.next_word.ensures.word;
      after_second = c.next_word.ensures.rest;
      third = c.next_word-in-Some.ensures.word;
      after_third = c.next_word-in-Some.ensures.rest;
      fourth = c.next_word-in-Some-2.ensures.word;
      after_fourth = c.next_word-in-Some-2.ensures.rest;
    } in
    let read = descriptor_read c.descriptors.payload.items (descriptor_bytes c.in-Ok.descriptor) words c.first_word.result.0.now c.next_word.result.0.now c.next_word-in-Some.result.0.now c.next_word-in-Some-2.result.0.now rest four few c.in-Ok.ensures in
    record {
      reads = rw c.push_descriptor.ensures.items (sym read ∙ c.descriptors.invariant.reads);
      few = omega (arith, c.push_descriptor.ensures.len, few);
    }
