use Rattle.std.proofs.Common.{rules, ◌≡◌, ◌≤◌, ◌+◌, ◌++◌, codes, length, slice_get, Some, None, ap, sym, ◌∙◌, arith}
use Rattle.meaning_words.specs.Notes.{text_between}
use Rattle.meaning_fields.proofs.Choices.{words_some, words_none, short_at}
use Rattle.meaning_fields.proofs.fields.append_words_of.Goals as goal

pub append-requires : goal.append-requires
append-requires c =
    let at : slice_get c.args.texts.now c.args.value ≡ Some c.in-Some.choice = search rules in
    let short = short_at c.args.texts.now c.args.value c.in-Some.choice c.requires.short_texts at in
    let same = ap length c.as_bytes.ensures.value in
    let room = c.requires.room in
    omega (arith, short, same, room)

pub returns-in-Some-clause-items : goal.returns-in-Some-clause-items
returns-in-Some-clause-items c =
    let at : slice_get c.args.texts.now c.args.value ≡ Some c.in-Some.choice = search rules in
    c.append.ensures.items ∙ ap (λ l. c.args.note.now.items ++ l) (c.as_bytes.ensures.value ∙ sym (words_some c.args.before.now c.args.texts.now c.args.value c.in-Some.choice at))

pub returns-in-Some-clause-len : goal.returns-in-Some-clause-len
returns-in-Some-clause-len c =
    let at : slice_get c.args.texts.now c.args.value ≡ Some c.in-Some.choice = search rules in
    let short = short_at c.args.texts.now c.args.value c.in-Some.choice c.requires.short_texts at in
    let same = ap length c.as_bytes.ensures.value in
    let len = c.append.ensures.len in
    omega (arith, short, same, len)

pub returns-in-None-clause-items : goal.returns-in-None-clause-items
returns-in-None-clause-items c =
    let none : slice_get c.args.texts.now c.args.value ≡ None = search rules in
    c.append_number.ensures.items ∙ ap (λ l. c.args.note.now.items ++ l) (sym (words_none c.args.before.now c.args.texts.now c.args.value none))
