use Rattle.std.proofs.Common.{rules, arith, ◌≡◌, ◌-◌, ◌++◌, ◌∷◌, [], length, take}
use Rattle.std.proofs.lemmas.Grind.{common_steps}
use Rattle.edid_texts.proofs.Passing.{field_fault}
use Rattle.edid_texts.proofs.standing.word_at_fault.Goals as goal

pub returns-then-has_words : goal.returns-then-has_words
returns-then-has_words c =
    let line = c.args.line.now in
    let front = take (length line - 1) line in
    let ended : line ≡ front ++ 10 ∷ [] = grind (arith, common_steps) in
    field_fault c.args.place line c.in-Some.word front c.unfit_word.result ended c.in-Some.ensures.found (search rules) (search rules) c.unfit_word.ensures
