use Rattle.std.proofs.Common.{◌≡◌, ◌==◌, ◌&&◌, true, ap₂, eq-eqb, length, List, [], ◌∷◌, ℕ, flat_map}
use Rattle.text_core.specs.Adds.{Adds}
use Rattle.edid_text_lines.specs.Text.{word_text}
use Rattle.edid_difference.proofs.Adding.{told_apart}
use Rattle.edid_difference.specs.Records.{change_text}
use Rattle.edid_difference.specs.Values.{Change, change, number_changes, numbers_in, rest_changes, shape, whole_text}
use Rattle.edid_difference.proofs.records.add_changes.Goals as goal

pub returns-then-one-other : goal.returns-then-one-other
returns-then-one-other g c =
    let T : Change → List ℕ = change_text c.args.lines.form c.args.lines.block c.args.lines.number c.args.lines.other (word_text c.args.lines.word) in
    let f = c.args.first.now.fields in
    let h = c.args.second.now.fields in
    let forms : (shape f == shape h) ≡ true = eq-eqb (shape f) (shape h) (rw (c.shape.ensures, c.shape-2.ensures) at c.if-shape.true) in
    let counts : (length (numbers_in f) == length (numbers_in h)) ≡ true =
    eq-eqb (length (numbers_in f)) (length (numbers_in h)) (rw (c.numbers_in-one.ensures.value, c.numbers_in-other.ensures.value) at c.if-one-other.true) in
    let numbers : Adds c.args.out.now c.add_numbers.new.out (flat_map T (number_changes c.args.lines.word 0 (numbers_in f) (numbers_in h))) =
    rw (c.numbers_in-one.ensures.value, c.numbers_in-other.ensures.value) at c.add_numbers.ensures in
    told_apart T ((shape f == shape h) && (length (numbers_in f) == length (numbers_in h))) (number_changes c.args.lines.word 0 (numbers_in f) (numbers_in h))
    (rest_changes c.args.lines.word f h) (change [] (whole_text f) (whole_text h) ∷ []) _ _ _ (ap₂ (λ u v. u && v) forms counts) numbers c.add_rest.ensures
