use Rattle.std.proofs.Common.{rules, ◌≡◌, ℕ, ◌-◌, ◌≤◌, nat_le, true, false, [], ◌++◌, codes, refl, sym, ap, ◌∙◌, arith}
use Rattle.std.proofs.lemmas.Bool.Decides.{nat_tests}
use Rattle.meaning_words.specs.Notes.{text_between}
use Rattle.meaning_extended.specs.Videos.{is_reserved, preference_text}
use Rattle.meaning_extended.proofs.videos.preference_note.Goals as goal

detailed : (v : ℕ) → is_reserved v ≡ false → 129 ≤ v → v ≤ 144 → preference_text v ≡ text_between (codes "detailed timing ") (v - 128) []
detailed v h low high =
    let a : nat_le 129 v ≡ true = grind (arith, nat_tests) in
    let b : nat_le v 144 ≡ true = grind (arith, nat_tests) in
    rw (h, a, b) refl

further : (v : ℕ) → is_reserved v ≡ false → 145 ≤ v → v ≤ 160 → preference_text v ≡ text_between (codes "further timing ") (v - 144) []
further v h low high =
    let a : nat_le 129 v ≡ true = grind (arith, nat_tests) in
    let b : nat_le v 144 ≡ false = grind (arith, nat_tests) in
    let d : nat_le 145 v ≡ true = grind (arith, nat_tests) in
    let e : nat_le v 160 ≡ true = grind (arith, nat_tests) in
    rw (h, a, b, d, e) refl

pub returns-then-reference-le144-clause-value : goal.returns-then-reference-le144-clause-value
returns-then-reference-le144-clause-value c =
    let none : c.new-note.result.items ≡ [] = search rules in
    let number : c.from.result ≡ c.args.reference - 128 = search rules in
    let said : c.append_between.new.note.items ≡ c.new-note.result.items ++ text_between (codes "detailed timing ") c.from.result [] = c.append_between.ensures.items in
    said ∙ ap (λ l. l ++ text_between (codes "detailed timing ") c.from.result []) none ∙ ap (λ n. text_between (codes "detailed timing ") n []) number
    ∙ sym (detailed c.args.reference (sym c.is_reserved.ensures ∙ c.if-is_reserved.false) c.if-reference-ge129.true c.if-reference-le144.true)

pub returns-then-reference-le160-clause-value : goal.returns-then-reference-le160-clause-value
returns-then-reference-le160-clause-value c =
    let none : c.new-note.result.items ≡ [] = search rules in
    let number : c.from-then-reference-le160.result ≡ c.args.reference - 144 = search rules in
    let said : c.append_between-then-reference-le160.new.note.items ≡ c.new-note.result.items ++ text_between (codes "further timing ") c.from-then-reference-le160.result [] =
    c.append_between-then-reference-le160.ensures.items in
    said ∙ ap (λ l. l ++ text_between (codes "further timing ") c.from-then-reference-le160.result []) none ∙ ap (λ n. text_between (codes "further timing ") n []) number
    ∙ sym (further c.args.reference (sym c.is_reserved.ensures ∙ c.if-is_reserved.false) c.if-reference-ge145.true c.if-reference-le160.true)
