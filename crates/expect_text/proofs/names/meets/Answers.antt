use Rattle.std.proofs.Common.{◌∙◌, ap, codes, List, ℕ, sym}
use Rattle.expect_text.specs.Fits.{fits}
use Rattle.expect_text.specs.Names.{for_byte, for_first, holds_in, last_word, meets, named_as}
use Rattle.expect_text.proofs.Naming.{names_none, names_some}
use Rattle.expect_text.proofs.names.meets.Goals as goal

pub returns-in-None : goal.returns-in-None
unfolding meets
returns-in-None c =
    c.fits.ensures ∙ sym (names_none (holds_in (last_word c.args.text.now)) (λ p. fits p c.args.text.now) c.args.pattern.now (sym c.in-None.ensures))

pub returns-in-Some : goal.returns-in-Some
unfolding meets
returns-in-Some c =
    let text = c.args.text.now in
    let named = named_as c.in-Some.named in
    c.meets_by.ensures
    ∙ ap (λ (word : List ℕ). for_byte (holds_in word) (for_first (holds_in word) (λ p. fits p text)) named (codes "0123456789abcde")) c.last_from.ensures
    ∙ sym (names_some (holds_in (last_word text)) (λ p. fits p text) c.args.pattern.now named (sym c.in-Some.ensures))
