use Rattle.std.proofs.Common.{◌≡◌, ◌<◌, ℕ, Bool, true, false, List, take, drop, refl, sym, ap, ◌∙◌, arith}
use Rattle.std.specs.List.{position_or_len}
use Rattle.message_text.specs.FrameText.{opcode_text}
use Rattle.message_table.specs.Table.{operands_of}
use Rattle.message_text.specs.Refusals.{IsCommand, after_name, has_addresses, has_count, is_space, is_too_long, name_in}
use Rattle.message_table.specs.declared.operand.Operands.{Operands}
use Rattle.message_text.proofs.refusal.cause.Goals as goal

counted : (text words front operands : List ℕ) (code n : ℕ) (form : Operands) (addresses long count : Bool)
    → addresses ≡ has_addresses text → addresses ≡ true → words ≡ drop 4 text → n ≡ position_or_len is_space words → front ≡ take n words
    → opcode_text code ≡ front → code < 256 → operands ≡ drop n words → long ≡ is_too_long operands → long ≡ false → form ≡ operands_of code
    → count ≡ has_count form operands
    → (code : ℕ) × (IsCommand text code × (is_too_long (after_name text) ≡ false) × (has_count (operands_of code) (after_name text) ≡ count))
counted text words front operands code n form addresses long count a a_true w n_is f named small o l l_false form_is h =
    let at : n ≡ position_or_len is_space (drop 4 text) = n_is ∙ ap (λ t. position_or_len is_space t) w in
    let name : front ≡ name_in text = f ∙ rw (at, w) refl in
    let rest : operands ≡ after_name text = o ∙ rw (at, w) refl in
    let command : IsCommand text code = record { addresses = sym a ∙ a_true; small = small; named = named ∙ name } in
    (code, (command, ap is_too_long (sym rest) ∙ sym l ∙ l_false, rw (← form_is, ← rest) (sym h)))

pub returns-then-not-has_count : goal.returns-then-not-has_count
returns-then-not-has_count c =
    counted c.args.text.now c.after-words.result.now c.before-2.result.now c.after-operands.result.now c.in-Some.code c.word_len-end.result c.operands_of.result
    c.has_addresses.result c.is_too_long.result false
    c.has_addresses.ensures c.if-not-has_addresses.false c.after-words.ensures c.word_len-end.ensures.value c.before-2.ensures
    c.in-Some.ensures.found (omega arith) c.after-operands.ensures c.is_too_long.ensures c.if-is_too_long.false c.operands_of.ensures
    (sym c.if-not-has_count.true ∙ c.has_count.ensures)

pub returns : goal.returns
returns c =
    counted c.args.text.now c.after-words.result.now c.before-2.result.now c.after-operands.result.now c.in-Some.code c.word_len-end.result c.operands_of.result
    c.has_addresses.result c.is_too_long.result true
    c.has_addresses.ensures c.if-not-has_addresses.false c.after-words.ensures c.word_len-end.ensures.value c.before-2.ensures
    c.in-Some.ensures.found (omega arith) c.after-operands.ensures c.is_too_long.ensures c.if-is_too_long.false c.operands_of.ensures
    (sym c.if-not-has_count.false ∙ c.has_count.ensures)
