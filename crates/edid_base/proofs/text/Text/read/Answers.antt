use Rattle.std.proofs.Common.{◌≡◌, ℕ, ◌≤◌, length, true, arith, take, drop, nat_le, List, length-take}
use Rattle.std.specs.List.{prefix_len}
use Rattle.std.proofs.lemmas.List.Sums.{prefix_len-le-length}
use Rattle.std.proofs.lemmas.Grind.{common_steps}
use borrow.Author.Tests.{tests}
use Rattle.edid_base.specs.Chars.{is_char, is_text, is_padding}
use Rattle.edid_base.proofs.TextLemmas.{text_again, list_all-front}
use Rattle.edid_base.proofs.text.Text.read.Goals as goal

pub split_at-requires : goal.split_at-requires
split_at-requires c = rw c.front_len.ensures (prefix_len-le-length is_char c.args.bytes.now)

-- a front of at most 13 characters is a text
front_is : (xs : List ℕ) → length xs ≡ 13 → is_text (take (prefix_len is_char xs) xs) ≡ true
front_is xs len =
    let short : length (take (prefix_len is_char xs) xs) ≤ 13 = simp length-take (omega arith) in
    let within : nat_le (length (take (prefix_len is_char xs) xs)) 13 ≡ true = grind (arith, tests) in
    rw within (list_all-front is_char xs)

pub invariant_of-result : goal.invariant_of-result
invariant_of-result c =
    let front : c.try_extend_from_slice.new.self.items ≡ take (prefix_len is_char c.args.bytes.now) c.args.bytes.now = grind (arith, common_steps) in
    rw front (record { printable = front_is c.args.bytes.now c.requires })

pub returns : goal.returns
returns c =
    let front : c.try_extend_from_slice.new.self.items ≡ take c.front_len.result c.args.bytes.now = grind (arith, common_steps) in
    let form : is_padding (drop c.front_len.result c.args.bytes.now) ≡ true = grind (arith, common_steps) in
    let within : c.front_len.result ≤ length c.args.bytes.now = omega (arith, prefix_len-le-length is_char c.args.bytes.now) in
    (rw (← c.front_len.ensures) form, rw front (text_again c.args.bytes.now c.front_len.result c.requires within form))
