use Rattle.std.proofs.Common.{◌≡◌, [], ◌∷◌, length, get_or, sym, ◌∙◌, ap, arith, refl}
use Rattle.std.proofs.lemmas.Bool.{eqb-true}
use Rattle.hex.specs.Hex.{encode_lower}
use Rattle.edid_text_lines.proofs.Fieldings.{same_timed}
use Rattle.edid_text_lines.proofs.Hexes.{flags_word}
use Rattle.edid_text_lines.proofs.Words.{after_space}
use Rattle.edid_text_lines.proofs.text_to_line.timing_field.Goals as goal

pub returns-in_default-read_hex : goal.returns-in_default-read_hex
returns-in_default-read_hex c = λ ns flags l f small e.
    let read = c.in-Some.ensures ns (32 ∷ encode_lower (flags ∷ [])) l f refl e in
    absurd (c.in_default-read_hex.ensures (flags ∷ []) (flags_word flags small) (omega arith) (after_space c.in-Some.rest.now _ (sym read.1)))

pub returns-then-is_empty-2 : goal.returns-then-is_empty-2
returns-then-is_empty-2 c = λ ns flags l f small e.
    let read = c.in-Some.ensures ns (32 ∷ encode_lower (flags ∷ [])) l f refl e in
    let hex = c.in-Some-read_hex.ensures (flags ∷ []) (flags_word flags small) (omega arith) (after_space c.in-Some.rest.now _ (sym read.1)) in
    let none = eqb-true _ _ (sym c.if-is_empty-2.ensures) in
    let len = ap length hex in
    absurd (omega (arith, none, len))

pub returns : goal.returns
returns c = λ ns flags l f small e.
    let read = c.in-Some.ensures ns (32 ∷ encode_lower (flags ∷ [])) l f refl e in
    let hex = c.in-Some-read_hex.ensures (flags ∷ []) (flags_word flags small) (omega arith) (after_space c.in-Some.rest.now _ (sym read.1)) in
    let byte : get_or c.as_slice.result.now 0 0 ≡ flags = ap (λ xs. get_or xs 0 0) (c.as_slice.ensures.value ∙ hex) in
    same_timed c.in-Some.numbers ns _ flags read.0 byte
