use Rattle.std.proofs.Common.{◌<◌, arith, refl}
use Rattle.edid_texts.proofs.BaseNexts.{byte_fits, established_fit, head_is}
use Rattle.edid_texts.proofs.base_steps.put_display.Goals as goal

pub returns-in_default-two_numbers : goal.returns-in_default-two_numbers
returns-in_default-two_numbers c = λ b e. c.in_default-two_numbers.ensures b.width b.height (byte_fits b 2) (omega arith) (let h : b.height < 256 = byte_fits b 3 in omega (arith, h)) (head_is b c.args.number 6 c.args.line.now _ (omega arith) refl e)

pub returns-in_default-one_number : goal.returns-in_default-one_number
returns-in_default-one_number c = λ b e. c.in_default-one_number.ensures b.gamma (let h : b.gamma < 256 = byte_fits b 4 in omega (arith, h)) (head_is b c.args.number 7 c.args.line.now _ (omega arith) refl e)

pub returns-in_default-one_byte : goal.returns-in_default-one_byte
returns-in_default-one_byte c = λ b e. c.in_default-one_byte.ensures b.features (head_is b c.args.number 8 c.args.line.now _ (omega arith) refl e)

pub returns-in_default-chroma_of : goal.returns-in_default-chroma_of
returns-in_default-chroma_of c = λ b e. c.in_default-chroma_of.ensures b.chroma (head_is b c.args.number 9 c.args.line.now _ (omega arith) refl e)

pub invariant_of-base-in_default-clause-bytes_fit : goal.invariant_of-base-in_default-clause-bytes_fit
invariant_of-base-in_default-clause-bytes_fit c = established_fit c.args.base.now c.in-Some-three_bytes.established c.in-Some-three_bytes.ensures.1
