use Rattle.std.proofs.Common.{arith, refl}
use Rattle.edid_texts.proofs.BaseNexts.{byte_fits, head_is}
use Rattle.edid_texts.proofs.base_steps.put_product.Goals as goal

pub returns-in_default-maker_of : goal.returns-in_default-maker_of
returns-in_default-maker_of c = λ b e. c.in_default-maker_of.ensures b.maker (head_is b c.args.number 1 c.args.line.now _ (omega arith) refl e)

pub returns-in_default-one_number : goal.returns-in_default-one_number
returns-in_default-one_number c = λ b e. c.in_default-one_number.ensures b.product (let h = b.product_fits in omega (arith, h)) (head_is b c.args.number 2 c.args.line.now _ (omega arith) refl e)

pub returns-in_default-one_number-2 : goal.returns-in_default-one_number-2
returns-in_default-one_number-2 c = λ b e. c.in_default-one_number-2.ensures b.serial (let h = b.serial_fits in omega (arith, h)) (head_is b c.args.number 3 c.args.line.now _ (omega arith) refl e)

pub returns-in_default-two_numbers : goal.returns-in_default-two_numbers
returns-in_default-two_numbers c = λ b e. c.in_default-two_numbers.ensures b.week b.year (byte_fits b 0) b.first_year (let h = b.last_year in omega (arith, h)) (head_is b c.args.number 4 c.args.line.now _ (omega arith) refl e)

pub returns-in_default-one_byte : goal.returns-in_default-one_byte
returns-in_default-one_byte c = λ b e. c.in_default-one_byte.ensures b.input (head_is b c.args.number 5 c.args.line.now _ (omega arith) refl e)
