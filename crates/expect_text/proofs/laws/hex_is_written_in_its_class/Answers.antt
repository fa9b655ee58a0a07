use Rattle.expect_text.proofs.Readings as Readings
use Rattle.expect_text.proofs.Wording as Wording
use Rattle.expect_text.proofs.laws.hex_is_written_in_its_class.Goals as goal

pub returns-clause-digit : goal.returns-clause-digit
returns-clause-digit c = Readings.hex_digit

pub returns-clause-bytes : goal.returns-clause-bytes
returns-clause-bytes c = Readings.all_hex

pub returns-clause-one : goal.returns-clause-one
returns-clause-one c = Wording.digit_of

pub returns-clause-two : goal.returns-clause-two
returns-clause-two c = Wording.byte_of
