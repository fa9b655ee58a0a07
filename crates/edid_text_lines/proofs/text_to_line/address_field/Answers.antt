use Rattle.edid_text_lines.proofs.Fieldings.{address_long, address_first, address_rest, no_phys, same_address}
use Rattle.edid_text_lines.proofs.text_to_line.address_field.Goals as goal

pub returns-then-text-lt9 : goal.returns-then-text-lt9
returns-then-text-lt9 c = λ p bs high low f l e. absurd (address_long p bs c.args.text.now e c.if-text-lt9.true)

pub returns-in_err-phys : goal.returns-in_err-phys
returns-in_err-phys c = λ p bs high low f l e.
    absurd (no_phys p (c.in_err-phys.ensures.only p high low (address_first p bs c.args.text.now e)))

pub returns-in_err-bytes : goal.returns-in_err-bytes
returns-in_err-bytes c = λ p bs high low f l e.
    absurd (c.in_err-bytes.ensures bs f l (address_rest p bs c.args.text.now e))

pub returns : goal.returns
returns c = λ p bs high low f l e.
    same_address p c.in_ok-phys.phys bs c.in_ok-bytes.bytes (c.in_ok-phys.ensures.only p high low (address_first p bs c.args.text.now e))
    (c.in_ok-bytes.ensures bs f l (address_rest p bs c.args.text.now e))
