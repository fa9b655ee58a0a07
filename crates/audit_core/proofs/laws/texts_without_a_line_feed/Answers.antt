use Rattle.audit_core.proofs.OneLine.{or_else}
use Rattle.audit_core.proofs.Plain.{plain_more, plain_codes, plain_decimal, plain_hex, plain_nibble, plain_phys}
use Rattle.audit_core.proofs.laws.texts_without_a_line_feed.Goals as goal

pub returns-clause-joined : goal.returns-clause-joined
returns-clause-joined c = plain_more

pub returns-clause-tested : goal.returns-clause-tested
returns-clause-tested c = plain_codes

pub returns-clause-number : goal.returns-clause-number
returns-clause-number c = plain_decimal

pub returns-clause-byte : goal.returns-clause-byte
returns-clause-byte c = plain_hex

pub returns-clause-digit : goal.returns-clause-digit
returns-clause-digit c = plain_nibble

pub returns-clause-address : goal.returns-clause-address
returns-clause-address c = plain_phys

pub returns-clause-otherwise : goal.returns-clause-otherwise
returns-clause-otherwise c = or_else
