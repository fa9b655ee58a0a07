use Rattle.std.proofs.Common.{sym, ◌∙◌}
use Rattle.message_text.proofs.Spelled.{muted_again, sounding_again}
use Rattle.message_text.proofs.reading.volume_status.Goals as goal

pub returns-then-byte_at-eq109 : goal.returns-then-byte_at-eq109
returns-then-byte_at-eq109 c = λ status small e.
    let again = muted_again status c.args.text.now small e (sym c.byte_at.ensures ∙ c.if-byte_at-eq109.true) in
    rw c.small_number.ensures (rw c.after.ensures again)

pub returns : goal.returns
returns c = λ status small e.
    let again = sounding_again status c.args.text.now small e (λ h. c.if-byte_at-eq109.false (c.byte_at.ensures ∙ h)) in
    rw c.small_number-2.ensures (rw c.after-2.ensures again)
