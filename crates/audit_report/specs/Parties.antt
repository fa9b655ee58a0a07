-- Who can be charged with what an audit says. Nobody is charged with what the line does not tell (own).
use Rattle.std.specs.Prelude.{ℕ, ◌==◌, Bool, not, nat_lt, ◌||◌, if◌then◌else◌, List, length, Option, Some, None}
use Rattle.audit_judged.specs.declared.widths.Party.{Party}
use Rattle.audit_judged.specs.declared.widths.Party.TheVariants.{Initiator, Follower}
use Rattle.audit_widths.specs.declared.misfit.Misfit.{Misfit as MisfitOf}
use Rattle.audit_remarks.specs.Header.{destination_of, initiator_of, seeks_address}
use Rattle.audit_notes.specs.declared.note.AuditNote.{AuditNote}
use Rattle.audit_notes.specs.declared.note.AuditNote.TheVariants.{NoAnswer, LateAnswer, Free, Misfit, Unfinished, Attempt, GoesOn, Ending, Receivers, Operands, Sender}
use Rattle.audit_report.specs.declared.parties.Parties.{Parties}
use Rattle.audit_report.specs.Widths.{is_ack_low, is_zero}

-- ---- of a reading

-- The initiator says who sends (CEC 6.1.1). Who polls its own address may have another one yet (CEC 10.2.1).
abbrev pub sender_of : List Bool → Option ℕ
sender_of bits = if nat_lt (length bits) 8 || seeks_address bits then None else Some (initiator_of bits)

-- the destination drives the acknowledge slots of a frame to one device; those of a frame to all any follower (CEC 6.1.2)
abbrev pub taker_of : List Bool → Option ℕ
taker_of bits = if nat_lt (length bits) 8 || (destination_of bits == 15) then None else Some (destination_of bits)

abbrev pub parties_of : List Bool → Parties
parties_of bits = record { sender = sender_of bits; taker = taker_of bits }

-- of no reading
abbrev pub nobody : Parties
nobody = record { sender = None; taker = None }

-- ---- of what is said below it

abbrev pub party_at : Party → Option ℕ
party_at (Initiator i) = i
party_at (Follower f) = f
party_at _ = None

-- a width: of an acknowledge slot that was read 0 the follower, of one that was read 1 nobody, of all else the initiator
abbrev pub charged_width : Parties → MisfitOf → Option ℕ
charged_width p m = if not (is_ack_low m) then p.sender else if is_zero m then p.taker else None

-- An answer that does not come is the destination's of the request. A low drive, and what breaks in, is nobody's.
abbrev pub charged : Parties → AuditNote → Option ℕ
charged p (NoAnswer request) = Some request.destination
charged p (LateAnswer wait) = p.sender
charged p (Free s) = p.sender
charged p (Misfit m) = charged_width p m
charged p (Unfinished block) = p.sender
charged p (Attempt f) = p.sender
charged p (GoesOn block who) = party_at who
charged p (Ending r who) = party_at who
charged p (Receivers r) = p.sender
charged p (Operands m) = p.sender
charged p (Sender initiator c) = Some initiator
charged p _ = None
