use Rattle.std.proofs.Common.{refl}
use Rattle.library_edid.proofs.Puts.{findings_put, findings_reported}
use Rattle.library_edid.proofs.Refusals.{no_refusal, not_read}
use Rattle.library_edid.proofs.edids.put_edid_findings.Goals as goal

pub returns-in-Ok-clause-done : goal.returns-in-Ok-clause-done
returns-in-Ok-clause-done c = λ little. findings_put c.args.bytes.now c.bytes.result.now c.args.room.now c.put.new.room _ _ _ _ c.in-Ok.some c.put.result c.in-Ok.ensures.answers c.new-lines.ensures.contents c.bytes.ensures.contents c.put.ensures

pub returns-in-Ok-clause-refused : goal.returns-in-Ok-clause-refused
returns-in-Ok-clause-refused c = λ more. absurd (no_refusal c.bytes.result.now c.args.room.now c.put.new.room c.put.result c.put.ensures more)

pub returns-clause-done : goal.returns-clause-done
returns-clause-done c = λ little. absurd (not_read c.in-Err.error c.edid_refused.result c.edid_refused.ensures little)

pub returns-clause-refused : goal.returns-clause-refused
returns-clause-refused c = λ more. (c.in-Err.error, findings_reported c.args.bytes.now _ _ _ _ c.in-Err.error c.in-Err.ensures.answers, c.edid_refused.ensures, refl, refl)
