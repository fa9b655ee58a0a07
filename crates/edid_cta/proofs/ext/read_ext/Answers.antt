use Rattle.std.proofs.Common.{Ok, ap, ◌∙◌}
use Rattle.edid_cta.specs.declared.raw.Ext.TheVariants.{Cta, Bare, Raw}
use Rattle.edid_base.proofs.Bytes.{are_bytes-cells}
use Rattle.edid_cta.proofs.OneExt.{one_ext}
use Rattle.edid_cta.proofs.ext.read_ext.Goals as goal

pub returns-in-Some-clause-only : goal.returns-in-Some-clause-only
returns-in-Some-clause-only c = λ e h. ap Ok (one_ext (Cta (record { flags = _; blocks = _; timings = _; tail = _; whole = _; ended = _; bytes_fit = _ })) e (c.in-Some.ensures.found ∙ h))

pub returns-in-Some-read_bare-clause-only : goal.returns-in-Some-read_bare-clause-only
returns-in-Some-read_bare-clause-only c = λ e h. ap Ok (one_ext (Bare c.in-Some-read_bare.bare) e (c.in-Some-read_bare.ensures.found ∙ h))

pub returns-clause-only : goal.returns-clause-only
returns-clause-only c = λ e h. ap Ok (one_ext (Raw (record { bytes = c.args.bytes.now; whole = _; bytes_fit = _; checked = _; no_cta = _; no_bare = _ })) e h)

pub invariant_of-result-2-clause-bytes_fit : goal.invariant_of-result-2-clause-bytes_fit
invariant_of-result-2-clause-bytes_fit c = are_bytes-cells c.args.bytes.now c.fits-bytes
