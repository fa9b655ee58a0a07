use Rattle.std.proofs.Common.{length}
use Rattle.meaning_cta.proofs.hdmi.+append_hdmi_codes.Given as goal

abbrev pub decreases-append_hdmi_codes : goal.decreases-append_hdmi_codes
decreases-append_hdmi_codes l = length l.codes.now
