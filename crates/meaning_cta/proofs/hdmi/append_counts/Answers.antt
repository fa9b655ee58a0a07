use Rattle.meaning_cta.proofs.Joins.{two}
use Rattle.meaning_cta.specs.Hdmi.{format_count, stereo_count}
use Rattle.meaning_cta.proofs.hdmi.append_counts.Goals as goal

pub returns-clause-items : goal.returns-clause-items
returns-clause-items c =
    two _ _ _ (format_count c.args.formats) (stereo_count c.args.bytes) c.append_format_count.ensures.items c.append_stereo_count.ensures.items
