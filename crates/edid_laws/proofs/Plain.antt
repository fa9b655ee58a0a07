-- Words of tables that are no hex.
use Rattle.std.proofs.Common.{◌≡◌, true, not, [], ◌∷◌, refl}
use Rattle.std.specs.List.{list_all}
use Rattle.edid_spelling.specs.Canonical.{is_hex}
use Rattle.edid_spelling.specs.Hdmi.{hdmi_rows}
use Rattle.edid_spelling.specs.Speakers.{speaker_rows}

pub hdmi_plain : list_all (λ r. not (is_hex (r.word ∷ []))) hdmi_rows ≡ true
unfolding hdmi_rows
hdmi_plain = refl

pub speakers_plain : list_all (λ r. not (is_hex (r.word ∷ []))) speaker_rows ≡ true
unfolding speaker_rows
speakers_plain = refl
