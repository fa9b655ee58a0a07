-- What a claim is called (own), and the number that is told of it.
use Rattle.std.specs.Prelude.{ℕ, ◌+◌, ◌==◌, if◌then◌else◌, List, Option, Some, None, codes}
use Rattle.infoframe_claims.specs.declared.claim.Claim.{Claim}
use Rattle.infoframe_claims.specs.declared.claim.Claim.TheVariants as claims
use Rattle.infoframe_claims.specs.declared.claim.Feature.{Feature}
use Rattle.infoframe_claims.specs.declared.claim.Sound.{Sound}
use Rattle.infoframe_claims.specs.declared.claim.Feature.TheVariants.{XvYcc601, XvYcc709, SYcc601, OpYcc601, OpRgb, Bt2020CYcc, Bt2020Ycc, Bt2020Rgb, St2113, ICtCp, SRgb, DefaultRgb, RgbRange, YccRange, GammaSdr, GammaHdr, St2084, Hlg, MetadataOne, Allm, ContentDepth}

abbrev pub feature_word : Feature → List ℕ
feature_word XvYcc601 = codes "colorimetry xvYCC601"
feature_word XvYcc709 = codes "colorimetry xvYCC709"
feature_word SYcc601 = codes "colorimetry sYCC601"
feature_word OpYcc601 = codes "colorimetry opYCC601"
feature_word OpRgb = codes "colorimetry opRGB"
feature_word Bt2020CYcc = codes "colorimetry BT2020cYCC"
feature_word Bt2020Ycc = codes "colorimetry BT2020YCC"
feature_word Bt2020Rgb = codes "colorimetry BT2020RGB"
feature_word St2113 = codes "colorimetry DCI-P3"
feature_word ICtCp = codes "colorimetry ICtCp"
feature_word SRgb = codes "colorimetry sRGB"
feature_word DefaultRgb = codes "colorimetry default RGB"
feature_word RgbRange = codes "RGB range selectable"
feature_word YccRange = codes "YCC range selectable"
feature_word GammaSdr = codes "EOTF traditional gamma SDR"
feature_word GammaHdr = codes "EOTF traditional gamma HDR"
feature_word St2084 = codes "EOTF SMPTE ST 2084"
feature_word Hlg = codes "EOTF hybrid log-gamma"
feature_word MetadataOne = codes "static metadata type 1"
feature_word Allm = codes "ALLM"
feature_word ContentDepth = codes "CCBPCI"

abbrev pub coding_word : ℕ → List ℕ
coding_word coding = if coding == 15 then codes "audio coding extension" else codes "audio coding"

abbrev pub claim_word : Claim → List ℕ
claim_word claims.Nothing = codes "nothing"
claim_word (claims.Code code) = codes "video code"
claim_word (claims.Code420 code) = codes "YCbCr 4:2:0 of video code"
claim_word claims.Chroma420 = codes "YCbCr 4:2:0"
claim_word claims.Chroma422 = codes "YCbCr 4:2:2"
claim_word claims.Chroma444 = codes "YCbCr 4:4:4"
claim_word (claims.Feature f) = feature_word f
claim_word (claims.Coding s) = coding_word s.coding
claim_word (claims.Channels s) = codes "audio channels"
claim_word (claims.Rate s) = codes "audio sampling frequency in Hz"
claim_word (claims.Size s) = codes "audio sample size in bits"
claim_word (claims.HdmiCode code) = codes "HDMI_VIC"
claim_word (claims.Stereo s) = codes "3D_Structure"

-- the frequencies of the codes 1 to 7 (CTA-861-H, section 6, Audio InfoFrame)
abbrev pub rate_in_hertz : ℕ → ℕ
rate_in_hertz rate =
    if rate == 1 then 32000
    else if rate == 2 then 44100
    else if rate == 3 then 48000
    else if rate == 4 then 88200
    else if rate == 5 then 96000
    else if rate == 6 then 176400
    else 192000

-- the sizes of the codes 1 to 3
abbrev pub size_in_bits : ℕ → ℕ
size_in_bits size = if size == 1 then 16 else if size == 2 then 20 else 24

-- CT, or CXT, to which 15 refers
abbrev pub coding_number : Sound → ℕ
coding_number s = if s.coding == 15 then s.extension else s.coding

abbrev pub claim_number : Claim → Option ℕ
claim_number (claims.Code code) = Some code
claim_number (claims.Code420 code) = Some code
claim_number (claims.Coding s) = Some (coding_number s)
claim_number (claims.Channels s) = Some (s.channels + 1)
claim_number (claims.Rate s) = Some (rate_in_hertz s.rate)
claim_number (claims.Size s) = Some (size_in_bits s.size)
claim_number (claims.HdmiCode code) = Some code
claim_number (claims.Stereo s) = Some s
claim_number _ = None
