-- The lines that report findings (own).
use Rattle.std.specs.Prelude.{ℕ, Bool, true, false, List, ◌++◌, codes, flat_map}
use Rattle.std.specs.Fmt.{decimal}
use Rattle.std.specs.List.{list_any}
use Rattle.rules_check.specs.declared.rule.Rule.{Rule}
use Rattle.rules_check.specs.declared.rule.Rule.TheVariants.{FirstTimingPreferred, PreferredTiming, ProductName, RangeLimits, LimitsAlone, LimitsOrder, Week, Srgb, NoEmptyDescriptor, UnusedStandard, BlockMap, HdmiRevision, OneSerial, Vga, VideoCodeOnce, NativeCount, NativeSize, Underscan, BasicAudio, Speakers, Padding, VideoCapability, RgbRange, TmdsClock, Address, OneHdmi, HdmiVideoCode, ForumAfterHdmi, CtaForm, CtaRevision, ExtensionTag, Block, BlockOnce, OverrideFirst, OverrideCount, MapWithinCodes, FastYcc420, YccRange, FormatsWithinLimits, FormatsNearLimits, FormatsCarried, TextForm, WeekKnown, YearKnown, SrgbGamma, InputKnown, SectionSum, DescriptorKnown}
use Rattle.rules_contents.specs.declared.contents.Slip.TheVariants as slip
use Rattle.rules_check.specs.declared.rule.Severity.{Severity}
use Rattle.rules_check.specs.declared.rule.Severity.TheVariants.{Fail, Warn}
use Rattle.rules_check.specs.declared.rule.TimingRule.{TimingRule}
use Rattle.rules_check.specs.declared.rule.TimingRule.TheVariants.{Clock, Fields, HorizontalBackPorch, VerticalBackPorch, SizeThere, SizeFits, WithinLimits, NearLimits, Carried}
use Rattle.rules_check.specs.declared.rule.Finding.{Finding}
use Rattle.rules_check.specs.declared.rule.Finding.TheVariants.{Edid, Timing as OfTiming}

-- ---- severities

-- a broken rule of these is a warning, of all others a failure
abbrev pub rule_severity : Rule → Severity
rule_severity HdmiRevision = Warn
rule_severity OneSerial = Warn
rule_severity Underscan = Warn
rule_severity VideoCapability = Warn
rule_severity RgbRange = Warn
rule_severity OneHdmi = Warn
rule_severity CtaRevision = Warn
rule_severity ExtensionTag = Warn
rule_severity (Block slip.Tag) = Warn
rule_severity (Block slip.HdrBits) = Warn
rule_severity (Block slip.VideoCode) = Warn
rule_severity FastYcc420 = Warn
rule_severity YccRange = Warn
rule_severity (Block slip.Latency) = Warn
rule_severity FormatsNearLimits = Warn
rule_severity YearKnown = Warn
rule_severity SrgbGamma = Warn
rule_severity (Block slip.Reserved) = Warn
rule_severity (Block slip.Bytes) = Warn
rule_severity DescriptorKnown = Warn
rule_severity _ = Fail

abbrev pub timing_severity : TimingRule → Severity
timing_severity NearLimits = Warn
timing_severity _ = Fail

abbrev pub severity_of : Finding → Severity
severity_of (Edid rule) = rule_severity rule
severity_of (OfTiming number rule) = timing_severity rule

abbrev pub is_failure : Finding → Bool
is_failure f = is_fail (severity_of f)
  where
    is_fail : Severity → Bool
    is_fail Fail = true
    is_fail Warn = false

-- ---- lines

abbrev pub severity_word : Severity → List ℕ
severity_word Fail = codes "fail "
severity_word Warn = codes "warn "

abbrev pub rule_name : Rule → List ℕ
rule_name FirstTimingPreferred = codes "first-timing-not-preferred"
rule_name PreferredTiming = codes "no-preferred-timing"
rule_name ProductName = codes "no-name"
rule_name RangeLimits = codes "no-range-limits"
rule_name LimitsAlone = codes "gtf-fixed"
rule_name LimitsOrder = codes "limits-reversed"
rule_name Week = codes "week-of-1.4"
rule_name Srgb = codes "srgb"
rule_name NoEmptyDescriptor = codes "empty-descriptor"
rule_name UnusedStandard = codes "standard-unused-form"
rule_name BlockMap = codes "block-map"
rule_name HdmiRevision = codes "hdmi-of-1.3"
rule_name OneSerial = codes "two-serials"
rule_name Vga = codes "no-640x480"
rule_name VideoCodeOnce = codes "vic-twice"
rule_name NativeCount = codes "native-count"
rule_name NativeSize = codes "native-mixed"
rule_name Underscan = codes "overscan"
rule_name BasicAudio = codes "no-basic-audio"
rule_name Speakers = codes "speakers"
rule_name Padding = codes "padding"
rule_name VideoCapability = codes "no-video-capability"
rule_name RgbRange = codes "rgb-quantization"
rule_name TmdsClock = codes "tmds-clock"
rule_name Address = codes "address"
rule_name OneHdmi = codes "hdmi-twice"
rule_name HdmiVideoCode = codes "hdmi-vic-without-vic"
rule_name ForumAfterHdmi = codes "hdmi-forum-first"
rule_name CtaForm = codes "cta-overrun"
rule_name CtaRevision = codes "cta-revision"
rule_name ExtensionTag = codes "unknown-extension"
rule_name (Block slip.Length) = codes "block-length"
rule_name BlockOnce = codes "block-twice"
rule_name OverrideFirst = codes "eeodb-place"
rule_name OverrideCount = codes "eeodb-count"
rule_name (Block slip.Tag) = codes "tag-reserved"
rule_name (Block slip.AudioFormat) = codes "audio-reserved"
rule_name (Block slip.HdrBits) = codes "hdr-reserved"
rule_name (Block slip.VideoCode) = codes "vic-reserved"
rule_name (Block slip.HdmiCode) = codes "hdmi-vic-reserved"
rule_name (Block slip.ForumClock) = codes "forum-clock"
rule_name (Block slip.ForumScdc) = codes "forum-scdc"
rule_name (Block slip.ForumRates) = codes "forum-vrr"
rule_name MapWithinCodes = codes "map-past-codes"
rule_name FastYcc420 = codes "ycc420-slow"
rule_name YccRange = codes "ycc-quantization"
rule_name (Block slip.Latency) = codes "latency-order"
rule_name FormatsWithinLimits = codes "out-of-range"
rule_name FormatsNearLimits = codes "out-of-range"
rule_name FormatsCarried = codes "link-clock"
rule_name TextForm = codes "text-form"
rule_name WeekKnown = codes "week-reserved"
rule_name YearKnown = codes "year-late"
rule_name SrgbGamma = codes "srgb-gamma"
rule_name InputKnown = codes "input-reserved"
rule_name (Block slip.Reserved) = codes "reserved"
rule_name (Block slip.Bytes) = codes "length"
rule_name SectionSum = codes "displayid-checksum"
rule_name DescriptorKnown = codes "descriptor-reserved"

abbrev pub timing_rule_name : TimingRule → List ℕ
timing_rule_name Clock = codes "clock"
timing_rule_name Fields = codes "timing-zero"
timing_rule_name HorizontalBackPorch = codes "h-back-porch"
timing_rule_name VerticalBackPorch = codes "v-back-porch"
timing_rule_name SizeThere = codes "size-missing"
timing_rule_name SizeFits = codes "size-differs"
timing_rule_name WithinLimits = codes "out-of-range"
timing_rule_name NearLimits = codes "out-of-range"
timing_rule_name Carried = codes "link-clock"

-- what is broken: a rule, or a rule by a timing
abbrev pub finding_name : Finding → List ℕ
finding_name (Edid rule) = rule_name rule
finding_name (OfTiming number rule) = codes "timing " ++ decimal number ++ codes " " ++ timing_rule_name rule

abbrev pub finding_text : Finding → List ℕ
finding_text f = severity_word (severity_of f) ++ finding_name f ++ codes "\n"

abbrev pub findings_text : List Finding → List ℕ
findings_text fs = flat_map finding_text fs

-- ---- all of them

abbrev pub some_failure : List Finding → Bool
some_failure fs = list_any is_failure fs
