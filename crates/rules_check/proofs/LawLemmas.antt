-- A finding is listed if and only if its rule is broken, and none is listed twice.
use Rattle.std.proofs.Common.{◌≡◌, ℕ, zero, suc, ◌+◌, ◌≤◌, true, inl, inr, Some, List, [], ◌∷◌, refl, ap, sym, subst, arith}
use Rattle.std.specs.List.{filter, slice_get}
use Rattle.edid_base.specs.declared.base.Base.{Base}
use Rattle.edid_base.specs.declared.timing.Timing.{Timing}
use Rattle.edid_cta.specs.declared.raw.Ext.{Ext}
use Rattle.rules_values.specs.ExtParts.{timings_of}
use Rattle.rules_check.specs.Rules.{rules, is_broken}
use Rattle.rules_check.specs.TimingRules.{timing_rules, breaks}
use Rattle.rules_check.specs.Findings.{rule_findings, timing_findings, edid_findings, one_timing_findings, numbered_findings, findings}
use Rattle.rules_check.specs.Laws.{IsAmong, NoneTwice, breaks_at, ListsTheBroken}
use Rattle.rules_check.specs.declared.rule.Origin.{Origin}
use Rattle.rules_check.specs.declared.rule.Rule.{Rule}
use Rattle.rules_check.specs.declared.rule.Rule.TheVariants.{FirstTimingPreferred, PreferredTiming, ProductName, RangeLimits, LimitsAlone, LimitsOrder, Week, Srgb, NoEmptyDescriptor, UnusedStandard, BlockMap, HdmiRevision, OneSerial, Vga, VideoCodeOnce, NativeCount, NativeSize, Underscan, BasicAudio, Speakers, Padding, VideoCapability, RgbRange, TmdsClock, Address, OneHdmi, HdmiVideoCode, ForumAfterHdmi, CtaForm, CtaRevision, ExtensionTag, Block, BlockOnce, OverrideFirst, OverrideCount, MapWithinCodes, FastYcc420, YccRange, FormatsWithinLimits, FormatsNearLimits, FormatsCarried, TextForm, WeekKnown, YearKnown, SrgbGamma, InputKnown, SectionSum, DescriptorKnown}
use Rattle.rules_contents.specs.declared.contents.Slip.TheVariants as slip
use Rattle.rules_check.specs.declared.rule.TimingRule.{TimingRule}
use Rattle.rules_check.specs.declared.rule.TimingRule.TheVariants.{Clock, Fields, HorizontalBackPorch, VerticalBackPorch, SizeThere, SizeFits, WithinLimits, NearLimits, Carried}
use Rattle.rules_check.specs.declared.rule.Finding.{Finding}
use Rattle.rules_check.specs.declared.rule.Finding.TheVariants.{Edid, Timing as OfTiming}
use Rattle.rules_check.proofs.AmongLemmas.{among_left, among_right, among_cases, none_twice_append, passes_from, among_passing, none_twice_passing, named, among_at, none_twice_rises}

-- ---- the tables hold each rule once

abbrev place_of : Rule → ℕ
place_of FirstTimingPreferred = 0
place_of PreferredTiming = 1
place_of ProductName = 2
place_of RangeLimits = 3
place_of LimitsAlone = 4
place_of LimitsOrder = 5
place_of Week = 6
place_of Srgb = 7
place_of NoEmptyDescriptor = 8
place_of UnusedStandard = 9
place_of BlockMap = 10
place_of HdmiRevision = 11
place_of OneSerial = 12
place_of Vga = 13
place_of VideoCodeOnce = 14
place_of NativeCount = 15
place_of NativeSize = 16
place_of Underscan = 17
place_of BasicAudio = 18
place_of Speakers = 19
place_of Padding = 20
place_of VideoCapability = 21
place_of RgbRange = 22
place_of TmdsClock = 23
place_of Address = 24
place_of OneHdmi = 25
place_of HdmiVideoCode = 26
place_of ForumAfterHdmi = 27
place_of CtaForm = 28
place_of CtaRevision = 29
place_of ExtensionTag = 30
place_of (Block slip.Length) = 31
place_of BlockOnce = 32
place_of OverrideFirst = 33
place_of OverrideCount = 34
place_of (Block slip.Tag) = 35
place_of (Block slip.AudioFormat) = 36
place_of (Block slip.HdrBits) = 37
place_of (Block slip.VideoCode) = 38
place_of (Block slip.HdmiCode) = 39
place_of (Block slip.ForumClock) = 40
place_of (Block slip.ForumScdc) = 41
place_of (Block slip.ForumRates) = 42
place_of MapWithinCodes = 43
place_of FastYcc420 = 44
place_of YccRange = 45
place_of (Block slip.Latency) = 46
place_of FormatsWithinLimits = 47
place_of FormatsNearLimits = 48
place_of FormatsCarried = 49
place_of TextForm = 50
place_of WeekKnown = 51
place_of YearKnown = 52
place_of SrgbGamma = 53
place_of InputKnown = 54
place_of (Block slip.Reserved) = 55
place_of (Block slip.Bytes) = 56
place_of SectionSum = 57
place_of DescriptorKnown = 58

placed : (rule : Rule) → slice_get rules (place_of rule) ≡ Some rule
placed FirstTimingPreferred = refl
placed PreferredTiming = refl
placed ProductName = refl
placed RangeLimits = refl
placed LimitsAlone = refl
placed LimitsOrder = refl
placed Week = refl
placed Srgb = refl
placed NoEmptyDescriptor = refl
placed UnusedStandard = refl
placed BlockMap = refl
placed HdmiRevision = refl
placed OneSerial = refl
placed Vga = refl
placed VideoCodeOnce = refl
placed NativeCount = refl
placed NativeSize = refl
placed Underscan = refl
placed BasicAudio = refl
placed Speakers = refl
placed Padding = refl
placed VideoCapability = refl
placed RgbRange = refl
placed TmdsClock = refl
placed Address = refl
placed OneHdmi = refl
placed HdmiVideoCode = refl
placed ForumAfterHdmi = refl
placed CtaForm = refl
placed CtaRevision = refl
placed ExtensionTag = refl
placed (Block slip.Length) = refl
placed BlockOnce = refl
placed OverrideFirst = refl
placed OverrideCount = refl
placed (Block slip.Tag) = refl
placed (Block slip.AudioFormat) = refl
placed (Block slip.HdrBits) = refl
placed (Block slip.VideoCode) = refl
placed (Block slip.HdmiCode) = refl
placed (Block slip.ForumClock) = refl
placed (Block slip.ForumScdc) = refl
placed (Block slip.ForumRates) = refl
placed MapWithinCodes = refl
placed FastYcc420 = refl
placed YccRange = refl
placed (Block slip.Latency) = refl
placed FormatsWithinLimits = refl
placed FormatsNearLimits = refl
placed FormatsCarried = refl
placed TextForm = refl
placed WeekKnown = refl
placed YearKnown = refl
placed SrgbGamma = refl
placed InputKnown = refl
placed (Block slip.Reserved) = refl
placed (Block slip.Bytes) = refl
placed SectionSum = refl
placed DescriptorKnown = refl

every_rule : (rule : Rule) → IsAmong rule rules
every_rule rule = among_at rule rules (place_of rule) (placed rule)

rules_once : NoneTwice rules
rules_once = none_twice_rises place_of rules refl

abbrev timing_place_of : TimingRule → ℕ
timing_place_of Clock = 0
timing_place_of Fields = 1
timing_place_of HorizontalBackPorch = 2
timing_place_of VerticalBackPorch = 3
timing_place_of SizeThere = 4
timing_place_of SizeFits = 5
timing_place_of WithinLimits = 6
timing_place_of NearLimits = 7
timing_place_of Carried = 8

timing_placed : (rule : TimingRule) → slice_get timing_rules (timing_place_of rule) ≡ Some rule
timing_placed Clock = refl
timing_placed Fields = refl
timing_placed HorizontalBackPorch = refl
timing_placed VerticalBackPorch = refl
timing_placed SizeThere = refl
timing_placed SizeFits = refl
timing_placed WithinLimits = refl
timing_placed NearLimits = refl
timing_placed Carried = refl

every_timing_rule : (rule : TimingRule) → IsAmong rule timing_rules
every_timing_rule rule = among_at rule timing_rules (timing_place_of rule) (timing_placed rule)

timing_rules_once : NoneTwice timing_rules
timing_rules_once = none_twice_rises timing_place_of timing_rules refl

-- ---- what a finding is of

abbrev rule_in : Finding → Rule
rule_in (Edid rule) = rule
rule_in (OfTiming number rule) = ProductName

abbrev timing_rule_in : Finding → TimingRule
timing_rule_in (Edid rule) = Clock
timing_rule_in (OfTiming number rule) = rule

-- 0 for those of the EDID
abbrev number_in : Finding → ℕ
number_in (Edid rule) = 0
number_in (OfTiming number rule) = number

one_rule : (a b : Rule) → Edid a ≡ Edid b → a ≡ b
one_rule a b e = ap rule_in e

one_timing_rule : (number : ℕ) (a b : TimingRule) → OfTiming number a ≡ OfTiming number b → a ≡ b
one_timing_rule number a b e = ap timing_rule_in e

-- ---- the rules of the EDID, through a table that nothing computes

edid_is : (o : Origin) (b : Base) (xs : List Ext) (table : List Rule) → table ≡ rules → edid_findings o b xs ≡ rule_findings o b xs table
unfolding edid_findings
edid_is o b xs table e = ap (λ rs. rule_findings o b xs rs) (sym e)

edid_from : (o : Origin) (b : Base) (xs : List Ext) (rule : Rule) (table : List Rule) → table ≡ rules → IsAmong (Edid rule) (edid_findings o b xs) → is_broken o rule b xs ≡ true
edid_from o b xs rule table e h =
    let P : List Finding → Type 0 = λ fs. IsAmong (Edid rule) fs in
    passes_from Edid (λ r. is_broken o r b xs) one_rule rule table (subst P (edid_is o b xs table e) h)

edid_to : (o : Origin) (b : Base) (xs : List Ext) (rule : Rule) (table : List Rule) → table ≡ rules → IsAmong rule table → is_broken o rule b xs ≡ true → IsAmong (Edid rule) (edid_findings o b xs)
edid_to o b xs rule table e there broken =
    let P : List Finding → Type 0 = λ fs. IsAmong (Edid rule) fs in
    subst P (sym (edid_is o b xs table e)) (among_passing Edid (λ r. is_broken o r b xs) rule table there broken)

edid_once : (o : Origin) (b : Base) (xs : List Ext) (table : List Rule) → table ≡ rules → NoneTwice table → NoneTwice (edid_findings o b xs)
edid_once o b xs table e once =
    let P : List Finding → Type 0 = λ fs. NoneTwice fs in
    subst P (sym (edid_is o b xs table e)) (none_twice_passing Edid (λ r. is_broken o r b xs) one_rule table once)

edid_number : (o : Origin) (b : Base) (xs : List Ext) (f : Finding) (table : List Rule) → table ≡ rules → IsAmong f (edid_findings o b xs) → number_in f ≡ 0
edid_number o b xs f table e h =
    let P : List Finding → Type 0 = λ fs. IsAmong f fs in
    let found = named Edid f (filter (λ r. is_broken o r b xs) table) (subst P (edid_is o b xs table e) h) in
    ap number_in found.1

-- ---- those of one timing

one_is : (b : Base) (xs : List Ext) (n : ℕ) (t : Timing) (table : List TimingRule) → table ≡ timing_rules → one_timing_findings b xs n t ≡ timing_findings b xs n t table
unfolding one_timing_findings
one_is b xs n t table e = ap (λ rs. timing_findings b xs n t rs) (sym e)

one_from : (b : Base) (xs : List Ext) (n : ℕ) (t : Timing) (rule : TimingRule) (table : List TimingRule) → table ≡ timing_rules → IsAmong (OfTiming n rule) (one_timing_findings b xs n t) → breaks rule b xs t ≡ true
one_from b xs n t rule table e h =
    let P : List Finding → Type 0 = λ fs. IsAmong (OfTiming n rule) fs in
    passes_from (OfTiming n) (λ r. breaks r b xs t) (one_timing_rule n) rule table (subst P (one_is b xs n t table e) h)

one_to : (b : Base) (xs : List Ext) (n : ℕ) (t : Timing) (rule : TimingRule) (table : List TimingRule) → table ≡ timing_rules → IsAmong rule table → breaks rule b xs t ≡ true → IsAmong (OfTiming n rule) (one_timing_findings b xs n t)
one_to b xs n t rule table e there broken =
    let P : List Finding → Type 0 = λ fs. IsAmong (OfTiming n rule) fs in
    subst P (sym (one_is b xs n t table e)) (among_passing (OfTiming n) (λ r. breaks r b xs t) rule table there broken)

one_once : (b : Base) (xs : List Ext) (n : ℕ) (t : Timing) (table : List TimingRule) → table ≡ timing_rules → NoneTwice table → NoneTwice (one_timing_findings b xs n t)
one_once b xs n t table e once =
    let P : List Finding → Type 0 = λ fs. NoneTwice fs in
    subst P (sym (one_is b xs n t table e)) (none_twice_passing (OfTiming n) (λ r. breaks r b xs t) (one_timing_rule n) table once)

one_number : (b : Base) (xs : List Ext) (n : ℕ) (t : Timing) (f : Finding) (table : List TimingRule) → table ≡ timing_rules → IsAmong f (one_timing_findings b xs n t) → number_in f ≡ n
one_number b xs n t f table e h =
    let P : List Finding → Type 0 = λ fs. IsAmong f fs in
    let found = named (OfTiming n) f (filter (λ r. breaks r b xs t) table) (subst P (one_is b xs n t table e) h) in
    ap number_in found.1

-- ---- those of all timings

numbered_from : (b : Base) (xs : List Ext) (n : ℕ) (ts : List Timing) (f : Finding) → IsAmong f (numbered_findings b xs n ts) → n ≤ number_in f
numbered_from b xs n [] f h = absurd h
numbered_from b xs n (t ∷ ts) f h =
    elim (among_cases f (one_timing_findings b xs n t) (numbered_findings b xs (n + 1) ts) h) [
      | inl k ↦ (let same = one_number b xs n t f timing_rules refl k in omega (arith, same))
      | inr k ↦ (let more = numbered_from b xs (n + 1) ts f k in omega (arith, more))
    ]

timing_from : (b : Base) (xs : List Ext) (n : ℕ) (ts : List Timing) (place m : ℕ) (rule : TimingRule) → m ≡ n + place → IsAmong (OfTiming m rule) (numbered_findings b xs n ts) → breaks_at b xs rule ts place ≡ true
timing_from b xs n [] place m rule e h = absurd h
timing_from b xs n (t ∷ ts) zero m rule e h =
    elim (among_cases (OfTiming m rule) (one_timing_findings b xs n t) (numbered_findings b xs (n + 1) ts) h) [
      | inl k ↦ (let same : m ≡ n = omega (arith, e) in
          let P : ℕ → Type 0 = λ i. IsAmong (OfTiming i rule) (one_timing_findings b xs n t) in
          one_from b xs n t rule timing_rules refl (subst P same k))
      | inr k ↦ (let more = numbered_from b xs (n + 1) ts (OfTiming m rule) k in let no : ⊥ = omega (arith, more, e) in absurd no)
    ]
timing_from b xs n (t ∷ ts) (suc place) m rule e h =
    elim (among_cases (OfTiming m rule) (one_timing_findings b xs n t) (numbered_findings b xs (n + 1) ts) h) [
      | inl k ↦ (let same = one_number b xs n t (OfTiming m rule) timing_rules refl k in let no : ⊥ = omega (arith, same, e) in absurd no)
      | inr k ↦ timing_from b xs (n + 1) ts place m rule (omega (arith, e)) k
    ]

timing_to : (b : Base) (xs : List Ext) (n : ℕ) (ts : List Timing) (place m : ℕ) (rule : TimingRule) → m ≡ n + place → breaks_at b xs rule ts place ≡ true → IsAmong (OfTiming m rule) (numbered_findings b xs n ts)
timing_to b xs n [] place m rule e h = let no : ⊥ = cc in absurd no
timing_to b xs n (t ∷ ts) zero m rule e h =
    let same : n ≡ m = omega (arith, e) in
    let P : ℕ → Type 0 = λ i. IsAmong (OfTiming i rule) (one_timing_findings b xs n t) in
    among_left (OfTiming m rule) (one_timing_findings b xs n t) (numbered_findings b xs (n + 1) ts)
    (subst P same (one_to b xs n t rule timing_rules refl (every_timing_rule rule) h))
timing_to b xs n (t ∷ ts) (suc place) m rule e h =
    among_right (OfTiming m rule) (one_timing_findings b xs n t) (numbered_findings b xs (n + 1) ts)
    (timing_to b xs (n + 1) ts place m rule (omega (arith, e)) h)

numbered_once : (b : Base) (xs : List Ext) (n : ℕ) (ts : List Timing) → NoneTwice (numbered_findings b xs n ts)
numbered_once b xs n [] = tt
numbered_once b xs n (t ∷ ts) =
    none_twice_append (one_timing_findings b xs n t) (numbered_findings b xs (n + 1) ts) (one_once b xs n t timing_rules refl timing_rules_once) (numbered_once b xs (n + 1) ts)
    (λ f h k. let same = one_number b xs n t f timing_rules refl h in let more = numbered_from b xs (n + 1) ts f k in omega (arith, same, more))

-- ---- all findings

edid_listed : (o : Origin) (b : Base) (xs : List Ext) (rule : Rule) → IsAmong (Edid rule) (findings o b xs) → is_broken o rule b xs ≡ true
edid_listed o b xs rule h =
    elim (among_cases (Edid rule) (edid_findings o b xs) (numbered_findings b xs 1 (timings_of b xs)) h) [
      | inl k ↦ edid_from o b xs rule rules refl k
      | inr k ↦ (let more = numbered_from b xs 1 (timings_of b xs) (Edid rule) k in let no : ⊥ = omega (arith, more) in absurd no)
    ]

-- no finding of the EDID is one of a timing
not_of_edid : (o : Origin) (b : Base) (xs : List Ext) (n : ℕ) (rule : TimingRule) (table : List Rule) → table ≡ rules → IsAmong (OfTiming n rule) (edid_findings o b xs) → ⊥
not_of_edid o b xs n rule table t h =
    let P : List Finding → Type 0 = λ fs. IsAmong (OfTiming n rule) fs in
    let found = named Edid (OfTiming n rule) (filter (λ r. is_broken o r b xs) table) (subst P (edid_is o b xs table t) h) in
    let e = found.1 in
    cc

pub law : (o : Origin) (b : Base) (xs : List Ext) → ListsTheBroken o b xs
law o b xs = record {
  edid = λ rule. ((λ h. edid_listed o b xs rule h), (λ broken. among_left (Edid rule) (edid_findings o b xs) (numbered_findings b xs 1 (timings_of b xs)) (edid_to o b xs rule rules refl (every_rule rule) broken)));
  timing = λ place rule. (
    (λ h. elim (among_cases (OfTiming (suc place) rule) (edid_findings o b xs) (numbered_findings b xs 1 (timings_of b xs)) h) [
      | inl k ↦ (let no : ⊥ = not_of_edid o b xs (suc place) rule rules refl k in absurd no)
      | inr k ↦ timing_from b xs 1 (timings_of b xs) place (suc place) rule (omega arith) k
    ]),
    (λ broken. among_right (OfTiming (suc place) rule) (edid_findings o b xs) (numbered_findings b xs 1 (timings_of b xs)) (timing_to b xs 1 (timings_of b xs) place (suc place) rule (omega arith) broken)),
  );
  from_one = λ rule h. elim (among_cases (OfTiming 0 rule) (edid_findings o b xs) (numbered_findings b xs 1 (timings_of b xs)) h) [
    | inl k ↦ not_of_edid o b xs 0 rule rules refl k
    | inr k ↦ (let more = numbered_from b xs 1 (timings_of b xs) (OfTiming 0 rule) k in omega (arith, more))
  ];
  once = none_twice_append (edid_findings o b xs) (numbered_findings b xs 1 (timings_of b xs)) (edid_once o b xs rules refl rules_once) (numbered_once b xs 1 (timings_of b xs))
      (λ f h k. let zero_there = edid_number o b xs f rules refl h in let more = numbered_from b xs 1 (timings_of b xs) f k in omega (arith, zero_there, more));
}
