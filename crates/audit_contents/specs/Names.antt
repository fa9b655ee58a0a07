-- What each rule is called, the section of the standard that it goes by (HDMI 1.4, CEC), and whether the standard has it otherwise.
use Rattle.std.specs.Prelude.{ℕ, Bool, true, false, List, [], ◌∷◌, codes}
use Rattle.audit_contents.specs.declared.rule.ContentRule.{ContentRule}
use Rattle.audit_contents.specs.declared.rule.ContentRule.TheVariants.{Refuses, Unasked, Reserved, Misspelled, Misplaced, OtherVendor, OtherVersion, Foreign, OtherType, OtherName, Shared}

-- in the order of a report
abbrev pub all_rules : List ContentRule
all_rules =
    Refuses ∷ Unasked ∷ Reserved ∷ Misspelled ∷ Misplaced ∷ OtherVendor ∷ OtherVersion ∷ Foreign ∷ OtherType ∷ OtherName ∷ Shared ∷ []

abbrev pub number_of : ContentRule → ℕ
number_of Refuses = 0
number_of Unasked = 1
number_of Reserved = 2
number_of Misspelled = 3
number_of Misplaced = 4
number_of OtherVendor = 5
number_of OtherVersion = 6
number_of Foreign = 7
number_of OtherType = 8
number_of OtherName = 9
number_of Shared = 10

abbrev pub name_of : ContentRule → List ℕ
name_of Refuses = codes "refuses-mandatory"
name_of Unasked = codes "aborts-unasked"
name_of Reserved = codes "reserved-value"
name_of Misspelled = codes "other-characters"
name_of Misplaced = codes "no-such-place"
name_of OtherVendor = codes "other-vendor"
name_of OtherVersion = codes "other-version"
name_of Foreign = codes "not-its-message"
name_of OtherType = codes "other-type"
name_of OtherName = codes "other-name"
name_of Shared = codes "shared-place"

abbrev pub section_of : ContentRule → List ℕ
section_of Refuses = codes "12.3"
section_of Unasked = codes "12.3"
section_of Reserved = codes "17"
section_of Misspelled = codes "17"
section_of Misplaced = codes "10.1"
section_of OtherVendor = codes "13.9"
section_of OtherVersion = codes "13.6"
section_of Foreign = codes "13"
section_of OtherType = codes "10.2"
section_of OtherName = codes "13.11"
section_of Shared = codes "10.1"

-- the last three are lawful
abbrev pub is_fault : ContentRule → Bool
is_fault OtherType = false
is_fault OtherName = false
is_fault Shared = false
is_fault _ = true

abbrev pub grade_of : ContentRule → List ℕ
grade_of OtherType = codes "note"
grade_of OtherName = codes "note"
grade_of Shared = codes "note"
grade_of _ = codes "fault"
