-- How often the frames of each device break each rule, reading by reading (own).
use Rattle.std.specs.Prelude.{ℕ, ◌==◌, Bool, false, nat_lt, ◌&&◌, ◌||◌, not, if◌then◌else◌, List, [], ◌∷◌, length, replicate, slice_index_or, slice_set}
use Rattle.line_reading.specs.Readings.{Listed}
use Rattle.audit_widths.specs.Spreads.{sum_of}
use Rattle.audit_remarks.specs.Frames.{delivered_frame, sender}
use Rattle.audit_remarks.specs.Header.{initiator_of, seeks_address}
use Rattle.audit_contents.specs.declared.contents.Contents.{Contents}
use Rattle.audit_contents.specs.declared.finding.Finding.{Finding}
use Rattle.audit_contents.specs.declared.rule.ContentRule.{ContentRule}
use Rattle.audit_contents.specs.declared.said.Said.{Said}
use Rattle.audit_contents.specs.Names.{all_rules, is_fault, number_of}
use Rattle.audit_contents.specs.Rules.{breaks, said_of}
use Rattle.audit_contents.specs.Said.{said_nothing, with_said}

-- ---- what each device said; of address 15, which several may have, nothing is kept

abbrev pub no_saids : List Said
no_saids = replicate 16 said_nothing

abbrev pub with_saids : List ℕ → List Said → List Said
with_saids f ss = if sender f == 15 then ss else slice_set ss (sender f) (with_said f (said_of (sender f) ss))

-- ---- findings: how many frames break a rule, and where the reading of the first one begins

abbrev pub no_finding : Finding
no_finding = record { count = 0; first = 0 }

abbrev pub no_findings : List Finding
no_findings = replicate 11 no_finding

abbrev pub one_more : ℕ → Finding → Finding
one_more at c = record { count = sum_of c.count 1; first = if c.count == 0 then at else c.first }

abbrev pub finding_of : ContentRule → List Finding → Finding
finding_of r cs = slice_index_or cs (number_of r) no_finding

abbrev pub with_finding : Bool → ContentRule → ℕ → List Finding → List Finding
with_finding broken r at cs = if broken then slice_set cs (number_of r) (one_more at (finding_of r cs)) else cs

-- of one device, by these rules
abbrev pub with_rules : List ContentRule → ℕ → List ℕ → List Said → List Finding → List Finding
with_rules [] at f ss cs = cs
with_rules (r ∷ rs) at f ss cs = with_rules rs at f ss (with_finding (breaks r f ss) r at cs)

-- of all devices
abbrev pub none_found : List (List Finding)
none_found = replicate 16 no_findings

abbrev pub findings_at : ℕ → List (List Finding) → List Finding
findings_at i all = slice_index_or all i no_findings

abbrev pub with_findings : ℕ → List ℕ → List Said → List (List Finding) → List (List Finding)
with_findings at f ss all = slice_set all (sender f) (with_rules all_rules at f ss (findings_at (sender f) all))

-- ---- readings

abbrev pub no_contents : Contents
no_contents = record { said = no_saids; findings = none_found }

-- a poll says nothing
abbrev pub after_frame : ℕ → List ℕ → Contents → Contents
after_frame at f c = if nat_lt (length f) 2 then c else record { said = with_saids f c.said; findings = with_findings at f c.said c.findings }

-- the device at an address polls it: it may be another one
abbrev pub is_own_poll : List Bool → Bool
is_own_poll bits = not (nat_lt (length bits) 8) && seeks_address bits

abbrev pub forget : ℕ → Contents → Contents
forget i c = record { said = slice_set c.said i said_nothing; findings = c.findings }

abbrev pub after_reading : Listed → Contents → Contents
after_reading x c =
    if is_own_poll x.reported.bits then forget (initiator_of x.reported.bits) c else after_frame x.begin (delivered_frame x) c

-- THE findings of readings
abbrev pub after_readings : List Listed → Contents → Contents
after_readings [] c = c
after_readings (x ∷ xs) c = after_readings xs (after_reading x c)

abbrev pub contents_of : List Listed → Contents
contents_of xs = after_readings xs no_contents

-- ---- whether one of them is a fault

abbrev pub has_fault_by : List ContentRule → List Finding → Bool
has_fault_by [] cs = false
has_fault_by (r ∷ rs) cs = (is_fault r && not ((finding_of r cs).count == 0)) || has_fault_by rs cs

abbrev pub any_fault : List (List Finding) → Bool
any_fault [] = false
any_fault (cs ∷ all) = has_fault_by all_rules cs || any_fault all

abbrev pub has_fault : Contents → Bool
has_fault c = any_fault c.findings
