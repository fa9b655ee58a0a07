-- An audit keeps the readings: the line of each stands in it as a monitor writes it, in order, and all else are lines that
-- begin with two spaces (own).
use Rattle.std.specs.Prelude.{◌≡◌, ◌≢◌, ℕ, ◌==◌, Bool, not, List, [], ◌∷◌, ◌++◌, slice_index, filter, Option, None, Some}
use Rattle.std.specs.List.{flat_map, list_all}
use Rattle.line_reading.specs.Readings.{Listed, readings_of}
use Rattle.capture_core.specs.Edges.{Captured, line_of_edges}
use Rattle.text_core.specs.Lines.{lines_of}
use Rattle.capture_monitor.specs.Watch.{listed_line, readings_text}
use Rattle.audit_core.specs.Audit.{audit_text}

-- without a line feed
abbrev pub IsPlain : List ℕ → Type 0
IsPlain [] = Unit {0}
IsPlain (c ∷ cs) = (c ≢ 10) × IsPlain cs

-- a text that is absent, or without a line feed
abbrev pub PlainIf : Option (List ℕ) → Type 0
PlainIf None = Unit {0}
PlainIf (Some text) = IsPlain text

-- a text without a line feed, as a test
abbrev pub shown : List ℕ → Bool
shown text = list_all (λ c. not (c == 10)) text

-- a line feed ends it, and there is no other one
pub record IsClosed (text : List ℕ) : Type 0 where
  pub rest : List ℕ
  pub same : text ≡ rest ++ 10 ∷ []
  pub plain : IsPlain rest

-- a line that begins with two spaces
abbrev pub IsRemark : List ℕ → Type 0
IsRemark [] = ⊥
IsRemark (a ∷ []) = ⊥
IsRemark (a ∷ b ∷ rest) = (a ≡ 32) × (b ≡ 32) × IsClosed rest

abbrev pub AllRemarks : List (List ℕ) → Type 0
AllRemarks [] = Unit {0}
AllRemarks (line ∷ lines) = IsRemark line × AllRemarks lines

-- such lines, one after another
pub record AreRemarks (text : List ℕ) : Type 0 where
  pub lines : List (List ℕ)
  pub each : AllRemarks lines
  pub same : text ≡ flat_map (λ line. line) lines

-- the line of a reading, with remarks below it, and those of the readings after it
abbrev pub AreKept : List Listed → List ℕ → Type 0
AreKept [] text = AreRemarks text
AreKept (x ∷ xs) text = (below : List ℕ) × (rest : List ℕ) × AreRemarks below × AreKept xs rest × (text ≡ listed_line x ++ below ++ rest)

-- the lines of a text that do not begin with a space
abbrev pub is_remark : List ℕ → Bool
is_remark line = slice_index line 0 == 32

abbrev pub without_remarks : List ℕ → List ℕ
without_remarks text = flat_map (λ line. line ++ 10 ∷ []) (filter (λ line. not (is_remark line)) (lines_of text))

pub record KeepsReadings (xs : List Listed) (text : List ℕ) : Type 0 where
  pub parts : AreKept xs text
  pub lines : without_remarks text ≡ readings_text xs

-- Each line of an audit that does not begin with a space is what a monitor writes, in order, and all else begins with two.
abbrev pub AuditsKeepReadings : Type 0
AuditsKeepReadings = (timing : Bool) (c : Captured) → KeepsReadings (readings_of (line_of_edges c.edges) c.end) (audit_text timing c)
