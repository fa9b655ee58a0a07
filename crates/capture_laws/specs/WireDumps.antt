-- A dump of several wires (IEEE 1364-2005, 18): what it declares, and that it reports each of its wires (own).
use Rattle.std.specs.Prelude.{◌≡◌, ℕ, zero, suc, ◌+◌, ◌<◌, ◌≤◌, ◌==◌, ◌&&◌, ◌||◌, not, Bool, true, false, if◌then◌else◌, List, [], ◌∷◌, ◌++◌, length, slice_index, codes, Option, Some, None, Ok, All, ◌⊎◌}
use Rattle.std.specs.List.{flat_map, list_all, list_any}
use Rattle.std.specs.Option.{option_to_list}
use Rattle.std.specs.Str.{bytes_eq}
use Rattle.line_wave.specs.declared.Stretch.{Stretch}
use Rattle.line_wave.specs.Line.{line_of}
use Rattle.line_wave.specs.Bounds.{latest_instant}
use Rattle.capture_core.specs.Edges.{Captured, IsCapture, line_of_edges}
use Rattle.capture_core.specs.Texts.{Lacks}
use Rattle.capture_vcd.specs.Dump.{edges_in, is_end, is_space}
use Rattle.capture_vcd.specs.Text.{last}
use Rattle.capture_vcd.specs.Wire.{Part, Wire, wire_in, wire_line, words_in}
use Rattle.capture_wires.specs.Wires.{head, id_of, wires_text}

-- ---- the wires that a dump declares (18.2.3, $var)

-- a wire's identifier and its name
pub record Declared : Type 0 where
  pub id : List ℕ
  pub name : List ℕ

-- a variable's type, size, identifier and name: a wire has one bit
abbrev pub wire_of : List (List ℕ) → Option Declared
wire_of (kind ∷ size ∷ id ∷ name ∷ more) = if bytes_eq size (codes "1") then Some (record { id = id; name = name }) else None
wire_of words = None

abbrev pub declared_by : Part → List Declared
declared_by p = if bytes_eq p.keyword (codes "$var") then option_to_list (wire_of p.words) else []

-- section by section, where one is open or not, up to the end of the definitions
abbrev pub declared_from : Option Part → List (List ℕ) → List Declared
declared_from part [] = []
declared_from None (word ∷ words) =
    if slice_index word 0 == 36
    then (if bytes_eq word (codes "$enddefinitions") then []
    else if is_end word then declared_from None words
    else declared_from (Some (record { keyword = word; words = [] })) words)
    else declared_from None words
declared_from (Some p) (word ∷ words) =
    if is_end word then declared_by p ++ declared_from None words
    else declared_from (Some (record { keyword = p.keyword; words = p.words ++ word ∷ [] })) words

-- in the order in which they are declared
abbrev pub declared_in : List (List ℕ) → List Declared
declared_in words = declared_from None words

-- ---- several wires, for some time after some other

-- a wire for each number, of which 0 is the line, and the microseconds for which they are told
pub record Span : Type 0 where
  pub wires : List (List Stretch)
  pub from : ℕ
  pub count : ℕ

-- one past the last is never low
abbrev pub wire_at : ℕ → List (List Stretch) → List Stretch
wire_at number [] = []
wire_at zero (wire ∷ wires) = wire
wire_at (suc number) (wire ∷ wires) = wire_at number wires

-- each wire is high before the first of its microseconds, and from the last of them on
pub record IsWithin (s : Span) : Type 0 where
  pub some : 0 < s.count
  pub before : (number u : ℕ) → u < s.from → line_of (wire_at number s.wires) u ≡ false
  pub after : (number u : ℕ) → s.from + s.count ≤ u + 1 → line_of (wire_at number s.wires) u ≡ false

-- one after another, from an instant on and up to an end
abbrev pub AreSpans : ℕ → ℕ → List Span → Type 0
AreSpans from end [] = from ≤ end + 1
AreSpans from end (s ∷ ss) = (from ≤ s.from) × IsWithin s × AreSpans (s.from + s.count) end ss

-- what is written of their changes
abbrev pub spans_text : List Span → List ℕ
spans_text spans = flat_map (λ s. wires_text s.wires s.from s.count) spans

abbrev pub dump_of : List (List ℕ) → List Span → ℕ → List ℕ
dump_of names spans end = head names ++ (spans_text spans ++ last end)

-- ---- what is read of it

-- a name is one word, and none that ends a section
abbrev pub is_word : List ℕ → Bool
is_word name = not (length name == 0) && (not (is_end name) && list_all (λ b. not (is_space b || (b == 10))) name)

-- such a name, as words of a dump's line
pub record IsName (name : List ℕ) : Type 0 where
  pub some : (length name == 0) ≡ false
  pub other : is_end name ≡ false
  pub solid : Lacks is_space name
  pub plain : Lacks (λ c. c == 10) name

abbrev pub WordsAreNames : Type 0
WordsAreNames = (name : List ℕ) → is_word name ≡ true → IsName name

-- the names by their numbers
abbrev pub numbered_names : ℕ → List (List ℕ) → List Declared
numbered_names number [] = []
numbered_names number (name ∷ names) = record { id = id_of number ∷ []; name = name } ∷ numbered_names (number + 1) names

-- the wire of a number is low where some span has it low
abbrev pub level_at : ℕ → List Span → ℕ → Bool
level_at number spans u = list_any (λ s. line_of (wire_at number s.wires) u) spans

-- As the standard has it: the dump declares the line first, then the names and the pulses, and each of these wires has at every
-- microsecond the level that its spans say.
pub record ReportsWires (names : List (List ℕ)) (spans : List Span) (text : List ℕ) : Type 0 where
  pub line : Wire
  pub first : wire_in [] (words_in text) ≡ Some line
  pub id : line.id ≡ id_of 0 ∷ []
  pub declared : declared_in (words_in text) ≡ numbered_names 0 (codes "CEC" ∷ (names ++ codes "pulses" ∷ []))
  pub levels : (number u : ℕ) → wire_line (record line { id = id_of number ∷ [] }) u ≡ level_at number spans u

abbrev pub DumpsReportTheirWires : Type 0
DumpsReportTheirWires = (names : List (List ℕ)) (spans : List Span) (end : ℕ) → All (λ name. is_word name ≡ true) names → AreSpans 0 end spans → end ≤ latest_instant
    → ReportsWires names spans (dump_of names spans end)

-- a capture is the line's, up to the dump's end
pub record ReportsLine (spans : List Span) (end : ℕ) (c : Captured) : Type 0 where
  pub line : (u : ℕ) → line_of_edges c.edges u ≡ level_at 0 spans u
  pub end_is : c.end ≡ end
  pub capture : IsCapture c.edges c.end

-- As this program's reader has it, asked for the first wire or for the line by its name: the dump is a capture of the line.
abbrev pub DumpsAreReadAsTheLine : Type 0
DumpsAreReadAsTheLine = (asked : List ℕ) (names : List (List ℕ)) (spans : List Span) (end : ℕ) → (asked ≡ []) ⊎ (asked ≡ codes "CEC")
    → All (λ name. is_word name ≡ true) names → AreSpans 0 end spans → end ≤ latest_instant
    → (c : Captured) × (edges_in asked (dump_of names spans end) ≡ Ok c) × ReportsLine spans end c
