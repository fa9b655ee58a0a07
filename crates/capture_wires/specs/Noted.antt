-- Wires of text beside those of one bit (own; GTKWave's type `string`, which IEEE 1364-2005 does not have): what such a wire has
-- from an instant on is a line `sTEXT ID`.
use Rattle.std.specs.Prelude.{ℕ, ◌==◌, ◌||◌, Bool, if◌then◌else◌, List, [], ◌∷◌, ◌++◌, codes}
use Rattle.std.specs.Fmt.{decimal}
use Rattle.std.specs.List.{concat, flat_map, list_any, range_with_len}
use Rattle.line_wave.specs.declared.Stretch.{Stretch}
use Rattle.line_wave.specs.Line.{line_of}
use Rattle.capture_wires.specs.Wires.{changes_from, turns}
use Rattle.capture_wires.specs.declared.noted.WireText.{WireText}

-- a byte of a text: no space may stand in it
abbrev pub escaped : ℕ → List ℕ
escaped byte = if byte == 32 then codes "\\x20" else if byte == 92 then codes "\\\\" else byte ∷ []

-- what a wire has from an instant on: the instant, the wire by its identifier, the text
pub record Noted : Type 0 where
  pub at : ℕ
  pub id : ℕ
  pub text : List ℕ

abbrev pub noted : WireText → Noted
noted note = record { at = note.at; id = note.id; text = note.text.now }

abbrev pub note_line : Noted → List ℕ
note_line note = codes "s" ++ (flat_map escaped note.text ++ (32 ∷ note.id ∷ 10 ∷ []))

-- what is noted at an instant
abbrev pub note_at : ℕ → Noted → List ℕ
note_at t note = if note.at == t then note_line note else []

abbrev pub notes_at : ℕ → List Noted → List ℕ
notes_at t notes = flat_map (note_at t) notes

abbrev pub is_noted : ℕ → List Noted → Bool
is_noted t notes = list_any (λ note. note.at == t) notes

-- an instant at which some wire changes or something is noted: its time, each wire that changes, then what is noted
abbrev pub noted_instant : List (List Stretch) → List Noted → ℕ → List ℕ
noted_instant wires notes t =
    if list_any (λ wire. turns (line_of wire) t) wires || is_noted t notes
    then (concat (codes "#" ∷ decimal t ∷ codes "\n" ∷ []) ++ changes_from t 0 wires) ++ notes_at t notes
    else []

-- the wires and the notes in so many microseconds from `from` on
abbrev pub noted_text : List (List Stretch) → List Noted → ℕ → ℕ → List ℕ
noted_text wires notes from count = flat_map (noted_instant wires notes) (range_with_len from count)
