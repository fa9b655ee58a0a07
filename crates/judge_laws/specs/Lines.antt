-- The state line of a device, word by word (own).
use Rattle.std.specs.Prelude.{◌≡◌, ℕ, ◌<◌, ◌≤◌, ◌^◌, ◌↔◌, true, codes, List, [], ◌∷◌, ◌++◌, length, slice_get, Option, Some, None}
use Rattle.std.specs.List.{All}
use Rattle.text_core.specs.Bytes.{are_bytes}
use Rattle.text_core.specs.declared.phys.Phys.{Phys}
use Rattle.message_table.specs.DeckWords.{deck_info_byte}
use Rattle.device_features.specs.declared.record.HeardReport.{HeardReport}
use Rattle.device_features.specs.declared.record.Record.{Record}
use Rattle.device_core.specs.State.{State}
use Rattle.room_trace.specs.StateText.{language_bytes, state_line}
use Rattle.expect_text.specs.StateTest.{is_state_word}
use Rattle.expect_text.specs.StateWords.{IsStateWord}

-- ---- values of a device as each device has them: bytes, numbers of their types, and lists that fit

abbrev pub phys_bytes : Phys → List ℕ
phys_bytes p = p.high ∷ p.low ∷ []

abbrev pub note_bytes : HeardReport → List ℕ
note_bytes n = n.opcode ∷ n.first ∷ []

abbrev pub bytes_of : {T : Type 0} → (T → List ℕ) → Option T → List ℕ
bytes_of bytes None = []
bytes_of bytes (Some x) = bytes x

-- there is a port with this number, if there is a number
abbrev pub IsPort : Option ℕ → Type 0
IsPort None = Unit {0}
IsPort (Some n) = n ≤ 15

pub record IsRecordSized (r : Record) : Type 0 where
  pub active : are_bytes (bytes_of phys_bytes r.active) ≡ true
  pub path : are_bytes (bytes_of phys_bytes r.path) ≡ true
  pub deck : are_bytes (deck_info_byte r.deck ∷ []) ≡ true
  pub volume : r.volume ≤ 100
  pub selected : IsPort r.selected
  pub language : are_bytes (language_bytes r.language) ≡ true
  pub osd : are_bytes r.osd.items ≡ true
  pub osd_fits : length r.osd.items ≤ 16
  pub held : are_bytes (bytes_of (λ b. b ∷ []) r.held) ≡ true
  pub heard : are_bytes (bytes_of note_bytes r.heard) ≡ true

pub record IsSized (d : State) : Type 0 where
  pub phys : are_bytes (phys_bytes d.phys) ≡ true
  pub record_of : IsRecordSized d.record_of
  pub queue : length d.queue ≤ 16
  pub dropped : d.dropped < 2 ^ 64

-- ---- words

-- words, each after a space, and the end of the line
abbrev pub spaced : List (List ℕ) → List ℕ
spaced [] = 10 ∷ []
spaced (word ∷ words) = 32 ∷ (word ++ spaced words)

-- `state NAME` and these words, each one that a state line can have
pub record IsSaid (d : State) (words : List (List ℕ)) : Type 0 where
  pub spelled : state_line d ≡ codes "state " ++ (d.name ++ spaced words)
  pub words_are : All IsStateWord words

-- Whatever a device does, no word of its state line is refused in an expectation of a state.
abbrev pub StateLinesAreSaid : Type 0
StateLinesAreSaid = (d : State) → IsSized d → (words : List (List ℕ)) × IsSaid d words

-- a word that stands in the state line of some device
abbrev pub IsOfSomeDevice : List ℕ → Type 0
IsOfSomeDevice word = (d : State) × IsSized d × (words : List (List ℕ)) × IsSaid d words × (place : ℕ) × (slice_get words place ≡ Some word)

-- A word is taken in an expectation of a state exactly where it stands in the state line of some device.
abbrev pub StateWordsAreSaid : Type 0
StateWordsAreSaid = (word : List ℕ) → (is_state_word word ≡ true) ↔ IsOfSomeDevice word
