-- A report by the list of what is told (own).
use Rattle.std.specs.Prelude.{◌≡◌, ℕ, ◌==◌, ◌<◌, min, max, if◌then◌else◌, List, [], ◌∷◌, length, slice_index_or}
use Rattle.audit_widths.specs.declared.spread.Spread.{Spread}
use Rattle.audit_widths.specs.Spreads.{none, with_width}
use Rattle.audit_notes.specs.Kinds.{is_remark}
use Rattle.audit_notes.specs.Notes.{kind_of}
use Rattle.audit_notes.specs.declared.kind.NoteKind.{NoteKind}
use Rattle.audit_report.specs.declared.kinds.KindCount.{KindCount}
use Rattle.audit_report.specs.declared.row.Row.{Row}
use Rattle.audit_report.specs.Kinds.{no_kinds, with_kind}
use Rattle.audit_report.specs.Charges.{Charge, no_rows, place_of, rows_with}
use Rattle.audit_report.specs.Rows.{Told, no_row, with_told}
use Rattle.audit_report.specs.Rows.Told.{Answered, Noted}

-- ---- rows

-- what is told of the one whose row stands there, in order
abbrev pub told_at : ℕ → List Charge → List Told
told_at place [] = []
told_at place (c ∷ cs) = if place_of c.who == place then c.told ∷ told_at place cs else told_at place cs

abbrev pub row_with : List Told → Row → Row
row_with [] r = r
row_with (t ∷ ts) r = row_with ts (with_told t r)

-- Each row counts what is told of its address, and nothing else.
abbrev pub RowsAreTold : Type 0
RowsAreTold = (cs : List Charge) (place : ℕ) → place < 17 → slice_index_or (rows_with cs no_rows) place no_row ≡ row_with (told_at place cs) no_row

-- ---- answers

abbrev pub waits_told : List Told → List ℕ
waits_told [] = []
waits_told (Answered wait ∷ ts) = wait ∷ waits_told ts
waits_told (t ∷ ts) = waits_told ts

abbrev pub spread_with : List ℕ → Spread → Spread
spread_with [] s = s
spread_with (w ∷ ws) s = spread_with ws (with_width w s)

-- The answers of a row are those that are told of its address.
abbrev pub AnswersAreTold : Type 0
AnswersAreTold = (ts : List Told) → (row_with ts no_row).answers ≡ spread_with (waits_told ts) none

-- ---- remarks

-- the kinds of those that are told, in order
abbrev pub remarks_told : List Told → List NoteKind
remarks_told [] = []
remarks_told (Noted note ∷ ts) = if is_remark (kind_of note) then kind_of note ∷ remarks_told ts else remarks_told ts
remarks_told (t ∷ ts) = remarks_told ts

abbrev pub kinds_with : List NoteKind → List KindCount → List KindCount
kinds_with [] ks = ks
kinds_with (kind ∷ kinds) ks = kinds_with kinds (with_kind kind ks)

-- The remarks of a row are those that are told of its address: each is counted once, with its kind.
abbrev pub RemarksAreTold : Type 0
RemarksAreTold = (ts : List Told) → (row_with ts no_row).remarks ≡ kinds_with (remarks_told ts) no_kinds

-- ---- what a spread says of a list

abbrev pub least_in : ℕ → List ℕ → ℕ
least_in w [] = w
least_in w (v ∷ vs) = least_in (min w v) vs

abbrev pub greatest_in : ℕ → List ℕ → ℕ
greatest_in w [] = w
greatest_in w (v ∷ vs) = greatest_in (max w v) vs

-- the least and the greatest of widths, and how many they are, up to the greatest value that a count has
pub record IsSpreadOf (w : ℕ) (ws : List ℕ) (s : Spread) : Type 0 where
  pub least : s.least ≡ least_in w ws
  pub greatest : s.greatest ≡ greatest_in w ws
  pub count : s.count ≡ min (length (w ∷ ws)) 18446744073709551615

abbrev pub SpreadsAreOfLists : Type 0
SpreadsAreOfLists = (w : ℕ) (ws : List ℕ) → IsSpreadOf w ws (spread_with (w ∷ ws) none)
