-- The wide reading: the pieces of a captured line. They part its low stretches, in order: each has those that stand at a place of it
-- and ends before the first that stands outside.
use Rattle.std.specs.Prelude.{◌≡◌, ℕ, true, false, if◌then◌else◌, List, [], ◌∷◌, ◌++◌, Option, Some, None, option_map}
use Rattle.std.specs.List.{flat_map}
use Rattle.audit_widths.specs.declared.low.Low.{Low}
use Rattle.audit_pieces.specs.declared.stretch.LowStretch.{LowStretch}
use Rattle.audit_pieces.specs.declared.piece.After.{After}
use Rattle.audit_pieces.specs.declared.piece.After.TheVariants.{Fall, End}
use Rattle.audit_pieces.specs.declared.reader.PieceReader.{PieceReader}
use Rattle.audit_pieces.specs.Stretches.{stretches_of}
use Rattle.audit_pieces.specs.Pieces.{Parts, Whole, alone, ended, is_outside, parts_of, place_of, with_stretch}

-- each of these stretches stands at a place of the piece, which has these parts with all of them
abbrev pub AreOf : Parts → List LowStretch → Parts → Type 0
AreOf p [] q = p ≡ q
AreOf p (x ∷ xs) q = (is_outside (place_of p x) ≡ false) × AreOf (with_stretch x p) xs q

-- the next one stands outside, or there is none
abbrev pub EndsBefore : Parts → List LowStretch → Type 0
EndsBefore p [] = Unit {0}
EndsBefore p (x ∷ xs) = is_outside (place_of p x) ≡ true

abbrev pub after_of : ℕ → List LowStretch → After
after_of end [] = End end
after_of end (x ∷ xs) = Fall x

-- the pieces of these stretches, of a capture up to `end`; before the first one the capture's begin
abbrev pub ArePieces : ℕ → Option ℕ → List LowStretch → List Whole → Type 0
ArePieces end begin xs [] = xs ≡ []
ArePieces end begin xs (p ∷ ps) =
    (own : List LowStretch) × (rest : List LowStretch) × (xs ≡ (p.parts.head ∷ own) ++ rest)
    × AreOf (alone p.parts.head) own p.parts × EndsBefore p.parts rest × (p ≡ ended begin p.parts (after_of end rest)) × ArePieces end None rest ps

-- of a capture from `begin` to `end` with these low stretches
abbrev pub IsWide : ℕ → ℕ → List Low → List Whole → Type 0
IsWide begin end lows ps = ArePieces end (Some begin) (stretches_of end lows) ps

-- ---- the same, stretch by stretch

-- a piece that runs, and what follows
abbrev pub pieces_on : ℕ → Option ℕ → Parts → List LowStretch → List Whole
pieces_on end begin p [] = ended begin p (End end) ∷ []
pieces_on end begin p (x ∷ xs) =
    if is_outside (place_of p x) then ended begin p (Fall x) ∷ pieces_on end None (alone x) xs else pieces_on end begin (with_stretch x p) xs

abbrev pub pieces_of : ℕ → Option ℕ → List LowStretch → List Whole
pieces_of end begin [] = []
pieces_of end begin (x ∷ xs) = pieces_on end begin (alone x) xs

-- what a reader gives that has come so far, of the stretches that follow
abbrev pub pieces_with : ℕ → Option ℕ → Option Parts → List LowStretch → List Whole
pieces_with end begin None xs = pieces_of end begin xs
pieces_with end begin (Some p) xs = pieces_on end begin p xs

abbrev pub pieces_left : PieceReader → ℕ → List LowStretch → List Whole
pieces_left r end xs = pieces_with end r.begin (option_map parts_of r.running) xs

-- ---- laws

-- What a reader gives are the pieces.
abbrev pub ReadersGivePieces : Type 0
ReadersGivePieces = (begin end : ℕ) (lows : List Low) → IsWide begin end lows (pieces_of end (Some begin) (stretches_of end lows))

-- There is one list of pieces.
abbrev pub OneWide : Type 0
OneWide = (begin end : ℕ) (lows : List Low) (ps : List Whole) → IsWide begin end lows ps → ps ≡ pieces_of end (Some begin) (stretches_of end lows)

-- these stretches are all of that piece: there is one at least
abbrev pub AreOwn : List LowStretch → Whole → Type 0
AreOwn [] p = ⊥
AreOwn (x ∷ xs) p = (x ≡ p.parts.head) × AreOf (alone x) xs p.parts

abbrev pub AreEachOwn : List (List LowStretch) → List Whole → Type 0
AreEachOwn [] [] = Unit {0}
AreEachOwn (own ∷ owns) (p ∷ ps) = AreOwn own p × AreEachOwn owns ps
AreEachOwn _ _ = ⊥

-- The pieces, one after another, are all stretches.
abbrev pub PiecesAreAll : Type 0
PiecesAreAll = (begin end : ℕ) (lows : List Low) (ps : List Whole) → IsWide begin end lows ps
    → (owns : List (List LowStretch)) × AreEachOwn owns ps × (flat_map (λ own. own) owns ≡ stretches_of end lows)
