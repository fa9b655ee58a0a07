-- How often each kind of remark came, in the order in which they first came (own).
use Rattle.std.specs.Prelude.{ℕ, ◌+◌, ◌==◌, Bool, true, false, ◌&&◌, ◌||◌, nat_lt, if◌then◌else◌, List, [], ◌∷◌, replicate, slice_index_or, slice_set}
use Rattle.audit_widths.specs.Spreads.{sum_of}
use Rattle.audit_notes.specs.Kinds.{name_of}
use Rattle.audit_notes.specs.declared.kind.NoteKind.{NoteKind}
use Rattle.audit_notes.specs.declared.kind.NoteKind.TheVariants.{Read}
use Rattle.audit_report.specs.declared.kinds.KindCount.{KindCount}

abbrev pub same_text : List ℕ → List ℕ → Bool
same_text [] [] = true
same_text [] (y ∷ ys) = false
same_text (x ∷ xs) [] = false
same_text (x ∷ xs) (y ∷ ys) = (x == y) && same_text xs ys

-- a number in a kind is no part of how it is called
abbrev pub holds : NoteKind → KindCount → Bool
holds kind k = (k.count == 0) || same_text (name_of k.kind) (name_of kind)

-- the first that is called so, or that came 0 times
abbrev pub place_in : NoteKind → List KindCount → ℕ
place_in kind [] = 0
place_in kind (k ∷ ks) = if holds kind k then 0 else 1 + place_in kind ks

abbrev pub none_yet : KindCount
none_yet = record { kind = Read; count = 0 }

abbrev pub no_kinds : List KindCount
no_kinds = replicate 32 none_yet

-- one more remark of a kind, where there is room
abbrev pub with_kind : NoteKind → List KindCount → List KindCount
with_kind kind ks =
    if nat_lt (place_in kind ks) 32 then slice_set ks (place_in kind ks) (record { kind = kind; count = sum_of (slice_index_or ks (place_in kind ks) none_yet).count 1 }) else ks
