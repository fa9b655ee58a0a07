-- How remarks of an audit are called (own).
use Rattle.std.specs.Prelude.{ℕ, Bool, false, List, [], ◌∷◌}
use Rattle.std.specs.List.{list_any}
use Rattle.text_core.specs.Words.{words_of}
use Rattle.audit_notes.specs.Kinds.{name_of, remark_kinds}
use Rattle.audit_notes.specs.declared.kind.NoteKind.{NoteKind}
use Rattle.expect_text.specs.Fits.{fits}

-- one of these kinds is called so
abbrev pub is_called : List ℕ → List NoteKind → Bool
is_called name kinds = list_any (λ kind. fits name (name_of kind)) kinds

-- the first word of a pattern is met by what some kind of remarks is called
abbrev pub is_called_so : List (List ℕ) → List NoteKind → Bool
is_called_so [] kinds = false
is_called_so (name ∷ words) kinds = is_called name kinds

abbrev pub is_remark_called : List ℕ → Bool
is_remark_called pattern = is_called_so (words_of pattern) remark_kinds
