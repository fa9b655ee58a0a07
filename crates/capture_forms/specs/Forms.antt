-- The form of a capture, by its first line (own).
use Rattle.std.specs.Prelude.{ℕ, Bool, not, ◌==◌, ◌&&◌, ◌||◌, nat_lt, if◌then◌else◌, List, [], ◌∷◌, length, take, slice_index, codes}
use Rattle.std.specs.List.{position_or_len}
use Rattle.std.specs.Option.{is_none}
use Rattle.std.specs.Str.{bytes_eq}
use Rattle.text_core.specs.Lines.{lines_of}
use Rattle.text_core.specs.Number.{number_of}
use Rattle.capture_forms.specs.declared.form.CaptureForm.{CaptureForm}
use Rattle.capture_forms.specs.declared.form.CaptureForm.TheVariants.{Edges, Vcd, Csv, Pin}

-- whether there is a comma, and before it no number; a remark has no names
abbrev pub comma_in : List ℕ → ℕ
comma_in line = position_or_len (λ b. b == 44) line

abbrev pub has_names : List ℕ → Bool
has_names line = not (slice_index line 0 == 35) && (nat_lt (comma_in line) (length line) && is_none (number_of (take (comma_in line) line)))

-- `$..` and `META ..` begin a dump, `# cec-ctl --store-pin` a file of pin events, and a line with names comma-separated values
abbrev pub form_of_line : List ℕ → CaptureForm
form_of_line line =
    if (slice_index line 0 == 36) || bytes_eq (take 5 line) (codes "META ") then Vcd
    else if bytes_eq (take 21 line) (codes "# cec-ctl --store-pin") then Pin
    else if has_names line then Csv
    else Edges

abbrev pub form_by : List (List ℕ) → CaptureForm
form_by [] = Edges
form_by (line ∷ lines) = form_of_line line

abbrev pub form_of : List ℕ → CaptureForm
form_of text = form_by (lines_of text)
