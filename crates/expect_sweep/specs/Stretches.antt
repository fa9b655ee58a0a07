-- Stretches of a series (own): instants in a row at which the same is found.
use Rattle.std.specs.Prelude.{◌≡◌, ◌≢◌, ℕ, ◌+◌, ◌&&◌, Bool, if◌then◌else◌, codes, map, List, [], ◌∷◌, ◌++◌}
use Rattle.std.specs.Bool.{beq}
use Rattle.std.specs.Cmp.Lexicographic.{pointwise}
use Rattle.std.specs.List.{All, flat_map, list_all}
use Rattle.text_core.specs.Held.{held_bytes}
use Rattle.record_core.specs.Cells.{PlainCell, both}
use Rattle.record_core.specs.Records.{record_text}
use Rattle.record_core.specs.Values.{number, verdicts as holds_value}
use Rattle.record_core.specs.declared.cell.Form.{Form}
use Rattle.expect_sweep.specs.Series.{InstantSeries, instants, instants_of}
use Rattle.expect_sweep.specs.declared.stretches.StretchesDraft.{StretchesDraft as DraftMade}

-- from its first instant to its last, and the verdicts of each
pub record Stretch : Type 0 where
  pub first : ℕ
  pub last : ℕ
  pub verdicts : List Bool

abbrev pub instants_in : ℕ → Stretch → List ℕ
instants_in step s = instants step s.first s.last

-- at each instant the verdicts are these
abbrev pub IsFound : (ℕ → List Bool → Type 0) → ℕ → Stretch → Type 0
IsFound Found step s = All (λ t. Found t s.verdicts) (instants_in step s)

abbrev pub DifferInTurn : List (List Bool) → Type 0
DifferInTurn [] = Unit {0}
DifferInTurn (vs ∷ []) = Unit {0}
DifferInTurn (vs ∷ ws ∷ more) = (vs ≢ ws) × DifferInTurn (ws ∷ more)

-- The longest stretches of a series: their instants, one stretch after another, are those of the series, each once and in order; at
-- each of them the verdicts of its stretch are found; and the verdicts of neighbours differ.
pub record AreStretches (Found : ℕ → List Bool → Type 0) (s : InstantSeries) (stretches : List Stretch) : Type 0 where
  pub whole : flat_map (instants_in s.step) stretches ≡ instants_of s
  pub found : All (IsFound Found s.step) stretches
  pub longest : DifferInTurn (map (λ x. x.verdicts) stretches)

-- ---- as a text, or as objects

-- `4700000..4931599 ok ok not-ok ok`
abbrev pub stretch_cells : Stretch → List PlainCell
stretch_cells s = both [] (codes "from") (number s.first) ∷ both (codes "..") (codes "to") (number s.last) ∷ both [] (codes "holds") (holds_value s.verdicts) ∷ []

abbrev pub stretch_line : Form → Stretch → List ℕ
stretch_line form s = record_text form (codes "stretch") (stretch_cells s)

abbrev pub stretches_text : Form → List Stretch → List ℕ
stretches_text form stretches = flat_map (stretch_line form) stretches

abbrev pub are_all_ok : List Bool → Bool
are_all_ok verdicts = list_all (λ v. v) verdicts

-- each verdict of each instant is ok
abbrev pub all_hold : List Stretch → Bool
all_hold stretches = list_all (λ s. are_all_ok s.verdicts) stretches

-- ---- as they are made

-- in which form the lines are, those of the stretches that have ended, the one that has not, whether all held so far, and how many
-- instants and stretches there are
pub record StretchesDraft : Type 0 where
  pub form : Form
  pub text : List ℕ
  pub last : Stretch
  pub holds : Bool
  pub done : ℕ
  pub stretches : ℕ

abbrev pub draft_as : DraftMade → StretchesDraft
draft_as d = record { form = d.form; text = held_bytes d.text; last = record { first = d.first; last = d.last; verdicts = d.verdicts.items }; holds = d.holds; done = d.done; stretches = d.stretches }

abbrev pub are_same : List Bool → List Bool → Bool
are_same vs ws = pointwise beq vs ws

abbrev pub first_draft : Form → ℕ → List Bool → StretchesDraft
first_draft form t vs = record { form = form; text = []; last = record { first = t; last = t; verdicts = vs }; holds = are_all_ok vs; done = 1; stretches = 1 }

abbrev pub longer : StretchesDraft → ℕ → StretchesDraft
longer d t = record { form = d.form; text = d.text; last = record { first = d.last.first; last = t; verdicts = d.last.verdicts }; holds = d.holds; done = d.done + 1; stretches = d.stretches }

abbrev pub draft_at_end : StretchesDraft → StretchesDraft
draft_at_end d = record { form = d.form; text = d.text ++ stretch_line d.form d.last; last = d.last; holds = d.holds; done = d.done; stretches = d.stretches }

abbrev pub next : StretchesDraft → ℕ → List Bool → StretchesDraft
next d t vs = record { form = d.form; text = (draft_at_end d).text; last = record { first = t; last = t; verdicts = vs }; holds = d.holds && are_all_ok vs; done = d.done + 1; stretches = d.stretches + 1 }

-- with one more instant
abbrev pub with_instant : StretchesDraft → ℕ → List Bool → StretchesDraft
with_instant d t vs = if are_same d.last.verdicts vs then longer d t else next d t vs
