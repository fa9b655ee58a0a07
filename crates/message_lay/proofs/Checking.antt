-- Lines that are looked at one after another, and their pulls.
use Rattle.std.proofs.Common.{◌≡◌, ℕ, ◌+◌, List, [], ◌∷◌, ◌++◌, Result, Ok, Err, refl, sym, ap, subst, ◌∙◌, append_assoc, append-nil}
use Rattle.std.specs.List.{flat_map}
use Rattle.std.proofs.lemmas.Grind.{flat_map-append}
use Rattle.text_core.specs.ByLine.{AreInOrder}
use Rattle.text_core.specs.Lines.{lines_of}
pub use Rattle.text_core.proofs.Adding.{more}
use Rattle.line_wave.specs.declared.Stretch.{Stretch}
use Rattle.message_lay.specs.Line.{IsLineRead}
use Rattle.record_core.specs.declared.cell.Form.{Form}
use Rattle.message_lay.specs.Text.{AreLinesRead, ArePullsOf, IsFollowed, Notes, Onward, follow, follows, no_notes, pull_record, taken, taken_by}
use Rattle.text_core.specs.At.{at_line}
use Rattle.message_lay.specs.declared.fault.LayCause.{LayCause}
use Rattle.text_core.specs.declared.at.At.{At}
use Rattle.text_core.specs.declared.at.AtWord.{AtWord}

-- the lines so far are laid, and a pull may begin from `free` on: what the others give all lines give
pub record Checked (text rest : List ℕ) (line free : ℕ) : Type 0 where
  pub done : List Stretch
  pub reads : (read : Result (List Stretch) (At LayCause)) → AreLinesRead (lines_of rest) line (record { free = free; pulls = done }) read
      → AreLinesRead (lines_of text) 1 no_notes read

pub checked_none : (text : List ℕ) → Checked text text 1 0
checked_none text = record { done = []; reads = λ read h. h }

abbrev pub notes_so : ℕ → List Stretch → Notes
notes_so free done = record { free = free; pulls = done }

-- the first of some lines, and those after it
first_read : (rest current : List ℕ) (after : List (List ℕ)) (line : ℕ) (notes : Notes) (now : Result (List Stretch) (AtWord LayCause)) (read : Result (List Stretch) (At LayCause)) → lines_of rest ≡ current ∷ after
    → IsLineRead current now → Onward line (taken notes now) (λ next. AreLinesRead after (line + 1) next read) read → AreLinesRead (lines_of rest) line notes read
first_read rest current after line notes now read e is onward =
    subst (λ (ls : List (List ℕ)). AreLinesRead ls line notes read) (sym e) (now, is, onward)

pub checked_more : (text rest after current : List ℕ) (line free next : ℕ) → Checked text rest line free → lines_of rest ≡ current ∷ lines_of after
    → IsFollowed free current (Ok next) → Checked text after (line + 1) next
checked_more text rest after current line free next k e h = by h.0 h.1 h.2
  where
    by : (now : Result (List Stretch) (AtWord LayCause)) → IsLineRead current now → Ok next ≡ follows free now → Checked text after (line + 1) next
    by (Err fault) is f = cc
    by (Ok pulls) is f = record {
      done = k.done ++ pulls;
      reads = λ read others. k.reads read (first_read rest current (lines_of after) line (notes_so free k.done) (Ok pulls) read e is
          (subst (λ (r : Result ℕ (AtWord LayCause)). Onward line (taken_by k.done pulls r) (λ n. AreLinesRead (lines_of after) (line + 1) n read) read) f others));
    }

pub checked_fault : (text rest after current : List ℕ) (line free : ℕ) (fault : (AtWord LayCause)) → Checked text rest line free → lines_of rest ≡ current ∷ lines_of after
    → IsFollowed free current (Err fault) → AreLinesRead (lines_of text) 1 no_notes (Err (at_line line fault))
checked_fault text rest after current line free fault k e h = by h.0 h.1 h.2
  where
    by : (now : Result (List Stretch) (AtWord LayCause)) → IsLineRead current now → Err fault ≡ follows free now → AreLinesRead (lines_of text) 1 no_notes (Err (at_line line fault))
    by (Err other) is f = k.reads (Err (at_line line fault)) (first_read rest current (lines_of after) line (notes_so free k.done) (Err other) (Err (at_line line fault)) e is
        (subst (λ (r : Result ℕ (AtWord LayCause)). Onward line (taken_by k.done [] r) (λ n. AreLinesRead (lines_of after) (line + 1) n (Err (at_line line fault))) (Err (at_line line fault))) f refl))
    by (Ok pulls) is f = k.reads (Err (at_line line fault)) (first_read rest current (lines_of after) line (notes_so free k.done) (Ok pulls) (Err (at_line line fault)) e is
        (subst (λ (r : Result ℕ (AtWord LayCause)). Onward line (taken_by k.done pulls r) (λ n. AreLinesRead (lines_of after) (line + 1) n (Err (at_line line fault))) (Err (at_line line fault))) f refl))

pub checked_all : (text rest : List ℕ) (line free : ℕ) → Checked text rest line free → lines_of rest ≡ []
    → (pulls : List Stretch) × AreLinesRead (lines_of text) 1 no_notes (Ok pulls)
checked_all text rest line free k e =
    (k.done, k.reads (Ok k.done) (subst (λ (ls : List (List ℕ)). AreLinesRead ls line (notes_so free k.done) (Ok k.done)) (sym e) refl))

-- ---- what is written

-- a line of which the pulls are read, and those after it
pub onward_by : (lines : List (List ℕ)) (number : ℕ) (notes : Notes) (current : List ℕ) (now : Result (List Stretch) (AtWord LayCause)) (pulls : List Stretch) (R : Type 0) → IsLineRead current now
    → Onward number (taken notes now) (λ next. AreLinesRead lines (number + 1) next (Ok pulls)) (Ok pulls)
    → ((free : ℕ) (own : List Stretch) → follow notes.free own ≡ Ok free → IsLineRead current (Ok own)
    → AreLinesRead lines (number + 1) (notes_so free (notes.pulls ++ own)) (Ok pulls) → R)
    → R
onward_by lines number notes current (Err fault) pulls R is h f = cc
onward_by lines number notes current (Ok own) pulls R is h f = by (follow notes.free own) refl h
  where
    by : (r : Result ℕ (AtWord LayCause)) → follow notes.free own ≡ r → Onward number (taken_by notes.pulls own r) (λ next. AreLinesRead lines (number + 1) next (Ok pulls)) (Ok pulls) → R
    by (Err fault) e g = cc
    by (Ok free) e g = f free own e is g

-- a line's pulls, and those of the lines after it
in_order_next : (form : Form) (line : List ℕ) (lines : List (List ℕ)) (own more : List Stretch) → IsLineRead line (Ok own) → AreInOrder (ArePullsOf form) lines (flat_map (pull_record form) more)
    → AreInOrder (ArePullsOf form) (line ∷ lines) (flat_map (pull_record form) (own ++ more))
in_order_next form line lines own more is others = (flat_map (pull_record form) own, flat_map (pull_record form) more, (own, is, refl), others, flat_map-append (pull_record form) own more)

-- the pulls of lines are those of the lines before, and then those of each line, in order
pulls_after : (form : Form) (lines : List (List ℕ)) (number : ℕ) (notes : Notes) (pulls : List Stretch) → AreLinesRead lines number notes (Ok pulls)
    → (more : List Stretch) × (pulls ≡ notes.pulls ++ more) × AreInOrder (ArePullsOf form) lines (flat_map (pull_record form) more)
pulls_after form [] number notes pulls h =
    let same : pulls ≡ notes.pulls = cc in
    ([], same ∙ sym (append-nil notes.pulls), refl)
pulls_after form (line ∷ lines) number notes pulls h =
    onward_by lines number notes line h.0 pulls ((more : List Stretch) × (pulls ≡ notes.pulls ++ more) × AreInOrder (ArePullsOf form) (line ∷ lines) (flat_map (pull_record form) more)) h.1 h.2
    (λ free own follows is others.
    let later = pulls_after form lines (number + 1) (notes_so free (notes.pulls ++ own)) pulls others in
    (own ++ later.0, later.1 ∙ append_assoc notes.pulls own later.0, in_order_next form line lines own later.0 is later.2))

pub pulls_in_order : (form : Form) (lines : List (List ℕ)) (pulls : List Stretch) → AreLinesRead lines 1 no_notes (Ok pulls) → AreInOrder (ArePullsOf form) lines (flat_map (pull_record form) pulls)
pulls_in_order form lines pulls h =
    let all = pulls_after form lines 1 no_notes pulls h in
    subst (λ (ps : List Stretch). AreInOrder (ArePullsOf form) lines (flat_map (pull_record form) ps)) (sym all.1) all.2
