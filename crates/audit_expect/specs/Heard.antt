-- Readings as they are heard, in a form that stays (own).
use Rattle.std.specs.Prelude.{◌≡◌, Bool, false, List, [], ◌∷◌, ◌++◌}
use Rattle.std.specs.List.{flat_map}
use Rattle.std.proofs.Common.{refl, sym, ap, ◌∙◌, subst, append-nil, append_assoc}
use Rattle.std.proofs.lemmas.Grind.{flat_map-append}
use Rattle.record_core.specs.declared.cell.Form.{Form}
use Rattle.audit_notes.specs.Lines.{AuditLine}
use Rattle.audit_notes.specs.Lines.AuditLine.{Reading}
use Rattle.expect_judge.specs.Told.{RoundLine}
use Rattle.audit_expect.specs.Marks.{listed_told}

abbrev pub round_of : Form → AuditLine → List RoundLine
round_of form (Reading x) = listed_told form x ∷ []
round_of form line = []

abbrev pub rounds_of : Form → List AuditLine → List RoundLine
rounds_of form lines = flat_map (round_of form) lines

-- where memory did not run out, all are kept
abbrev pub KeepsReadings : Form → List RoundLine → Bool → List AuditLine → List RoundLine → Bool → Type 0
KeepsReadings form old was lines new is = is ≡ false → (was ≡ false) × (new ≡ old ++ rounds_of form lines)

-- ---- line by line

pub none_kept : (form : Form) (rounds : List RoundLine) (full : Bool) → (form ≡ form) × KeepsReadings form rounds full [] rounds full
none_kept form rounds full = (refl, λ room. (room, sym (append-nil rounds)))

both_so : (form : Form) (a b c : List RoundLine) (f g h : Bool) (xs ys : List AuditLine) → KeepsReadings form a f xs b g → KeepsReadings form b g ys c h → KeepsReadings form a f (xs ++ ys) c h
both_so form a b c f g h xs ys first second = λ room.
    let later = second room in
    let before = first later.0 in (
      before.0,
      later.1 ∙ ap (λ (rounds : List RoundLine). rounds ++ rounds_of form ys) before.1 ∙ append_assoc a (rounds_of form xs) (rounds_of form ys)
          ∙ ap (λ (rounds : List RoundLine). a ++ rounds) (sym (flat_map-append (round_of form) xs ys)),
    )

pub both_kept : (x y z : Form) (a b c : List RoundLine) (f g h : Bool) (xs ys : List AuditLine) → (y ≡ x) × KeepsReadings x a f xs b g → (z ≡ y) × KeepsReadings y b g ys c h
    → (z ≡ x) × KeepsReadings x a f (xs ++ ys) c h
both_kept x y z a b c f g h xs ys first second =
    (second.0 ∙ first.0, both_so x a b c f g h xs ys first.1 (subst (λ (form : Form). KeepsReadings form b g ys c h) first.0 second.1))
