-- The pulls of a text are pulls of a script.
use Rattle.std.proofs.Common.{◌≡◌, ℕ, ◌+◌, ◌-◌, ◌<◌, ◌≤◌, ◌||◌, Bool, true, false, nat_lt, nat_le, min, if◌then◌else◌, List, [], ◌∷◌, ◌++◌, Option, Some, None, Ok, refl, subst, arith}
use Rattle.std.specs.List.{All}
use Rattle.std.proofs.lemmas.Bool.Decides.{nat_tests}
use Rattle.std.proofs.lemmas.List.Elements.{All-cons, All-nil}
use Rattle.line_wave.specs.Bounds.{latest_event, widest_pull}
use Rattle.line_wave.specs.Line.{IsWaveFrom}
use Rattle.line_wave.specs.declared.Stretch.{Stretch}
use Rattle.text_core.specs.At.{at_word}
use Rattle.message_lay.specs.Laws.{LaidArePulls}
use Rattle.message_lay.specs.Text.{AreLinesRead, Notes, follow, no_notes, pull_fault, unless_fault}
use Rattle.message_lay.specs.declared.fault.LayCause.TheVariants.{Width, Order, Late}
use Rattle.message_lay.specs.declared.fault.LayCause.{LayCause}
use Rattle.text_core.specs.declared.at.AtWord.{AtWord}
use Rattle.message_lay.proofs.Checking.{notes_so, onward_by}

-- a pull that may begin from an instant on
record IsBounded (free : ℕ) (p : Stretch) : Type 0 where
  after : free ≤ p.from
  some : p.from < p.to
  wide : p.to ≤ p.from + widest_pull
  early : p.from ≤ latest_event

bounded_by : (a b c d : Bool) (free : ℕ) (p : Stretch) → nat_lt p.from free ≡ a → nat_lt latest_event p.from ≡ b → nat_le p.to p.from ≡ c → nat_lt widest_pull (p.to - p.from) ≡ d
    → (if a then Some (at_word 0 Order) else if b then Some (at_word 0 Late) else if c || d then Some (at_word 4 Width) else None) ≡ None → IsBounded free p
bounded_by true b c d free p ea eb ec ed e = cc
bounded_by false true c d free p ea eb ec ed e = cc
bounded_by false false true d free p ea eb ec ed e = cc
bounded_by false false false true free p ea eb ec ed e = cc
bounded_by false false false false free p ea eb ec ed e =
    let after : free ≤ p.from = grind (arith, nat_tests, ea) in
    let early : p.from ≤ latest_event = grind (arith, nat_tests, eb) in
    let some : p.from < p.to = grind (arith, nat_tests, ec) in
    let narrow : p.to - p.from ≤ widest_pull = grind (arith, nat_tests, ed) in
    record { after = after; some = some; wide = omega arith; early = early }

bounded : (free : ℕ) (p : Stretch) → pull_fault free p ≡ None → IsBounded free p
bounded free p e = bounded_by (nat_lt p.from free) (nat_lt latest_event p.from) (nat_le p.to p.from) (nat_lt widest_pull (p.to - p.from)) free p refl refl refl refl e

-- pulls one after another between two instants
abbrev Between : ℕ → List Stretch → ℕ → Type 0
Between free [] next = free ≤ next
Between free (p ∷ ps) next = IsBounded free p × Between (p.to + 1) ps next

followed : (ps : List Stretch) (free next : ℕ) → follow free ps ≡ Ok next → Between free ps next
followed [] free next e = let same : free ≡ next = cc in omega arith
followed (p ∷ ps) free next e = by (pull_fault free p) refl e (λ n h. followed ps n next h)
  where
    by : (f : Option (AtWord LayCause)) → pull_fault free p ≡ f → unless_fault f (follow (min (p.to + 1) 18446744073709551615) ps) ≡ Ok next
        → ((n : ℕ) → follow n ps ≡ Ok next → Between n ps next) → Between free (p ∷ ps) next
    by (Some fault) q h later = cc
    by None q h later =
        let b = bounded free p q in
        let wide = b.wide in
        let early = b.early in
        let step : min (p.to + 1) 18446744073709551615 ≡ p.to + 1 = omega arith in
        (b, later (p.to + 1) (subst (λ (n : ℕ). follow n ps ≡ Ok next) step h))

earlier : (ps : List Stretch) (first free next : ℕ) → first ≤ free → Between free ps next → Between first ps next
earlier [] first free next h b = omega arith
earlier (p ∷ ps) first free next h b =
    let after = b.0.after in
    (record { after = omega arith; some = b.0.some; wide = b.0.wide; early = b.0.early }, b.1)

between-append : (xs ys : List Stretch) (first free next : ℕ) → Between first xs free → Between free ys next → Between first (xs ++ ys) next
between-append [] ys first free next h k = earlier ys first free next h k
between-append (x ∷ xs) ys first free next h k = (h.0, between-append xs ys (x.to + 1) free next h.1 k)

are_pulls : (ps : List Stretch) (free next : ℕ) → Between free ps next
    → IsWaveFrom free ps × All (λ (p : Stretch). p.to ≤ p.from + widest_pull) ps × All (λ (p : Stretch). p.from ≤ latest_event) ps
are_pulls [] free next b = (tt, All-nil (λ (p : Stretch). p.to ≤ p.from + widest_pull), All-nil (λ (p : Stretch). p.from ≤ latest_event))
are_pulls (p ∷ ps) free next b =
    let later = are_pulls ps (p.to + 1) next b.1 in (
      (b.0.after, b.0.some, later.0),
      All-cons (λ (p : Stretch). p.to ≤ p.from + widest_pull) p ps b.0.wide later.1,
      All-cons (λ (p : Stretch). p.from ≤ latest_event) p ps b.0.early later.2,
    )

lines_bounded : (lines : List (List ℕ)) (number : ℕ) (notes : Notes) (pulls : List Stretch) → Between 0 notes.pulls notes.free → AreLinesRead lines number notes (Ok pulls) → (next : ℕ) × Between 0 pulls next
lines_bounded [] number notes pulls b h =
    let same : notes.pulls ≡ pulls = cc in
    (notes.free, subst (λ (ps : List Stretch). Between 0 ps notes.free) same b)
lines_bounded (line ∷ lines) number notes pulls b h =
    onward_by lines number notes line h.0 pulls ((next : ℕ) × Between 0 pulls next) h.1 h.2
    (λ free own follows is others. lines_bounded lines (number + 1) (notes_so free (notes.pulls ++ own)) pulls (between-append notes.pulls own 0 notes.free free b (followed own notes.free free follows)) others)

pub laid_are_pulls : LaidArePulls
laid_are_pulls lines pulls h =
    let b = lines_bounded lines 1 no_notes pulls (omega arith) h in
    let all = are_pulls pulls 0 b.0 b.1 in
    record { order = all.0; wide = all.1; early = all.2 }
