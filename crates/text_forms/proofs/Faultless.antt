-- A line whose places have values.
use Rattle.std.proofs.Common.{◌≡◌, ℕ, ◌+◌, ◌==◌, ◌&&◌, ◌||◌, Bool, true, false, List, [], ◌∷◌, None, is_none, Ok, refl}
use Rattle.text_forms.specs.Forms.{Place, fault_in, lacks_value, meaning_of, meanings_of, read_by, turn_of}

left_none : (a b : Bool) → a || b ≡ false → a ≡ false
left_none false b h = refl
left_none true b h = h

right_none : (a b : Bool) → a || b ≡ false → b ≡ false
right_none false b h = h
right_none true false h = refl
right_none true true h = h

and_none : (a b : Bool) → b ≡ false → a && b ≡ false
and_none true b h = h
and_none false b h = refl

no_fault : (turn n : ℕ) (ps : List Place) (ws : List (List ℕ)) → lacks_value ps ws ≡ false → fault_in turn n ps ws ≡ None
unfolding fault_in lacks_value
no_fault turn n [] ws h = refl
no_fault turn n (p ∷ ps) [] h = refl
no_fault turn n (p ∷ ps) (w ∷ ws) h =
    rw (and_none (turn_of p.0 == turn) (is_none (meaning_of p.0 w)) (left_none (is_none (meaning_of p.0 w)) (lacks_value ps ws) h))
    (no_fault turn (n + 1) ps ws (right_none (is_none (meaning_of p.0 w)) (lacks_value ps ws) h))

-- there is no fault of any turn
pub faultless : {V : Type 0} (verb : V) (ps : List Place) (ws : List (List ℕ)) → lacks_value ps ws ≡ false → Ok (verb, meanings_of ps ws) ≡ read_by verb ps ws
faultless verb ps ws h = rw (no_fault 0 0 ps ws h, no_fault 1 0 ps ws h, no_fault 2 0 ps ws h) refl
