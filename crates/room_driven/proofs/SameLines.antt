-- The text of a round goes by the lines of its drives alone.
use Rattle.std.proofs.Common.{◌≡◌, ◌∙◌, ℕ, ◌+◌, ◌-◌, Bool, true, false, not, nat_lt, ◌&&◌, ◌||◌, if◌then◌else◌, List, [], ◌∷◌, ◌++◌, map, max, codes, refl, ap, ap₂, sym}
use Rattle.std.specs.Fmt.{decimal}
use Rattle.std.specs.List.{concat, flat_map, list_any, range_with_len}
use Rattle.std.proofs.lemmas.List.{map-append}
use Rattle.line_wave.specs.declared.Stretch.{Stretch}
use Rattle.line_wave.specs.Line.{line_of}
use Rattle.line_rounds.specs.declared.Seat.{Seat}
use Rattle.line_rounds.specs.declared.Outcome.{Outcome}
use Rattle.capture_wires.specs.Noted.{Noted, is_noted, noted_instant, notes_at}
use Rattle.capture_wires.specs.Wires.{change_text, changes_from, id_of, instant_text, turns}
use Rattle.room_drives.specs.Drives.{AreOfPulses, AreOfSeats, IsBegunRound, drives_of, pulse_line, seat_line}
use Rattle.room_drives.proofs.Whole.{drives_are_ruled}
use Rattle.room_named.specs.Names.{round_notes}
use Rattle.room_driven.specs.Named.{round_of}
use Rattle.room_driven.specs.declared.wires.Wires.{Wires}
use Rattle.room_driven.specs.declared.wires.Wires.TheVariants.{Plain, Named}

-- the levels of wires in a microsecond
abbrev levels : ℕ → List (List Stretch) → List Bool
levels t wires = map (λ ss. line_of ss t) wires

first_level : (a b : Bool) (cs bs : List Bool) → (a ∷ cs) ≡ (b ∷ bs) → a ≡ b
first_level a b cs bs e = cc

other_levels : (a b : Bool) (cs bs : List Bool) → (a ∷ cs) ≡ (b ∷ bs) → cs ≡ bs
other_levels a b cs bs e = cc

-- a wire turns by what it is and was
same_turn : (t : ℕ) (v w : List Stretch) → line_of v t ≡ line_of w t → line_of v (t - 1) ≡ line_of w (t - 1) → turns (line_of v) t ≡ turns (line_of w) t
same_turn t v w now was = ap₂ (λ a b. (a && not (nat_lt 0 t && b)) || (not a && (nat_lt 0 t && b))) now was

same_turns : (t : ℕ) (vs ws : List (List Stretch)) → levels t vs ≡ levels t ws → levels (t - 1) vs ≡ levels (t - 1) ws
    → list_any (λ wire. turns (line_of wire) t) vs ≡ list_any (λ wire. turns (line_of wire) t) ws
same_turns t [] [] now was = refl
same_turns t [] (w ∷ ws) now was = cc
same_turns t (v ∷ vs) [] now was = cc
same_turns t (v ∷ vs) (w ∷ ws) now was =
    ap₂ (λ a b. a || b) (same_turn t v w (first_level _ _ _ _ now) (first_level _ _ _ _ was)) (same_turns t vs ws (other_levels _ _ _ _ now) (other_levels _ _ _ _ was))

same_changes : (t number : ℕ) (vs ws : List (List Stretch)) → levels t vs ≡ levels t ws → levels (t - 1) vs ≡ levels (t - 1) ws
    → changes_from t number vs ≡ changes_from t number ws
same_changes t number [] [] now was = refl
same_changes t number [] (w ∷ ws) now was = cc
same_changes t number (v ∷ vs) [] now was = cc
same_changes t number (v ∷ vs) (w ∷ ws) now was =
    let level = first_level (line_of v t) (line_of w t) (levels t vs) (levels t ws) now in
    let turn = same_turn t v w level (first_level (line_of v (t - 1)) (line_of w (t - 1)) (levels (t - 1) vs) (levels (t - 1) ws) was) in
    let line : Bool → Bool → List ℕ = λ turned low. if turned then (if low then 48 else 49) ∷ id_of number ∷ 10 ∷ [] else [] in
    ap₂ (λ (a b : List ℕ). a ++ b) (ap₂ line turn level) (same_changes t (number + 1) vs ws (other_levels _ _ _ _ now) (other_levels _ _ _ _ was))

-- wires of the same lines
abbrev SameLines : List (List Stretch) → List (List Stretch) → Type 0
SameLines vs ws = (t : ℕ) → levels t vs ≡ levels t ws

same_all : {X : Type 0} (f g : ℕ → List X) (xs : List ℕ) → ((x : ℕ) → f x ≡ g x) → flat_map f xs ≡ flat_map g xs
same_all f g [] same = refl
same_all {X} f g (x ∷ xs) same = ap₂ (λ (a b : List X). a ++ b) (same x) (same_all f g xs same)

same_instant : (vs ws : List (List Stretch)) (t : ℕ) → SameLines vs ws → instant_text vs t ≡ instant_text ws t
same_instant vs ws t same =
    ap₂ (λ (turned : Bool) (changes : List ℕ). if turned then concat (codes "#" ∷ decimal t ∷ codes "\n" ∷ []) ++ changes else [])
    (same_turns t vs ws (same t) (same (t - 1))) (same_changes t 0 vs ws (same t) (same (t - 1)))

same_noted : (vs ws : List (List Stretch)) (notes : List Noted) (t : ℕ) → SameLines vs ws → noted_instant vs notes t ≡ noted_instant ws notes t
same_noted vs ws notes t same =
    ap₂ (λ (turned : Bool) (changes : List ℕ). if turned || is_noted t notes then (concat (codes "#" ∷ decimal t ∷ codes "\n" ∷ []) ++ changes) ++ notes_at t notes else [])
    (same_turns t vs ws (same t) (same (t - 1))) (same_changes t 0 vs ws (same t) (same (t - 1)))

same_round : (wires : Wires) (vs ws : List (List Stretch)) (begin : ℕ) (o : Outcome) → SameLines vs ws → round_of wires vs begin o ≡ round_of wires ws begin o
same_round Plain vs ws begin o same =
    same_all (instant_text (o.wave ∷ vs)) (instant_text (o.wave ∷ ws)) (range_with_len begin (o.rest + 1 - begin))
    (λ t. same_instant (o.wave ∷ vs) (o.wave ∷ ws) t (λ u. ap (λ (bs : List Bool). line_of o.wave u ∷ bs) (same u)))
same_round Named vs ws begin o same =
    let notes = round_notes o.wave o.reading in
    same_all (noted_instant (o.wave ∷ vs) notes) (noted_instant (o.wave ∷ ws) notes) (range_with_len begin (max o.rest o.reading.at + 1 - begin))
    (λ t. same_noted (o.wave ∷ vs) (o.wave ∷ ws) notes t (λ u. ap (λ (bs : List Bool). line_of o.wave u ∷ bs) (same u)))

-- what is put together is what the rule says
pub drives_told : (wires : Wires) (seats : List Seat) (begin : ℕ) (pulses : List Stretch) (o : Outcome) (drives : List (List Stretch)) (begun : List Stretch)
    → AreOfSeats seats begin o drives → AreOfPulses begin pulses o.rest begun → IsBegunRound seats begin pulses o
    → round_of wires (drives ++ begun ∷ []) begin o ≡ round_of wires (drives_of seats begin pulses o) begin o
drives_told wires seats begin pulses o drives begun seated pulsed is =
    same_round wires (drives ++ begun ∷ []) (drives_of seats begin pulses o) begin o
    (λ t. map-append (λ (ss : List Stretch). line_of ss t) drives (begun ∷ [])
    ∙ ap₂ (λ (bs : List Bool) (b : Bool). bs ++ b ∷ []) (seated pulses is t) (pulsed seats o refl is t)
    ∙ sym (drives_are_ruled seats begin pulses o is.wave is.round t))
