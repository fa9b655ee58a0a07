-- The lines of a trace are those of its records.
use Rattle.std.proofs.Common.{◌≡◌, ℕ, Bool, true, false, codes, List, [], ◌∷◌, ◌++◌, Option, Some, None, map, if◌then◌else◌, append_assoc, append-nil, refl, sym, ap, ap₂, subst, ◌∙◌}
use Rattle.std.proofs.lemmas.Grind.{flat_map-append}
use Rattle.std.specs.List.{concat, flat_map}
use Rattle.text_core.specs.Adds.{Adds, Tally}
use Rattle.text_core.specs.Piece.{piece_text}
use Rattle.text_core.specs.declared.kind.Kind.{Kind}
use Rattle.text_core.specs.declared.kind.Kind.TheVariants.{Amp, Combo, Outside, OutsideTv, Player, Recorder, Switch, Tv}
use Rattle.line_rounds.specs.declared.Outcome.{Outcome}
use Rattle.device_core.specs.State.{State, addresses_held, held_by}
use Rattle.device_core.specs.declared.place.Place.{Place}
use Rattle.device_core.specs.declared.place.Place.TheVariants.{Off, Polls, Settled}
use Rattle.device_features.specs.Kinds.{is_outside}
use Rattle.device_features.specs.declared.record.HeardReport.{HeardReport}
use Rattle.room_event.specs.declared.event.EventError.{EventError}
use Rattle.reading_record.specs.Reading.{reading_cells}
use Rattle.reading_record.proofs.Same.{same}
use Rattle.record_core.specs.Cells.{PlainCell, PlainValue, joined, listed, rest_joined}
use Rattle.record_core.specs.Records.{line_of, record_text, said, word_text}
use Rattle.record_core.specs.Values.{pieces, plain, words}
use Rattle.record_core.specs.declared.cell.Form.{Form}
use Rattle.record_core.specs.declared.cell.Form.TheVariants.{Text, Json}
use Rattle.record_core.proofs.Parts.{parted}
use Rattle.room_trace.specs.StateText.{address_text, held_text, language_bytes, more_text, note_text, outside_line, state_line, state_line_of, unit_text}
use Rattle.text_core.specs.Piece.{dash_or}
use Rattle.room_trace.specs.TraceText.{comma_list, end_line, event_line, loser_text, name_at, round_line}
use Rattle.room_trace.specs.PortText.{PortLinesAreRecords, port_cells}
use Rattle.room_trace.specs.Records.{LinesAreRecords, by_form, end_cells, event_cells, heard_value, held_units, outside_cells, round_cells, seat_cells, some_units, state_cells, state_cells_of, unit_pieces, units_of}

-- ---- a record whose line this is

recorded_is : (form : Form) (line kind : List ℕ) (cells : List PlainCell) → line_of cells ≡ line → record_text form kind cells ≡ by_form form line kind cells
recorded_is Text line kind cells e = e
recorded_is Json line kind cells e = refl

pub recorded : (form : Form) (line kind : List ℕ) (cells : List PlainCell) (a b : Tally) → line_of cells ≡ line → Adds a b (record_text form kind cells) → Adds a b (by_form form line kind cells)
recorded form line kind cells a b e adds = subst (λ (t : List ℕ). Adds a b t) (recorded_is form line kind cells e) adds

-- ---- lists by their values

mapped : {X Y : Type 0} (f : Y → List ℕ) (g : X → Y) (xs : List X) → flat_map (λ x. f (g x)) xs ≡ flat_map f (map g xs)
mapped f g [] = refl
mapped f g (x ∷ xs) = ap (λ (l : List ℕ). f (g x) ++ l) (mapped f g xs)

joined_map : {X : Type 0} (of : X → PlainValue) (sign : List ℕ) (xs : List X) → joined (λ x. (of x).word) sign xs ≡ joined (λ (v : PlainValue). v.word) sign (map of xs)
joined_map of sign [] = refl
joined_map of sign (x ∷ xs) = ap (λ (l : List ℕ). (of x).word ++ l) (mapped (λ (v : PlainValue). sign ++ v.word) of xs)

listed_map : {X : Type 0} (of : X → PlainValue) (xs : List X) → listed (λ x. (of x).json) xs ≡ listed (λ (v : PlainValue). v.json) (map of xs)
listed_map of [] = refl
listed_map of (x ∷ xs) = ap (λ (l : List ℕ). codes "[" ++ ((of x).json ++ (l ++ codes "]"))) (mapped (λ (v : PlainValue). codes "," ++ v.json) of xs)

words_map : {X : Type 0} (of : X → PlainValue) (sign : List ℕ) (xs : List X) → words of sign xs ≡ words (λ (v : PlainValue). v) sign (map of xs)
words_map of sign xs = ap₂ plain (joined_map of sign xs) (listed_map of xs)

-- two lists of the same values
pub same_words : {X Y : Type 0} (of : X → PlainValue) (other : Y → PlainValue) (sign : List ℕ) (xs : List X) (ys : List Y) → map of xs ≡ map other ys → words of sign xs ≡ words other sign ys
same_words of other sign xs ys e = words_map of sign xs ∙ ap (words (λ (v : PlainValue). v) sign) e ∙ sym (words_map other sign ys)

-- ---- rounds

comma_joined : {X : Type 0} (f : X → List ℕ) (xs : List X) → joined f (codes ",") xs ≡ comma_list (map f xs)
comma_joined f [] = refl
comma_joined f (x ∷ xs) = ap (λ (l : List ℕ). f x ++ l) (mapped (λ (t : List ℕ). 44 ∷ t) f xs)

seats_same : (devices : List State) (o : Outcome)
    → line_of (seat_cells devices o) ≡ concat (codes " by " ∷ comma_list (map (name_at devices) o.survivors.items) ∷ codes " out " ∷ comma_list (map (loser_text devices) o.losers.items) ∷ codes "\n" ∷ [])
seats_same devices o =
    parted (seat_cells devices o)
    ∙ ap₂ (λ (by outs : List ℕ). concat (codes " by " ∷ by ∷ codes " out " ∷ outs ∷ codes "\n" ∷ [])) (comma_joined (name_at devices) o.survivors.items) (comma_joined (loser_text devices) o.losers.items)

round_same : (devices : List State) (o : Outcome) → line_of (round_cells devices o) ≡ round_line devices o
round_same devices o =
    ap (λ (t : List ℕ). t ++ codes "\n") (flat_map-append word_text (reading_cells o.reading) (seat_cells devices o))
    ∙ append_assoc (said (reading_cells o.reading)) (said (seat_cells devices o)) (codes "\n")
    ∙ ap₂ (λ (a b : List ℕ). a ++ b) (same o.reading) (seats_same devices o)

-- ---- events, ports, the end

event_same : (at line : ℕ) (refused : Option EventError) → line_of (event_cells at line refused) ≡ event_line at line refused
event_same at line None = parted (event_cells at line None)
event_same at line (Some error) = parted (event_cells at line (Some error))

pub port_same : PortLinesAreRecords
port_same at name port bytes = parted (port_cells at name port bytes)

end_same : (end : ℕ) → line_of (end_cells end) ≡ end_line end
end_same end = parted (end_cells end)

-- ---- states

units_same : (kind : Kind) (a b : Option ℕ) → joined piece_text (codes "+") (unit_pieces (units_of kind (a ∷ b ∷ []))) ≡ address_text kind (a ∷ b ∷ [])
units_same Combo a b = ap (λ (t : List ℕ). unit_text a ++ t) (append-nil (codes "+" ++ unit_text b)) ∙ sym (append_assoc (unit_text a) (codes "+") (unit_text b))
units_same Tv a b = append-nil (unit_text a)
units_same Amp a b = append-nil (unit_text a)
units_same Player a b = append-nil (unit_text a)
units_same Recorder a b = append-nil (unit_text a)
units_same Switch a b = append-nil (unit_text a)
units_same Outside a b = append-nil (unit_text a)
units_same OutsideTv a b = append-nil (unit_text a)

more_same : (units : List (Option ℕ)) → rest_joined piece_text (codes "+") (unit_pieces (some_units units)) ≡ flat_map more_text units
more_same [] = refl
more_same (None ∷ units) = more_same units
more_same (Some a ∷ units) = ap (λ (t : List ℕ). (codes "+" ++ unit_text (Some a)) ++ t) (more_same units)

address_same : (kind : Kind) (place : Place) → joined piece_text (codes "+") (unit_pieces (units_of kind (addresses_held place))) ≡ address_text kind (addresses_held place)
address_same kind Off = units_same kind None None
address_same kind (Polls found a) = units_same kind found None
address_same kind (Settled first second) = units_same kind (Some first) second

outside_same : (units : List (Option ℕ)) → joined piece_text (codes "+") (unit_pieces (held_units units)) ≡ held_text units
outside_same [] = refl
outside_same (first ∷ others) = ap (λ (t : List ℕ). unit_text first ++ t) (more_same others)

heard_same : (heard : Option HeardReport) → (heard_value heard).word ≡ dash_or note_text heard
heard_same None = refl
heard_same (Some note) = refl

abbrev cells_if : Bool → State → List PlainCell
cells_if is d =
    if is then outside_cells d (pieces (codes "+") (unit_pieces (held_units (held_by d))))
    else state_cells_of d (pieces (codes "+") (unit_pieces (units_of d.kind (addresses_held d.place)))) (language_bytes d.record_of.language) (heard_value d.record_of.heard)

-- by whether it is a device from outside
pub adds_state : (form : Form) (d : State) (a b : Tally) (is : Bool) → is_outside d.kind ≡ is → Adds a b (record_text form (codes "state") (cells_if is d)) → Adds a b (record_text form (codes "state") (state_cells d))
adds_state form d a b is e adds = subst (λ (t : Bool). Adds a b (record_text form (codes "state") (cells_if t d))) (sym e) adds

state_by : (is : Bool) (d : State)
    → line_of (if is then outside_cells d (pieces (codes "+") (unit_pieces (held_units (held_by d))))
    else state_cells_of d (pieces (codes "+") (unit_pieces (units_of d.kind (addresses_held d.place)))) (language_bytes d.record_of.language) (heard_value d.record_of.heard))
    ≡ (if is then outside_line d (held_text (held_by d))
    else state_line_of d (address_text d.kind (addresses_held d.place)) (language_bytes d.record_of.language) (dash_or note_text d.record_of.heard))
state_by true d =
    parted (outside_cells d (pieces (codes "+") (unit_pieces (held_units (held_by d)))))
    ∙ ap (outside_line d) (outside_same (held_by d))
state_by false d =
    parted (state_cells_of d (pieces (codes "+") (unit_pieces (units_of d.kind (addresses_held d.place)))) (language_bytes d.record_of.language) (heard_value d.record_of.heard))
    ∙ ap₂ (λ (address heard : List ℕ). state_line_of d address (language_bytes d.record_of.language) heard) (address_same d.kind d.place) (heard_same d.record_of.heard)

pub state_same : (d : State) → line_of (state_cells d) ≡ state_line d
state_same d = state_by (is_outside d.kind) d

pub same_lines : LinesAreRecords
same_lines = record { round = round_same; event = event_same; state = state_same; end = end_same }
