-- Devices that stand, by their names and by where they stand.
use Rattle.std.proofs.Common.{◌≡◌, ℕ, ◌+◌, ◌<◌, codes, List, [], ◌∷◌, ◌++◌, length, map, take, get_or, refl, ap, ap₂, ◌∙◌, append-nil}
use Rattle.std.proofs.lemmas.Grind.{flat_map-append}
use Rattle.std.proofs.lemmas.List.{take_more}
use Rattle.std.specs.List.{flat_map}
use Rattle.record_core.specs.Cells.{PlainValue, listed, placed_json, placed_text, stand_json, stand_text}
use Rattle.record_core.specs.Values.{plain}
use Rattle.record_core.specs.declared.cell.Stand.{Stand}
use Rattle.record_core.proofs.Plain.{mapped}
use Rattle.room_step_text.specs.EdgeText.{stand_part, stands_of, stands_value}

abbrev word_of : List ℕ × PlainValue → List ℕ
word_of p = placed_text p.0 p.1.word

abbrev json_of : List ℕ × PlainValue → List ℕ
json_of p = placed_json p.0 p.1.json

listed_map : (ss : List Stand) → listed stand_json ss ≡ listed json_of (map stand_part ss)
listed_map [] = refl
listed_map (s ∷ ss) = ap (λ (l : List ℕ). codes "[" ++ (stand_json s ++ (l ++ codes "]"))) (mapped (λ (p : List ℕ × PlainValue). codes "," ++ json_of p) stand_part ss)

pub stands_as : (ss : List Stand) (ps : List (List ℕ × PlainValue)) → map stand_part ss ≡ ps → stands_value ss ≡ stands_of ps
stands_as ss ps e = ap₂ plain (mapped word_of stand_part ss) (listed_map ss) ∙ ap stands_of e

-- one more
pub more_of : {X Y : Type 0} (f : X → List Y) (xs : List X) (i : ℕ) (x : X) → i < length xs → get_or xs i x ≡ x → flat_map f (take (i + 1) xs) ≡ flat_map f (take i xs) ++ f x
more_of {X} {Y} f xs i x h e =
    ap (flat_map f) (take_more xs i x h ∙ ap (λ (y : X). take i xs ++ y ∷ []) e)
    ∙ flat_map-append f (take i xs) (x ∷ []) ∙ ap (λ (l : List Y). flat_map f (take i xs) ++ l) (append-nil (f x))
