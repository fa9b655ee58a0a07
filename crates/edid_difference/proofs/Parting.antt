-- The parts of an EDID, one after another.
use Rattle.std.proofs.Common.{◌≡◌, refl, sym, ◌∙◌, ap, ap₂, ℕ, zero, suc, ◌+◌, ◌-◌, ◌≤◌, List, [], ◌∷◌, ◌++◌, take, drop, length, append_assoc, length-append, take_at, slice_get, Some, None, arith}
use Rattle.std.proofs.lemmas.Option.{slice_get_within}
use Rattle.edid_base.specs.declared.base.Base.{Base}
use Rattle.edid_cta.specs.declared.raw.Ext.{Ext}
use Rattle.edid_text_lines.specs.declared.line.Line.{Line}
use Rattle.edid_texts.proofs.Gets.{few_parts}
use Rattle.edid_texts.specs.Lines.{part_lines}
use Rattle.edid_difference.specs.Parts.{IsPlace, block_of, edid_parts, part_of, parts_from, place_after, rest_at}
use Rattle.edid_difference.specs.declared.part.Part.{Part}
use Rattle.edid_difference.specs.declared.part.Place.{Place}

there : {X : Type 0} (ls : List X) (n : ℕ) (l : X) → slice_get ls n ≡ Some l → drop n ls ≡ l ∷ drop (suc n) ls
there [] n l h = cc
there (x ∷ xs) zero l h = let same : x ≡ l = cc in ap (λ y. y ∷ xs) same
there (x ∷ xs) (suc n) l h = there xs n l h

nothing_there : {X : Type 0} (ls : List X) (n : ℕ) → slice_get ls n ≡ None → drop n ls ≡ []
nothing_there [] zero h = refl
nothing_there [] (suc n) h = refl
nothing_there (x ∷ xs) zero h = cc
nothing_there (x ∷ xs) (suc n) h = nothing_there xs n h

-- at a line that is there
next_part : (b : Base) (xs : List Ext) (place : Place) (l : Line) → slice_get (part_lines b xs) place.number ≡ Some l
    → rest_at b xs place ≡ part_of (block_of place.block l.word) (place.number + 1) l ∷ rest_at b xs (record { block = block_of place.block l.word; number = place.number + 1 })
unfolding rest_at
next_part b xs place l h =
    let next : suc place.number ≡ place.number + 1 = omega arith in
    ap (parts_from place.block place.number) (there (part_lines b xs) place.number l h)
    ∙ ap (λ k. part_of (block_of place.block l.word) (place.number + 1) l ∷ parts_from (block_of place.block l.word) (place.number + 1) (drop k (part_lines b xs))) next

pub first_there : (b : Base) (xs : List Ext) (place : Place) (l : Line) (p : Part) → slice_get (part_lines b xs) place.number ≡ Some l
    → p ≡ part_of (block_of place.block l.word) (place.number + 1) l → slice_get (rest_at b xs place) 0 ≡ Some p
first_there b xs place l p h e = ap (λ ps. slice_get ps 0) (next_part b xs place l h) ∙ ap Some (sym e)

pub others_there : (b : Base) (xs : List Ext) (place : Place) (l : Line) (p : Part) → slice_get (part_lines b xs) place.number ≡ Some l
    → p ≡ part_of (block_of place.block l.word) (place.number + 1) l → drop 1 (rest_at b xs place) ≡ rest_at b xs (place_after p)
others_there b xs place l p h e = ap (drop 1) (next_part b xs place l h) ∙ ap (λ q. rest_at b xs (place_after q)) (sym e)

pub none_there : (b : Base) (xs : List Ext) (place : Place) → slice_get (part_lines b xs) place.number ≡ None → slice_get (rest_at b xs place) 0 ≡ None
unfolding rest_at
none_there b xs place h = ap (λ ls. slice_get (parts_from place.block place.number ls) 0) (nothing_there (part_lines b xs) place.number h)

pub place_there : (b : Base) (xs : List Ext) (place : Place) (l : Line) (p : Part) (block : ℕ) → length xs ≤ 3 → slice_get (part_lines b xs) place.number ≡ Some l
    → p ≡ part_of (block_of place.block l.word) (place.number + 1) l → block ≡ block_of place.block l.word → block ≤ place.block + 1 → IsPlace place → IsPlace (place_after p)
place_there b xs place l p block few h e is next inside =
    let there = slice_get_within (part_lines b xs) place.number l h in
    let most = few_parts b xs few in
    let blocks : p.block ≡ block = ap (λ (q : Part). q.block) e ∙ sym is in
    let numbers : p.number ≡ place.number + 1 = ap (λ (q : Part). q.number) e in
    let within = inside.0 in
    (omega (arith, blocks, numbers, next, within), omega (arith, numbers, there, most))

-- before the first line
pub start_is : (b : Base) (xs : List Ext) (place : Place) → place ≡ record { block = 0; number = 0 } → rest_at b xs place ≡ edid_parts b xs
unfolding rest_at edid_parts
start_is b xs place h = ap (λ (p : Place). parts_from p.block p.number (drop p.number (part_lines b xs))) h

-- a line without its line feed
pub front_of : (xs ys t : List ℕ) → t ≡ xs ++ (ys ++ (10 ∷ [])) → take (length t - 1) t ≡ xs ++ ys
front_of xs ys t e =
    let same : t ≡ xs ++ ys ++ (10 ∷ []) = e ∙ sym (append_assoc xs ys (10 ∷ [])) in
    let size : length t ≡ length (xs ++ ys ++ (10 ∷ [])) = ap length same in
    let len : length t - 1 ≡ length (xs ++ ys) = omega (arith, size, length-append (xs ++ ys) (10 ∷ [])) in
    ap₂ take len same ∙ take_at (xs ++ ys) (10 ∷ []) (length (xs ++ ys)) refl
