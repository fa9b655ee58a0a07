-- A line of a script adds at most one event and one pulse to what was said before.
use Rattle.std.proofs.Common.{◌≡◌, ℕ, ◌≤◌, List, [], ◌∷◌, ◌++◌, length, drop, take, Ok, refl, ap, ◌∙◌, arith}
use Rattle.std.proofs.lemmas.List.Prefix.{front_rest}
use Rattle.edid_tree.specs.Node.{Node}
use Rattle.room_script.specs.Script.{Notes, IsLineRead}
use Rattle.room_script.specs.Lines.{Extends}
use Rattle.room_script.proofs.Adding.{line_adds}

-- a line that is taken
pub line_extends : (tree : List Node) (notes : Notes) (waiting line : ℕ) (text : List ℕ) (next : Notes) → IsLineRead tree notes waiting line text (Ok next) → Extends notes next
line_extends tree notes waiting line text next h = (line_adds waiting tree notes line text next h).added

-- ---- lists with more at their end

pub few_new : (old new : Notes) → Extends old new → length (drop (length old.pulses) new.pulses) ≤ 1
few_new old new e = (let same = ap length (front_rest new.pulses old.pulses e.pulses e.pulses_are) in let few = e.few_pulses in omega (arith, same, few))

pub front_all : {A : Type 0} (xs ys zs : List A) → zs ≡ xs ++ ys → take (length xs) zs ≡ xs
front_all xs ys zs e = ap (take (length xs)) e ∙ front xs ys
  where
    front : {A : Type 0} (xs ys : List A) → take (length xs) (xs ++ ys) ≡ xs
    front [] ys = refl
    front (x ∷ xs) ys = ap (λ l. x ∷ l) (front xs ys)
