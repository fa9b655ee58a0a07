-- The script as far as the events of a run have come, and the objects of a text's lines.
use Rattle.std.proofs.Common.{◌≡◌, ℕ, ◌+◌, ◌-◌, ◌≤◌, List, [], ◌∷◌, ◌++◌, append-nil, append_assoc, drop, drop-drop, refl, sym, ap, subst, ◌∙◌, arith}
use Rattle.std.specs.List.{flat_map}
use Rattle.text_core.specs.Adds.{Adds, Tally}
use Rattle.text_core.specs.Lines.{lines_of}
use Rattle.text_core.proofs.Adding.{nothing, then}

-- ---- lines that are passed

pub drop_more : (n m : ℕ) (xs : List (List ℕ)) → n ≤ m → drop (m - n) (drop n xs) ≡ drop m xs
drop_more n m xs h =
    let same : n + (m - n) ≡ m = omega (arith, h) in
    drop-drop (m - n) n xs ∙ ap (λ (k : ℕ). drop k xs) same

-- ---- a text of each line

-- the texts of the lines before the rest are added
pub record Heads (f : List ℕ → List ℕ) (text rest : List ℕ) (old now : Tally) : Type 0 where
  pub done : List ℕ
  pub parts : flat_map f (lines_of text) ≡ done ++ flat_map f (lines_of rest)
  pub added : Adds old now done

pub heads_none : (f : List ℕ → List ℕ) (text : List ℕ) (a : Tally) → Heads f text text a a
heads_none f text a = record { done = []; parts = refl; added = nothing a }

pub heads_more : (f : List ℕ → List ℕ) (text rest after line : List ℕ) (a b c : Tally) → Heads f text rest a b → lines_of rest ≡ line ∷ lines_of after → Adds b c (f line)
    → Heads f text after a c
heads_more f text rest after line a b c k split more = record {
  done = k.done ++ f line;
  parts = k.parts ∙ ap (λ (ls : List (List ℕ)). k.done ++ flat_map f ls) split ∙ sym (append_assoc k.done (f line) (flat_map f (lines_of after)));
  added = then a b c k.done (f line) k.added more;
}

pub heads_all : (f : List ℕ → List ℕ) (text rest : List ℕ) (a b : Tally) → Heads f text rest a b → lines_of rest ≡ [] → Adds a b (flat_map f (lines_of text))
heads_all f text rest a b k over = subst (Adds a b) (sym (k.parts ∙ ap (λ (ls : List (List ℕ)). k.done ++ flat_map f ls) over ∙ append-nil k.done)) k.added
