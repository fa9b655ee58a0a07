-- Texts that are added line by line.
use Rattle.std.proofs.Common.{◌≡◌, ℕ, List, [], ◌∷◌, ◌++◌, true, refl, sym, subst, ap, ◌∙◌, append_assoc, append-nil}
use Rattle.text_core.specs.Adds.{Adds, Tally}
use Rattle.text_core.specs.ByLine.{AreInOrder}
use Rattle.text_core.specs.Lines.{lines_of}
use Rattle.text_core.proofs.Adding.{cut_short, nothing, then}

-- of the texts of all lines those of the lines before the rest are added
pub record Added (Is : List ℕ → List ℕ → Type 0) (texts rest : List ℕ) (old now : Tally) : Type 0 where
  pub done : List ℕ
  pub left : List ℕ
  pub parts : texts ≡ done ++ left
  pub others : AreInOrder Is (lines_of rest) left
  pub so_far : Adds old now done

pub added_none : (Is : List ℕ → List ℕ → Type 0) (texts text : List ℕ) (a : Tally) → AreInOrder Is (lines_of text) texts → Added Is texts text a a
added_none Is texts text a are = record { done = []; left = texts; parts = refl; others = are; so_far = nothing a }

pub added_more : (Is : List ℕ → List ℕ → Type 0) (texts rest after line : List ℕ) (a b c : Tally) → Added Is texts rest a b → lines_of rest ≡ line ∷ lines_of after
    → ((text : List ℕ) → Is line text → Adds b c text) → Added Is texts after a c
added_more Is texts rest after line a b c k split add =
    let others : AreInOrder Is (line ∷ lines_of after) k.left = subst (λ (ls : List (List ℕ)). AreInOrder Is ls k.left) split k.others in
    record {
      done = k.done ++ others.0;
      left = others.1;
      parts = k.parts ∙ ap (λ t. k.done ++ t) others.4 ∙ sym (append_assoc k.done others.0 others.1);
      others = others.3;
      so_far = (then) a b c k.done others.0 k.so_far (add others.0 others.2);
    }

-- a fault cuts the rest off
pub added_short : (Is : List ℕ → List ℕ → Type 0) (texts rest : List ℕ) (a b : Tally) → Added Is texts rest a b → b.failed ≡ true → Adds a b texts
added_short Is texts rest a b k failed = subst (Adds a b) (sym k.parts) (cut_short a b k.done k.left failed k.so_far)

pub added_all : (Is : List ℕ → List ℕ → Type 0) (texts rest : List ℕ) (a b : Tally) → Added Is texts rest a b → lines_of rest ≡ [] → Adds a b texts
added_all Is texts rest a b k over =
    let none : k.left ≡ [] = subst (λ (ls : List (List ℕ)). AreInOrder Is ls k.left) over k.others in
    subst (Adds a b) (sym (k.parts ∙ ap (λ t. k.done ++ t) none ∙ append-nil k.done)) k.so_far
