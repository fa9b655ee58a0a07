-- Bytes of marks, one after the other.
use Rattle.std.proofs.Common.{◌≡◌, ◌∙◌, refl, sym, ap, ℕ, zero, suc, ◌+◌, ◌-◌, ◌<◌, List, [], ◌∷◌, ◌++◌, arith}
use Rattle.conversion_fit.specs.Blocks.{marks_byte, packed}

next : (count : ℕ) (marks : List ℕ) (place : ℕ) → 0 < count → packed count marks place ≡ marks_byte marks place ∷ packed (count - 1) marks (place + 8)
next zero marks place h = absurd (omega (arith, h))
next (suc count) marks place h = let less : count ≡ suc count - 1 = omega arith in ap (λ (n : ℕ). marks_byte marks place ∷ packed n marks (place + 8)) less

one_more : (old rest : List ℕ) (b : ℕ) → (old ++ (b ∷ [])) ++ rest ≡ old ++ (b ∷ rest)
one_more [] rest b = refl
one_more (x ∷ xs) rest b = ap (λ (l : List ℕ). x ∷ l) (one_more xs rest b)

pub packed_more : (old mid new : List ℕ) (count : ℕ) (marks : List ℕ) (place byte : ℕ) → 0 < count → byte ≡ marks_byte marks place → mid ≡ old ++ (byte ∷ [])
    → new ≡ mid ++ packed (count - 1) marks (place + 8) → new ≡ old ++ packed count marks place
packed_more old mid new count marks place byte some is front rest =
    let more = packed (count - 1) marks (place + 8) in
    rest ∙ ap (λ (l : List ℕ). l ++ more) front ∙ one_more old more byte ∙ ap (λ (b : ℕ). old ++ (b ∷ more)) is
    ∙ sym (ap (λ (l : List ℕ). old ++ l) (next count marks place some))
