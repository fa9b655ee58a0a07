use Rattle.std.proofs.Common.{◌≡◌, ℕ, suc, ◌<◌, true, List, [], ◌∷◌, get_or, nat_lt, refl, arith}
use Rattle.std.proofs.lemmas.Bool.Decides.{nat_tests}
use Rattle.text_core.specs.Bytes.{are_bytes}
use Rattle.message_text.proofs.laws.items_are_bytes.Goals as goal

low : (x : ℕ) → x < 256 → nat_lt x 256 ≡ true
low x h = grind (arith, nat_tests)

all_low : (xs : List ℕ) → ((i : ℕ) → get_or xs i 0 < 256) → are_bytes xs ≡ true
all_low [] h = refl
all_low (x ∷ xs) h = rw (low x (h 0)) (all_low xs (λ i. h (suc i)))

pub returns : goal.returns
returns c = all_low c.args.bytes.now (λ i. let f = c.type_inv.bytes i in omega arith)
