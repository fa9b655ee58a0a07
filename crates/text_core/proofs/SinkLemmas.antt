use Rattle.std.proofs.Common.{◌≡◌, ℕ, ◌+◌, ◌-◌, Bool, ◌||◌, List, take, drop, length, Option, arith}
use Rattle.std.proofs.KnownBytes.{Appends-trans}
use Rattle.std.proofs.Math.Seq.{take-add}
use Rattle.std.proofs.lemmas.Grind.{common_steps}
use Rattle.std.specs.Io.KnownBytes.{Appends}
use Rattle.text_core.specs.Sink.{took_none}

-- `&text[n..]`
rest_of : (text : List ℕ) (n : ℕ) → take (length text - n) (drop n text) ≡ drop n text
rest_of text n = grind (arith, common_steps)

-- the front of a text, and then the front of the rest
pub Appends-more : (a b c : Option (List ℕ)) (text : List ℕ) (n k : ℕ) → Appends a b (take n text) → Appends b c (take k (take (length text - n) (drop n text))) → Appends a c (take (n + k) text)
Appends-more a b c text n k p q = rw take-add (Appends-trans a b c _ _ p (rw rest_of at q))

-- a put that took some bytes leaves the flag
pub flag_kept : (flag : Bool) (bytes : List ℕ) (n : ℕ) → (n ≡ 0 → ⊥) → (flag || took_none bytes n) ≡ flag
flag_kept flag bytes n some = grind (arith, common_steps)
