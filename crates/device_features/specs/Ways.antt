-- Ways through switches: a physical address is the path of ports from the root (CEC 10.1, HDMI 1.4, 8.7.2).
use Rattle.std.specs.Prelude.{ℕ, ◌==◌, ◌+◌, ◌*◌, ◌%◌, ◌/◌, List, [], ◌∷◌, if◌then◌else◌, Option, Some, None}
use Rattle.text_core.specs.declared.phys.Phys.{Phys}

abbrev pub nibbles : Phys → List ℕ
nibbles p = (p.high / 16) ∷ (p.high % 16) ∷ (p.low / 16) ∷ (p.low % 16) ∷ []

-- what follows in the second address where the first one ends
abbrev pub next_nibble : List ℕ → List ℕ → Option ℕ
next_nibble [] ys = None
next_nibble (x ∷ xs) [] = None
next_nibble (x ∷ xs) (y ∷ ys) = if x == 0 then Some y else (if x == y then next_nibble xs ys else None)

-- the port of a device below the root that leads to an address, if it lies below
abbrev pub port_towards : Phys → Phys → Option ℕ
port_towards own to = if own.high / 16 == 0 then None else next_nibble (nibbles own) (nibbles to)

-- port n's address
abbrev pub below : Phys → ℕ → Phys
below p n =
    if p.high / 16 == 0 then record { high = n * 16; low = 0 } else (
    if p.high % 16 == 0 then record { high = p.high + n; low = 0 } else (
    if p.low / 16 == 0 then record p { low = n * 16 } else (
    if p.low % 16 == 0 then record p { low = p.low + n } else record { high = 255; low = 255 })))
