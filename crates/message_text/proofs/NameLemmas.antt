-- The names of opcodes: no two opcodes have one, and what no name holds.
use Rattle.std.proofs.Common.{◌≡◌, ℕ, ◌==◌, ◌&&◌, not, Bool, true, List, Option, Some, option_map, find, slice_index, refl}
use Rattle.std.specs.List.{list_all}
use Rattle.std.specs.Str.{bytes_eq}
use Rattle.message_text.proofs.Finding.{named, one_code, is_at}
use Rattle.message_table.specs.Table.{rows, name_of}

abbrev code_in : List ℕ → Option ℕ
code_in text = option_map (λ r. r.code) (find (λ r. bytes_eq r.name text) rows)

all_again : list_all (λ r. is_at (code_in r.name) r.code) rows ≡ true
all_again = refl

-- no two opcodes have one name
pub one_named : (a b : ℕ) (w : List ℕ) → name_of a ≡ Some w → name_of b ≡ Some w → a ≡ b
one_named a b w e f = one_code (λ r. r.code) (λ r. r.name) code_in rows a b w all_again e f

-- a name does not begin with an o, and has no space
abbrev pub is_plain_name : List ℕ → Bool
is_plain_name w = not (slice_index w 0 == 111) && list_all (λ b. not (b == 32)) w

all_plain : list_all (λ r. is_plain_name r.name) rows ≡ true
all_plain = refl

pub plain_name : (b : ℕ) (w : List ℕ) → name_of b ≡ Some w → is_plain_name w ≡ true
plain_name b w e = named (λ r. r.code) (λ r. r.name) (λ _ t. is_plain_name t) rows b w all_plain e
