-- The address in a port, by the address of its device, is that of the tree.
use Rattle.std.proofs.Common.{◌≡◌, ℕ, ◌+◌, ◌*◌, ◌/◌, ◌%◌, ◌<◌, ◌==◌, true, false, nat_lt, nat_le, ◌≤◌, if◌then◌else◌, List, [], ◌∷◌, ◌++◌, length, Option, Some, option_and_then, option_map, refl, ap, sym, ◌∙◌, arith}
use Rattle.std.specs.List.{list_all}
use Rattle.std.specs.Option.{option_map_or}
use Rattle.std.proofs.lemmas.Bool.{leb-true, ltb-true, ne_eqb, and_parts}
use Rattle.text_core.specs.Phys.{nibbles}
use Rattle.text_core.specs.declared.phys.Phys.{Phys}
use Rattle.edid_core.specs.Passing.{passed_on_bytes}
use Rattle.edid_core.specs.declared.edid.Edid.{Edid}
use Rattle.edid_tree.specs.declared.plug.Plug.{Plug}
use Rattle.edid_tree.specs.Node.{Node}
use Rattle.edid_tree.specs.Path.{address_by, path_of, path_within}
use Rattle.edid_tree.specs.Port.{audio_from, port_address, port_bytes}
use Rattle.edid_tree.specs.Tree.{is_root, plug_of}
use Rattle.conversion_calls.specs.Laws.{PassesAsTheTree, TelevisionsPassAsTheTree}
use Rattle.conversion_calls.specs.Passing.{address_in, is_port}

-- the port in the first free place of four, from each place on
abbrev from_fourth : ℕ → ℕ → ℕ → ℕ → ℕ → Phys
from_fourth a b c d port = if d == 0 then nibbles a b c port else nibbles 15 15 15 15

abbrev from_third : ℕ → ℕ → ℕ → ℕ → ℕ → Phys
from_third a b c d port = if c == 0 then nibbles a b port 0 else from_fourth a b c d port

abbrev from_second : ℕ → ℕ → ℕ → ℕ → ℕ → Phys
from_second a b c d port = if b == 0 then nibbles a port 0 0 else from_third a b c d port

abbrev placed : ℕ → ℕ → ℕ → ℕ → ℕ → Phys
placed a b c d port = if a == 0 then nibbles port 0 0 0 else from_second a b c d port

past_first : (a b c d port : ℕ) → (a == 0) ≡ false → placed a b c d port ≡ from_second a b c d port
past_first a b c d port e = ap (λ v. if v then nibbles port 0 0 0 else from_second a b c d port) e

past_second : (a b c d port : ℕ) → (b == 0) ≡ false → from_second a b c d port ≡ from_third a b c d port
past_second a b c d port e = ap (λ v. if v then nibbles a port 0 0 else from_third a b c d port) e

past_third : (a b c d port : ℕ) → (c == 0) ≡ false → from_third a b c d port ≡ from_fourth a b c d port
past_third a b c d port e = ap (λ v. if v then nibbles a b port 0 else from_fourth a b c d port) e

past_fourth : (a b c d port : ℕ) → (d == 0) ≡ false → from_fourth a b c d port ≡ nibbles 15 15 15 15
past_fourth a b c d port e = ap (λ v. if v then nibbles a b c port else nibbles 15 15 15 15) e

in_nibbles : (a b c d port : ℕ) → b < 16 → d < 16 → address_in (nibbles a b c d) port ≡ placed a b c d port
in_nibbles a b c d port low_b low_d =
    let first : (a * 16 + b) / 16 ≡ a = omega (arith, low_b) in
    let second : (a * 16 + b) % 16 ≡ b = omega (arith, low_b) in
    let third : (c * 16 + d) / 16 ≡ c = omega (arith, low_d) in
    let fourth : (c * 16 + d) % 16 ≡ d = omega (arith, low_d) in
    ap (λ n. placed n ((a * 16 + b) % 16) ((c * 16 + d) / 16) ((c * 16 + d) % 16) port) first ∙
    ap (λ n. placed a n ((c * 16 + d) / 16) ((c * 16 + d) % 16) port) second ∙
    ap (λ n. placed a b n ((c * 16 + d) % 16) port) third ∙
    ap (λ n. placed a b c n port) fourth

low : (p : ℕ) (ps : List ℕ) → list_all is_port (p ∷ ps) ≡ true → p < 16
low p ps h =
    let small : p ≤ 15 = leb-true p 15 (and_parts (nat_lt 0 p) (nat_le p 15) (and_parts (is_port p) (list_all is_port ps) h).0).1 in
    omega (arith, small)

nonzero : (p : ℕ) (ps : List ℕ) → list_all is_port (p ∷ ps) ≡ true → (p == 0) ≡ false
nonzero p ps h =
    let positive : 0 < p = ltb-true 0 p (and_parts (nat_lt 0 p) (nat_le p 15) (and_parts (is_port p) (list_all is_port ps) h).0).0 in
    ne_eqb p 0 (λ e. omega (arith, positive, e))

later : (p : ℕ) (ps : List ℕ) → list_all is_port (p ∷ ps) ≡ true → list_all is_port ps ≡ true
later p ps h = (and_parts (is_port p) (list_all is_port ps) h).1

below : (path : List ℕ) (port : ℕ) → list_all is_port path ≡ true → address_by (path ++ port ∷ []) ≡ address_in (address_by path) port
below [] port h = refl
below (a ∷ []) port h = sym (in_nibbles a 0 0 0 port (omega arith) (omega arith) ∙ past_first a 0 0 0 port (nonzero a [] h))
below (a ∷ b ∷ []) port h =
    let h2 = later a (b ∷ []) h in
    sym (in_nibbles a b 0 0 port (low b [] h2) (omega arith) ∙ past_first a b 0 0 port (nonzero a (b ∷ []) h) ∙ past_second a b 0 0 port (nonzero b [] h2))
below (a ∷ b ∷ c ∷ []) port h =
    let h2 = later a (b ∷ c ∷ []) h in
    let h3 = later b (c ∷ []) h2 in
    sym (in_nibbles a b c 0 port (low b (c ∷ []) h2) (omega arith) ∙ past_first a b c 0 port (nonzero a (b ∷ c ∷ []) h) ∙
    past_second a b c 0 port (nonzero b (c ∷ []) h2) ∙ past_third a b c 0 port (nonzero c [] h3))
below (a ∷ b ∷ c ∷ d ∷ []) port h =
    let h2 = later a (b ∷ c ∷ d ∷ []) h in
    let h3 = later b (c ∷ d ∷ []) h2 in
    let h4 = later c (d ∷ []) h3 in
    sym (in_nibbles a b c d port (low b (c ∷ d ∷ []) h2) (low d [] h4) ∙ past_first a b c d port (nonzero a (b ∷ c ∷ d ∷ []) h) ∙
    past_second a b c d port (nonzero b (c ∷ d ∷ []) h2) ∙ past_third a b c d port (nonzero c (d ∷ []) h3) ∙ past_fourth a b c d port (nonzero d [] h4))
below (a ∷ b ∷ c ∷ d ∷ e ∷ more) port h = refl

in_tree : (tree : List Node) (device port : ℕ) (path : List ℕ) → path_of tree device ≡ Some path → list_all is_port path ≡ true → port_address tree device port ≡ address_in (address_by path) port
in_tree tree device port path e h =
    ap (λ found. option_map_or (λ p. address_by (p ++ port ∷ [])) found (nibbles 15 15 15 15)) e ∙ below path port h

bytes_are : (root : Edid) (tree : List Node) (device port : ℕ) (a : Phys) → port_address tree device port ≡ a → passed_on_bytes (audio_from tree device) a root ≡ port_bytes root tree device port
unfolding port_bytes
bytes_are root tree device port a e = ap (λ x. passed_on_bytes (audio_from tree device) x root) (sym e)

pub by_the_tree : (tree : List Node) (device port : ℕ) (path : List ℕ) → PassesAsTheTree tree device port path
by_the_tree tree device port path root passed found ports h =
    let same = in_tree tree device port path found ports in
    record {
      bytes = h.bytes ∙ bytes_are root tree device port (address_in (address_by path) port) same;
      address = h.address ∙ ap Some (sym same);
    }

at_root : (tree : List Node) (device : ℕ) → is_root tree device ≡ true → path_of tree device ≡ Some []
at_root [] device h = let no : ⊥ = cc in absurd no
at_root (n ∷ ns) device h =
    let onward : Plug → Option (List ℕ) = λ plug. option_map (λ path. path ++ plug.port ∷ []) (path_within (length ns) (n ∷ ns) plug.parent) in
    ap (λ b. if b then Some [] else option_and_then onward (plug_of (n ∷ ns) device)) h

pub by_television : (tree : List Node) (device port : ℕ) → TelevisionsPassAsTheTree tree device port
by_television tree device port root passed is h = by_the_tree tree device port [] root passed (at_root tree device is) refl h
