-- What a switch says of its ports is what the tree says.
use Rattle.std.proofs.Common.{◌≡◌, ◌≢◌, ℕ, zero, suc, ◌+◌, ◌*◌, ◌/◌, ◌%◌, ◌==◌, ◌<◌, ◌≤◌, ◌↔◌, inl, inr, true, false, List, [], ◌∷◌, ◌++◌, length, length-append, Option, Some, None, option_map, IfSome, refl, ap, ◌∙◌, sym, subst, arith}
use Rattle.std.proofs.lemmas.Bool.{eq-eqb}
use Rattle.std.proofs.lemmas.Bool.Decides.{nat_tests, eqb_tells}
use Rattle.std.proofs.lemmas.Option.{slice_get_cases}
use Rattle.text_core.specs.Phys as phys
use Rattle.text_core.specs.declared.phys.Phys.{Phys}
use Rattle.edid_tree.specs.declared.plug.Plug.{Plug}
use Rattle.edid_tree.specs.Node.{Node}
use Rattle.edid_tree.specs.Tree.{plug_of}
use Rattle.edid_tree.specs.Path.{IsPath, root, path_of, address_by}
use Rattle.edid_tree.specs.Path as topo
use Rattle.edid_tree.specs.Port.{port_address}
use Rattle.edid_tree.proofs.PathLaws.{path_of-is_path}
use Rattle.device_features.specs.Ways.{nibbles, next_nibble, port_towards, below}
use Rattle.room_net.specs.Ports.{HasPorts, BelowIsThePorts, IsBelowPort, PortsLeadBelow}

-- ---- the ports of a path

abbrev IsPort : ℕ → Type 0
IsPort port = (0 < port) × (port ≤ 15)

abbrev ArePorts : List ℕ → Type 0
ArePorts [] = Unit {0}
ArePorts (port ∷ path) = (0 < port) × (port ≤ 15) × ArePorts path

ports_and : (path : List ℕ) (port : ℕ) → ArePorts path → IsPort port → ArePorts (path ++ port ∷ [])
ports_and [] port h p = (p.0, p.1, tt)
ports_and (first ∷ path) port h p = (h.0, h.1, ports_and path port h.2 p)

plugged_in_port : (tree : List Node) (device : ℕ) (plug : Plug) → HasPorts tree → plug_of tree device ≡ Some plug → IsPort plug.port
plugged_in_port tree device plug h p = elim ((slice_get_cases tree device).1) [
  | inl a ↦ (
      let HasPort : Node → Type 0 = λ node. IfSome node.plug (λ plug. (0 < plug.port) × (plug.port ≤ 15)) in
      let node : HasPort a.0 = subst HasPort a.3 (h device a.0 a.1) in
      let Low : Option Plug → Type 0 = λ o. IfSome o (λ plug. (0 < plug.port) × (plug.port ≤ 15)) in
      let is : a.0.plug ≡ Some plug = rw a.2 at p in
      subst Low is node)
  | inr b ↦ (let e = rw b.1 at p in cc)
]

path_of_ports : (tree : List Node) (device : ℕ) (path : List ℕ) → HasPorts tree → IsPath tree device path → ArePorts path
path_of_ports tree device path h (root d e) = tt
path_of_ports tree device path h (topo.below d plug above e p sub) = ports_and above plug.port (path_of_ports tree plug.parent above h sub) (plugged_in_port tree d plug h p)

-- ---- the nibbles of an address

upper : (a b : ℕ) → b ≤ 15 → (a * 16 + b) / 16 ≡ a
upper a b h = omega arith

lower : (a b : ℕ) → b ≤ 15 → (a * 16 + b) % 16 ≡ b
lower a b h = omega arith

nibbles_back : (a b c d : ℕ) → b ≤ 15 → d ≤ 15 → nibbles (phys.nibbles a b c d) ≡ a ∷ b ∷ c ∷ d ∷ []
nibbles_back a b c d h l = rw (upper a b h, lower a b h, upper c d l, lower c d l) refl

-- so many nibbles, with zeros after a path
abbrev padded : ℕ → List ℕ → List ℕ
padded zero path = []
padded (suc k) [] = 0 ∷ padded k []
padded (suc k) (port ∷ path) = port ∷ padded k path

none_low : 0 ≤ 15
none_low = omega arith

spread : (path : List ℕ) → length path ≤ 4 → ArePorts path → nibbles (address_by path) ≡ padded 4 path
spread [] l h = refl
spread (a ∷ []) l h = nibbles_back a 0 0 0 none_low none_low
spread (a ∷ b ∷ []) l h = nibbles_back a b 0 0 h.2.1 none_low
spread (a ∷ b ∷ c ∷ []) l h = nibbles_back a b c 0 h.2.1 none_low
spread (a ∷ b ∷ c ∷ d ∷ []) l h = nibbles_back a b c d h.2.1 h.2.2.2.1
spread (a ∷ b ∷ c ∷ d ∷ e ∷ more) l h = absurd (omega arith)

-- ---- a port's address

abbrev address : ℕ → ℕ → Phys
address high low = record { high = high; low = low }

is_none : (x : ℕ) → x ≡ 0 → (x == 0) ≡ true
is_none x e = eq-eqb x 0 e

is_some_port : (x : ℕ) → 0 < x → (x == 0) ≡ false
is_some_port x l = grind (arith, nat_tests)

below_first : (p : Phys) (n : ℕ) → (p.high / 16 == 0) ≡ true → below p n ≡ record { high = n * 16; low = 0 }
below_first p n h = rw h refl

below_second : (p : Phys) (n : ℕ) → (p.high / 16 == 0) ≡ false → (p.high % 16 == 0) ≡ true → below p n ≡ record { high = p.high + n; low = 0 }
below_second p n h i = rw (h, i) refl

below_third : (p : Phys) (n : ℕ) → (p.high / 16 == 0) ≡ false → (p.high % 16 == 0) ≡ false → (p.low / 16 == 0) ≡ true → below p n ≡ record { high = p.high; low = n * 16 }
below_third p n h i j = rw (h, i, j) refl

below_fourth : (p : Phys) (n : ℕ) → (p.high / 16 == 0) ≡ false → (p.high % 16 == 0) ≡ false → (p.low / 16 == 0) ≡ false → (p.low % 16 == 0) ≡ true → below p n ≡ record { high = p.high; low = p.low + n }
below_fourth p n h i j k = rw (h, i, j, k) refl

below_none : (p : Phys) (n : ℕ) → (p.high / 16 == 0) ≡ false → (p.high % 16 == 0) ≡ false → (p.low / 16 == 0) ≡ false → (p.low % 16 == 0) ≡ false → below p n ≡ record { high = 255; low = 255 }
below_none p n h i j k = rw (h, i, j, k) refl

upper_some : (a b : ℕ) → 0 < a → b ≤ 15 → ((a * 16 + b) / 16 == 0) ≡ false
upper_some a b l h = is_some_port ((a * 16 + b) / 16) (omega (arith, upper a b h))

lower_some : (a b : ℕ) → 0 < b → b ≤ 15 → ((a * 16 + b) % 16 == 0) ≡ false
lower_some a b l h = is_some_port ((a * 16 + b) % 16) (omega (arith, lower a b h))

lower_none : (a : ℕ) → ((a * 16 + 0) % 16 == 0) ≡ true
lower_none a = is_none ((a * 16 + 0) % 16) (lower a 0 none_low)

grown : (a n : ℕ) → a * 16 + 0 + n ≡ a * 16 + n
grown a n = omega arith

port_below : (path : List ℕ) (n : ℕ) → ArePorts path → below (address_by path) n ≡ address_by (path ++ n ∷ [])
port_below [] n h =
    let first : n * 16 ≡ n * 16 + 0 = omega arith in
    below_first (address_by []) n refl ∙ ap (λ (high : ℕ). address high 0) first
port_below (a ∷ []) n h =
    below_second (address_by (a ∷ [])) n (upper_some a 0 h.0 none_low) (lower_none a) ∙ ap (λ (high : ℕ). address high 0) (grown a n)
port_below (a ∷ b ∷ []) n h =
    let third : n * 16 ≡ n * 16 + 0 = omega arith in
    below_third (address_by (a ∷ b ∷ [])) n (upper_some a b h.0 h.2.1) (lower_some a b h.2.0 h.2.1) refl ∙ ap (λ (low : ℕ). address (a * 16 + b) low) third
port_below (a ∷ b ∷ c ∷ []) n h =
    below_fourth (address_by (a ∷ b ∷ c ∷ [])) n (upper_some a b h.0 h.2.1) (lower_some a b h.2.0 h.2.1) (upper_some c 0 h.2.2.0 none_low) (lower_none c)
    ∙ ap (λ (low : ℕ). address (a * 16 + b) low) (grown c n)
port_below (a ∷ b ∷ c ∷ d ∷ []) n h =
    below_none (address_by (a ∷ b ∷ c ∷ d ∷ [])) n (upper_some a b h.0 h.2.1) (lower_some a b h.2.0 h.2.1) (upper_some c d h.2.2.0 h.2.2.2.1) (lower_some c d h.2.2.2.0 h.2.2.2.1)
port_below (a ∷ b ∷ c ∷ d ∷ e ∷ more) n h = refl

pub below_is_the_ports : BelowIsThePorts
below_is_the_ports tree device port own h at =
    elim (path_of tree device) as (λ o. path_of tree device ≡ o → option_map address_by o ≡ Some own → below own port ≡ port_address tree device port) [
      | None ↦ λ e g. (cc)
      | Some path ↦ λ e g. by_path path e g
    ] refl at
  where
    by_path : (path : List ℕ) → path_of tree device ≡ Some path → Some (address_by path) ≡ Some own → below own port ≡ port_address tree device port
    by_path path e g =
        let is : address_by path ≡ own = cc in
        let ports : ArePorts path = path_of_ports tree device path h ((path_of-is_path tree device path).1 e) in
        let reported : below own port ≡ address_by (path ++ port ∷ []) = ap (λ (p : Phys). below p port) (sym is) ∙ port_below path port ports in
        rw e reported

-- ---- the port that leads to an address

leads_after : (k : ℕ) (own to : List ℕ) (port : ℕ) → ArePorts own → 0 < port → next_nibble (padded k own) (padded k to) ≡ Some port → IsBelowPort own port to
leads_after zero own to port h l e = cc
leads_after (suc k) [] [] port h l e = let none : 0 ≡ port = cc in absurd (omega arith)
leads_after (suc k) [] (next ∷ to) port h l e = let is : next ≡ port = cc in (to, ap (λ (p : ℕ). p ∷ to) is)
leads_after (suc k) (first ∷ own) [] port h l e = let e = rw (is_some_port first h.0) at e in cc
leads_after (suc k) (first ∷ own) (next ∷ to) port h l e = elim (eqb_tells first next) [
  | inl a ↦ (
      let onward = rw (is_some_port first h.0, a.0) at e in
      let later = leads_after k own to port h.2 l onward in
      let is : first ≡ next = a.1 in
      let rest : to ≡ own ++ port ∷ later.0 = later.1 in
      (later.0, ap (λ (p : ℕ). p ∷ to) (sym is) ∙ ap (λ (ps : List ℕ). first ∷ ps) rest))
  | inr b ↦ (let e = rw (is_some_port first h.0, b.0) at e in cc)
]

after_leads : (k : ℕ) (own : List ℕ) (port : ℕ) (more : List ℕ) → ArePorts own → length (own ++ port ∷ more) ≤ k → next_nibble (padded k own) (padded k (own ++ port ∷ more)) ≡ Some port
after_leads zero [] port more h l = absurd (omega arith)
after_leads zero (first ∷ own) port more h l = absurd (omega arith)
after_leads (suc k) [] port more h l = refl
after_leads (suc k) (first ∷ own) port more h l =
    rw (is_some_port first h.0, eq-eqb first first refl) (after_leads k own port more h.2 (omega arith))

-- no port of a device at the fourth level or below leads on
abbrev ArePassed : List ℕ → Type 0
ArePassed [] = Unit {0}
ArePassed (x ∷ xs) = (0 < x) × ArePassed xs

none_leads : (xs ys : List ℕ) (port : ℕ) → ArePassed xs → next_nibble xs ys ≡ Some port → ⊥
none_leads [] ys port h e = cc
none_leads (x ∷ xs) [] port h e = cc
none_leads (x ∷ xs) (y ∷ ys) port h e = elim (eqb_tells x y) [
  | inl a ↦ none_leads xs ys port h.1 (rw (is_some_port x h.0, a.0) at e)
  | inr b ↦ (let e = rw (is_some_port x h.0, b.0) at e in cc)
]

towards : (own to : Phys) (first : ℕ) (path : List ℕ) → nibbles own ≡ first ∷ path → 0 < first → port_towards own to ≡ next_nibble (nibbles own) (nibbles to)
towards own to first path e l =
    let is : own.high / 16 ≡ first = cc in
    rw (is_some_port (own.high / 16) (omega arith)) refl

within : (first : ℕ) (own to : List ℕ) (port : ℕ) → ArePorts (first ∷ own) → ArePorts to → length (first ∷ own) ≤ 4 → length to ≤ 4 → 0 < port
    → ((port_towards (address_by (first ∷ own)) (address_by to) ≡ Some port) ↔ ((first ∷ own ≢ []) × IsBelowPort (first ∷ own) port to))
within first own to port h i l m n = (
  (λ e. ((λ q. (cc)), leads_after 4 (first ∷ own) to port h n (sym same ∙ e))),
  (λ b. same ∙ ap (λ (p : List ℕ). next_nibble (padded 4 (first ∷ own)) (padded 4 p)) b.1.1
      ∙ after_leads 4 (first ∷ own) port b.1.0 h (let longer : length to ≡ length ((first ∷ own) ++ port ∷ b.1.0) = ap length b.1.1 in omega arith)),
)
  where
    same : port_towards (address_by (first ∷ own)) (address_by to) ≡ next_nibble (padded 4 (first ∷ own)) (padded 4 to)
    same =
        towards (address_by (first ∷ own)) (address_by to) first (padded 3 own) (spread (first ∷ own) l h) h.0
        ∙ ap (λ (x : List ℕ). next_nibble x (nibbles (address_by to))) (spread (first ∷ own) l h)
        ∙ ap (next_nibble (padded 4 (first ∷ own))) (spread to m i)

leads : (own to : List ℕ) (port : ℕ) → ArePorts own → ArePorts to → length to ≤ 4 → 0 < port → ((port_towards (address_by own) (address_by to) ≡ Some port) ↔ ((own ≢ []) × IsBelowPort own port to))
leads [] to port h i m n = ((λ e. (cc)), (λ b. absurd (b.0 refl)))
leads (a ∷ []) to port h i m n = within a [] to port h i (omega arith) m n
leads (a ∷ b ∷ []) to port h i m n = within a (b ∷ []) to port h i (omega arith) m n
leads (a ∷ b ∷ c ∷ []) to port h i m n = within a (b ∷ c ∷ []) to port h i (omega arith) m n
leads (a ∷ b ∷ c ∷ d ∷ []) to port h i m n = within a (b ∷ c ∷ d ∷ []) to port h i (omega arith) m n
leads (a ∷ b ∷ c ∷ d ∷ e ∷ own) to port h i m n = (
  (λ g. absurd (none_leads (15 ∷ 15 ∷ 15 ∷ 15 ∷ []) (nibbles (address_by to)) port passed g)),
  (λ p. let longer : length to ≡ length ((a ∷ b ∷ c ∷ d ∷ e ∷ own) ++ port ∷ p.1.0) = ap length p.1.1 in absurd (omega (arith, length-append (a ∷ b ∷ c ∷ d ∷ e ∷ own) (port ∷ p.1.0)))),
)
  where
    passed : ArePassed (15 ∷ 15 ∷ 15 ∷ 15 ∷ [])
    passed = (omega arith, (omega arith, (omega arith, (omega arith, tt))))

pub ports_lead_below : PortsLeadBelow
ports_lead_below tree switch device port own to h s t m n =
    leads own to port (path_of_ports tree switch own h ((path_of-is_path tree switch own).1 s)) (path_of_ports tree device to h ((path_of-is_path tree device to).1 t)) m n
