-- The EDID in a port, by the device's own EDID and by the tree (HDMI 1.4, sections 8.7.2 and 8.7.3).
use Rattle.std.specs.Prelude.{◌≡◌, ℕ, true, IsTrue, List, Some}
use Rattle.std.specs.List.{list_all}
use Rattle.text_core.specs.Phys.{nibbles}
use Rattle.edid_core.specs.declared.edid.Edid.{Edid}
use Rattle.edid_tree.specs.Node.{Node}
use Rattle.edid_tree.specs.Path.{address_by, path_of}
use Rattle.edid_tree.specs.Port.{IsPassedOn, audio_from}
use Rattle.edid_tree.specs.Tree.{is_root}
use Rattle.conversion_calls.specs.Passing.{IsPassedOnAs, is_port}
use Rattle.conversion_calls.specs.declared.passing.Passing.{Passing}
use Rattle.conversion_calls.specs.declared.passing.Destination.TheVariants.{Port}

-- in a port of a device of a tree, with the audio that the tree gives it
abbrev pub in_port : List Node → ℕ → ℕ → Passing
in_port tree device port = record { place = Port port; audio = audio_from tree device }

-- An EDID that reports a device's own address is passed on in a port of that device as the tree passes it on.
abbrev pub PassesAsTheTree : List Node → ℕ → ℕ → List ℕ → Type 0
PassesAsTheTree tree device port path =
    (root passed : Edid) → path_of tree device ≡ Some path → IsTrue (list_all is_port path) → IsPassedOnAs (in_port tree device port) root passed (address_by path) →
    IsPassedOn root tree device port passed

-- A television's EDID reports 0.0.0.0.
abbrev pub TelevisionsPassAsTheTree : List Node → ℕ → ℕ → Type 0
TelevisionsPassAsTheTree tree device port =
    (root passed : Edid) → is_root tree device ≡ true → IsPassedOnAs (in_port tree device port) root passed (nibbles 0 0 0 0) → IsPassedOn root tree device port passed
