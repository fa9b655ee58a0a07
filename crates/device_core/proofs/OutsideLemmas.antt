-- A device from outside does what it is told, and nothing by itself.
use Rattle.std.proofs.Common.{◌≡◌, ℕ, ◌==◌, ◌%◌, Bool, true, false, not, ◌&&◌, ◌||◌, if◌then◌else◌, List, [], ◌∷◌, Some, None, refl, sym, ap, subst, ◌∙◌}
use Rattle.text_core.specs.declared.kind.Kind.{Kind}
use Rattle.text_core.specs.declared.kind.Kind.TheVariants.{Tv, Amp, Player, Recorder, Switch, Combo, Outside, OutsideTv}
use Rattle.text_core.specs.declared.phys.Phys.{Phys}
use Rattle.device_features.specs.declared.keys.Key.{Key}
use Rattle.device_features.specs.declared.keys.Key.TheVariants.{Play, Stop, Eject, Load, Menu, Power, Watch, Port, Audio, Arc, Volume, Language, Remote}
use Rattle.device_features.specs.Keys.{has_key}
use Rattle.device_features.specs.Kinds.{addresses, is_nowhere, is_outside, second_addresses}
use Rattle.device_core.specs.declared.place.Place.{Place}
use Rattle.device_core.specs.declared.place.Place.TheVariants.{Settled}
use Rattle.device_core.specs.declared.keys.KeyError.TheVariants.{NotForKind, OffWire}
use Rattle.device_core.specs.declared.outside.Act.{Act}
use Rattle.device_core.specs.declared.outside.Act.TheVariants.{Hold, Empty}
use Rattle.message_table.specs.Table.{decoded_of, may_go, rule_of}
use Rattle.device_features.specs.Effects.{heard_of}
use Rattle.device_core.specs.State.{State, holds}
use Rattle.device_core.specs.Place.{fresh, is_off, is_on_wire, with_reports, start_place, tries, unregistered}
use Rattle.device_core.specs.Effects.{by_decoded, after_frame}
use Rattle.device_core.specs.Keys.{after_key, keyed_by}
use Rattle.device_core.specs.Outside.{after_act, acted_by, OnlyOutside}
use Rattle.device_core.proofs.PlaceLemmas.{place_goes_by_fates}

-- what holds of both kinds from outside holds of each
from_outside : (P : Kind → Type 0) → P Outside → P OutsideTv → (kind : Kind) → is_outside kind ≡ true → P kind
from_outside P p q Tv e = cc
from_outside P p q Amp e = cc
from_outside P p q Player e = cc
from_outside P p q Recorder e = cc
from_outside P p q Switch e = cc
from_outside P p q Combo e = cc
from_outside P p q Outside e = p
from_outside P p q OutsideTv e = q

-- ---- what it is told

acting : (d : State) (act : Act) → is_outside d.kind ≡ false → after_act d act ≡ d
acting d act e = by (is_off d.place) (is_outside d.kind) e
  where
    by : (off outside : Bool) → outside ≡ false → acted_by d (if off then Some OffWire else (if outside then None else Some NotForKind)) act ≡ d
    by true outside h = refl
    by false false h = refl
    by false true h = cc

number : (d : State) (act : Act) → (after_act d act).number ≡ d.number
number d act = by (is_off d.place) (is_outside d.kind) act
  where
    by : (off outside : Bool) (act : Act) → (acted_by d (if off then Some OffWire else (if outside then None else Some NotForKind)) act).number ≡ d.number
    by true outside act = refl
    by false false act = refl
    by false true (Hold first second more) = refl
    by false true Empty = refl

wire : (d : State) (act : Act) → is_on_wire (after_act d act) ≡ is_on_wire d
wire d act = by (is_off d.place) (is_outside d.kind) act refl
  where
    by : (off outside : Bool) (act : Act) → is_off d.place ≡ off
        → is_on_wire (acted_by d (if off then Some OffWire else (if outside then None else Some NotForKind)) act) ≡ is_on_wire d
    by true outside act e = refl
    by false false act e = refl
    by false true (Hold first second more) e = sym (ap not e)
    by false true Empty e = refl

-- ---- what it does not do

following : (limit at : ℕ) (frame : List ℕ) (d : State) → is_outside d.kind ≡ true → after_frame limit d frame at ≡ d
following limit at [] d e = refl
following limit at (header ∷ []) d e = refl
following limit at (header ∷ opcode ∷ operands) d e =
    stays (is_outside d.kind) (may_go (rule_of opcode) (header % 16) && ((header % 16 == 15) || holds d.place (header % 16)))
    (by_decoded limit (heard_of header opcode operands at) d (decoded_of (header ∷ opcode ∷ operands))) e
  where
    stays : (outside b : Bool) (x : State) → outside ≡ true → (if not outside && b then x else d) ≡ d
    stays true b x h = refl
    stays false b x h = cc

no_key : (ports : ℕ) (key : Key) → (has_key Outside ports key ≡ false) × (has_key OutsideTv ports key ≡ false)
no_key ports Play = (refl, refl)
no_key ports Stop = (refl, refl)
no_key ports Eject = (refl, refl)
no_key ports Load = (refl, refl)
no_key ports Menu = (refl, refl)
no_key ports Power = (refl, refl)
no_key ports (Watch to) = (refl, refl)
no_key ports (Port port) = (refl, refl)
no_key ports (Audio on) = (refl, refl)
no_key ports (Arc on) = (refl, refl)
no_key ports (Volume key) = (refl, refl)
no_key ports (Language language) = (refl, refl)
no_key ports (Remote to code) = (refl, refl)

keying : (limit at : ℕ) (key : Key) (press : Bool) (d : State) → is_outside d.kind ≡ true → after_key limit d key press at ≡ d
keying limit at key press d e =
    let none = no_key d.ports key in
    by (is_off d.place) (has_key d.kind d.ports key) (from_outside (λ k. has_key k d.ports key ≡ false) none.0 none.1 d.kind e)
  where
    by : (off has : Bool) → has ≡ false → keyed_by limit d key press at (if off then Some OffWire else (if has then None else Some NotForKind)) ≡ d
    by true has h = refl
    by false false h = refl
    by false true h = cc

joining-place : (phys : Phys) → (start_place Outside phys ≡ Settled 15 None) × (start_place OutsideTv phys ≡ Settled 15 None)
joining-place phys = by (is_nowhere phys)
  where
    by : (b : Bool) → ((if b then unregistered (second_addresses Outside) else tries Outside None (addresses Outside)) ≡ Settled 15 None)
        × ((if b then unregistered (second_addresses OutsideTv) else tries OutsideTv None (addresses OutsideTv)) ≡ Settled 15 None)
    by true = (refl, refl)
    by false = (refl, refl)

-- a device of a kind as it comes on the wire, at a place
abbrev joined_at : ℕ → ℕ → ℕ → Phys → State → Kind → Place → State
joined_at limit number at phys d kind place =
    with_reports limit at (record (fresh kind d.name d.ports) { number = number; phys = phys; place = place; poll_ready = at })

joining-queue : (limit number at : ℕ) (phys : Phys) (d : State) (kind : Kind) → is_outside kind ≡ true
    → (joined_at limit number at phys d kind (start_place kind phys)).queue ≡ []
joining-queue limit number at phys d kind e =
    let Q : Kind → Place → Type 0 = λ k p. (joined_at limit number at phys d k p).queue ≡ [] in
    from_outside (λ k. Q k (start_place k phys))
    (subst (Q Outside) (sym ((joining-place phys).0)) refl) (subst (Q OutsideTv) (sym ((joining-place phys).1)) refl) kind e

pub only_outside : OnlyOutside
only_outside = record {
  acting = acting;
  following = following;
  keying = keying;
  joining = λ limit number at phys d e. (
    place_goes_by_fates.joining limit number at phys d
        ∙ from_outside (λ k. start_place k phys ≡ Settled 15 None) ((joining-place phys).0) ((joining-place phys).1) d.kind e,
    joining-queue limit number at phys d d.kind e,
  );
  number = number;
  wire = wire;
}
