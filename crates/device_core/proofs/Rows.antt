-- Worked rows of single devices, computed from the definitions.
use Rattle.std.proofs.Common.{◌≡◌, ℕ, Bool, true, false, List, [], ◌∷◌, length, map, Some, None, refl}
use Rattle.std.specs.Prelude.{fold, replicate}
use Rattle.message_table.specs.declared.user_control.UserControl.TheVariants.{Play as PlayCode}
use Rattle.text_core.specs.declared.kind.Kind.{Kind}
use Rattle.text_core.specs.declared.kind.Kind.TheVariants.{Tv, Amp, Player, Switch}
use Rattle.device_core.specs.declared.place.Place.TheVariants.{Settled}
use Rattle.line_frames.specs.declared.Fate.TheVariants.{Delivered, Broken}
use Rattle.device_features.specs.declared.keys.Key.{Key}
use Rattle.device_features.specs.declared.keys.Key.TheVariants.{Play, Power, Watch, Port, Audio, Volume, Remote}
use Rattle.device_features.specs.declared.keys.VolumeKey.TheVariants.{Mute}
use Rattle.device_core.specs.declared.keys.KeyError.TheVariants.{NotForKind, OffWire}
use Rattle.device_core.specs.declared.device.Queued.{Queued}
use Rattle.device_core.specs.State.{State}
use Rattle.device_core.specs.Place.{fresh, after_joining, after_sending, after_leaving, front_of}
use Rattle.device_core.specs.Effects.{after_frame}
use Rattle.device_core.specs.Keys.{after_key, key_fault}

-- a device that has settled at an address, as new
abbrev device : Kind → ℕ → State
device kind a = record (fresh kind (0x70 ∷ 0x31 ∷ []) 0) { phys = record { high = 0x10; low = 0x00 }; place = Settled a None }

abbrev after : State → List (List ℕ) → State
after d frames = fold (λ (s : State) (frame : List ℕ). after_frame 16 s frame 0) d frames

abbrev queue : State → List (List ℕ)
queue d = map (λ (q : Queued). q.frame) d.queue

amp-audio : queue (after (device Amp 5) ((0x05 ∷ 0x70 ∷ 0x10 ∷ 0x00 ∷ []) ∷ (0x05 ∷ 0x70 ∷ []) ∷ (0x05 ∷ 0x70 ∷ 0x10 ∷ []) ∷ []))
    ≡ (0x5f ∷ 0x72 ∷ 0x01 ∷ []) ∷ (0x5f ∷ 0x72 ∷ 0x00 ∷ []) ∷ []
amp-audio = refl

amp-volume : queue (after (device Amp 5) ((0x05 ∷ 0x70 ∷ 0x10 ∷ 0x00 ∷ []) ∷ (0x05 ∷ 0x44 ∷ 0x41 ∷ []) ∷ (0x05 ∷ 0x44 ∷ 0x43 ∷ []) ∷ []))
    ≡ (0x5f ∷ 0x72 ∷ 0x01 ∷ []) ∷ (0x50 ∷ 0x7a ∷ 0x15 ∷ []) ∷ (0x50 ∷ 0x7a ∷ 0x95 ∷ []) ∷ []
amp-volume = refl

amp-mute : (after (device Amp 5) ((0x05 ∷ 0x44 ∷ 0x41 ∷ []) ∷ (0x05 ∷ 0x44 ∷ 0x43 ∷ []) ∷ [])).record_of
    ≡ record (device Amp 5).record_of { volume = 21; mute = true; held = Some 0x43 }
amp-mute = refl

amp-arc : queue (after (device Amp 5) ((0x05 ∷ 0xc3 ∷ []) ∷ (0x45 ∷ 0xc3 ∷ []) ∷ [])) ≡ (0x50 ∷ 0xc0 ∷ []) ∷ (0x54 ∷ 0x00 ∷ 0xc3 ∷ 0x04 ∷ []) ∷ []
amp-arc = refl

tv-arc : queue (after (device Tv 0) ((0x50 ∷ 0xc0 ∷ []) ∷ (0x5f ∷ 0x36 ∷ []) ∷ (0x50 ∷ 0xc0 ∷ []) ∷ [])) ≡ (0x05 ∷ 0xc1 ∷ []) ∷ (0x05 ∷ 0x00 ∷ 0xc0 ∷ 0x01 ∷ []) ∷ []
tv-arc = refl

player-eject : queue (after (device Player 4) ((0x04 ∷ 0x42 ∷ 0x04 ∷ []) ∷ (0x04 ∷ 0x41 ∷ 0x24 ∷ []) ∷ [])) ≡ (0x40 ∷ 0x00 ∷ 0x41 ∷ 0x01 ∷ []) ∷ []
player-eject = refl

player-sub : queue (after (device Player 4) ((0x04 ∷ 0x1a ∷ 0x01 ∷ []) ∷ (0x04 ∷ 0x41 ∷ 0x25 ∷ []) ∷ [])) ≡ (0x40 ∷ 0x1b ∷ 0x1a ∷ []) ∷ (0x40 ∷ 0x1b ∷ 0x14 ∷ []) ∷ []
player-sub = refl

player-stream : queue (after (device Player 4) ((0x0f ∷ 0x86 ∷ 0x10 ∷ 0x00 ∷ []) ∷ [])) ≡ (0x4f ∷ 0x82 ∷ 0x10 ∷ 0x00 ∷ []) ∷ []
player-stream = refl

row-12 : queue (after (device Player 4) ((0x04 ∷ 0x33 ∷ []) ∷ (0x0f ∷ 0x33 ∷ []) ∷ (0xf4 ∷ 0x33 ∷ []) ∷ (0xf4 ∷ 0x46 ∷ []) ∷ (0x04 ∷ 0xff ∷ [])
    ∷ (0x04 ∷ 0x41 ∷ []) ∷ (0x04 ∷ 0x41 ∷ 0x99 ∷ []) ∷ (0x04 ∷ 0x00 ∷ 0x41 ∷ 0x00 ∷ []) ∷ []))
    ≡ (0x40 ∷ 0x00 ∷ 0x33 ∷ 0x00 ∷ []) ∷ (0x40 ∷ 0x00 ∷ 0xff ∷ 0x00 ∷ []) ∷ (0x40 ∷ 0x00 ∷ 0x41 ∷ 0x03 ∷ []) ∷ []
row-12 = refl

player-plays : queue (after_key 16 (device Player 4) Play true 0) ≡ (0x40 ∷ 0x04 ∷ []) ∷ (0x4f ∷ 0x82 ∷ 0x10 ∷ 0x00 ∷ []) ∷ []
player-plays = refl

-- ---- the queue

names : ℕ → State
names n = after (device Player 4) (replicate n (0x04 ∷ 0x46 ∷ []))

seventeen : ((names 17).dropped ≡ 1) × (length (names 17).queue ≡ 16)
unfolding names
seventeen = (refl, refl)

-- one place is left: the Active Source is dropped
one_place : ((after_key 16 (names 15) Play true 0).dropped ≡ 1) × (length (after_key 16 (names 15) Play true 0).queue ≡ 16)
unfolding names
one_place = (refl, refl)

-- ---- keys

abbrev keys : State → List (Key × Bool) → State
keys d presses = fold (λ (s : State) (p : Key × Bool). after_key 16 s p.0 p.1 0) d presses

abbrev switch : State
switch = record (fresh Switch (0x73 ∷ []) 3) { phys = record { high = 0x10; low = 0x00 }; place = Settled 15 None }

switch-port : queue (keys switch ((Port 2, true) ∷ (Port 2, true) ∷ (Port 1, false) ∷ [])) ≡ (0xff ∷ 0x80 ∷ 0x11 ∷ 0x00 ∷ 0x12 ∷ 0x00 ∷ []) ∷ []
switch-port = refl

switch-refuses : (key_fault switch (Port 4) ≡ Some NotForKind) × (key_fault switch Play ≡ Some NotForKind) × (key_fault (after_leaving switch) Play ≡ Some OffWire)
switch-refuses = (refl, refl, refl)

tv-keys : queue (keys (device Tv 0) ((Watch (record { high = 0x10; low = 0x00 }), true) ∷ (Audio true, true) ∷ (Remote 4 PlayCode, true) ∷ (Remote 4 PlayCode, false)
    ∷ (Volume Mute, true) ∷ (Power, true) ∷ []))
    ≡ (0x0f ∷ 0x86 ∷ 0x10 ∷ 0x00 ∷ []) ∷ (0x05 ∷ 0x70 ∷ 0x10 ∷ 0x00 ∷ []) ∷ (0x04 ∷ 0x44 ∷ 0x44 ∷ []) ∷ (0x04 ∷ 0x45 ∷ []) ∷ (0x0f ∷ 0x36 ∷ []) ∷ []
tv-keys = refl

player-sleeps : queue (keys (device Player 4) ((Play, true) ∷ (Power, true) ∷ []))
    ≡ (0x40 ∷ 0x04 ∷ []) ∷ (0x4f ∷ 0x82 ∷ 0x10 ∷ 0x00 ∷ []) ∷ (0x40 ∷ 0x9d ∷ 0x10 ∷ 0x00 ∷ []) ∷ []
player-sleeps = refl

-- ---- allocation

abbrev new-player : State
new-player = after_joining 16 (fresh Player (0x70 ∷ []) 0) 1 (record { high = 0x10; low = 0x00 }) 0

player-polls : front_of (after_sending 16 (after_sending 16 new-player Delivered 0) Broken 0) ≡ Some (0x88 ∷ [])
player-polls = refl

player-finds_none : (after_sending 16 (after_sending 16 (after_sending 16 new-player Delivered 0) Delivered 0) Delivered 0).place ≡ Settled 15 None
player-finds_none = refl

player-says_nothing : front_of (after_sending 16 (after_sending 16 (after_sending 16 new-player Delivered 0) Delivered 0) Delivered 0) ≡ None
player-says_nothing = refl
