-- Who sent in a round, as its line says (own): the devices that went on to the end, and those that did not with the slot at which each
-- stopped, both in the order of the topology. A round has at most 160 slots, ten for each of sixteen bytes. The line of a capture has no
-- such words.
use Rattle.std.specs.Prelude.{◌≡◌, ℕ, ◌+◌, ◌≤◌, ◌⊎◌, ◌||◌, Bool, false, codes, decimal, length, map, List, [], ◌∷◌, ◌++◌}
use Rattle.std.specs.List.{flat_map, list_any}
use Rattle.expect_text.specs.Bits.{bits_met}
use Rattle.expect_text.specs.Parts.{after_text, end_met, is_met}
use Rattle.expect_text.specs.declared.part.PatternPart.{PatternPart}
use Rattle.expect_text.specs.declared.part.PatternPart.TheVariants.{Byte, One}
use Rattle.expect_text.specs.declared.part.Class.TheVariants.{Digit, NonZero, UpToFive}
use Rattle.expect_text.specs.declared.part.After.{After}
use Rattle.expect_text.specs.declared.part.After.TheVariants as after
use Rattle.expect_text.specs.declared.part.Judged.{Judged as JudgedRead}
use Rattle.expect_text.specs.declared.part.Judged.TheVariants as judged

-- what is judged: a run of these devices, or a capture
pub data Judged : Type 0 where
  Run : List (List ℕ) → Judged
  Capture : Judged

-- ---- what is said

-- texts with commas between them, a dash for none
abbrev pub listed : List (List ℕ) → List ℕ
listed [] = codes "-"
listed (text ∷ texts) = text ++ flat_map (λ t. 44 ∷ t) texts

-- texts of some of these devices, in their order, where this is said of each
abbrev pub AreOf : (List ℕ → List ℕ → Type 0) → List (List ℕ) → List (List ℕ) → Type 0
AreOf Item [] texts = texts ≡ []
AreOf Item (name ∷ names) texts = AreOf Item names texts ⊎ ((text : List ℕ) × (more : List (List ℕ)) × (texts ≡ text ∷ more) × Item name text × AreOf Item names more)

-- a device that went on
abbrev pub IsSender : List ℕ → List ℕ → Type 0
IsSender name text = text ≡ name

-- `@` and the number of a slot: 1 to 160
abbrev pub slot_parts : List (List PatternPart)
slot_parts =
    (Byte 64 ∷ One NonZero ∷ [])
    ∷ (Byte 64 ∷ One NonZero ∷ One Digit ∷ [])
    ∷ (Byte 64 ∷ Byte 49 ∷ One UpToFive ∷ One Digit ∷ [])
    ∷ (Byte 64 ∷ Byte 49 ∷ Byte 54 ∷ Byte 48 ∷ [])
    ∷ []

-- one that stopped at a slot
abbrev pub IsLoser : List ℕ → List ℕ → Type 0
IsLoser name text = (slot : ℕ) × (1 ≤ slot) × (slot ≤ 160) × (text ≡ name ++ 64 ∷ decimal slot)

-- ` by ` and ` out `, each with a list
abbrev pub IsSenders : List (List ℕ) → List ℕ → Type 0
IsSenders names text =
    (by out : List (List ℕ)) × AreOf IsSender names by × AreOf IsLoser names out × (text ≡ codes " by " ++ (listed by ++ (codes " out " ++ listed out)))

-- what stands at the end of a line
abbrev pub IsTail : Judged → List ℕ → Type 0
IsTail (Run names) text = IsSenders names text
IsTail Capture text = text ≡ []

-- ---- which patterns it meets

abbrev pub sender_met : List ℕ → (List ℕ → Bool) → List ℕ → Bool
sender_met name met pattern = after_text name met pattern

abbrev pub loser_met : List ℕ → (List ℕ → Bool) → List ℕ → Bool
loser_met name met pattern = list_any (λ parts. after_text name (is_met met parts) pattern) slot_parts

-- one of these devices after this text, and perhaps more after a comma
abbrev pub any_met : List ℕ → (List ℕ → (List ℕ → Bool) → List ℕ → Bool) → List (List ℕ) → (List ℕ → Bool) → List ℕ → Bool
any_met lead item [] met pattern = false
any_met lead item (name ∷ names) met pattern =
    any_met lead item names met pattern || after_text lead (item name (λ p. met p || any_met (44 ∷ []) item names met p)) pattern

-- more of them, or none
abbrev pub more_met : (List ℕ → (List ℕ → Bool) → List ℕ → Bool) → List (List ℕ) → (List ℕ → Bool) → List ℕ → Bool
more_met item names met pattern = met pattern || any_met (44 ∷ []) item names met pattern

-- a list of them after this text
abbrev pub list_met : List ℕ → (List ℕ → (List ℕ → Bool) → List ℕ → Bool) → List (List ℕ) → (List ℕ → Bool) → List ℕ → Bool
list_met lead item names met pattern = after_text (lead ++ 45 ∷ []) met pattern || any_met lead item names met pattern

abbrev pub out_met : List (List ℕ) → List ℕ → Bool
out_met names pattern = list_met (codes " out ") loser_met names end_met pattern

abbrev pub senders_met : List (List ℕ) → List ℕ → Bool
senders_met names pattern = list_met (codes " by ") sender_met names (out_met names) pattern

unfoldable pub tail_met : Judged → List ℕ → Bool
tail_met (Run names) pattern = senders_met names pattern
tail_met Capture pattern = end_met pattern

-- ---- what stands after parts, as it is followed

abbrev pub judged_as : JudgedRead → Judged
judged_as (judged.Run names) = Run (map (λ n. n.now) names.now)
judged_as judged.Capture = Capture

abbrev pub after_met : After → List ℕ → Bool
after_met after.End pattern = end_met pattern
after_met (after.Tail who) pattern = tail_met (judged_as who) pattern
after_met (after.Bits ending who) pattern = bits_met ending (tail_met (judged_as who)) pattern
after_met (after.Outs room) pattern = out_met (map (λ n. n.now) room.now) pattern
after_met (after.By name others room) pattern = sender_met name.now (more_met sender_met (map (λ n. n.now) others.now) (out_met (map (λ n. n.now) room.now))) pattern
after_met (after.MoreBy others room) pattern = more_met sender_met (map (λ n. n.now) others.now) (out_met (map (λ n. n.now) room.now)) pattern
after_met (after.Out name others) pattern = loser_met name.now (more_met loser_met (map (λ n. n.now) others.now) end_met) pattern
after_met (after.MoreOut others) pattern = more_met loser_met (map (λ n. n.now) others.now) end_met pattern

-- ---- how long it takes

abbrev pub names_weight : List (List ℕ) → ℕ
names_weight [] = 0
names_weight (name ∷ names) = 40 + length name + names_weight names

abbrev pub judged_weight : Judged → ℕ
judged_weight (Run names) = 100 + names_weight names + names_weight names
judged_weight Capture = 1

abbrev pub after_weight : After → ℕ
after_weight after.End = 0
after_weight (after.Tail who) = 1 + judged_weight (judged_as who)
after_weight (after.Bits ending who) = 2 + judged_weight (judged_as who)
after_weight (after.Outs room) = 25 + names_weight (map (λ n. n.now) room.now)
after_weight (after.By name others room) = 75 + length name.now + names_weight (map (λ n. n.now) others.now) + names_weight (map (λ n. n.now) room.now)
after_weight (after.MoreBy others room) = 70 + names_weight (map (λ n. n.now) others.now) + names_weight (map (λ n. n.now) room.now)
after_weight (after.Out name others) = 20 + length name.now + names_weight (map (λ n. n.now) others.now)
after_weight (after.MoreOut others) = 10 + names_weight (map (λ n. n.now) others.now)
