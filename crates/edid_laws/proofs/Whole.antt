-- All blocks that a receiver answers with.
use Rattle.std.proofs.Common.{◌≡◌, ◌∙◌, refl, sym, ap, ℕ, arith, true, List, [], ◌∷◌, ◌++◌, length, flat_map, append_assoc}
use Rattle.std.proofs.lemmas.List.{append-nil}
use Rattle.edid_cta.specs.Block.{block_bytes}
use Rattle.edid_cta.specs.declared.block.DataBlock.{DataBlock}
use Rattle.edid_merge.specs.Blocks.{blocks_of, by_bits, by_numbers, by_whose, merged_blocks}
use Rattle.edid_merge.specs.Mixing.{speakers_ways, capability_ways, colours_ways, hdmi_ways, forum_ways}
use Rattle.edid_merge.specs.Subjects.{is_of}
use Rattle.edid_merge.specs.declared.mixing.Way.{Way}
use Rattle.edid_merge.specs.declared.mixing.Way.TheVariants as ways
use Rattle.edid_merge.specs.declared.subject.Subject.{Subject}
use Rattle.edid_merge.specs.declared.subject.Subject.TheVariants.{Video, Audio, Speakers, Hdmi, Forum, Capability, Colorimetry, Hdr, MakerVideo, MakerAudio, Override, Other}
use Rattle.edid_merge.specs.declared.table.Bits.{Bits}
use Rattle.edid_merge.specs.declared.table.Bits.TheVariants as bits
use Rattle.edid_merge.specs.declared.table.Numbers.{Numbers}
use Rattle.edid_merge.specs.declared.table.Numbers.TheVariants as numbers
use Rattle.edid_merge.specs.declared.table.Table.{Table}
use Rattle.edid_merge.specs.declared.table.Whose.{Whose}
use Rattle.edid_merge.specs.declared.table.Whose.TheVariants as whose
use Rattle.edid_laws.specs.Rows.{ObeyTheirRows, by_row}
use Rattle.edid_laws.proofs.Goes.{Goes, Keeps, first_two, kept, part_of}
use Rattle.edid_laws.proofs.Kept.{speakers_keep, with_first, with_three}

of_whose : (row : Whose) (s : Subject) (d o : List DataBlock) → Goes s (by_whose row s d o)
of_whose whose.Keep s d o = kept s d
of_whose whose.Own s d o = kept s o

of_bits : (row : Bits) (ws : List Way) (s : Subject) (d o : List DataBlock) → ((x y : DataBlock) → is_of s x ≡ true → Keeps s ws x y) → Goes s (by_bits row ws s d o)
of_bits bits.Keep ws s d o keeps = kept s d
of_bits bits.Own ws s d o keeps = kept s o
of_bits bits.And ws s d o keeps = first_two s ws d o keeps

of_numbers : (row : Numbers) (ws : List Way) (s : Subject) (d o : List DataBlock) → ((x y : DataBlock) → is_of s x ≡ true → Keeps s ws x y) → Goes s (by_numbers row ws s d o)
of_numbers numbers.Keep ws s d o keeps = kept s d
of_numbers numbers.Own ws s d o keeps = kept s o
of_numbers numbers.Least ws s d o keeps = first_two s ws d o keeps

three : (x y z r : List ℕ) → (x ++ (y ++ z)) ++ r ≡ x ++ (y ++ (z ++ r))
three x y z r = append_assoc x (y ++ z) r ∙ ap (λ (k : List ℕ). x ++ k) (append_assoc y z r)

pub in_a_row : (t : Table) (d o : List DataBlock)
    → merged_blocks t d o ≡ by_row t Video d o ++ (by_row t Audio d o ++ (by_row t Speakers d o ++ (by_row t Hdmi d o ++ (by_row t Forum d o ++ (by_row t Capability d o ++ (
    by_row t Colorimetry d o ++ (by_row t Hdr d o ++ (by_row t MakerVideo d o ++ (by_row t MakerAudio d o ++ by_row t Other d o)))))))))
unfolding merged_blocks
in_a_row t d o =
    let last = by_row t MakerVideo d o ++ (by_row t MakerAudio d o ++ by_row t Other d o) in
    let colours = (by_row t Capability d o ++ (by_row t Colorimetry d o ++ by_row t Hdr d o)) ++ last in
    three (by_row t Video d o) (by_row t Audio d o) (by_row t Speakers d o) ((by_row t Hdmi d o ++ by_row t Forum d o) ++ colours)
    ∙ ap (λ (k : List ℕ). by_row t Video d o ++ (by_row t Audio d o ++ (by_row t Speakers d o ++ k)))
    (append_assoc (by_row t Hdmi d o) (by_row t Forum d o) colours
    ∙ ap (λ (k : List ℕ). by_row t Hdmi d o ++ (by_row t Forum d o ++ k)) (three (by_row t Capability d o) (by_row t Colorimetry d o) (by_row t Hdr d o) last))

none_left : (bs : List DataBlock) (u : Subject) → flat_map block_bytes bs ≡ [] → blocks_of u bs ≡ []
none_left [] u e = refl
none_left (b ∷ bs) u e = absurd (omega (arith, ap length e))

then_part : (u s : Subject) (bytes all more rest : List ℕ) → all ≡ part_of u s bytes ++ more → more ≡ rest → all ≡ part_of u s bytes ++ rest
then_part u s bytes all more rest a b = a ∙ ap (λ (k : List ℕ). part_of u s bytes ++ k) b

-- of all parts one is of the subject
abbrev parts : Table → List DataBlock → List DataBlock → Subject → List ℕ
parts t d o u =
    part_of u Video (by_row t Video d o) ++ (part_of u Audio (by_row t Audio d o) ++ (part_of u Speakers (by_row t Speakers d o) ++ (part_of u Hdmi (by_row t Hdmi d o) ++ (
    part_of u Forum (by_row t Forum d o) ++ (part_of u Capability (by_row t Capability d o) ++ (part_of u Colorimetry (by_row t Colorimetry d o) ++ (part_of u Hdr (by_row t Hdr d o) ++ (
    part_of u MakerVideo (by_row t MakerVideo d o) ++ (part_of u MakerAudio (by_row t MakerAudio d o) ++ (part_of u Other (by_row t Other d o) ++ []))))))))))

by_subject : (t : Table) (d o : List DataBlock) (u : Subject) → parts t d o u ≡ by_row t u d o
by_subject t d o Video = append-nil (by_row t Video d o)
by_subject t d o Audio = append-nil (by_row t Audio d o)
by_subject t d o Speakers = append-nil (by_row t Speakers d o)
by_subject t d o Hdmi = append-nil (by_row t Hdmi d o)
by_subject t d o Forum = append-nil (by_row t Forum d o)
by_subject t d o Capability = append-nil (by_row t Capability d o)
by_subject t d o Colorimetry = append-nil (by_row t Colorimetry d o)
by_subject t d o Hdr = append-nil (by_row t Hdr d o)
by_subject t d o MakerVideo = append-nil (by_row t MakerVideo d o)
by_subject t d o MakerAudio = append-nil (by_row t MakerAudio d o)
by_subject t d o Override = refl
by_subject t d o Other = append-nil (by_row t Other d o)

pub obey : ObeyTheirRows
obey t d o blocks e u =
    let v = of_whose t.video Video d o _ blocks (e ∙ in_a_row t d o) in
    let a = of_whose t.audio Audio d o _ v.0 v.1 in
    let s = of_bits t.speakers speakers_ways Speakers d o speakers_keep _ a.0 a.1 in
    let h = of_numbers t.hdmi hdmi_ways Hdmi d o (with_three Hdmi (ways.Receiver ∷ ways.Receiver ∷ ways.Flags ∷ ways.Lesser ∷ [])) _ s.0 s.1 in
    let f =
    of_numbers t.forum forum_ways Forum d o
    (with_three Forum (ways.Display ∷ ways.Lesser ∷ ways.Both ∷ ways.Rates ∷ ways.Both ∷ ways.Passed ∷ ways.Passed ∷ ways.Passed ∷ ways.Passed ∷ ways.Passed ∷ [])) _ h.0 h.1 in
    let c = of_bits t.capability capability_ways Capability d o (with_first Capability (ways.Both ∷ []) refl refl refl) _ f.0 f.1 in
    let l = of_bits t.colorimetry colours_ways Colorimetry d o (with_first Colorimetry (ways.Both ∷ ways.Both ∷ []) refl refl refl) _ c.0 c.1 in
    let r = of_bits t.hdr colours_ways Hdr d o (with_first Hdr (ways.Both ∷ ways.Both ∷ []) refl refl refl) _ l.0 l.1 in
    let m = of_whose t.maker_video MakerVideo d o _ r.0 r.1 in
    let n = of_whose t.maker_audio MakerAudio d o _ m.0 m.1 in
    let k = of_whose t.other Other d o [] n.0 (n.1 ∙ sym (append-nil (by_row t Other d o))) in
    let whole =
    then_part u Video _ _ _ _ (v.2 u) (then_part u Audio _ _ _ _ (a.2 u) (then_part u Speakers _ _ _ _ (s.2 u) (then_part u Hdmi _ _ _ _ (h.2 u) (then_part u Forum _ _ _ _ (f.2 u) (
    then_part u Capability _ _ _ _ (c.2 u) (then_part u Colorimetry _ _ _ _ (l.2 u) (then_part u Hdr _ _ _ _ (r.2 u) (then_part u MakerVideo _ _ _ _ (m.2 u) (
    then_part u MakerAudio _ _ _ _ (n.2 u) (then_part u Other _ _ _ _ (k.2 u) (none_left k.0 u k.1))))))))))) in
    whole ∙ by_subject t d o u
