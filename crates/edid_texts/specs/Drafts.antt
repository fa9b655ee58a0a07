-- What some first lines of a text say, and which line can come next.
use Rattle.std.specs.Prelude.{◌≡◌, ℕ, ◌≤◌, IsTrue, List, [], ◌∷◌, ◌++◌, length, map, take, flat_map}
use Rattle.edid_base.specs.declared.timing.Timing.{Timing}
use Rattle.edid_cta.specs.Block.{block_bytes}
use Rattle.edid_cta.specs.Cta.{is_tail}
use Rattle.edid_cta.specs.declared.block.DataBlock.{DataBlock}
use Rattle.edid_texts.specs.Lines.{base_lines, block_line, bytes_line, timing_line, tail_line, ext_lines, part_lines, edid_lines}
use Rattle.edid_base.specs.declared.base.Base.{Base}
use Rattle.edid_cta.specs.declared.raw.Ext.{Ext}
use Rattle.edid_texts.specs.Draft.{Draft, OfBegun, OfWhole, OfOpened, OfBare, Opened, Whole, draft_by}
use Rattle.edid_texts.specs.declared.draft.EdidDraft.{EdidDraft}
use Rattle.edid_texts.specs.declared.stage.Stage.{Stage}
use Rattle.edid_texts.specs.declared.stage.Stage.TheVariants.{Begun as AtBase, Whole as AtWhole, Opened as AtOpened, Bare as AtBare}
use Rattle.edid_core.specs.declared.edid.Edid.{Edid}
use Rattle.edid_text_lines.specs.declared.line.Line.{Line}
use Rattle.edid_text_lines.specs.declared.line.Keyword.TheVariants.{Cta, CtaNone}

-- the lines of whole blocks
abbrev pub whole_lines : Whole → List Line
whole_lines w = base_lines w.base ++ flat_map ext_lines w.extensions.items

-- the lines of a CTA block up to its tail
abbrev pub opened_lines : Opened → List Line
opened_lines o = bytes_line Cta (o.flags ∷ []) ∷ (map block_line o.blocks.items ++ map timing_line o.timings.items)

abbrev pub draft_lines : Draft → List Line
draft_lines (OfBegun d) = take d.number (base_lines d.base)
draft_lines (OfWhole w) = whole_lines w
draft_lines (OfOpened o) = whole_lines o.whole ++ opened_lines o
draft_lines (OfBare d) = whole_lines d.whole ++ (bytes_line CtaNone (d.flags ∷ []) ∷ [])

-- the draft that stands in a place
abbrev pub draft_of : EdidDraft → Draft
draft_of d = draft_by d.stage d.base d.extensions d.blocks d.timings d.fits

-- its lines, by its parts
abbrev pub lines_at : Stage → Base → List Ext → List DataBlock → List Timing → List Line
lines_at (AtBase number) base exts blocks timings = take number (base_lines base)
lines_at AtWhole base exts blocks timings = part_lines base exts
lines_at (AtOpened flags left) base exts blocks timings = part_lines base exts ++ (bytes_line Cta (flags ∷ []) ∷ (map block_line blocks ++ map timing_line timings))
lines_at (AtBare flags) base exts blocks timings = part_lines base exts ++ (bytes_line CtaNone (flags ∷ []) ∷ [])

abbrev pub lines_so_far : EdidDraft → List Line
lines_so_far d = lines_at d.stage d.base d.extensions.items d.blocks.items d.timings.items

-- the lines of some EDID begin so, and go on with this line
abbrev pub Follows : List Line → Line → Type 0
Follows lines l = (e : Edid) × ((more : List Line) × (edid_lines e ≡ lines ++ l ∷ more))

-- a data block, where there is room for it
abbrev pub BlockFits : ℕ → Line → Type 0
BlockFits left l = (b : DataBlock) × ((block_line b ≡ l) × (length (block_bytes b) ≤ left))

-- a timing, where there is room for it
abbrev pub TimingFits : ℕ → Line → Type 0
TimingFits left l = (t : Timing) × ((timing_line t ≡ l) × (18 ≤ left))

-- the tail that fills what is left
abbrev pub TailFits : ℕ → Line → Type 0
TailFits left l = (bytes : List ℕ) × ((tail_line bytes ≡ l) × ((length bytes ≡ left) × IsTrue (is_tail bytes)))
