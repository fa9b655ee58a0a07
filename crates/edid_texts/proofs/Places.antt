-- A draft in its place, by its parts.
use Rattle.std.proofs.Common.{◌≡◌, ℕ, ◌+◌, ◌<◌, Bool, true, false, MatchBool, List, [], ◌∷◌, ◌++◌, length, take, ap, arith, sym, refl, ◌∙◌, subst, append-nil}
use Rattle.std.proofs.lemmas.List.{take_all}
use Rattle.arrayvec.specs.declared.array_vec.ArrayVec.{ArrayVec}
use Rattle.edid_base.specs.declared.base.Base.{Base}
use Rattle.edid_base.specs.declared.timing.Timing.{Timing}
use Rattle.edid_cta.specs.declared.block.DataBlock.{DataBlock}
use Rattle.edid_cta.specs.declared.raw.Ext.{Ext}
use Rattle.edid_core.specs.declared.edid.Edid.{Edid}
use Rattle.edid_texts.specs.Draft.{Draft, OfBegun, OfWhole, OfOpened, OfBare, Whole, Opened, Headed, StageFits, draft_by}
use Rattle.edid_texts.specs.Drafts.{draft_lines, draft_of, lines_at, lines_so_far, Follows}
use Rattle.edid_texts.specs.Lines.{base_lines, edid_lines, part_lines}
use Rattle.edid_texts.specs.declared.draft.EdidDraft.{EdidDraft}
use Rattle.edid_texts.specs.declared.stage.Stage.{Stage}
use Rattle.edid_texts.specs.declared.stage.Stage.TheVariants.{Begun as AtBase, Whole as AtWhole, Opened as AtOpened, Bare as AtBare}
use Rattle.edid_text_lines.specs.declared.line.Line.{Line}
use Rattle.edid_texts.proofs.Fronts.{begun_not_all, opened_not_all, bare_not_all}
use Rattle.edid_texts.proofs.Gets.{base_count}

same_by : (stage : Stage) (base : Base) (exts : ArrayVec Ext 3 (Unit {0})) (blocks : ArrayVec DataBlock 123 (Unit {0})) (timings : ArrayVec Timing 6 (Unit {0}))
    → (fits : StageFits stage exts.items blocks.items timings.items) → draft_lines (draft_by stage base exts blocks timings fits) ≡ lines_at stage base exts.items blocks.items timings.items
same_by (AtBase number) base exts blocks timings fits = refl
same_by AtWhole base exts blocks timings fits = refl
same_by (AtOpened flags left) base exts blocks timings fits = refl
same_by (AtBare flags) base exts blocks timings fits = refl

pub same_lines : (d : EdidDraft) → draft_lines (draft_of d) ≡ lines_so_far d
same_lines d = same_by d.stage d.base d.extensions d.blocks d.timings d.fits

-- what is left, where its stage is known
pub fits_at : (d : EdidDraft) (stage : Stage) → d.stage ≡ stage → StageFits stage d.extensions.items d.blocks.items d.timings.items
fits_at d stage e = subst (λ s. StageFits s d.extensions.items d.blocks.items d.timings.items) e d.fits

pub lines_are : (d : EdidDraft) (stage : Stage) → d.stage ≡ stage → lines_so_far d ≡ lines_at stage d.base d.extensions.items d.blocks.items d.timings.items
lines_are d stage e = ap (λ s. lines_at s d.base d.extensions.items d.blocks.items d.timings.items) e

abbrev pub whole_at : (d : EdidDraft) → d.stage ≡ AtWhole → Whole
whole_at d e = record { base = d.base; extensions = d.extensions; few = (fits_at d AtWhole e).1 }

abbrev pub opened_at : (d : EdidDraft) (flags left : ℕ) → d.stage ≡ AtOpened flags left → Opened
opened_at d flags left e =
    let fits = fits_at d (AtOpened flags left) e in
    record {
      whole = record { base = d.base; extensions = d.extensions; few = fits.1 };
      flags = flags;
      blocks = d.blocks;
      timings = d.timings;
      left = left;
      room = fits.2;
      flags_fit = fits.3;
      spelled = fits.4;
      few = fits.5;
    }

abbrev pub headed_at : (d : EdidDraft) (flags : ℕ) → d.stage ≡ AtBare flags → Headed
headed_at d flags e =
    let fits = fits_at d (AtBare flags) e in
    record { whole = record { base = d.base; extensions = d.extensions; few = fits.1 }; flags = flags; room = fits.2; flags_fit = fits.3 }

pub follows : (xs ys : List Line) (l : Line) → xs ≡ ys → Follows xs l → Follows ys l
follows xs ys l e f = subst (λ ls. Follows ls l) e f

-- one fact for another, on each side
pub lift_bool : (b : Bool) (A B C D : Type 0) → (A → C) → (B → D) → MatchBool b A B → MatchBool b C D
lift_bool true A B C D f g h = f h
lift_bool false A B C D f g h = g h

-- the last line of a base block, after which no extension stands
pub whole_base : (b : Base) (n : ℕ) (exts : List Ext) (lines : List Line) → n ≡ 22 → length exts < 1 → take (n + 1) (base_lines b) ≡ lines → part_lines b exts ≡ lines
whole_base b n [] lines e none is = append-nil (base_lines b) ∙ sym (take_all (n + 1) (base_lines b) (omega (arith, base_count b, e))) ∙ is
whole_base b n (x ∷ exts) lines e none is = absurd (omega (arith, none))

-- what a line adds to the parts of a draft it adds to the draft
pub put_as : (taken : Bool) (old new : EdidDraft) (l : Line) → MatchBool taken (lines_so_far new ≡ lines_so_far old ++ l ∷ []) (Follows (lines_so_far old) l → ⊥)
    → MatchBool taken (draft_lines (draft_of new) ≡ draft_lines (draft_of old) ++ l ∷ []) (Follows (draft_lines (draft_of old)) l → ⊥)
put_as taken old new l =
    lift_bool taken _ _ _ _ (λ e. same_lines new ∙ e ∙ ap (λ ls. ls ++ l ∷ []) (sym (same_lines old))) (λ not f. not (follows (draft_lines (draft_of old)) (lines_so_far old) l (same_lines old) f))

-- only the lines of whole blocks are all that an EDID has
abbrev pub IsWhole : Draft → Type 0
IsWhole (OfBegun b) = ⊥
IsWhole (OfWhole w) = Unit {0}
IsWhole (OfOpened o) = ⊥
IsWhole (OfBare h) = ⊥

pub not_all : (d : Draft) (e : Edid) → (IsWhole d → ⊥) → edid_lines e ≡ draft_lines d → ⊥
not_all (OfBegun b) e not all = begun_not_all b.base b.number e b.few all
not_all (OfWhole w) e not all = not tt
not_all (OfOpened o) e not all = opened_not_all o e all
not_all (OfBare h) e not all = bare_not_all h.whole h.flags e all

whole_by : (stage : Stage) (base : Base) (exts : ArrayVec Ext 3 (Unit {0})) (blocks : ArrayVec DataBlock 123 (Unit {0})) (timings : ArrayVec Timing 6 (Unit {0}))
    → (fits : StageFits stage exts.items blocks.items timings.items) → IsWhole (draft_by stage base exts blocks timings fits) → stage ≡ AtWhole
whole_by (AtBase number) base exts blocks timings fits whole = absurd whole
whole_by AtWhole base exts blocks timings fits whole = refl
whole_by (AtOpened flags left) base exts blocks timings fits whole = absurd whole
whole_by (AtBare flags) base exts blocks timings fits whole = absurd whole

pub whole_stage : (d : EdidDraft) → IsWhole (draft_of d) → d.stage ≡ AtWhole
whole_stage d whole = whole_by d.stage d.base d.extensions d.blocks d.timings d.fits whole
