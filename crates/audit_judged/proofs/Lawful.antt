-- Widths that are in their windows have no remark.
use Rattle.std.proofs.Common.{◌≡◌, ℕ, ◌+◌, Bool, true, false, if◌then◌else◌, List, [], ◌∷◌, Option, Some, None, refl, ◌∙◌, ap}
use Rattle.std.specs.List.{filter_map}
use Rattle.audit_widths.specs.declared.misfit.WidthWindow.{WidthWindow}
use Rattle.audit_pieces.specs.declared.piece.Slot.{Slot}
use Rattle.audit_pieces.specs.Pieces.{Whole}
use Rattle.audit_judged.specs.declared.widths.Outs.{Outs}
use Rattle.audit_judged.specs.declared.widths.WidthKind.{WidthKind}
use Rattle.audit_judged.specs.declared.widths.WidthRemark.{WidthRemark}
use Rattle.audit_judged.specs.Widths.{AreIn, IsIn, LawfulWidthsHaveNoRemark, SlotsAreIn, is_intruded, is_out, kinds_in_order, outs_of, remark_by, remark_for, slot_outs, slot_width, start_width, window_for, with_out, with_width}

not_taken : {A : Type 0} (b : Bool) (x y : A) → b ≡ false → (if b then x else y) ≡ y
not_taken true x y e = absurd (never e)
  where
    never : true ≡ false → ⊥
    never e = cc
not_taken false x y e = refl

-- a width that is in adds nothing
adds_none : (grid : ℕ) (w : WidthWindow) (k : ℕ) (width : Option ℕ) (outs : Option Outs) → IsIn grid w width → with_width grid w k width outs ≡ outs
adds_none grid w k None outs within = refl
adds_none grid w k (Some width) outs within = not_taken (is_out grid w width) (Some (with_out k width outs)) outs within

none_of_slots : (grid : ℕ) (broken : Bool) (kind : WidthKind) (k : ℕ) (slots : List Slot) → SlotsAreIn grid broken kind k slots → slot_outs grid broken kind k slots ≡ None
none_of_slots grid broken kind k [] within = refl
none_of_slots grid broken kind k (slot ∷ slots) (here, later) =
    adds_none grid (window_for kind) k (slot_width broken kind k slot slots) (slot_outs grid broken kind (k + 1) slots) here
    ∙ none_of_slots grid broken kind (k + 1) slots later

none_out : (grid : ℕ) (p : Whole) (kind : WidthKind) → AreIn grid p → outs_of grid p kind ≡ None
none_out grid p kind within =
    adds_none grid (window_for kind) 0 (start_width kind p.parts.head p.parts.slots) (slot_outs grid (is_intruded p.ending) kind 1 p.parts.slots) ((within kind).0)
    ∙ none_of_slots grid (is_intruded p.ending) kind 1 p.parts.slots ((within kind).1)

no_remark : (grid : ℕ) (p : Whole) (kind : WidthKind) → AreIn grid p → remark_for grid p kind ≡ None
no_remark grid p kind within = ap (λ (outs : Option Outs). remark_by p kind outs) (none_out grid p kind within)

skip : (f : WidthKind → Option WidthRemark) (kind : WidthKind) (kinds : List WidthKind) → f kind ≡ None → filter_map f (kind ∷ kinds) ≡ filter_map f kinds
skip f kind kinds none = rw none

none_of : (grid : ℕ) (p : Whole) (kinds : List WidthKind) → AreIn grid p → filter_map (remark_for grid p) kinds ≡ []
none_of grid p [] within = refl
none_of grid p (kind ∷ kinds) within = skip (remark_for grid p) kind kinds (no_remark grid p kind within) ∙ none_of grid p kinds within

pub lawful : LawfulWidthsHaveNoRemark
lawful grid p within = none_of grid p kinds_in_order within
