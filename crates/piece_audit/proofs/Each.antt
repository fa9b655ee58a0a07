-- The widths of each kind, one after another.
use Rattle.std.proofs.Common.{◌≡◌, ℕ, List, [], ◌∷◌, ◌++◌, Option, Some, None, refl, sym, ◌∙◌, ap}
use Rattle.std.specs.List.{filter_map, flat_map}
use Rattle.text_core.specs.Adds.{Adds, Tally}
use Rattle.text_core.proofs.Adding.{nothing, then}
use Rattle.record_core.specs.declared.cell.Form.{Form}
use Rattle.audit_judged.specs.declared.widths.WidthKind.{WidthKind}
use Rattle.audit_judged.specs.declared.widths.WidthKind.TheVariants.{StartLow, StartTotal, ZeroLow, OneLow, AckLow, LongAck, LateAck, BitTotal}
use Rattle.audit_judged.specs.declared.widths.WidthRemark.{WidthRemark}
use Rattle.audit_judged.specs.Widths.{kinds_in_order}
use Rattle.piece_notes.specs.Notes.{width_text}
use Rattle.piece_audit.specs.Texts.{width_part}

-- a kind, and those after it
one_more : (form : Form) (f : WidthKind → Option WidthRemark) (kind : WidthKind) (kinds : List WidthKind) (o : Option WidthRemark) → f kind ≡ o
    → flat_map (width_text form) (filter_map f (kind ∷ kinds)) ≡ width_part form o ++ flat_map (width_text form) (filter_map f kinds)
one_more form f kind kinds None e = rw e
one_more form f kind kinds (Some r) e = rw e

pub each_kind : (form : Form) (f : WidthKind → Option WidthRemark) (kinds : List WidthKind)
    → flat_map (λ (kind : WidthKind). width_part form (f kind)) kinds ≡ flat_map (width_text form) (filter_map f kinds)
each_kind form f [] = refl
each_kind form f (kind ∷ kinds) =
    ap (λ (text : List ℕ). width_part form (f kind) ++ text) (each_kind form f kinds) ∙ sym (one_more form f kind kinds (f kind) refl)

-- eight texts, one after another
pub eight : (t0 t1 t2 t3 t4 t5 t6 t7 t8 : Tally) (k : WidthKind → List ℕ) → Adds t0 t1 (k StartLow) → Adds t1 t2 (k StartTotal) → Adds t2 t3 (k ZeroLow) → Adds t3 t4 (k OneLow) → Adds t4 t5 (k AckLow) → Adds t5 t6 (k LongAck) → Adds t6 t7 (k LateAck) → Adds t7 t8 (k BitTotal)
    → Adds t0 t8 (flat_map k kinds_in_order)
eight t0 t1 t2 t3 t4 t5 t6 t7 t8 k h1 h2 h3 h4 h5 h6 h7 h8 =
    then t0 t1 t8 (k StartLow) (flat_map k (StartTotal ∷ ZeroLow ∷ OneLow ∷ AckLow ∷ LongAck ∷ LateAck ∷ BitTotal ∷ [])) h1 (then t1 t2 t8 (k StartTotal) (flat_map k (ZeroLow ∷ OneLow ∷ AckLow ∷ LongAck ∷ LateAck ∷ BitTotal ∷ [])) h2 (then t2 t3 t8 (k ZeroLow) (flat_map k (OneLow ∷ AckLow ∷ LongAck ∷ LateAck ∷ BitTotal ∷ [])) h3 (then t3 t4 t8 (k OneLow) (flat_map k (AckLow ∷ LongAck ∷ LateAck ∷ BitTotal ∷ [])) h4 (then t4 t5 t8 (k AckLow) (flat_map k (LongAck ∷ LateAck ∷ BitTotal ∷ [])) h5 (then t5 t6 t8 (k LongAck) (flat_map k (LateAck ∷ BitTotal ∷ [])) h6 (then t6 t7 t8 (k LateAck) (flat_map k (BitTotal ∷ [])) h7 (then t7 t8 t8 (k BitTotal) [] h8 (nothing t8))))))))
