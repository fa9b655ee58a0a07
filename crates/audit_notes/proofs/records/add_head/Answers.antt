use Rattle.std.proofs.Common.{ℕ, List, Option, subst, sym, ◌∙◌}
use Rattle.text_core.specs.Adds.{Adds}
use Rattle.audit_notes.specs.Notes.{header_cells, kind_text, named_opcode, opcode_cell}
use Rattle.audit_notes.specs.declared.kind.NoteKind.TheVariants.{Read}
use Rattle.audit_notes.proofs.records.add_head.Goals as goal

pub returns-in-None : goal.returns-in-None
returns-in-None g c =
    subst (λ (o : Option ℕ). Adds c.args.out.now c.add_poll_head.new.out (kind_text c.args.form Read (header_cells c.args.head (opcode_cell o)))) (sym c.in-None.is) c.add_poll_head.ensures

pub returns-in-Some : goal.returns-in-Some
returns-in-Some g c =
    subst (λ (o : Option ℕ). Adds c.args.out.now c.add_message_head.new.out (kind_text c.args.form Read (header_cells c.args.head (opcode_cell o)))) (sym c.in-Some.is)
    (subst (λ (name : List ℕ). Adds c.args.out.now c.add_message_head.new.out (kind_text c.args.form Read (header_cells c.args.head (named_opcode name)))) (c.deref.ensures.0 ∙ c.opcode_text.ensures) c.add_message_head.ensures)
