use Rattle.std.proofs.Common.{ℕ, List, IfOk, subst, true}
use Rattle.conversion_fit.specs.Answers.{IsAnswer}
use Rattle.cli_choice.specs.declared.choice.Source.TheVariants.{Pair}
use Rattle.program_edids.specs.Edids.{IsRead}
use Rattle.program_edids.proofs.SoundLemmas.{dumps_read, if_ok}
use Rattle.program_edids.proofs.edid_given.merged_dumps.Goals as goal

pub returns-in-Ok-nth_dump_bytes : goal.returns-in-Ok-nth_dump_bytes
returns-in-Ok-nth_dump_bytes c =
    let table = c.args.table in
    let display = c.in-Ok.display.items in
    let own = c.in-Ok-nth_dump_bytes.own.items in
    let P : List ℕ → Type 0 = λ b. IfOk c.merged.result (λ given. IsAnswer table b c.as_slice-in-Ok-nth_dump_bytes.result.now given.items) in
    let Q : List ℕ → Type 0 = λ b. IfOk c.merged.result (λ given. IsAnswer table display b given.items) in
    if_ok c.merged.result (λ given. IsAnswer table display own given.items) (λ given. IsRead (Pair true table) c.args.text.now given.items)
    (λ given. dumps_read table c.args.text.now display own given.items c.in-Ok.ensures c.in-Ok-nth_dump_bytes.ensures)
    (subst Q c.as_slice-in-Ok-nth_dump_bytes.ensures.value (subst P c.as_slice.ensures.value c.merged.ensures))
