-- Messages that are made of a byte have that byte.
use Rattle.std.proofs.Common.{◌≡◌, ℕ, ◌<◌, true, [], ◌∷◌, refl, ap, ◌∙◌, arith}
use Rattle.std.proofs.lemmas.Bool.Decides.{nat_tests}
use Rattle.message_table.specs.Words.{status_at}
use Rattle.message_table.specs.Table.{decoding, row_of, spelling}
use Rattle.text_core.specs.Bytes.{are_bytes}
use Rattle.message_table.specs.Laws.{KeepsOperands, SaysOperands}
use Rattle.message_table.specs.declared.message.Message.{Message}
use Rattle.message_table.specs.declared.message.Message.TheVariants.{ReportAudioStatus}
use Rattle.message_table.specs.declared.message.Decoded.TheVariants.{Known}

one_byte : (b : ℕ) → b < 256 → are_bytes (b ∷ []) ≡ true
one_byte b h = grind (arith, nat_tests)

known : (m n : Message) → Known m ≡ Known n → m ≡ n
known m n e = cc

abbrev pub Keeps : Type 0
Keeps = (code : ℕ) → KeepsOperands code

pub status_spelled : Keeps → (status : ℕ) → status < 256 → spelling (ReportAudioStatus (status_at status)) ≡ 0x7a ∷ status ∷ []
status_spelled keeps status h =
    let says : SaysOperands 0x7a (status ∷ []) (decoding 0x7a (status ∷ []) (row_of 0x7a)) = keeps 0x7a (status ∷ []) refl (one_byte status h) refl in
    ap spelling (known (ReportAudioStatus (status_at status)) says.message says.said) ∙ says.sent
