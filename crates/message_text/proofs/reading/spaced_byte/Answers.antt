use Rattle.std.proofs.Common.{◌≡◌, ◌∷◌, List, ℕ, Option, Some, None, option_map, drop}
use Rattle.message_table.specs.WordSets.{word_of, words_of}
use Rattle.message_text.proofs.reading.spaced_byte.Goals as goal

spaced : (o : Option (List ℕ)) (t : List ℕ) → option_map (λ w. 32 ∷ w) o ≡ Some t → o ≡ Some (drop 1 t)
spaced None t e = cc
spaced (Some w) t e = let s : 32 ∷ w ≡ t = cc in rw (← s) cc

pub returns : goal.returns
returns c = λ byte small e.
    let here : word_of (words_of c.args.set) byte ≡ Some c.after.result.now =
    rw c.after.ensures (spaced (word_of (words_of c.args.set) byte) c.args.text.now e) in
    c.word_byte.ensures byte small here
