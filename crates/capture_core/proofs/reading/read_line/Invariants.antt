use Rattle.std.proofs.Common.{◌≡◌, ◌+◌, ◌≤◌, ◌++◌, List, length}
use Rattle.std.specs.Option.{option_copied}
use Rattle.line_wave.specs.declared.Edge.{Edge}
use Rattle.capture_core.specs.Reading.{left_length, line_read, onto, words_left, words_read}
use Rattle.capture_core.proofs.reading.read_line.Given as goal

-- the edges of the words so far are there
abbrev pub invariant-words : goal.invariant-words
invariant-words g l =
    let form = g.R.TakesWords.form in
    (more : List Edge) × (l.edges.items ≡ l.fn.edges.items ++ more)
    × (line_read form l.line_number l.line (g.R.TakesWords.state l.fn.reader) ≡ onto more (words_read form l.line_number l.number (words_left form (option_copied l.left)) (g.R.TakesWords.state l.reader)))
    × (l.number + left_length (option_copied l.left) ≤ length l.line + 1)

abbrev pub decreases-words : goal.decreases-words
decreases-words g l = left_length (option_copied l.left)
