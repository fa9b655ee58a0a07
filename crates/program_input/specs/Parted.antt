-- Parts of an input, with a line between them (own).
use Rattle.std.specs.Prelude.{◌≡◌, ◌≢◌, ℕ, ◌⊎◌, List, [], ◌∷◌, ◌++◌, All, codes}
use Rattle.std.specs.List.{flat_map}

-- a line without its end
abbrev pub IsLine : List ℕ → Type 0
IsLine line = All (λ b. b ≢ 10) line

-- whole lines, each ended by 0A, none of which reads as this one
pub record AreOtherLines (mark text : List ℕ) : Type 0 where
  pub lines : List (List ℕ)
  pub spelled : text ≡ flat_map (λ line. line ++ 10 ∷ []) lines
  pub whole : All IsLine lines
  pub others : All (λ line. line ≢ mark) lines

-- the text before the first line that reads so, and the text after it; the last line of a text may lack its end
pub record IsParted (mark text before after : List ℕ) : Type 0 where
  pub earlier : AreOtherLines mark before
  pub at : (text ≡ before ++ mark ++ 10 ∷ after) ⊎ ((text ≡ before ++ mark) × (after ≡ []))

-- the input of a run is a topology and a script, with the line `script` between them
abbrev pub IsRunInput : List ℕ → List ℕ → List ℕ → Type 0
IsRunInput input topology script = IsParted (codes "script") input topology script

-- after the topology of a walk come its script and its commands, with the line `steps` between them
abbrev pub IsStepsInput : List ℕ → List ℕ → List ℕ → Type 0
IsStepsInput rest script commands = IsParted (codes "steps") rest script commands

-- the input of a test of a capture is its expectations and the capture, with the line `capture` between them
abbrev pub IsCaptureInput : List ℕ → List ℕ → List ℕ → Type 0
IsCaptureInput input expectations capture = IsParted (codes "capture") input expectations capture
