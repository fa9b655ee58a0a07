-- What the words of a command line ask for is done.
use Rattle.std.proofs.Common.{◌≡◌, ℕ, true, false, List, Option, Some, None, subst, sym}
use Rattle.program_captures.specs.Following.{FollowsTo}
use Rattle.program_captures.specs.Compared.{WritesAlike}
use Rattle.program_input.specs.Parted.{IsCaptureInput}
use Rattle.program_input.specs.Plain.{plain_held, plain_known, takes_plain}
use Rattle.program_input.specs.Read.{IsAllOf}
use Rattle.program_calls.specs.Done.{AreServedAs, IsCompared, IsHelp, IsServed, IsServedOf, Writes}
use Rattle.cli_choice.specs.declared.choice.Asked.{Asked}
use Rattle.cli_choice.specs.declared.choice.CommandChoice.TheVariants.{CaptureDiff, Follow}
use Rattle.cli_choice.specs.declared.choice.CapturePair.{CapturePair}
use Rattle.cli_choice.specs.declared.choice.FollowChoice.{FollowChoice}

-- where a choice was made
pub chosen : (o : Option Asked) (asked : Asked) (name : List ℕ) (operands : List (List ℕ)) (stdin : Option (List ℕ)) (held : List ℕ → Option (List ℕ)) (old new : Option (List ℕ)) → o ≡ Some asked
    → IsServedOf asked.choice name operands (plain_known (takes_plain asked.choice false) stdin) (plain_held (takes_plain asked.choice true) held) old new
    → AreServedAs o name operands stdin held old new
chosen o asked name operands stdin held old new is served = subst (λ x. AreServedAs x name operands stdin held old new) (sym is) served

-- and where none was
pub helped : (o : Option Asked) (name : List ℕ) (operands : List (List ℕ)) (stdin : Option (List ℕ)) (held : List ℕ → Option (List ℕ)) (old new : Option (List ℕ)) → o ≡ None → IsHelp old new
    → AreServedAs o name operands stdin held old new
helped o name operands stdin held old new is help = subst (λ x. AreServedAs x name operands stdin held old new) (sym is) help

-- a capture that is reported as its lines come
pub followed : (choice : FollowChoice) (known old new : Option (List ℕ)) (name : List ℕ) → FollowsTo choice name known old new → IsServed known old new (Follow choice) name
followed choice known old new name f = record {
  input = f.input;
  all = f.all;
  written = (f.text, f.reported, f.put);
}

-- two captures of one input
pub compared_in : (pair : CapturePair) (name input first second : List ℕ) (old new : Option (List ℕ)) → IsCaptureInput input first second → WritesAlike pair name first second old new
    → Writes (CaptureDiff pair) name input old new
compared_in pair name input first second old new parts (text, alike, put) = (text, (first, second, parts, alike), put)

-- two captures of files, which were read whole
pub compared_of : (pair : CapturePair) (name asked first one second other : List ℕ) (known_first known_second old new : Option (List ℕ))
    → asked ≡ name → one ≡ first → other ≡ second → IsAllOf known_first first → IsAllOf known_second second → WritesAlike pair asked one other old new
    → IsCompared pair name known_first known_second old new
compared_of pair name asked first one second other known_first known_second old new is_name is_first is_second all_first all_second w = record {
  first = first;
  second = second;
  all_first = all_first;
  all_second = all_second;
  written = subst (λ (n : List ℕ). WritesAlike pair n first second old new) is_name (subst (λ (b : List ℕ). WritesAlike pair asked first b old new) is_second (subst (λ (b : List ℕ). WritesAlike pair asked b other old new) is_first w));
}
