use Rattle.std.proofs.Common.{◌≡◌, ◌+◌, ◌<◌, ◌≤◌, ◌∙◌, ◌++◌, List, ℕ, ap, arith, drop, length, subst, sym, take}
use Rattle.std.proofs.lemmas.List.{length-take}
use Rattle.live_incoming.specs.Incoming.{IsPiece, bytes_left, longest_line}
use Rattle.live_incoming.specs.declared.incoming.LinePiece.TheVariants.{Part, End, Over}
use Rattle.live_incoming.proofs.Coming.{end_of, over_of, part_of}
use Rattle.live_incoming.proofs.incoming.Lines.piece.Goals as goal

pub returns-then-count-room : goal.returns-then-count-room
returns-then-count-room c =
    let left = c.left-left.result.now in
    let count = c.len_before-count.result in
    let room = c.remaining_capacity-room.result in
    let new = bytes_left c.hand_out.new.self in
    let line = c.args.line.now.items in
    let rest : new ≡ drop (room + 1) left = c.hand_out.ensures ∙ ap (λ (l : List ℕ). drop (room + 1) l) (sym c.left-left.ensures) in
    subst (λ (l : List ℕ). IsPiece l new line line Over) c.left-left.ensures
    (over_of left new line line count room c.len_before-count.ensures.value c.len_before-count.ensures.within c.remaining_capacity-room.ensures c.if-count-room.true rest)

pub returns-then-count-all : goal.returns-then-count-all
returns-then-count-all c =
    let left = c.left-left.result.now in
    let count = c.len_before-count.result in
    let room = c.remaining_capacity-room.result in
    let new = bytes_left c.hand_out-then-count-all.new.self in
    let line = c.args.line.now.items in
    let after = c.add.new.line.items in
    let some : 0 < length left = omega (arith, c.if-all-eq0.false) in
    let rest : new ≡ drop count left = c.hand_out-then-count-all.ensures ∙ ap (λ (l : List ℕ). drop count l) (sym c.left-left.ensures) in
    let more = c.add.ensures ∙ ap (λ (l : List ℕ). line ++ l) c.before-2.ensures in
    let fits : length line + length (take count left) ≤ longest_line = omega (arith, length-take count left, c.remaining_capacity-room.ensures, c.if-count-room.false) in
    subst (λ (l : List ℕ). IsPiece l new line after Part) c.left-left.ensures
    (part_of left new line after count c.len_before-count.ensures.value some c.if-count-all.true rest more fits)

pub returns : goal.returns
returns c =
    let left = c.left-left.result.now in
    let count = c.len_before-count.result in
    let new = bytes_left c.hand_out-2.new.self in
    let line = c.args.line.now.items in
    let after = c.add.new.line.items in
    let inside : count < length left = omega (arith, c.len_before-count.ensures.within, c.if-count-all.false) in
    let rest : new ≡ drop (count + 1) left = c.hand_out-2.ensures ∙ ap (λ (l : List ℕ). drop (count + 1) l) (sym c.left-left.ensures) in
    let more = c.add.ensures ∙ ap (λ (l : List ℕ). line ++ l) c.before-2.ensures in
    subst (λ (l : List ℕ). IsPiece l new line after End) c.left-left.ensures
    (end_of left new line after count c.len_before-count.ensures.value inside rest more)
