-- The pulses of a wire that have begun.
use Rattle.std.proofs.Common.{◌≡◌, ℕ, zero, suc, ◌-◌, ◌<◌, ◌≤◌, List, [], ◌∷◌, ◌++◌, take, length, Option, Some, arith, ap, ◌∙◌, sym, subst}
use Rattle.std.specs.List.{All}
use Rattle.std.specs.Option.{option_to_list}
use Rattle.line_wave.specs.declared.Stretch.{Stretch}
use Rattle.line_wave.specs.Bounds.{latest_heard}
use Rattle.line_wave.specs.Pulses.{AreSparse}
use Rattle.line_wire.specs.declared.edge_wire.EdgeWire.{EdgeWire}
use Rattle.line_wire.specs.Wired.{IsBegunWith, IsNext}
use Rattle.line_wave.proofs.Kept.{sparse_wave}

pub pulse_next : (past : List Stretch) (t : ℕ) (p : Stretch) → AreSparse (past ++ p ∷ []) → p.to < latest_heard → t ≤ p.from → IsNext past t (Some p)
pulse_next past t p s e l = record { wave = sparse_wave (past ++ p ∷ []) s; ends = only (λ q. q.to < latest_heard) e; late = only (λ q. t ≤ q.from) l }
  where
    only : (P : Stretch → Type 0) → P p → All P (p ∷ [])
    only P h zero d m = h
    only P h (suc k) d m = absurd (omega (arith, m))

pub taken_by : (past more : List Stretch) (next : Option Stretch) (count begun : ℕ) → count ≡ begun → more ≡ past ++ take (count - length past) (option_to_list next) → more ≡ past ++ take (begun - length past) (option_to_list next)
taken_by past more next count begun e m = m ∙ ap (λ (k : ℕ). past ++ take (k - length past) (option_to_list next)) e

pub begun_more : (past more : List Stretch) (old new : EdgeWire) (next : Option Stretch) → IsBegunWith past old → IsBegunWith (past ++ take (new.begun - old.begun) (option_to_list next)) new
    → more ≡ past ++ take (new.begun - length past) (option_to_list next) → IsBegunWith more new
begun_more past more old new next b f e =
    subst (λ (ps : List Stretch). IsBegunWith ps new) (ap (λ (k : ℕ). past ++ take (new.begun - k) (option_to_list next)) b.count ∙ sym e) f
