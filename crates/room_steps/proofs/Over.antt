-- What a stepper knows of the end of its run, after a step.
use Rattle.std.proofs.Common.{◌≡◌, ℕ, Bool, true, false, ◌&&◌, not, List, Option, Some, None, MatchOption, is_some, Result, Ok, Err, sym, subst, refl}
use Rattle.room_net.specs.State.{NetState}
use Rattle.room_step_text.specs.declared.break_at.Break.{Break}
use Rattle.room_steps.specs.declared.stepper.StepError.{StepError}
use Rattle.room_steps.specs.declared.stepper.StepError.TheVariants.{Ended, Write}
use Rattle.room_steps.specs.Over.{OverIf, is_ended}
use Rattle.room_steps.specs.Ready.{begun_in, point_of, run_of}
use Rattle.room_steps.specs.declared.position.RunInput.{RunInput}
use Rattle.room_steps.specs.declared.position.Position.{Position}
use Rattle.room_steps.specs.Steps.{Point, Run, Steps, IsNever, IsNoEdge, IsNoEdgeBy, IsOver, IsTaken}

-- a step that found no edge left the stepper where it stood
pub over_edge : (Gives : List ℕ → Steps → Type 0) (s t : Steps) (old new : Option (List ℕ)) (r : Result ℕ StepError) → IsTaken Gives (IsNoEdge s) s t old new r → OverIf (is_ended r) t
over_edge Gives s t old new (Ok reported) taken = tt
over_edge Gives s t old new (Err Ended) (over, same, none) = subst (λ x. IsNoEdge x) (sym same) over
over_edge Gives s t old new (Err (Write reported)) taken = tt

-- it is asked only after some steps
pub over_asked : (asked over : Bool) (t : Steps) → OverIf over t → OverIf (asked && over) t
over_asked true over t h = h
over_asked false over t h = tt

-- where no round was begun, no edge is left where no round is
pub no_edge : (s : Steps) (begun : Option NetState) → s.begun ≡ begun → is_some begun ≡ false → IsOver s.run.end s.last → IsNoEdge s
no_edge s None is none over = subst (λ x. IsNoEdgeBy s x) (sym is) over
no_edge s (Some net) is none over = cc

-- where the events before the next round were passed from the last one, and none comes
pub over_found : (P : ℕ → Type 0) (input : RunInput) (s : Steps) (copy place : Position) (found : Option ℕ) (b : Bool) → run_of input ≡ s.run → copy ≡ place → point_of s.run.events place ≡ s.last
    → is_some s.begun ≡ false → MatchOption found (IsOver input.end (point_of input.events.items copy)) P → is_some found ≡ not b → OverIf b s
over_found P input s copy place None true shown same last none over is =
    let here : IsOver input.end (point_of input.events.items place) = subst (λ (p : Position). IsOver input.end (point_of input.events.items p)) same over in
    no_edge s s.begun refl none (subst (λ (p : Point). IsOver s.run.end p) last (subst (λ (r : Run). IsOver r.end (point_of r.events place)) shown here))
over_found P input s copy place None false shown same last none over is = tt
over_found P input s copy place (Some begin) true shown same last none over is = cc
over_found P input s copy place (Some begin) false shown same last none over is = tt

pub begun_is : (b : Bool) (q : Point) → b ≡ is_some (begun_in b q)
begun_is true q = refl
begun_is false q = refl

some_edge : (s : Steps) (begun : Option NetState) → s.begun ≡ begun → is_some begun ≡ false → IsNoEdge s → IsOver s.run.end s.last
some_edge s None is none over = subst (λ x. IsNoEdgeBy s x) is over
some_edge s (Some net) is none over = cc

-- and no round where no edge is
pub no_round : (s : Steps) (b : Bool) → b ≡ true → is_some s.begun ≡ false → OverIf b s → IsOver s.run.end s.last
no_round s true is none over = some_edge s s.begun refl none over
no_round s false is none over = cc

-- nor one that is looked for
pub never : (s : Steps) (at : Break) → IsOver s.run.end s.last → IsNever s at
never s at over = (0, s.last, refl, over)
