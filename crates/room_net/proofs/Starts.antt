-- A start instant is the first at which the device may start.
use Rattle.std.proofs.Common.{◌≡◌, ℕ, ◌+◌, ◌%◌, ◌≤◌, ◌<◌, Bool, true, false, if◌then◌else◌, max, Option, Some, None, refl, sym, ◌∙◌, subst, arith}
use Rattle.std.specs.Prelude.{IsSomeAnd, MatchOption}
use Rattle.device_core.specs.State.{State}
use Rattle.device_core.specs.Place.{ready_of, is_allocating, is_on_wire}
use Rattle.line_frames.specs.FreeTime.{free_time_of}
use Rattle.room_net.specs.Start.{MayStart, IsStart, StartIsLeast, next_turn, start_by}

turn-aligned : (n t : ℕ) → n < 16 → next_turn n t % 16 ≡ n
turn-aligned n t h = omega arith

turn-least : (n t u : ℕ) → n < 16 → t ≤ u → u % 16 ≡ n → next_turn n t ≤ u
turn-least n t u h le e = omega arith

ready-by : (d : State) (ready t : ℕ) → ready_of d ≡ Some ready → IsSomeAnd (ready_of d) (λ r. r ≤ t) → ready ≤ t
ready-by d ready t e h = let P : Option ℕ → Type 0 = λ o. IsSomeAnd o (λ r. r ≤ t) in subst P e h

pub start_is_least : StartIsLeast
start_is_least rest d low = step (is_on_wire d) (ready_of d) refl refl
  where
    Gives : Option ℕ → Type 0
    Gives o = MatchOption o ((t : ℕ) → MayStart rest d t → ⊥) (λ t. IsStart rest d t)

    free : ℕ
    free = rest + free_time_of d.class

    own : (ready : ℕ) → is_on_wire d ≡ true → ready_of d ≡ Some ready → (a : Bool) → is_allocating d ≡ a
        → IsStart rest d (if a then next_turn d.number (max ready (rest + free_time_of d.class)) else max ready (rest + free_time_of d.class))
    own ready on some true q =
        let m : ℕ = max ready (rest + free_time_of d.class) in
        let P : Option ℕ → Type 0 = λ o. IsSomeAnd o (λ r. r ≤ next_turn d.number (max ready (rest + free_time_of d.class))) in
        record {
          may = record {
            plugged = on;
            ready = subst P (sym some) (omega arith);
            free = omega arith;
            aligned = λ _. turn-aligned d.number (max ready (rest + free_time_of d.class)) low;
          };
          least = λ u h. turn-least d.number (max ready (rest + free_time_of d.class)) u low (let r = ready-by d ready u some h.ready in omega (arith, h.free)) (h.aligned q);
        }
    own ready on some false q =
        let P : Option ℕ → Type 0 = λ o. IsSomeAnd o (λ r. r ≤ max ready (rest + free_time_of d.class)) in
        record {
          may = record { plugged = on; ready = subst P (sym some) (omega arith); free = omega arith; aligned = λ h. (let e : true ≡ false = sym h ∙ q in cc) };
          least = λ u h. (let r = ready-by d ready u some h.ready in omega (arith, h.free));
        }

    step : (on : Bool) (o : Option ℕ) → is_on_wire d ≡ on → ready_of d ≡ o → Gives (start_by rest d on o)
    step false o on some = λ t m. (let e : true ≡ false = sym m.plugged ∙ on in cc)
    step true None on some = λ t m. (let P : Option ℕ → Type 0 = λ o. IsSomeAnd o (λ r. r ≤ t) in subst P some m.ready)
    step true (Some ready) on some = own ready on some (is_allocating d) refl
