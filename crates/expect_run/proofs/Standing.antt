-- The network at the end of a run that was heard.
use Rattle.std.proofs.Common.{◌≡◌, ℕ, List, true, refl, subst}
use Rattle.room_net.specs.State.{NetState}
use Rattle.room_run.specs.Happening.{Happening}
use Rattle.expect_text.specs.Line.{cut_script}
use Rattle.expect_told.specs.Turns.{IsHeardOf}
use Rattle.expect_run.specs.States.{IsEndAt}

pub end_of_run : {R : Type 0} (hears : R → Happening → R → Type 0) (topology plain text : List ℕ) (time : ℕ) (old new : R) (net : NetState) → text ≡ cut_script time plain
    → IsHeardOf hears topology text old new net true → IsEndAt topology plain time net
end_of_run {R} hears topology plain text time old new net cut run =
    let whole : IsHeardOf hears topology (cut_script time plain) old new net true = subst (λ (t : List ℕ). IsHeardOf hears topology t old new net true) cut run in
    record {
      happened = whole.heard.happened;
      last = whole.heard.last;
      run = record {
        plan = whole.plan;
        course = whole.course;
        edid = whole.edid;
        accepted = whole.accepted;
        root = whole.root;
        goes = whole.heard.goes;
        stops = whole.heard.whole refl;
      };
      net_is = whole.heard.net_is;
    }
