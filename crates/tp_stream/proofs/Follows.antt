-- What the promises come to over the machine: the states begun and cleared are the machine's, calls one after the other run as the machine
-- does, and the part that is handed out after taking is the machine's report. Assumes nothing.
use Rattle.std.specs.Prelude.{Result}
use Prim.Native.Nat.{ℕ}
use mathlib.Core.Path.{◌≡◌, refl, sym, ap, ◌∙◌}
use mathlib.Core.List.{List}
use native.Mathlib.Omega.{arith}
use lib.ListN.{length}
use Rattle.refusal.specs.declared.Refusal.{Refusal}
use Rattle.refusal.specs.declared.answers.Step.{Step}
use Rattle.tp_machine.specs.Machine.{State, Out, step, begin, fed, clear}
use Rattle.tp_machine.specs.Taking.{ready, report, taking}
use Rattle.tp_machine.proofs.Steps.{finished_length}
use Rattle.tp_stream.specs.declared.TpStream.{TpStream}
use Rattle.tp_stream.specs.Stream.{view, stored, blank}
use Rattle.tp_stream.specs.Promises.{Began, Took}
use Rattle.tp_stream.specs.AnyOrder.{Called, none, next}
use Rattle.tp_stream.proofs.StreamLaws.{view_stored}

pub begins : (limit : ℕ) (r : Step (Unit {0}) TpStream) → Began limit r → view r.after ≡ begin limit
unfolding begin
begins limit r b = ap view b.begins ∙ view_stored blank (begin limit) (omega arith)

pub clears : (s t : TpStream) → t ≡ stored s (clear (view s)) → view t ≡ clear (view s)
unfolding clear
clears s t e = ap view e ∙ view_stored s (clear (view s)) (omega arith)

-- calls one after the other: where a run of the machine stands
abbrev pub Stands : Out → State → List ℕ → Type 0
Stands o p buf = (o.state ≡ p) × (o.buffer ≡ buf)

pub runs : {s t : TpStream} {buf end : List ℕ} {segs : List (List ℕ)} → Called s buf segs t end → (o : Out) → Stands o (view s) buf → Stands (fed o segs) (view t) end
unfolding fed
runs none o h = h
runs (next {s} {buf} {seg} ran more) o h =
    let e : step o.state seg o.buffer ≡ step (view s) seg buf = λ i. step (h.0 i) seg (h.1 i) in
    let q = e ∙ sym ran.steps in
    runs more (step o.state seg o.buffer) (ap (λ (x : Out). x.state) q, ap (λ (x : Out). x.buffer) q)

pub reports : (s : TpStream) (buf : List ℕ) (r : Result ℕ Refusal) (after part : List ℕ) → Took s buf r after
    → part ≡ report (ready (view s) (length after)) after → part ≡ (taking (view s) buf).part
unfolding taking
reports s buf r after part t e =
    let n : length after ≡ length buf = ap length t.writes ∙ finished_length (view s) buf (ready (view s) (length buf)) refl in
    e ∙ (λ i. report (ready (view s) (n i)) (t.writes i))
