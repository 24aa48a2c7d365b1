-- The order in which segments come to a stream does not matter: its calls run as the machine does. Assumes nothing.
use Rattle.std.specs.Prelude.{Result}
use mathlib.Core.Path.{◌≡◌, refl, sym, ap, ◌∙◌}
use mathlib.Core.List.{List}
use mathlib.Core.Logic.{◌↔◌}
use Prim.Native.Nat.{ℕ}
use Rattle.refusal.specs.declared.Refusal.{Refusal}
use Rattle.refusal.specs.Said.{count_said}
use Rattle.tp_machine.specs.Machine.{Out, step, begin}
use Rattle.tp_machine.specs.Taking.{Taken, complete, taking}
use Rattle.tp_machine.specs.AnyOrder.{Suited, Feed, opening, outcome, AllPass, EachFed}
use Rattle.tp_machine.proofs.Steps.{empties}
use Rattle.tp_machine.proofs.AnyOrder.{order_does_not_matter}
use Rattle.tp_stream.specs.declared.TpStream.{TpStream}
use Rattle.tp_stream.specs.Stream.{view}
use Rattle.tp_stream.specs.AnyOrder.{Called, none, next, AllPassed, Fresh, begun, cleared, FedTo, HandsOut, SameReports, AnyOrder}
use Rattle.tp_stream.proofs.Follows.{begins, clears, Stands, runs, reports}

-- each call passes its segment exactly where the machine does
all_pass : {s t : TpStream} {buf end : List ℕ} {segs : List (List ℕ)} (k : Called s buf segs t end) (o : Out) → Stands o (view s) buf → AllPassed k ↔ AllPass o segs
all_pass none o h = ((λ p. p), (λ p. p))
all_pass (next {s} {buf} {seg} ran more) o h =
    let q = (λ i. step (h.0 i) seg (h.1 i)) ∙ sym ran.steps in
    let answer = ap (λ (x : Out). x.answer) q in
    let later = all_pass more (step o.state seg o.buffer) (ap (λ (x : Out). x.state) q, ap (λ (x : Out). x.buffer) q) in
    ((λ p. (answer ∙ p.0, later.0 p.1)), (λ p. (sym answer ∙ p.0, later.1 p.1)))

is_fresh : (limit : ℕ) (s : TpStream) → Fresh limit s → begin limit ≡ view s
is_fresh limit _ (begun r b) = sym (begins limit r b)
is_fresh limit _ (cleared s t good same e) = sym (clears s t e ∙ empties.cleared_is_begun (view s) good.low ∙ ap begin same)

module _ (f : Feed) {t : TpStream} {b : List ℕ} (k : FedTo f t b) where
  fresh : Stands (opening f) (view k.first) f.buffer
  fresh = (is_fresh f.limit k.first k.fresh, refl)

  ran : Stands (outcome f) (view t) b
  ran = runs k.comes (opening f) fresh

  -- what is handed out is the machine's
  handed : (r : Result ℕ Refusal) (part : List ℕ) → HandsOut t b r part → (count_said r ≡ (taking (outcome f).state (outcome f).buffer).answer) × (part ≡ (taking (outcome f).state (outcome f).buffer).part)
  handed r part h =
      let same : taking (view t) b ≡ taking (outcome f).state (outcome f).buffer = λ i. taking (sym ran.0 i) (sym ran.1 i) in
      (h.takes.answers ∙ ap (λ (x : Taken). x.answer) same, reports t b r h.after part h.takes h.hands ∙ ap (λ (x : Taken). x.part) same)

module _ (f g : Feed) (s : Suited f.segments) (e : EachFed f g) {t u : TpStream} {b c : List ℕ} (k : FedTo f t b) (l : FedTo g u c) where
  same_reports : SameReports t u b c
  same_reports =
      let agree = order_does_not_matter f g s e in
      let one = ap complete (ran f k).0 in
      let other = ap complete (ran g l).0 in
      record {
        both_or_neither = sym one ∙ agree.both_or_neither ∙ other;
        equal = λ whole r q m n h i.
            let same = agree.reports_equal (one ∙ whole) in
            let (x, p) = handed f k r m h in
            let (y, w) = handed g l q n i in
            (p ∙ same.equal ∙ sym w, (same.end, x ∙ same.given, y ∙ same.given_too));
      }

pub any_order : AnyOrder
any_order = record { none_refused = λ f k. all_pass k.comes (opening f) (fresh f k); same_reports = λ f g s e k l. same_reports f g s e k l }
