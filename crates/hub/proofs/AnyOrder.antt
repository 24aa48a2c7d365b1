-- The order in which segments come does not matter to what C calls: the calls run as the machine does. Assumes nothing.
use Prim.Native.Nat.{ℕ, ◌+◌}
use mathlib.Core.Path.{◌≡◌, refl, sym, ap, ◌∙◌}
use mathlib.Core.Bool.{Bool, true, false, cond, false≢true}
use mathlib.Core.List.{List, [], ◌∷◌}
use mathlib.Core.Logic.{◌↔◌, ◌≢◌}
use native.Mathlib.Omega.{arith}
use borrow.Author.Tests.{le-ltb}
use lib.Dec.{ltb}
use lib.ListN.{length, take}
use Rattle.numbers.specs.Refusals.{Refusal, limit_too_large, malformed_state}
use Rattle.numbers.specs.Answers as paper
use Rattle.numbers.proofs.AnswerLaws.{when_pass}
use Rattle.numbers.proofs.RuleLaws.{refused_not_zero}
use Rattle.tp_machine.specs.Machine.{highest, State, Out, step, begun, begin, opened}
use Rattle.tp_machine.specs.Taking.{Taken, complete, taking}
use Rattle.tp_machine.specs.Meaning.{Good}
use Rattle.tp_machine.specs.AnyOrder.{Suited, Feed, opening, outcome, AllPass, EachFed}
use Rattle.tp_machine.proofs.RuleLaws.{rules_followed}
use Rattle.tp_machine.proofs.Steps.{every_step, empties}
use Rattle.tp_machine.proofs.Tests as tests
use Rattle.tp_machine.proofs.AnyOrder.{order_does_not_matter}
use Rattle.tp_words.specs.Words.{unfit, state_of}
use Rattle.tp_words.proofs.Holding.{words_hold}
use Rattle.hub.specs.declared.answers.Answer.{Answer}
use Rattle.hub.specs.Answers.{row, told, no_values, report_values}
use Rattle.hub.specs.Tp.{Takes, Clears, Comes, none, next, Stands}
use Rattle.hub.specs.AnyOrder.{AllZero, Fresh, begun as from_begun, cleared as from_cleared, FedTo, SameReports, AnyOrder}
use Rattle.hub.proofs.TpLaws.{goes, comes, first_stands, over_words}

-- ---- 0 is told exactly of a segment that passes

not_zero : (p : State) (seg buf : List ℕ) (r : Refusal) → (step p seg buf).answer ≡ paper.refused r → r.number ≢ 0
not_zero p seg buf r e =
    refused_not_zero (rules_followed.segment p seg (length buf)) (
      (λ z. omega (arith, z)),
      (
        (λ z. omega (arith, z)),
        (
          (λ z. omega (arith, z)),
          (
            (λ z. omega (arith, z)),
            (
              (λ q w z. omega (arith, ap (λ (x : Refusal). x.number) w.says, z)),
              (
                (λ q w z. omega (arith, ap (λ (x : Refusal). x.number) w.says, z)),
                ((λ z. omega (arith, z)), ((λ z. omega (arith, z)), ((λ z. omega (arith, z)), tt))),
              ),
            ),
          ),
        ),
      ),
    )
    r (sym (every_step p seg buf).answer ∙ e)

zero_passes : (p : State) (seg buf : List ℕ) → (told no_values (step p seg buf).answer ≡ row 0 []) ↔ ((step p seg buf).answer ≡ paper.pass)
zero_passes p seg buf = (go (step p seg buf).answer refl, ap (told no_values))
  where
    go : (v : paper.Verdict) → (step p seg buf).answer ≡ v → told no_values v ≡ row 0 [] → v ≡ paper.pass
    go (paper.accepted u) e q = refl
    go (paper.refused r) e q = absurd (not_zero p seg buf r e (ap (λ (a : Answer). a.number) q))

all_zero : {ws buf ws' buf' : List ℕ} {segs : List (List ℕ)} {r r' : Answer} (k : Comes ws buf r segs ws' buf' r') (o : Out) → Stands o ws buf r → AllZero k ↔ AllPass o segs
all_zero none o h = ((λ p. p), (λ p. p))
all_zero (next {seg} call more) o h =
    let stands = goes call o h in
    let means = zero_passes o.state seg o.buffer in
    let later = all_zero more (step o.state seg o.buffer) stands in
    ((λ p. (means.0 (sym stands.answer ∙ p.0), later.0 p.1)), (λ p. (stands.answer ∙ means.1 p.0, later.1 p.1)))

-- ---- two orders

-- a well-formed stream that was cleared stands where one stands that is begun
cleared_stands : {limit : ℕ} {buf held words : List ℕ} {r : Answer} → Good (state_of held) → (state_of held).limit ≡ limit → Clears held r words → Stands (opened limit buf) words buf r
unfolding begun
cleared_stands {limit} {held} good same c =
    let fit : unfit held ≡ false = go (unfit held) refl in
    let low : ltb highest limit ≡ false = ap (ltb highest) (sym same) ∙ le-ltb highest (state_of held).limit good.low in
    record {
      state = c.state fit ∙ empties.cleared_is_begun (state_of held) good.low ∙ ap begin same;
      buffer = refl;
      answer = c.answers ∙ ap (told no_values) (when_pass malformed_state (unfit held) paper.pass fit ∙ sym (when_pass (limit_too_large limit) (ltb highest limit) paper.pass low));
    }
  where
    go : (t : Bool) → unfit held ≡ t → t ≡ false
    go true e = absurd (false≢true (sym ((tests.good_means (state_of held)).1 good) ∙ words_hold.unfit_malformed held e))
    go false e = refl

stands : {limit : ℕ} {buf words : List ℕ} {r : Answer} → Fresh limit r words → Stands (opened limit buf) words buf r
stands (from_begun long b) = first_stands long b
stands (from_cleared good same c) = cleared_stands good same c

module _ (f : Feed) {ws b : List ℕ} (k : FedTo f ws b) where
  ran : Stands (outcome f) ws b k.answer
  ran = comes k.comes (opening f) (stands k.fresh)

  -- what is taken is the machine's
  taken : taking (state_of ws) b ≡ taking (outcome f).state (outcome f).buffer
  taken = λ i. taking (ran.state i) (ran.buffer i)

  -- a report of that size is told, and stands in front
  told_front : (end : ℕ) → (taking (outcome f).state (outcome f).buffer).answer ≡ paper.accepted end → (r : Answer) (m : List ℕ) → Takes ws b r m
      → (r ≡ row 0 ((16 + end) ∷ [])) × (take (16 + end) m ≡ (taking (outcome f).state (outcome f).buffer).part)
  told_front end given r m t =
      let answer : (taking (state_of ws) b).answer ≡ paper.accepted end = ap (λ (x : Taken). x.answer) taken ∙ given in
      (t.answers ∙ ap (told report_values) answer, (t.report end answer).part ∙ ap (λ (x : Taken). x.part) taken)

module _ (f g : Feed) (s : Suited f.segments) (e : EachFed f g) {ws vs b c : List ℕ} (k : FedTo f ws b) (l : FedTo g vs c) where
  same_reports : SameReports ws vs b c
  same_reports =
      let agree = order_does_not_matter f g s e in
      let one = ap complete (ran f k).state in
      let other = ap complete (ran g l).state in
      record {
        both_or_neither = ap (λ (t : Bool). row 0 (cond t 1 0 ∷ [])) (one ∙ agree.both_or_neither ∙ sym other);
        equal = λ whole r q m n t u.
            let same = agree.reports_equal (sym one ∙ (tests.complete_means (state_of ws)).1 ((over_words.complete_means ws).0 whole)) in
            let (x, p) = told_front f k same.end same.given r m t in
            let (y, w) = told_front g l same.end same.given_too q n u in
            (same.end, x, y, p ∙ same.equal ∙ sym w);
      }

pub any_order : AnyOrder
any_order = record { none_refused = λ f k. all_zero k.comes (opening f) (stands k.fresh); same_reports = λ f g s e k l. same_reports f g s e k l }
