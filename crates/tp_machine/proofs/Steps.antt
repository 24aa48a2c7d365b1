-- One call: what it leaves when it accepts and when it refuses, that it reads none of the buffer's bytes, on what the
-- ranges after it depend, how long a report is, and that no malformed state is come to.
-- Assumes nothing.
use Prim.Native.Nat.{ℕ, ◌+◌, ◌≤◌}
use mathlib.Core.Path.{◌≡◌, refl, sym, ap, subst, ◌∙◌}
use mathlib.Core.Bool.{Bool, true, false}
use mathlib.Core.List.{List, [], ◌∷◌, map}
use native.Mathlib.Omega.{arith}
use borrow.Author.Tests.{ltb-false, lt-ltb, le-ltb, not-false}
use lib.Dec.{ltb}
use lib.ListN.{length, take}
use lib.Seq.{length-take-le}
use Rattle.numbers.specs.Bytes.{be16, be32}
use Rattle.numbers.specs.Refusals.{Refusal}
use Rattle.numbers.specs.Answers.{Answer, accepted, refused, Verdict, pass, given, All}
use Rattle.numbers.proofs.AnswerLaws.{not_refused, accepted_inj, when_accepted}
use Rattle.tp_machine.specs.Segments.{written}
use Rattle.tp_machine.specs.Ranges.{joined}
use Rattle.tp_machine.specs.Machine.{highest, State, fresh, taken, judged, Out, after, step, begin, fed, clear}
use Rattle.tp_machine.specs.Taking.{complete, end_held, ready, finished, report, taking}
use Rattle.tp_machine.specs.Meaning.{range, range_of, Fine, Good, Complete}
use Rattle.tp_machine.specs.Runs.{Reached, begins, comes, clears, unnumbered}
use Rattle.tp_machine.specs.Theorems.{Stepped, EveryStep, TakenFrom, EveryTaking, Empties, BytesUnseen, RangesDepend, NeverMalformed}
use Rattle.tp_machine.proofs.Joining.{joining_order_unseen, joined_unnumbered}
use Rattle.tp_machine.proofs.Tests.{accepted_means, complete_means, taken_good}
use Rattle.tp_machine.proofs.Writing.{pasted_length}

-- ---- one call
pub every_step : EveryStep
unfolding step after
every_step p seg buf = go (judged p seg (length buf)) refl
  where
    go : (v : Verdict) → judged p seg (length buf) ≡ v → Stepped p seg buf (after v p seg buf)
    go (accepted u) e = record { answer = sym e; accepts = λ _. (refl, refl); refuses = λ r q. not_refused r tt (sym q) }
    go (refused r) e = record { answer = sym e; accepts = λ q. not_refused r tt q; refuses = λ _ _. (refl, refl) }

pub bytes_unseen : BytesUnseen
unfolding step after
bytes_unseen p seg b c e = ((every_step p seg b).answer ∙ ap (judged p seg) e ∙ sym (every_step p seg c).answer, rw e (go (judged p seg (length c))))
  where
    go : (v : Verdict) → (after v p seg b).state ≡ (after v p seg c).state
    go (accepted u) = refl
    go (refused r) = refl

-- the ranges after an accepted segment
ranges_after : (p : State) (seg buf : List ℕ) → (step p seg buf).answer ≡ pass → (step p seg buf).state.ranges ≡ joined (range_of (p.count + 1) seg) p.ranges
ranges_after p seg buf x = ap (λ (q : State). q.ranges) ((every_step p seg buf).accepts x).0

-- and what they span
spans_after : (p : State) (seg buf : List ℕ) → (step p seg buf).answer ≡ pass → map unnumbered (step p seg buf).state.ranges ≡ joined (range_of 0 seg) (map unnumbered p.ranges)
spans_after p seg buf x = ap (map unnumbered) (ranges_after p seg buf x) ∙ joined_unnumbered (range_of (p.count + 1) seg) p.ranges

pub ranges_depend : RangesDepend
ranges_depend = record {
  with_numbers = λ p q seg b c x y same r. rw (ranges_after p seg b x, ranges_after q seg c y, same) (joining_order_unseen (range_of (q.count + 1) seg) p.ranges q.ranges r);
  without = λ p q seg b c x y r. rw (spans_after p seg b x, spans_after q seg c y) (joining_order_unseen (range_of 0 seg) (map unnumbered p.ranges) (map unnumbered q.ranges) r);
}

pub step_accepted : (p : State) (seg buf : List ℕ) (u : Unit {0}) → judged p seg (length buf) ≡ accepted u → step p seg buf ≡ record { answer = pass; state = taken p seg; buffer = written buf seg }
unfolding step after
step_accepted p seg buf u e = rw e

pub step_refused : (p : State) (seg buf : List ℕ) (r : Refusal) → judged p seg (length buf) ≡ refused r → step p seg buf ≡ record { answer = refused r; state = p; buffer = buf }
unfolding step after
step_refused p seg buf r e = rw e

-- ---- taking

-- a stream that is ready: it is complete, with one range that ends at e, and the buffer has room
ready_means : (p : State) (room e : ℕ) → ready p room ≡ accepted e → (number : ℕ) × Complete p × (p.ranges ≡ range 0 e number ∷ []) × (16 + e ≤ room)
unfolding ready
ready_means p room e h =
    let (a, k) = when_accepted _ _ _ e h in
    let (b, l) = when_accepted _ _ _ e k in
    let (c, m) = when_accepted _ _ _ e l in
    let w = (complete_means p).0 (not-false (complete p) b) in
    let held : end_held p.ranges ≡ w.held = ap end_held w.one_range in
    let ends : end_held p.ranges ≡ e = accepted_inj _ e m in
    (w.number, w, w.one_range ∙ ap (λ (x : ℕ). range 0 x w.number ∷ []) (sym held ∙ ends), omega (arith, ltb-false room (16 + end_held p.ranges) c))

-- what an end that is given tells: the report fits the buffer, and is no longer than a limit
pub ready_tells : (p : State) (room e : ℕ) → accepted e ≡ ready p room → (16 + e ≤ room) × (e ≤ highest)
ready_tells p room e q =
    let (number, w, one, fits) = ready_means p room e (sym q) in
    let fine : All (Fine p) (range 0 e number ∷ []) = subst (All (Fine p)) one w.good.each in
    (fits, omega (arith, fine.0.within, w.good.low))

pub every_taking : EveryTaking
unfolding taking given
every_taking p buf = go (ready p (length buf)) refl
  where
    go : (a : Answer ℕ) → ready p (length buf) ≡ a → TakenFrom p buf (record { answer = a; buffer = finished a buf; part = report a (finished a buf) })
    go (accepted e) h = record {
      answer = sym h;
      accepts = λ x q. let same : e ≡ x = accepted_inj e x q in let w = ready_means p (length buf) e h in rw (← same) (w.0, w.2, refl, refl);
      refuses = λ r q. not_refused r e (sym q);
    }
    go (refused r) h = record { answer = sym h; accepts = λ x q. not_refused r x q; refuses = λ _ _. (refl, refl) }

-- the length field leaves the buffer's length
pub finished_length : (p : State) (buf : List ℕ) (a : Answer ℕ) → a ≡ ready p (length buf) → length (finished a buf) ≡ length buf
unfolding be32 be16
finished_length p buf (accepted e) q = pasted_length buf 4 (be32 (e + 8)) (omega (arith, ready_tells p (length buf) e q))
finished_length p buf (refused r) q = refl

-- a report has 16 plus its end bytes
pub part_length : (p : State) (buf : List ℕ) (e : ℕ) → (taking p buf).answer ≡ accepted e → length (taking p buf).part ≡ 16 + e
unfolding taking
part_length p buf e q =
    let long : length (finished (ready p (length buf)) buf) ≡ length buf = finished_length p buf (ready p (length buf)) refl in
    let part : (taking p buf).part ≡ take (16 + e) (finished (ready p (length buf)) buf) = ((every_taking p buf).accepts e q).3 in
    ap length part ∙ length-take-le (16 + e) (finished (ready p (length buf)) buf) (omega (arith, ready_tells p (length buf) e (sym q)))

-- ---- a stream that is begun or cleared holds nothing
pub empties : Empties
unfolding begin clear
empties = record {
  begins = λ limit h. record { limit_is = rw (le-ltb highest limit h); no_range = refl; no_end = refl; none_counted = refl };
  refuses = λ limit h. record { limit_is = rw (lt-ltb highest limit h); no_range = refl; no_end = refl; none_counted = refl };
  clears = λ p. record { limit_is = refl; no_range = refl; no_end = refl; none_counted = refl };
  cleared_is_begun = λ p h. rw (le-ltb highest p.limit h);
}

-- ---- no malformed state is come to
fresh_good : (limit : ℕ) → limit ≤ highest → Good (fresh limit)
fresh_good limit h = record { few = omega arith; low = h; end_within = tt; each = tt; apart = tt }

begin_low : (limit : ℕ) → (begin limit).limit ≤ highest
unfolding begin
begin_low limit = go (ltb highest limit) refl
  where
    go : (t : Bool) → ltb highest limit ≡ t → (begin limit).limit ≤ highest
    go true e = rw e (omega arith)
    go false e = rw e (omega (arith, ltb-false highest limit e))

pub begin_good : (limit : ℕ) → Good (begin limit)
unfolding begin
begin_good limit = fresh_good (begin limit).limit (begin_low limit)

pub step_good : (p : State) (seg buf : List ℕ) → Good p → Good (step p seg buf).state
unfolding step after
step_good p seg buf g = go (judged p seg (length buf)) refl
  where
    go : (v : Verdict) → judged p seg (length buf) ≡ v → Good (after v p seg buf).state
    go (accepted u) e = taken_good p seg (length buf) ((accepted_means p seg (length buf)).0 e)
    go (refused r) e = g

pub never_malformed : NeverMalformed
unfolding clear
never_malformed p (begins limit) = begin_good limit
never_malformed q (comes {p} r seg buf) = step_good p seg buf (never_malformed p r)
never_malformed q (clears {p} r) = fresh_good p.limit (never_malformed p r).low

pub fed_reached : (o : Out) (ss : List (List ℕ)) → Reached o.state → Reached (fed o ss).state
unfolding fed
fed_reached o [] r = r
fed_reached o (s ∷ ss) r = fed_reached (step o.state s o.buffer) ss (comes r s o.buffer)
