-- The calls of a stream over words, from what those of `tp_lent`, `tp_stream` and `tp_words` promise; and what follows of calls one after the other.
-- Assumes nothing.
use Rattle.tp_stream.specs.declared.TpStream.{TpStream}
use Rattle.refusal.specs.declared.answers.Step.{Step}
use Rattle.std.specs.Prelude.{Result, Ok, ℕ}
use Prim.Native.Nat.{ℕ, ◌+◌, ◌≤◌, ◌<◌}
use mathlib.Core.Path.{◌≡◌, refl, sym, ap, subst, ◌∙◌}
use mathlib.Core.Bool.{Bool, true, false, cond, false≢true}
use mathlib.Core.List.{List, [], ◌∷◌}
use mathlib.Core.Logic.{◌↔◌, inl}
use native.Mathlib.Omega.{arith}
use borrow.Author.Tests.{lt-ltb, le-ltb}
use lib.ListN.{length, take, get_or}
use Rattle.numbers.specs.Refusals.{malformed_state}
use Rattle.numbers.specs.Answers.{given, All}
use Rattle.numbers.specs.Answers as paper
use Rattle.numbers.proofs.AnswerLaws.{when_hit, when_pass}
use Rattle.numbers.proofs.RuleLaws.{refused_not_zero}
use Rattle.refusal.specs.declared.Refusal.{Refusal}
use Rattle.refusal.specs.Said.{verdict_said, count_said}
use Rattle.tp_machine.specs.Machine.{most, State, Out, begun, begin, step, opened, fed, clear, bad_state}
use Rattle.tp_machine.specs.Taking.{Taken, complete, end_held, ready, finished, report, taking}
use Rattle.tp_machine.specs.declared.TpRange.{TpRange}
use Rattle.tp_machine.specs.Telling.{range_told}
use Rattle.tp_machine.specs.Meaning.{range, Good, Complete}
use Rattle.tp_machine.specs.Runs.{admitted, Numbered, WholeEnds, Reported}
use Rattle.tp_machine.proofs.Lists.{one_has}
use Rattle.tp_machine.proofs.Joining.{same_range}
use Rattle.tp_machine.proofs.Telling.{range_means, count_means, range_follows}
use Rattle.tp_machine.proofs.Runs.{every_run}
use Rattle.tp_machine.proofs.Steps.{every_step, ready_tells, finished_length, part_length}
use Rattle.tp_machine.proofs.Tests as tests
use Rattle.tp_machine.proofs.Report.{every_report}
use Rattle.tp_machine.proofs.Ends.{every_end}
use Rattle.tp_stream.specs.Stream.{stored, blank}
use Rattle.tp_stream.specs.Promises.{Began, Took}
use Rattle.tp_words.specs.Words.{size, unfit, stream_of, state_of, put}
use Rattle.tp_words.proofs.PutLaws.{fit}
use Rattle.tp_words.proofs.Holding.{words_hold}
use Rattle.tp_lent.specs.Lent.{kept, Joins, Cleared}
use Rattle.hub.specs.declared.answers.Answer.{Answer}
use Rattle.hub.specs.Answers.{row, refusal_row, told, no_values, one_value, report_values, range_values}
use Rattle.hub.specs.Tp.{in_words, Begins, Consumes, completes, InFront, Takes, Clears, counts, ranges, Comes, none, next, Called, Stands, Reports, Shut, OverWords}

-- ---- beginning

module _ (ws : List ℕ) (v : paper.Verdict) where
  few : length ws < size → refusal_row malformed_state ≡ told no_values (in_words ws v)
  few h = sym (ap (told no_values) (when_hit malformed_state _ v (lt-ltb (length ws) size h)))

  enough : size ≤ length ws → told no_values v ≡ told no_values (in_words ws v)
  enough h = sym (ap (told no_values) (when_pass malformed_state _ v (le-ltb (length ws) size h)))

module _ (ws : List ℕ) (limit : ℕ) where
  pub begins_few : (r : Answer) → r ≡ refusal_row malformed_state → length ws < size → Begins ws limit r ws
  begins_few r e h =
      record {
        answers = e ∙ few ws (begun limit) h;
        words = sym (words_hold.left_alone ws (stored blank (begin limit)) (inl h));
        state = λ k. absurd (omega arith);
      }

  pub begins : (s : Step (Unit {0}) TpStream) (r : Answer) (ws' : List ℕ) → Began limit s → size ≤ length ws → ws' ≡ put ws s.after → r ≡ told no_values (verdict_said s.answer) → Begins ws limit r ws'
  unfolding begin blank
  begins s r ws' b h w e =
      let words : ws' ≡ put ws (stored blank (begin limit)) = w ∙ ap (put ws) b.begins in
      record {
        answers = e ∙ ap (told no_values) b.answers ∙ enough ws (begun limit) h;
        words = words;
        state = λ k. ap state_of words ∙ words_hold.stored_back ws blank (begin limit) h refl (omega arith);
      }

-- an acceptance told as one
pub passed : {v : Result (Unit {0}) Refusal} {a : Answer} → v ≡ Ok tt → a ≡ row 0 [] → a ≡ told no_values (verdict_said v)
passed e told-so = told-so ∙ sym (ap (λ (v : Result (Unit {0}) Refusal). told no_values (verdict_said v)) e)

-- ---- one segment

module _ (ws seg buf : List ℕ) where
  abbrev out : Out
  out = step (state_of ws) seg buf

  -- words whose state is well formed are fit
  fits : (b : Bool) → unfit ws ≡ b → bad_state (state_of ws) ≡ false → size ≤ length ws
  fits true e g = absurd (false≢true (sym g ∙ words_hold.unfit_malformed ws e))
  fits false e g = fit ws e

  -- the state that the next call reads
  next_state : (v : paper.Verdict) → out.answer ≡ v → state_of (kept ws v out.state) ≡ out.state
  next_state (paper.accepted u) e =
      let leaves = every_step (state_of ws) seg buf in
      let means = (tests.accepted_means (state_of ws) seg (length buf)).0 (sym leaves.answer ∙ e) in
      let good = tests.taken_good (state_of ws) seg (length buf) means in
      let few : length out.state.ranges ≤ most = subst (λ (p : State). length p.ranges ≤ most) (sym (leaves.accepts e).0) good.few in
      words_hold.stored_back ws (stream_of ws) out.state (fits (unfit ws) refl ((tests.good_means (state_of ws)).1 means.good)) (words_hold.read_places ws) few
  next_state (paper.refused r) e = sym ((every_step (state_of ws) seg buf).refuses r e).0

  pub consumes : (v : Result (Unit {0}) Refusal) (ws' buf' : List ℕ) → Joins ws seg buf v ws' buf' → (a : Answer) → a ≡ told no_values (verdict_said v) → Consumes ws seg buf a ws' buf'
  consumes v ws' buf' j a says =
      record {
        answers = says ∙ ap (told no_values) j.answers;
        words = j.words;
        buffer = j.buffer;
        state = ap state_of j.words ∙ next_state out.answer refl;
      }

-- ---- complete, and taking

pub completed : (ws : List ℕ) (b t : Bool) (r : Answer) → b ≡ complete (state_of ws) → b ≡ t → r ≡ row 0 (one_value (cond t 1 0)) → r ≡ completes ws
completed ws b t r e k q = q ∙ ap (λ (x : Bool). row 0 (one_value (cond x 1 0))) (sym k ∙ e)

-- the report that the machine gives stands in front
in_front : (p : State) (buf : List ℕ) (end : ℕ) → (taking p buf).answer ≡ paper.accepted end → InFront p buf end (taking p buf).buffer
unfolding taking given
in_front p buf end e =
    let room = (ready_tells p (length buf) end (sym e)).0 in
    let long : length (finished (ready p (length buf)) buf) ≡ length buf = finished_length p buf (ready p (length buf)) refl in
    let part : take (16 + end) (finished (ready p (length buf)) buf) ≡ (taking p buf).part = ap (λ (a : paper.Answer ℕ). report a (finished (ready p (length buf)) buf)) (sym e) in
    let within : 16 + end ≤ length (finished (ready p (length buf)) buf) = omega arith in
    record { within = within; told_length = part_length p buf end e; part = part }

module _ (ws buf : List ℕ) (t : Result ℕ Refusal) (buf' : List ℕ) (took : Took (stream_of ws) buf t buf') where
  -- as long as the buffer at most
  pub taken_low : (end : ℕ) → t ≡ Ok end → 16 + end ≤ length buf
  unfolding taking
  taken_low end e = (ready_tells (state_of ws) (length buf) end (ap count_said (sym e) ∙ took.answers)).0

  pub takes : (r : Answer) → r ≡ told report_values (count_said t) → Takes ws buf r buf'
  takes r e =
      record {
        answers = e ∙ ap (told report_values) took.answers;
        buffer = took.writes;
        report = λ end q. subst (InFront (state_of ws) buf end) (sym took.writes) (in_front (state_of ws) buf end q);
      }

-- ---- clearing

pub clears : (ws : List ℕ) (v : Result (Unit {0}) Refusal) (ws' : List ℕ) → Cleared ws v ws' → (r : Answer) → r ≡ told no_values (verdict_said v) → Clears ws r ws'
unfolding clear
clears ws v ws' c r q =
    record {
      answers = q ∙ ap (told no_values) c.answers;
      words = c.words;
      state = λ e.
          ap state_of (c.words ∙ ap (λ (b : Bool). cond b ws (put ws (stored (stream_of ws) (clear (state_of ws))))) e)
          ∙ words_hold.stored_back ws (stream_of ws) (clear (state_of ws)) (fit ws e) (words_hold.read_places ws) (omega arith);
    }

-- ---- calls one after the other

-- one more segment comes
pub goes : {ws buf seg v b : List ℕ} {r q : Answer} → Consumes ws seg buf q v b → (o : Out) → Stands o ws buf r → Stands (step o.state seg o.buffer) v b q
goes {ws} {buf} {seg} call o h =
    let e : step (state_of ws) seg buf ≡ step o.state seg o.buffer = λ i. step (h.state i) seg (h.buffer i) in
    record {
      state = call.state ∙ ap (λ (x : Out). x.state) e;
      buffer = call.buffer ∙ ap (λ (x : Out). x.buffer) e;
      answer = call.answers ∙ ap (λ (x : Out). told no_values x.answer) e;
    }

pub comes : {ws buf ws' buf' : List ℕ} {r r' : Answer} {segs : List (List ℕ)} → Comes ws buf r segs ws' buf' r' → (o : Out) → Stands o ws buf r → Stands (fed o segs) ws' buf' r'
unfolding fed
comes none o h = h
comes (next {seg} call more) o h = comes more (step o.state seg o.buffer) (goes call o h)

-- where a stream stands that was begun
pub first_stands : {limit : ℕ} {buf lent words : List ℕ} {r : Answer} → size ≤ length lent → Begins lent limit r words → Stands (opened limit buf) words buf r
first_stands {limit} {lent} long b = record { state = b.state long; buffer = refl; answer = b.answers ∙ sym (enough lent (begun limit) long) }

runs : {limit : ℕ} {buf ws' buf' : List ℕ} {segs : List (List ℕ)} {r : Answer} → Called limit buf segs ws' buf' r → Stands (fed (opened limit buf) segs) ws' buf' r
runs {limit} {buf} c = comes c.comes (opened limit buf) (first_stands c.enough c.begins)

complete_means : (ws : List ℕ) → (completes ws ≡ row 0 (one_value 1)) ↔ Complete (state_of ws)
complete_means ws = (
  (λ e. (tests.complete_means (state_of ws)).0 (go (complete (state_of ws)) (ap (λ (a : Answer). get_or a.values 0 0) e))),
  (λ c. ap (λ (b : Bool). row 0 (one_value (cond b 1 0))) ((tests.complete_means (state_of ws)).1 c)),
)
  where
    go : (b : Bool) → ◌≡◌ {A = ℕ} (cond b 1 0) 1 → b ≡ true
    go true e = refl
    go false e = absurd (omega arith)

reports : {limit : ℕ} {buf ws' buf' b : List ℕ} {segs : List (List ℕ)} {r t : Answer} → Called limit buf segs ws' buf' r → Complete (state_of ws') → Takes ws' buf' t b
    → Reports (admitted (opened limit buf) segs) t b
reports {limit} {buf} {ws'} {buf'} {b} {segs} c whole takes =
    let stands = runs c in
    let o : Out = fed (opened limit buf) segs in
    let is : complete o.state ≡ true = ap complete (sym stands.state) ∙ (tests.complete_means (state_of ws')).1 whole in
    let given = every_report limit buf segs is in
    let closed = every_end limit buf segs is in
    let ends : closed.end ≡ given.size = ap end_held (sym closed.one_range ∙ given.one_range) in
    let same : taking (state_of ws') buf' ≡ taking o.state o.buffer = λ i. taking (stands.state i) (stands.buffer i) in
    let answer : (taking (state_of ws') buf').answer ≡ paper.accepted given.size = ap (λ (t : Taken). t.answer) same ∙ given.answer in
    let part : take (16 + given.size) b ≡ (taking o.state o.buffer).part = (takes.report given.size answer).part ∙ ap (λ (t : Taken). t.part) same in
    record {
      end = given.size;
      whole = subst (WholeEnds (admitted (opened limit buf) segs)) ends closed.whole;
      told_length = takes.answers ∙ ap (told report_values) answer;
      reported = subst (Reported (admitted (opened limit buf) segs) given.size) (sym part) given.reported;
    }

-- ---- numbers of arrival
counted : {limit : ℕ} {buf ws' buf' : List ℕ} {segs : List (List ℕ)} {r : Answer} → Called limit buf segs ws' buf' r → counts ws' ≡ row 0 (one_value (length (admitted (opened limit buf) segs)))
counted {limit} {buf} {ws'} {buf'} {segs} c =
    let same = (runs c).state in
    let run = every_run limit buf segs in
    ap (told one_value) ((count_means (state_of ws') (length (admitted (opened limit buf) segs))).1 (subst Good (sym same) run.good, ap (λ (p : State). p.count) same ∙ run.counted))

numbered : {limit : ℕ} {buf ws' buf' : List ℕ} {segs : List (List ℕ)} {r : Answer} → Called limit buf segs ws' buf' r → (from start end number : ℕ)
    → ranges ws' from ≡ row 0 (start ∷ end ∷ number ∷ []) → Numbered (admitted (opened limit buf) segs) (range start end number)
numbered {limit} {buf} {ws'} {buf'} {segs} c from start end number = go (range_told (state_of ws') from) refl
  where
    -- the value at place i
    at : ℕ → Answer → ℕ
    at i a = get_or a.values i 0

    go : (a : paper.Answer TpRange) → range_told (state_of ws') from ≡ a → told range_values a ≡ row 0 (start ∷ end ∷ number ∷ []) → Numbered (admitted (opened limit buf) segs) (range start end number)
    go (paper.accepted x) told-so q =
        let same : x ≡ range start end number = same_range x (range start end number) (ap (at 0) q) (ap (at 1) q) (ap (at 2) q) in
        let first = ((range_means (state_of ws') from x).0 told-so).1 in
        let all : All (Numbered (admitted (opened limit buf) segs)) (state_of ws').ranges = subst (λ (p : State). All (Numbered (admitted (opened limit buf) segs)) p.ranges) (sym (runs c).state) (every_run limit buf segs).numbered in
        subst (Numbered (admitted (opened limit buf) segs)) same (one_has _ (state_of ws').ranges x all first.held)
    go (paper.refused x) told-so q = absurd (refused_not_zero (range_follows (state_of ws') from) ((λ z. omega (arith, z)), ((λ z. omega (arith, z)), tt)) x told-so (ap (λ (a : Answer). a.number) q))

unfit_shut : (ws : List ℕ) → unfit ws ≡ true → Shut ws
unfit_shut ws e =
    let no = words_hold.unfit_refuses ws e in
    record {
      consuming = λ seg buf r ws' buf' c. (
        c.answers ∙ ap (λ (o : Out). told no_values o.answer) (no.segments seg buf),
        c.words ∙ ap (λ (o : Out). kept ws o.answer o.state) (no.segments seg buf),
        c.buffer ∙ ap (λ (o : Out). o.buffer) (no.segments seg buf),
      );
      reporting = λ buf r buf' t. (t.answers ∙ ap (λ (k : Taken). told report_values k.answer) (no.report buf), t.buffer ∙ ap (λ (k : Taken). k.buffer) (no.report buf));
      clearing = λ r ws' c. (
        c.answers ∙ ap (told no_values) (when_hit malformed_state (unfit ws) paper.pass e),
        c.words ∙ ap (λ (b : Bool). cond b ws (put ws (stored (stream_of ws) (clear (state_of ws))))) e,
      );
      incomplete = ap (λ (b : Bool). row 0 (one_value (cond b 1 0))) no.incomplete;
      counting = ap (told one_value) no.count;
      ranging = λ from. ap (told range_values) (no.ranges from);
    }

pub over_words : OverWords
over_words = record { runs = runs; complete_means = complete_means; reports = reports; counted = counted; numbered = numbered; unfit_shut = unfit_shut }
