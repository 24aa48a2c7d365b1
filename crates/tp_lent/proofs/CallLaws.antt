-- The calls over lent words, from what is done in place and from what the calls by value promise. Assumes nothing.
use Rattle.std.specs.Array.{IsFirstChunk}
use Rattle.std.specs.Prelude.{Ok, Err, Option, None, ℕ}
use Prim.Native.Nat.{ℕ, ◌≤◌}
use mathlib.Core.Path.{◌≡◌, sym, ap, ap₂, ◌∙◌}
use mathlib.Core.Bool.{Bool, true, false, cond}
use mathlib.Core.List.{List, ◌∷◌, ◌++◌}
use native.Mathlib.Omega.{arith}
use lib.ListN.{length, drop, get_or}
use Rattle.numbers.specs.Refusals.{malformed_state}
use Rattle.numbers.specs.Answers.{pass}
use Rattle.numbers.specs.Answers as paper
use Rattle.numbers.proofs.AnswerLaws.{when_hit, when_pass}
use Rattle.numbers.proofs.TestLaws.{and_inv}
use Rattle.refusal.specs.declared.Refusal.{Refusal}
use Rattle.refusal.specs.declared.Refusal.TheVariants.{MalformedState}
use Rattle.refusal.specs.declared.answers.Step.{Step}
use Rattle.refusal.specs.Said.{verdict_said}
use Rattle.tp_machine.specs.declared.TpRange.{TpRange}
use Rattle.tp_machine.specs.Machine.{most, bad_range, Out, judged, taken, step, clear}
use Rattle.tp_machine.specs.Taking.{complete, ready}
use Rattle.tp_machine.proofs.Steps.{every_step}
use Rattle.tp_range.specs.Joining.{none}
use Rattle.tp_rules.specs.Taking.{one_whole, one_ready}
use Rattle.tp_rules.proofs.TakingLaws.{complete_one, ready_one}
use Rattle.tp_stream.specs.declared.TpStream.{TpStream}
use Rattle.tp_stream.specs.Stream.{view, stored}
use Rattle.tp_stream.specs.Promises.{seen, Ran}
use Rattle.tp_stream.proofs.StreamLaws.{cleared}
use Rattle.tp_words.specs.Words.{size, range_at, ranges_in, end_of, unfit, held_in, stream_of, state_of, flat, words_of, put}
use Rattle.tp_words.proofs.WordLaws.{in_length}
use Rattle.tp_words.proofs.PutLaws.{fit, told, put_all}
use Rattle.tp_range.specs.Ordered.{rising}
use Rattle.tp_lent.specs.declared.planning.Plan.{Plan}
use Rattle.tp_lent.specs.Lent.{held, unready, in_order, Planned, CarriedOut, kept, Joins, Cleared}
use Rattle.tp_lent.proofs.PlaceLaws.{ranges_at, spread_self, spread_behind}
use Rattle.tp_lent.proofs.RisingLaws.{not-true}
use Rattle.tp_lent.proofs.ReadyLaws.{few, end_is, ranges_are, not_malformed}
use Rattle.tp_lent.proofs.PlanLaws.{accepts}
use Rattle.tp_words.proofs.FirstLaws.{first_word, first_unfit, first_stream, first_put}
use Rattle.tp_lent.proofs.FrontLaws.{first_front}

-- ---- one segment
module _ (ws seg buf : List ℕ) where
  abbrev out : Out
  out = step (state_of ws) seg buf

  -- by value: what was seen is what the machine left of the words' state
  module _ (s : TpStream) (is : s ≡ stream_of ws) (r : Step (Unit {0}) TpStream) (buf' : List ℕ) (ran : Ran s seg buf r buf') (ws' : List ℕ) where
    steps : seen r buf' ≡ out
    steps = ran.steps ∙ ap (λ (t : TpStream). step (view t) seg buf) is

    joins : ws' ≡ kept ws out.answer out.state → Joins ws seg buf r.answer ws' buf'
    joins w = record { answers = ap (λ (o : Out). o.answer) steps; words = w; buffer = ap (λ (o : Out). o.buffer) steps }

    pub joined_by_value : r.answer ≡ Ok tt → ws' ≡ put ws r.after → Joins ws seg buf r.answer ws' buf'
    joined_by_value e w =
        joins (
        w
        ∙ ap (put ws) (ran.places ∙ ap (λ (t : TpStream). stored t (view r.after)) is)
        ∙ ap₂ {C = List ℕ} (kept ws) (ap verdict_said (sym e) ∙ ap (λ (o : Out). o.answer) steps) (ap (λ (o : Out). o.state) steps)
        )

    pub refused_by_value : (q : Refusal) → r.answer ≡ Err q → ws' ≡ ws → Joins ws seg buf r.answer ws' buf'
    refused_by_value q e w = joins (w ∙ ap (λ (v : paper.Verdict). kept ws v out.state) (ap verdict_said (sym e) ∙ ap (λ (o : Out). o.answer) steps))

  -- in place: the machine accepts it, and that is what was done
  carried : judged (state_of ws) seg (length buf) ≡ pass → (ws' buf' : List ℕ) → CarriedOut ws seg buf ws' buf' → Joins ws seg buf (Ok tt) ws' buf'
  carried accepts ws' buf' done =
      let every = every_step (state_of ws) seg buf in
      let passes : out.answer ≡ pass = every.answer ∙ accepts in
      record {
        answers = sym passes;
        words = done.words ∙ sym (ap₂ {C = List ℕ} (kept ws) passes (every.accepts passes).0);
        buffer = done.buffer ∙ sym (every.accepts passes).1;
      }

  pub joined_in_all : (plan : Plan) → Planned ws seg (length buf) plan → (ws' buf' : List ℕ) → CarriedOut ws seg buf ws' buf' → Joins ws seg buf (Ok tt) ws' buf'
  joined_in_all plan is = carried (accepts ws seg buf plan is)

  -- in the first words
  pub joined_in_place : (f : List ℕ) → IsFirstChunk ws f size → (plan : Plan) → Planned f seg (length buf) plan → (f' buf' : List ℕ) → CarriedOut f seg buf f' buf' → Joins ws seg buf (Ok tt) (f' ++ drop size ws) buf'
  joined_in_place f first plan is f' buf' done =
      let same : stream_of f ≡ stream_of ws = first_stream ws f first in
      carried (ap (λ (s : TpStream). judged (view s) seg (length buf)) (sym same) ∙ accepts f seg buf plan is) (f' ++ drop size ws) buf' (record {
        words =
            ap (λ (l : List ℕ). l ++ drop size ws) done.words
            ∙ first_put ws f first (stored (stream_of f) (taken (state_of f) seg))
            ∙ ap (λ (s : TpStream). put ws (stored s (taken (view s) seg))) same;
        buffer = done.buffer;
      })

-- ---- words in order
module _ (ws : List ℕ) (is : in_order ws ≡ true) where
  pub both : (unready ws ≡ false) × (rising (bad_range (state_of ws)) 0 (held ws) ≡ true)
  both = let a = and_inv _ (rising (bad_range (state_of ws)) 0 (held ws)) is in (not-true (unready ws) a.0, a.1)

  -- what is asked of the words' own end, count and first range is asked of their state
  module _ (e : (Option ℕ)) (n : ℕ) (r : TpRange) (end : e ≡ end_of (get_or ws 2 0) (get_or ws 3 0)) (many : n ≡ get_or ws 1 0) (first : r ≡ range_at ws 0) where
    same_end : e ≡ (state_of ws).end
    same_end = end ∙ sym (end_is ws both.0)

    same_first : r ≡ get_or (ranges_in ws most) 0 none
    same_first = first ∙ sym (ranges_at ws most 0 (omega arith))

    fewer : get_or ws 1 0 ≤ length (ranges_in ws most)
    fewer = omega (arith, few ws both.0, in_length ws most)

    pub completes : one_whole e n r ≡ complete (state_of ws)
    completes =
        (λ i. one_whole (same_end i) (many i) (same_first i))
        ∙ sym (complete_one (state_of ws) (get_or ws 1 0) (ranges_in ws most) (not_malformed ws both.0 both.1) (ranges_are ws both.0) fewer (omega (arith, in_length ws most)))

    pub readies : (room : ℕ) → one_ready e n r room ≡ ready (state_of ws) room
    readies room =
        (λ i. one_ready (same_end i) (many i) (same_first i) room)
        ∙ sym (ready_one (state_of ws) (get_or ws 1 0) (ranges_in ws most) (not_malformed ws both.0 both.1) (ranges_are ws both.0) fewer (omega (arith, in_length ws most)) room)

-- ---- clearing
module _ (ws : List ℕ) where
  pub cleared_not : unfit ws ≡ true → (ws' : List ℕ) → ws' ≡ ws → Cleared ws (Err MalformedState) ws'
  cleared_not e ws' w =
      record {
        answers = sym (when_hit malformed_state (unfit ws) pass e);
        words = w ∙ sym (ap (λ (b : Bool). cond b ws (put ws (stored (stream_of ws) (clear (state_of ws))))) e);
      }

  -- in place
  pub cleared_in_all : unfit ws ≡ false → (ws' : List ℕ) → ws' ≡ get_or ws 0 0 ∷ 0 ∷ 0 ∷ 0 ∷ 0 ∷ drop 5 ws → Cleared ws (Ok tt) ws'
  unfolding words_of held_in
  cleared_in_all e ws' w =
      let room : size ≤ length ws = fit ws e in
      let s : TpStream = record { limit = get_or ws 0 0; ranges = ranges_in ws most; count = 0; end = None; accepted = 0 } in
      let behind : drop 5 ws ≡ flat (ranges_in ws most) ++ drop size ws = ap (drop 5) (spread_self ws room) ∙ spread_behind ws room (ranges_in ws most) in
      record {
        answers = sym (when_pass malformed_state (unfit ws) pass e);
        words =
            w
            ∙ ap (λ (l : List ℕ). get_or ws 0 0 ∷ 0 ∷ 0 ∷ 0 ∷ 0 ∷ l) behind
            ∙ put_all ws s room (omega arith)
            ∙ ap (put ws) (cleared (held_in ws) ∙ ap (λ (t : TpStream). stored t (clear (view t))) (told ws e))
            ∙ sym (ap (λ (b : Bool). cond b ws (put ws (stored (stream_of ws) (clear (state_of ws))))) e);
      }

  -- in the first words
  pub cleared_in_place : (f : List ℕ) → IsFirstChunk ws f size → unfit f ≡ false → (f' : List ℕ) → f' ≡ get_or f 0 0 ∷ 0 ∷ 0 ∷ 0 ∷ 0 ∷ drop 5 f → Cleared ws (Ok tt) (f' ++ drop size ws)
  cleared_in_place f first e f' w =
      cleared_in_all (sym (first_unfit ws f first) ∙ e) (f' ++ drop size ws) (
      ap (λ (l : List ℕ). l ++ drop size ws) w
      ∙ ap₂ {C = List ℕ} (λ (x : ℕ) (l : List ℕ). x ∷ 0 ∷ 0 ∷ 0 ∷ 0 ∷ l) (first_word ws f first 0 (omega arith)) (first_front ws f first)
      )
