-- Laws of taking a report. Assumes nothing.
use Rattle.std.specs.Prelude.{Ok, Err}
use Prim.Native.Nat.{ℕ, ◌≤◌}
use mathlib.Core.Path.{◌≡◌, sym, ap, ◌∙◌}
use mathlib.Core.Bool.{true, false}
use mathlib.Core.List.{List}
use native.Mathlib.Omega.{arith}
use lib.ListN.{length, get_or}
use Rattle.numbers.specs.Refusals.{malformed_state}
use Rattle.numbers.specs.Answers.{Answer, accepted, refused}
use Rattle.numbers.proofs.AnswerLaws.{when_hit}
use Rattle.refusal.specs.declared.Refusal.{Refusal}
use Rattle.refusal.specs.Said.{said}
use Rattle.tp_range.specs.Joining.{none}
use Rattle.tp_machine.specs.Machine.{most, State, bad_state}
use Rattle.tp_machine.specs.Taking.{complete, ready, finished, taking}
use Rattle.tp_machine.proofs.Steps.{ready_tells}
use Rattle.tp_rules.specs.Taking.{one_whole, one_ready}
use Rattle.tp_rules.specs.Writing.{length_put}
use Rattle.tp_rules.proofs.TakingLaws.{complete_one, ready_one}
use Rattle.tp_rules.proofs.WritingLaws.{length_fits}
use Rattle.tp_stream.specs.declared.TpStream.{TpStream}
use Rattle.tp_stream.specs.Stream.{view}
use Rattle.tp_stream.specs.Promises.{Took}
use Rattle.tp_stream.proofs.StreamLaws.{held_take}
use Rattle.tp_stream.proofs.MalformedLaws.{few_counted}

-- ---- 38
module _ (p : State) (m : bad_state p ≡ true) where
  pub ready_bad : (room : ℕ) → refused malformed_state ≡ ready p room
  unfolding ready
  ready_bad room = sym (when_hit malformed_state (bad_state p) _ m)

  pub complete_bad : false ≡ complete p
  unfolding complete
  complete_bad = rw m

-- ---- a stream's record that is not malformed: what its array says
module _ (s : TpStream) (m : bad_state (view s) ≡ false) (long : length s.ranges ≡ most) where
  few_held : s.count ≤ length s.ranges
  few_held = omega (arith, few_counted s m)

  pub complete_held : complete (view s) ≡ one_whole s.end s.count (get_or s.ranges 0 none)
  complete_held = complete_one (view s) s.count s.ranges m (held_take s.count s.ranges few_held) few_held (omega arith)

  pub ready_held : (room : ℕ) → ready (view s) room ≡ one_ready s.end s.count (get_or s.ranges 0 none) room
  ready_held = ready_one (view s) s.count s.ranges m (held_take s.count s.ranges few_held) few_held (omega arith)

-- ---- what taking leaves
module _ (s : TpStream) (buf : List ℕ) where
  pub took_end : (e : ℕ) (b : List ℕ) → accepted e ≡ ready (view s) (length buf) → b ≡ length_put buf e → Took s buf (Ok e) b
  unfolding taking
  took_end e b q w =
      let tells = ready_tells (view s) (length buf) e q in
      record { answers = q; writes = w ∙ length_fits buf e (omega (arith, tells)) (omega (arith, tells)) ∙ ap (λ (a : Answer ℕ). finished a buf) q }

  pub took_nothing : (r : Refusal) → refused (said r) ≡ ready (view s) (length buf) → Took s buf (Err r) buf
  unfolding taking
  took_nothing r q = record { answers = q; writes = ap (λ (a : Answer ℕ). finished a buf) q }
