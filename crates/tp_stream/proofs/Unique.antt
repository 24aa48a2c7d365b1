-- Any two outcomes that one promise of this crate allows are equal; of a promise that is one equation that is transitivity. Assumes nothing.
use Rattle.std.specs.Prelude.{Result}
use Prim.Native.Nat.{ℕ}
use mathlib.Core.Path.{◌≡◌, sym, ap, ◌∙◌}
use mathlib.Core.List.{List}
use Rattle.refusal.specs.declared.Refusal.{Refusal}
use Rattle.refusal.specs.declared.answers.Step.{Step}
use Rattle.refusal.specs.Said.{count_said}
use Rattle.refusal.proofs.OneToOne.{said_one_to_one, verdict_one_to_one, count_one_to_one}
use Rattle.tp_machine.specs.declared.TpRange.{TpRange}
use Rattle.tp_machine.specs.Machine.{Out}
use Rattle.tp_machine.specs.Telling.{range_told, count_told}
use Rattle.tp_stream.specs.declared.TpStream.{TpStream}
use Rattle.tp_stream.specs.Stream.{view, stored}
use Rattle.tp_stream.specs.Telling.{range_said}
use Rattle.tp_stream.specs.Promises.{Began, Ran, Took}

pub begin_unique : (limit : ℕ) (r q : Step (Unit {0}) TpStream) → Began limit r → Began limit q → r ≡ q
begin_unique limit r q a b = λ i. record { answer = verdict_one_to_one r.answer q.answer (a.answers ∙ sym b.answers) i; after = (a.begins ∙ sym b.begins) i }

pub consume_unique : (s : TpStream) (seg buf : List ℕ) (r q : Step (Unit {0}) TpStream) (c d : List ℕ) → Ran s seg buf r c → Ran s seg buf q d → (r ≡ q) × (c ≡ d)
consume_unique s seg buf r q c d a b =
    let e = a.steps ∙ sym b.steps in
    let t : r.after ≡ q.after = a.places ∙ ap (λ (o : Out). stored s o.state) e ∙ sym b.places in (
      (λ i. record { answer = verdict_one_to_one r.answer q.answer (ap (λ (o : Out). o.answer) e) i; after = t i }),
      ap (λ (o : Out). o.buffer) e,
    )

pub take_unique : (s : TpStream) (buf : List ℕ) (r q : Result ℕ Refusal) (c d : List ℕ) → Took s buf r c → Took s buf q d → (r ≡ q) × (c ≡ d)
take_unique s buf r q c d a b = (count_one_to_one r q (a.answers ∙ sym b.answers), a.writes ∙ sym b.writes)

pub range_from_unique : (s : TpStream) (x : ℕ) (r q : Result TpRange Refusal) → range_said r ≡ range_told (view s) x → range_said q ≡ range_told (view s) x → r ≡ q
range_from_unique s x r q a b = said_one_to_one (λ r. r) (λ a b k. k) r q (a ∙ sym b)

pub accepted_unique : (s : TpStream) (r q : Result ℕ Refusal) → count_said r ≡ count_told (view s) → count_said q ≡ count_told (view s) → r ≡ q
accepted_unique s r q a b = count_one_to_one r q (a ∙ sym b)
