-- What the answers of reading say, and what an answer pins. Assumes nothing.
use Rattle.std.specs.Prelude.{Result}
use Rattle.refusal.specs.declared.Refusal as code
use Prim.Native.Nat.{ℕ, ◌-◌, ◌%◌}
use mathlib.Core.Path.{◌≡◌, refl, sym, ◌∙◌}
use mathlib.Core.Bool.{Bool, true, false, not}
use mathlib.Core.List.{List}
use lib.Dec.{eqb}
use lib.ListN.{length, length-drop}
use Rattle.numbers.specs.Bytes.{at32}
use Rattle.numbers.specs.Refusals.{Refusal, not_a_segment}
use Rattle.numbers.specs.Answers.{accepted, refused, refuse◌when◌else◌}
use Rattle.numbers.proofs.AnswerLaws.{when_hit, when_pass, test_accepted, accepted_inj, refused_inj, not_refused}
use Rattle.refusal.proofs.OneToOne.{said_one_to_one}
use Rattle.tp_machine.specs.Segments.{is_segment, offset, more, payload}
use Rattle.tp_segment.specs.declared.TpHeader.{TpHeader}
use Rattle.tp_segment.specs.Reading.{header_of, reading, segment_said}

-- the two answers of reading
module _ (s : List ℕ) where
  pub reads_not : is_segment s ≡ false → reading s ≡ refused not_a_segment
  unfolding reading
  reads_not e = rw (e, when_hit)

  pub reads_good : is_segment s ≡ true → reading s ≡ accepted (record { offset = at32 s 16 - at32 s 16 % 16; more = eqb (at32 s 16 % 2) 1; size = length s - 20 })
  unfolding reading offset more payload
  reads_good e = rw (e, when_pass) (λ i. accepted (record { offset = at32 s 16 - at32 s 16 % 16; more = eqb (at32 s 16 % 2) 1; size = length-drop 20 s i }))

-- what an answer of reading tells
pub reading_not : (s : List ℕ) (r : Refusal) → refused r ≡ reading s → (is_segment s ≡ false) × (r ≡ not_a_segment)
unfolding reading refuse◌when◌else◌
reading_not s r e = go (is_segment s) e
  where
    go : (b : Bool) → refused r ≡ (refuse not_a_segment when not b else accepted (header_of s)) → (b ≡ false) × (r ≡ not_a_segment)
    go true q = not_refused r (header_of s) q
    go false q = (refl, refused_inj {A = TpHeader} r not_a_segment q)

pub reading_good : (s : List ℕ) (h : TpHeader) → accepted h ≡ reading s → (is_segment s ≡ true) × (h ≡ header_of s)
unfolding reading
reading_good s h e =
    let a = (test_accepted not_a_segment (is_segment s) (accepted (header_of s)) h).0 (sym e) in
    (a.0, sym (accepted_inj (header_of s) h a.1))

-- any two outcomes that the promise of `read` allows are equal
pub read_unique : (s : List ℕ) (r q : Result TpHeader code.Refusal) → segment_said r ≡ reading s → segment_said q ≡ reading s → r ≡ q
read_unique s r q e f = said_one_to_one (λ h. h) (λ a b k. k) r q (e ∙ sym f)
