-- Answers as numbers, from the promises of the crates that answer. Assumes nothing.
use Rattle.std.specs.Prelude.{Result, Ok, Err, ℕ}
use Rattle.refusal.specs.declared.Refusal.{Refusal}
use Prim.Native.Nat.{ℕ}
use mathlib.Core.Path.{◌≡◌, refl, sym, ap, ◌∙◌, subst}
use mathlib.Core.List.{List}
use lib.ListN.{length}
use Rattle.numbers.specs.Answers.{given}
use Rattle.numbers.specs.Answers as paper
use Rattle.numbers.proofs.AnswerLaws.{given_accepted}
use Rattle.sd_format.specs.Settings.{Settings}
use Rattle.sd_format.specs.Frames.{Frame, lent, read_index}
use Rattle.sd_format.specs.Payload.{Reading}
use Rattle.refusal.specs.Said.{said_by, count_said}
use Rattle.sd_option.specs.Reading.{head_of}
use Rattle.sd_index.specs.Found.{located}
use Rattle.sd_index.specs.Indexed.{Indexed}
use Rattle.sd_payload.specs.declared.reading.SdPayload.{SdPayload}
use Rattle.sd_payload.specs.Reads.{summed, payload_said, PayloadRead}
use Rattle.hub.specs.declared.answers.Answer.{Answer}
use Rattle.hub.specs.Answers.{told, one_value, head_values, located_values, option_values}
use Rattle.hub.specs.Options.{Indexes}
use Rattle.hub.specs.Payload.{summary_values, Reads}
use Rattle.hub.proofs.Telling.{telling}

-- what is told of an option has its type, where it starts and the bytes that it takes
pub located_told : (at : ℕ) (x : paper.Answer Frame) → told located_values (given (located at) x) ≡ told (option_values at) x
unfolding given
located_told at (paper.accepted f) = refl
located_told at (paper.refused r) = refl

pub headed_told : (at : ℕ) (x : paper.Answer Frame) → told (head_values at) (given head_of x) ≡ told (option_values at) x
unfolding given
headed_told at (paper.accepted f) = refl
headed_told at (paper.refused r) = refl

-- a refusal of the code never has the number of an acceptance
zero_accepted : {A B : Type 0} (f : B → List ℕ) (g : A → B) (a : Result A Refusal) (r : Answer) → r ≡ told f (said_by g a) → r.number ≡ 0
    → (b : B) × (said_by g a ≡ paper.accepted b)
zero_accepted f g (Ok x) r e z = (g x, refl)
zero_accepted f g (Err q) r e z = absurd ((telling f).never_zero q (sym (ap (λ (x : Answer). x.number) e) ∙ z))

-- a lent table
indexes : (g : Settings) (s tab tab' : List ℕ) (a : Result ℕ Refusal) (r : Answer) → Indexed (read_index g s) tab tab' a → r ≡ told one_value (count_said a) → Indexes g s tab r tab'
indexes g s tab tab' a r i e =
    record {
      answers = e ∙ ap (told one_value) i.told;
      slots = i.slots;
      zero = λ z.
          let (n, said) = zero_accepted one_value (λ n. n) a r e z in
          let (fs, read, same) = given_accepted length (lent tab (read_index g s)) n (sym i.told ∙ said) in
          (fs, read);
    }

-- under the settings that the code made of a word
pub indexes_as : {h g : Settings} → h ≡ g → (s tab tab' : List ℕ) (a : Result ℕ Refusal) (r : Answer) → Indexed (read_index h s) tab tab' a → r ≡ told one_value (count_said a)
    → Indexes g s tab r tab'
indexes_as {h} same s tab tab' a r i e = subst (λ (k : Settings). Indexes k s tab r tab') same (indexes h s tab tab' a r i e)

reads : (x : paper.Answer Reading) (tab tab' : List ℕ) (a : Result SdPayload Refusal) (r : Answer) → PayloadRead x tab tab' a → r ≡ told summary_values (payload_said a) → Reads x tab r tab'
reads x tab tab' a r p e =
    record {
      answers = e ∙ ap (told summary_values) p.told;
      slots = p.slots;
      zero = λ z.
          let (found, said) = zero_accepted summary_values (λ p. p) a r e z in
          let (rd, read, same) = given_accepted summed (lent tab x) found (sym p.told ∙ said) in
          (rd, read);
    }

-- the same under the settings that a word tells
pub reads_as : {x y : paper.Answer Reading} → x ≡ y → (tab tab' : List ℕ) (a : Result SdPayload Refusal) (r : Answer) → PayloadRead x tab tab' a → r ≡ told summary_values (payload_said a) → Reads y tab r tab'
reads_as {x} same tab tab' a r p e = subst (λ (y : paper.Answer Reading). Reads y tab r tab') same (reads x tab tab' a r p e)
