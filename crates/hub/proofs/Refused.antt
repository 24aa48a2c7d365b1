-- What C is told of a refusal, from the promises of the exported functions and from the theorem on places. Assumes nothing.
use Prim.Native.Nat.{ℕ, ◌≤◌}
use mathlib.Core.Path.{◌≡◌, sym, ap, ◌∙◌, subst}
use mathlib.Core.Logic.{⊎_elim}
use mathlib.Core.List.{List}
use native.Mathlib.Omega.{arith}
use lib.ListN.{length, drop}
use borrow.Author.Tests.{ltb-false}
use Rattle.numbers.specs.Refusals.{Refusal, untold, told, gives}
use Rattle.numbers.specs.Answers.{Answer, refused, given}
use Rattle.numbers.specs.Bytes.{Bytes}
use Rattle.numbers.proofs.AnswerLaws.{when_refused}
use Rattle.numbers.proofs.ByteLaws.{bytes_drop}
use Rattle.sd_format.specs.Settings.{Settings}
use Rattle.sd_format.specs.Frames.{Frame, read_option, read_index}
use Rattle.sd_format.specs.Payload.{Reading}
use Rattle.sd_format.specs.Faults.{OneRefused, Stopped}
use Rattle.sd_format.proofs.CallLaws.{lent_exactly}
use Rattle.sd_format.proofs.FaultLaws.{place_is_the_place}
use Rattle.sd_field.specs.Said.{decoded}
use Rattle.sd_payload.specs.Reads.{summed}
use Rattle.sd_payload.proofs.OfTheCode.{told_there}
use Rattle.hub.specs.declared.answers.Answer as hub
use Rattle.hub.specs.declared.options.Option.{Option}
use Rattle.hub.specs.Answers as Answers
use Rattle.hub.specs.Answers.{row, one_value}
use Rattle.hub.specs.Options.{Indexes, option_told, read_option_told}
use Rattle.hub.specs.Settings.{settings_of}
use Rattle.hub.specs.Payload.{summary_values, Reads}
use Rattle.hub.specs.Refused.{RefusedToC}

-- a payload or a message that was read with a table that is long enough
payload_answer : (a : Answer Reading) (tab tab' : List ℕ) (r : hub.Answer) → 347 ≤ length tab → Reads a tab r tab' → (q : Refusal) → a ≡ refused q
    → r ≡ row q.number (gives q)
unfolding given
payload_answer a tab tab' r long h q e =
    h.answers ∙ ap (λ (x : Answer Reading). Answers.told summary_values (given summed x)) ((lent_exactly tab a).enough long ∙ e)

module _ (g : Settings) (s : List ℕ) where
  index_answer : (tab tab' : List ℕ) (r : hub.Answer) → 347 ≤ length tab → Indexes g s tab r tab' → (q : Refusal) → read_index g s ≡ refused q → r ≡ row q.number (gives q)
  unfolding given
  index_answer tab tab' r long h q e =
      h.answers ∙ ap (λ (x : Answer (List Frame)). Answers.told one_value (given length x)) ((lent_exactly tab (read_index g s)).enough long ∙ e)

  -- 13 tells no place, and below it the index is refused where an option is
  index_place : Bytes s → (q : Refusal) (p : ℕ) → read_index g s ≡ refused q → q.place ≡ told p → Stopped g s q
  unfolding read_index
  index_place b q p e there =
      ⊎_elim
      (λ long. let same : untold ≡ told p = ap (λ (x : Refusal). x.place) long ∙ there in let z : ◌≡◌ {A = ℕ} 0 1 = cc in absurd (omega arith))
      (λ (short, _). ((place_is_the_place g s b).index q (ltb-false _ _ short)).0 e)
      (when_refused _ _ _ q e)

  option_answer : (r : Option) → r ≡ read_option_told g s → (q : Refusal) → read_option g s ≡ refused q → r.answer ≡ row q.number (gives q)
  unfolding read_option_told given
  option_answer r is q e = ap (λ (o : Option). o.answer) is ∙ ap (λ (a : Answer Frame). (option_told (given decoded a)).answer) e

  option_place : Bytes s → (q : Refusal) (p : ℕ) → read_option g s ≡ refused q → q.place ≡ told p → OneRefused g s q p
  option_place b q p e there =
      let (k, which, here, _) = (place_is_the_place g s b).option q e in
      let same : told k ≡ told p = sym here ∙ there in
      let place : k ≡ p = cc in
      subst (OneRefused g s q) place which

pub refused_to_c : RefusedToC
refused_to_c =
    record {
      payload = λ word s tab tab' r b long h q e. record {
        answer = payload_answer _ tab tab' r long h q e;
        place = λ p there. told_there (settings_of word) s b q p there ((place_is_the_place (settings_of word) s b).payload q e);
      };
      message = λ word m tab tab' r b long h q e. record {
        answer = payload_answer _ tab tab' r long h q e;
        place = λ p there. told_there (settings_of word) (drop 16 m) (bytes_drop m 16 b) q p there ((place_is_the_place (settings_of word) m b).message q e);
      };
      index = λ word s tab tab' r b long h q e. record {
        answer = index_answer (settings_of word) s tab tab' r long h q e;
        place = λ p there. index_place (settings_of word) s b q p e there;
      };
      option = λ word s r b is q e. record { answer = option_answer (settings_of word) s r is q e; place = λ p there. option_place (settings_of word) s b q p e there };
    }
