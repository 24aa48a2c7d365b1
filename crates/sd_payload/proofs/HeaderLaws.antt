-- The SD header: by the numbers that stand in it, and the message behind it. Assumes nothing.
use mathlib.Core.Path.{◌≡◌, ap, ◌∙◌}
use mathlib.Core.Bool.{not}
use mathlib.Core.List.{List}
use Prim.Native.Nat.{ℕ, ◌≤◌}
use lib.ListN.{length, drop}
use borrow.Author.Tests.{eq-eqb, le-ltb, ltb-false}
use Rattle.numbers.specs.Refusals.{Refusal, session_zero}
use Rattle.numbers.specs.Answers.{refused, pass, ◌>>◌}
use Rattle.numbers.proofs.AnswerLaws.{when_hit, when_pass, when_accepted, then_pass}
use Rattle.sd_format.specs.Settings.{Settings}
use Rattle.sd_format.specs.Payload.{read_payload, header, read_message}
use Rattle.sd_payload.specs.Header.{header_fields, HeaderBy}

pub header_by : HeaderBy
unfolding header header_fields
header_by s long = when_pass _ _ _ (le-ltb (length s) 16 long)

pub header_long : (s : List ℕ) → header s ≡ pass → 16 ≤ length s
unfolding header
header_long s e = ltb-false (length s) 16 (when_accepted _ _ _ _ e).0

module _ (g : Settings) (s : List ℕ) where
  pub header_refuses : (q : Refusal) → header s ≡ refused q → read_message g s ≡ refused q
  unfolding read_message ◌>>◌
  header_refuses q e = rw e

  pub header_passes : header s ≡ pass → read_message g s ≡ read_payload g (drop 16 s)
  unfolding read_message
  header_passes e = then_pass _ _ e

-- ---- 16, for a header whose first two fields are right: it tells no value, and its condition is the rule's own
pub session_refused : (id client session version type code : ℕ) → id ≡ 0xffff8100 → client ≡ 0 → session ≡ 0
    → header_fields id client session version type code ≡ refused session_zero
unfolding header_fields
session_refused id client session version type code a b e =
    when_pass _ _ _ (ap not (eq-eqb id 0xffff8100 a)) ∙ when_pass _ _ _ (ap not (eq-eqb client 0 b)) ∙ when_hit _ _ _ (eq-eqb session 0 e)
