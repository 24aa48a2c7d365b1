-- `header::judge_header` meets its contract: too short, or judged by its fields. Assumes nothing.
use Prim.Native.Nat.{ℕ}
use mathlib.Core.Path.{◌≡◌, sym, ◌∙◌}
use mathlib.Core.List.{List}
use borrow.Author.Tests.{lt-ltb}
use lib.ListN.{get_or}
use Rattle.numbers.specs.Bytes.{at16, at32}
use Rattle.numbers.proofs.AnswerLaws.{when_hit}
use Rattle.sd_format.specs.Payload.{header}
use Rattle.sd_payload.specs.Header.{header_fields}
use Rattle.sd_payload.proofs.SizeLaws.{word_at}
use Rattle.sd_payload.proofs.HeaderLaws.{header_by}
use Rattle.sd_payload.proofs.header.judge_header.Goals as goal

pub returns-then-message-lt-HEADER_LEN : goal.returns-then-message-lt-HEADER_LEN
unfolding header
returns-then-message-lt-HEADER_LEN c = sym (when_hit _ _ _ (lt-ltb _ _ c.if-message-lt-HEADER_LEN.true))

pub returns : goal.returns
unfolding at16
returns c =
    let s : List ℕ = c.args.message.now in
    let id_is : c.be32.result ≡ at32 s 0 = c.be32.ensures ∙ word_at s 0 in
    c.judge_fields.ensures
    ∙ (λ i. header_fields (id_is i) (c.be16.ensures i) (c.be16-2.ensures i) (get_or s 13 0) (get_or s 14 0) (get_or s 15 0))
    ∙ sym (header_by s c.if-message-lt-HEADER_LEN.false)
